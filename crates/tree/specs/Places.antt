-- The places of identifiers in the index.
use Rattle.std.specs.Prelude.{◌≡◌, ℕ, ◌≢◌, ◌⊎◌, true, List, All, AllPairs, Any}
use Rattle.std.specs.List.{insert}
use Rattle.std.specs.List.Sorted.{IsPartitionPoint}
use Rattle.edits.specs.declared.id.Id.{Id}
use Rattle.edits.specs.Ids.{precedes}
use Rattle.tree.specs.declared.index.Place.{Place}

-- each identifier precedes those after it, so none comes twice
abbrev pub IsAscending : List Place → Type 0
IsAscending places = AllPairs (λ a b. precedes a.id b.id ≡ true) places

-- the identifier would go at this place: those before it precede it, and it precedes the others
abbrev pub IsGapFor : Id → List Place → ℕ → Type 0
IsGapFor id places at = IsPartitionPoint (λ p. precedes p.id id ≡ true) (λ p. precedes id p.id ≡ true) places at

-- one place more, or as before where a place has its identifier already
abbrev pub GainsUnlessNamed : List Place → List Place → Place → Type 0
GainsUnlessNamed old new place =
    (Any (λ p. p.id ≡ place.id) old × (new ≡ old)) ⊎ (All (λ p. p.id ≢ place.id) old × ((at : ℕ) × (new ≡ insert old at place)))
