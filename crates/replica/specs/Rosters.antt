-- The editors of a replica, in ascending order, each with the number of its applied edits.
use Rattle.std.specs.Prelude.{◌≡◌, ℕ, ◌<◌, ◌≤◌, Bool, true, false, cond, List, ◌∷◌, ◌++◌, Result, Ok, Err, length, map, take, drop, ◌==◌, nat_le}
use Rattle.std.specs.List.{list_any, list_all, AllPairs, HoldsAt}
use Rattle.std.specs.List.Sorted.{IsPartitionPoint}
use Rattle.edits.specs.declared.id.Id.{Id}
use Rattle.edits.specs.declared.clock.Pair.{Pair}
use Rattle.edits.specs.Pairs.{count_of, place_of}

-- the editors ascend
abbrev pub Ascends : List Pair → Type 0
Ascends ps = AllPairs (λ p q. p.editor < q.editor) ps

-- whether an editor is listed
abbrev pub lists : List Pair → ℕ → Bool
lists roster editor = list_any (λ p. p.editor == editor) roster

-- whether everything that the pairs of a clock count was applied
abbrev pub includes : List Pair → List Pair → Bool
includes roster clock = list_all (λ p. nat_le p.count (count_of roster p.editor)) clock

-- what a search for an editor finds: that it is listed, or its place between the lower and the higher ones
abbrev pub Placed : ℕ → List Pair → Result ℕ ℕ → Type 0
Placed editor ps (Ok i) = (lists ps editor ≡ true) × (i < length ps) × HoldsAt (λ p. p.editor ≡ editor) ps i
Placed editor ps (Err i) = (lists ps editor ≡ false) × (i ≡ place_of editor ps) × (i ≤ length ps) × IsPartitionPoint (λ p. p.editor < editor) (λ p. editor < p.editor) ps i

-- an editor put in its place, with no edit applied, unless it is listed
abbrev pub admitted : ℕ → List Pair → List Pair
admitted editor ps =
    cond (lists ps editor) ps (take (place_of editor ps) ps ++ (record { editor = editor; count = 0 } ∷ drop (place_of editor ps) ps))

-- an edit counted
abbrev pub count_up : Id → Pair → Pair
count_up id p = cond (p.editor == id.editor) (record { editor = p.editor; count = id.number }) p

abbrev pub advanced : Id → List Pair → List Pair
advanced id ps = map (count_up id) ps
