-- The words of the theorems, which the contracts in src/ state.
use Rattle.std.specs.Prelude.{◌≡◌, ℕ, suc, true, ◌⊎◌, List, [], ◌∷◌, ◌++◌, take, drop, Some}
use Rattle.edits.specs.declared.id.Id.{Id}
use Rattle.edits.specs.declared.edit.Side.{Side}
use Rattle.edits.specs.declared.edit.Parent.{Parent}
use Rattle.edits.specs.declared.edit.Parent.TheVariants as parent
use Rattle.order.specs.Lists.{◌∈◌, Before}
use Rattle.order.specs.Edits.{insertion, Covers, is_insertion}
use Rattle.order.specs.Forests.{Entry, Forest, visible, fresh}
use Rattle.order.specs.Histories.{as_shown}
use Rattle.order.specs.Systems.{Making}

module _ {T : Type 0} where
  -- the tree g shows what f shows and, at the index k, the new entry a with the element x
  abbrev pub PutAt : ℕ → Id → T → Forest T → Forest T → Type 0
  PutAt k a x f g = visible g ≡ take k (visible f) ++ (fresh a x ∷ drop k (visible f))

  -- the tree g shows what f shows but the entry at the index k
  abbrev pub HiddenAt : ℕ → Forest T → Forest T → Type 0
  HiddenAt k f g = visible g ≡ take k (visible f) ++ drop (suc k) (visible f)

  -- Runs of insertions, here more generally than those of one editor: whoever made them.
  -- forward: each has the one before it as left neighbour
  abbrev pub Forward : Making T → List (Making T) → Type 0
  Forward m [] = Unit {0}
  Forward m (n ∷ rest) = (n.left ≡ parent.Entry m.edit.id) × Forward n rest

  -- backward: each has the same left neighbour as the one before it, and that one as follower
  abbrev pub Backward : Making T → List (Making T) → Type 0
  Backward m [] = Unit {0}
  Backward m (n ∷ rest) = (n.left ≡ m.left) × (n.next ≡ Some m.edit.id) × Backward n rest

  -- insertions that were made
  abbrev pub InsertionsOf : List (Making T) → List (Making T) → Type 0
  InsertionsOf ms run = (m : Making T) → m ∈ run → (m ∈ ms) × (is_insertion m.edit.change ≡ true)

  -- the insertions m, n and further ones make a forward or a backward run
  abbrev pub TypedRun : List (Making T) → Making T → Making T → List (Making T) → Type 0
  TypedRun ms m n rest = InsertionsOf ms (m ∷ n ∷ rest) × (Forward m (n ∷ rest) ⊎ Backward m (n ∷ rest))

  -- the entry a was inserted by a maker who had applied the edit b before
  abbrev pub Knew : List (Making T) → Id → Id → Type 0
  Knew ms a b = (m : Making T) × (m ∈ ms) × (m.edit.id ≡ a) × (is_insertion m.edit.change ≡ true) × Covers m.edit.clock b

  -- in this order, only entries whose makers had applied the edit b stand between two entries of the run
  abbrev pub Unbroken : List (Making T) → List Id → List (Making T) → Id → Type 0
  Unbroken ms order run b = (a c : Making T) → a ∈ run → c ∈ run → (y : Id)
      → Before order a.edit.id y → Before order y c.edit.id → Knew ms y b

  -- if it inserts, its entry, with its element, is among these, shown or as a tombstone
  abbrev pub BecomesEntry : Making T → List (Entry T) → Type 0
  BecomesEntry m order = (p : Parent) (s : Side) (x : T) → m.edit.change ≡ insertion p s x
      → (y : Entry T) × (y ∈ order) × (as_shown y ≡ fresh m.edit.id x)
