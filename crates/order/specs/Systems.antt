-- Replicas that make edits and take in those of others.
use Rattle.std.specs.Prelude.{ℕ, suc, ◌<◌, ◌≤◌, Bool, List, [], ◌∷◌, ◌++◌, map, length, None, Option}
use Rattle.edits.specs.declared.id.Id.{Id}
use Rattle.edits.specs.declared.edit.Parent.{Parent}
use Rattle.edits.specs.declared.edit.Parent.TheVariants.{Start}
use Rattle.order.specs.Lists.{◌∈◌, with_at}
use Rattle.order.specs.Edits.{Change, Edit}
use Rattle.order.specs.Forests.{visible, tree}
use Rattle.order.specs.Placing.{left_neighbour, follower, insertion_at, deletion_at}
use Rattle.order.specs.Histories.{count, Next}

-- an edit as it was made: with its left neighbour and its follower (of a deletion: the start and none)
pub record Making (E : Type 0) : Type 0 where
  pub edit : Edit E
  pub left : Parent
  pub next : Option Id

module _ {E : Type 0} where
  abbrev pub making_edit : Making E → Edit E
  making_edit m = m.edit

  abbrev pub edits_of : List (Making E) → List (Edit E)
  edits_of ms = map making_edit ms

  -- the next edit of the editor i, who has applied h
  abbrev pub new_edit : ℕ → List (Edit E) → Change E → Edit E
  new_edit i h c = record { id = record { editor = i; number = suc (count h i) }; clock = count h; change = c }

  -- the replica i applies one more edit
  abbrev pub extended : (ℕ → List (Edit E)) → ℕ → Edit E → ℕ → List (Edit E)
  extended hs i e = with_at hs i (hs i ++ (e ∷ []))

module _ {E : Type 0} (before : Id → Id → Bool) where
  -- the editor i, who has applied h, inserts x at the index k
  abbrev pub insertion_made : ℕ → List (Edit E) → ℕ → E → Making E
  insertion_made i h k x = record {
    edit = new_edit i h (insertion_at k x (tree before h));
    left = left_neighbour k (tree before h);
    next = follower (left_neighbour k (tree before h)) (tree before h);
  }

  -- the editor i, who has applied h, deletes at the index k
  abbrev pub deletion_made : ℕ → List (Edit E) → ℕ → Making E
  deletion_made i h k = record { edit = new_edit i h (deletion_at k (tree before h)); left = Start; next = None }

-- what can come about: all that was made, oldest first, and for each replica, numbered by its editor, what it has
-- applied, oldest first
pub data Reached {E : Type 0} (before : Id → Id → Bool) : List (Making E) → (ℕ → List (Edit E)) → Type 0 where
  begin : Reached before [] (λ i. [])
  inserts : {ms : List (Making E)} {hs : ℕ → List (Edit E)} (i k : ℕ) (x : E) → Reached before ms hs
      → k ≤ length (visible (tree before (hs i)))
      → Reached before (ms ++ (insertion_made before i (hs i) k x ∷ [])) (extended hs i (insertion_made before i (hs i) k x).edit)
  deletes : {ms : List (Making E)} {hs : ℕ → List (Edit E)} (i k : ℕ) → Reached before ms hs
      → k < length (visible (tree before (hs i)))
      → Reached before (ms ++ (deletion_made before i (hs i) k ∷ [])) (extended hs i (deletion_made before i (hs i) k).edit)
  takes_in : {ms : List (Making E)} {hs : ℕ → List (Edit E)} (i : ℕ) (e : Edit E) → Reached before ms hs
      → e ∈ edits_of ms → Next (hs i) e
      → Reached before ms (extended hs i e)
