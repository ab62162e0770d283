-- A format over the carried edits, one edit to a record, so that no statement over all lawful formats holds for want of one.
-- A number of the edit is one byte of its record. So it can carry only edits whose numbers are all bytes, and is no format for use.
use Rattle.std.specs.Prelude.{◌≡◌, ℕ, zero, suc, Bool, true, false, List, [], ◌∷◌, Some, None, Option, refl, nat_le}
use Rattle.std.specs.List.{list_all}
use Rattle.edits.specs.declared.id.Id.{Id}
use Rattle.edits.specs.declared.clock.Pair.{Pair}
use Rattle.edits.specs.declared.clock.Clock.{Clock}
use Rattle.edits.specs.declared.edit.Side.{Side}
use Rattle.edits.specs.declared.edit.Side.TheVariants.{Left, Right}
use Rattle.edits.specs.declared.edit.Parent.{Parent}
use Rattle.edits.specs.declared.edit.Parent.TheVariants.{Start, Entry}
use Rattle.edits.specs.declared.edit.Stamp.{Stamp}
use Rattle.edits.specs.declared.edit.Edit.{Edit as Carried}
use Rattle.edits.specs.declared.edit.Edit.TheVariants.{Insertion, Deletion}
use Rattle.edits.specs.Clocks.{pairs_of}
use Rattle.edits.specs.Rules.{stamp_kept, parent_kept, covers}
use Rattle.runs.specs.Channels.{Bytes, Format}

-- WRITING: each part is put before the rest of the record

abbrev pub put_id : Id → Bytes → Bytes
put_id a r = a.editor ∷ a.number ∷ r

-- 0 for the start, 1 and the identifier for an entry
abbrev pub put_parent : Parent → Bytes → Bytes
put_parent Start r = 0 ∷ r
put_parent (Entry a) r = 1 ∷ put_id a r

-- 0 for left, 1 for right
abbrev pub put_side : Side → Bytes → Bytes
put_side Left r = 0 ∷ r
put_side Right r = 1 ∷ r

-- all pairs of the array, listed and unused, to the end of the record
abbrev pub put_pairs : List Pair → Bytes
put_pairs [] = []
put_pairs (p ∷ ps) = p.editor ∷ p.count ∷ put_pairs ps

-- the identifier, how many pairs the clock lists, and the pairs, to the end of the record
abbrev pub put_stamp : Stamp → Bytes
put_stamp s = put_id s.id (s.clock.len ∷ put_pairs s.clock.pairs)

-- 1, the parent, the side, the element and the stamp of an insertion; 0, the target and the stamp of a deletion
abbrev pub put_edit : Carried ℕ → Bytes
put_edit (Insertion p x) = 1 ∷ put_parent p.parent (put_side p.side (x ∷ put_stamp p.stamp))
put_edit (Deletion d) = 0 ∷ put_id d.target (put_stamp d.stamp)

-- READING: `then` is handed the part and the rest of the record; a record that ends too early is refused

module _ {A : Type 0} where
  abbrev pub get_number : Bytes → (ℕ → Bytes → Option A) → Option A
  get_number [] then = None
  get_number (n ∷ r) then = then n r

  abbrev pub get_id : Bytes → (Id → Bytes → Option A) → Option A
  get_id r then = get_number r λ i r. get_number r λ n r. then (record { editor = i; number = n }) r

  abbrev pub parent_by : ℕ → Bytes → (Parent → Bytes → Option A) → Option A
  parent_by zero r then = then Start r
  parent_by (suc zero) r then = get_id r λ a r. then (Entry a) r
  parent_by (suc (suc n)) r then = None

  abbrev pub get_parent : Bytes → (Parent → Bytes → Option A) → Option A
  get_parent r then = get_number r λ n r. parent_by n r then

  abbrev pub side_by : ℕ → Bytes → (Side → Bytes → Option A) → Option A
  side_by zero r then = then Left r
  side_by (suc zero) r then = then Right r
  side_by (suc (suc n)) r then = None

  abbrev pub get_side : Bytes → (Side → Bytes → Option A) → Option A
  get_side r then = get_number r λ n r. side_by n r then

  abbrev pub if_some : {B : Type 0} → Option B → (B → Option A) → Option A
  if_some None then = None
  if_some (Some b) then = then b

  -- what is made of a passed test
  abbrev pub if_passed : (test : Bool) → (test ≡ true → A) → Option A
  if_passed test make = by test refl
    where
      by : (b : Bool) → test ≡ b → Option A
      by true e = Some (make e)
      by false e = None

-- the whole rest as pairs
abbrev pub get_pairs : Bytes → Option (List Pair)
get_pairs [] = Some []
get_pairs (i ∷ []) = None
get_pairs (i ∷ n ∷ r) = if_some (get_pairs r) λ ps. Some (record { editor = i; count = n } ∷ ps)

-- the whole rest as a stamp, if it keeps the rules (the rules ask for exactly 16 pairs)
abbrev pub stamp_by : Id → Clock → Option Stamp
stamp_by a c = if_passed (stamp_kept a c) λ k. record { id = a; clock = c; kept = k }

abbrev pub get_stamp : Bytes → Option Stamp
get_stamp r = get_id r λ a r. get_number r λ n r. if_some (get_pairs r) λ ps. stamp_by a (record { len = n; pairs = ps })

abbrev pub insertion_by : Stamp → Parent → Side → ℕ → Option (List (Carried ℕ))
insertion_by s p side x =
    if_passed (parent_kept (pairs_of s.clock) p side) λ k. Insertion (record { stamp = s; parent = p; side = side; kept = k }) x ∷ []

abbrev pub deletion_by : Stamp → Id → Option (List (Carried ℕ))
deletion_by s t = if_passed (covers (pairs_of s.clock) t) λ k. Deletion (record { stamp = s; target = t; kept = k }) ∷ []

abbrev pub edit_by : ℕ → Bytes → Option (List (Carried ℕ))
edit_by zero r = get_id r λ t r. if_some (get_stamp r) λ s. deletion_by s t
edit_by (suc zero) r = get_parent r λ p r. get_side r λ side r. get_number r λ x r. if_some (get_stamp r) λ s. insertion_by s p side x
edit_by (suc (suc n)) r = None

abbrev pub get_edit : Bytes → Option (List (Carried ℕ))
get_edit r = get_number r edit_by

-- the record of the first edit, which is the one that it holds
abbrev pub put_first : List (Carried ℕ) → Bytes × ℕ
put_first [] = ([], 0)
put_first (x ∷ xs) = (put_edit x, 1)

-- all numbers of the edit are bytes
abbrev pub small : Carried ℕ → Bool
small x = list_all (λ n. nat_le n 255) (put_edit x)

abbrev pub numbers : Format (Carried ℕ)
numbers = record { fits = small; packs = put_first; reads = get_edit }
