-- The edits that a record stands for.
use Rattle.std.specs.Prelude.{◌≡◌, ℕ, ◌+◌, ◌-◌, ◌*◌, ◌<◌, true, cond, List, take, drop, is_some, Some, None, Option, ◌==◌, nat_lt}
use Rattle.edits.specs.declared.id.Id.{Id}
use Rattle.edits.specs.declared.clock.Pair.{Pair}
use Rattle.edits.specs.declared.edit.Side.{Side}
use Rattle.edits.specs.declared.edit.Side.TheVariants.{Right}
use Rattle.edits.specs.declared.edit.Parent.{Parent}
use Rattle.edits.specs.declared.edit.Parent.TheVariants.{Entry}
use Rattle.edits.specs.declared.edit.Edit.{Edit}
use Rattle.edits.specs.declared.edit.Edit.TheVariants.{Insertion, Deletion}
use Rattle.edits.specs.Clocks.{pairs_of}
use Rattle.edits.specs.Pairs.{counting}
use Rattle.formats.specs.Records.{Raw, insertion, deletion, run}

-- how many edits a record stands for
abbrev pub length_of : Raw → ℕ
length_of (insertion id ps parent side offset bytes) = 1
length_of (deletion id ps target) = 1
length_of (run id ps parent side m offset bytes) = m

-- an edit as plain data
pub data Plain (K : Type 0) : Type 0 where
  inserts : Id → List Pair → Parent → Side → K → Plain K
  deletes : Id → List Pair → Id → Plain K

abbrev pub plain : {K : Type 0} → Edit K → Plain K
plain (Insertion x element) = inserts x.stamp.id (pairs_of x.stamp.clock) x.parent x.side element
plain (Deletion x) = deletes x.stamp.id (pairs_of x.stamp.clock) x.target

-- the identifier n numbers on
abbrev pub further : Id → ℕ → Id
further id n = record { editor = id.editor; number = id.number + n }

-- identifier, clock, parent and side of the insertion at the place i of a run, counted from 0: behind the first, each is
-- the right child of the one before it, and its clock counts that one besides
abbrev pub place_in : Id → List Pair → Parent → Side → ℕ → Id × List Pair × Parent × Side
place_in id ps parent side i =
    cond (i == 0) (id, ps, parent, side)
    (further id i, counting id.editor (id.number + (i - 1)) ps, Entry (further id (i - 1)), Right)

module _ {K : Type 0} (width : ℕ) (unpacked : List ℕ → Option K) where
  -- the insertion of the element that bytes stand for
  abbrev pub inserted : Id × List Pair × Parent × Side → Option K → Option (Plain K)
  inserted x None = None
  inserted x (Some element) = Some (inserts x.0 x.1 x.2 x.3 element)

  abbrev pub edit_within : Raw → ℕ → Option (Plain K)
  edit_within (insertion id ps parent side offset bytes) i = inserted (id, ps, parent, side) (unpacked bytes)
  edit_within (deletion id ps target) i = Some (deletes id ps target)
  edit_within (run id ps parent side m offset bytes) i = inserted (place_in id ps parent side i) (unpacked (take width (drop (i * width) bytes)))

  -- the edit at the place i, counted from 0; none behind the last
  abbrev pub edit_at : Raw → ℕ → Option (Plain K)
  edit_at r i = cond (nat_lt i (length_of r)) (edit_within r i) None

  -- every edit that the record stands for is there
  abbrev pub Whole : Raw → Type 0
  Whole r = (i : ℕ) → i < length_of r → is_some (edit_at r i) ≡ true
