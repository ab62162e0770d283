-- What becomes of an edit that is taken in.
use Rattle.std.specs.Prelude.{◌≡◌, ℕ, ◌+◌, ◌<◌, ◌≤◌, Bool, cond, not, ◌&&◌, ◌||◌, List, [], ◌∷◌, ◌++◌, None, Ok, Err, vec_items, vec_len, Result, nat_le}
use Rattle.edits.specs.declared.clock.Pair.{Pair}
use Rattle.edits.specs.declared.edit.Edit.{Edit}
use Rattle.edits.specs.declared.fault.Fault.{Fault}
use Rattle.edits.specs.declared.fault.Fault.TheVariants.{RosterFull, SlotsFull, ShelfFull}
use Rattle.edits.specs.declared.id.Id.{Id}
use Rattle.edits.specs.Edits.{stamp_of, is_insertion}
use Rattle.edits.specs.Pairs.{count_of}
use Rattle.replica.specs.declared.replica.Replica.{Replica}
use Rattle.replica.specs.declared.replica.Taken.{Taken}
use Rattle.replica.specs.declared.replica.Taken.TheVariants.{Known, Applied}
use Rattle.replica.specs.declared.verdict.Verdict.{Verdict}
use Rattle.replica.specs.declared.verdict.Verdict.TheVariants.{Knows, Applies, Shelves}
use Rattle.replica.specs.Rosters.{lists, admitted}
use Rattle.replica.specs.Shelves.{waits, insertions, ready, first_ready}

-- the parts of a replica: the editors with their counts, the waiting edits, and the number of entries
abbrev pub roster_of : {E : Type 0} → Replica E → List Pair
roster_of r = vec_items r.roster.pairs

abbrev pub shelf_of : {E : Type 0} → Replica E → List (Edit E)
shelf_of r = vec_items r.shelf.edits

abbrev pub entries_in : {E : Type 0} → Replica E → ℕ
entries_in r = vec_len r.tree.nodes

-- applied, or waiting
abbrev pub known : {E : Type 0} → Replica E → Id → Bool
known r id = nat_le id.number (count_of (roster_of r) id.editor) || waits id (shelf_of r)

-- a new editor, and no place for it
abbrev pub crowded : {E : Type 0} → Replica E → Id → Bool
crowded r id = nat_le 16 (vec_len r.roster.pairs) && not (lists (roster_of r) id.editor)

-- an insertion, and no slot for it, those counted that are kept for waiting insertions
abbrev pub slotless : {E : Type 0} → Replica E → Edit E → Bool
slotless r e = is_insertion e && nat_le r.tree.slots (entries_in r + insertions (shelf_of r))

-- the tests in turn: what becomes of the edit, or which of them refuses it
abbrev pub verdict : {E : Type 0} → Replica E → Edit E → Result Verdict Fault
verdict r e =
    cond (known r (stamp_of e).id) (Ok Knows)
    (cond (crowded r (stamp_of e).id) (Err (RosterFull (stamp_of e).id))
    (cond (slotless r e) (Err (SlotsFull (stamp_of e).id))
    (cond (ready (roster_of r) e) (Ok Applies)
    (cond (nat_le r.shelf.room (vec_len r.shelf.edits)) (Err (ShelfFull (stamp_of e).id)) (Ok Shelves)))))

-- what an accepted edit finds: a slot, if it is an insertion, and a place on the shelf, if it waits
abbrev pub Fits : {E : Type 0} → Replica E → Edit E → Result Verdict Fault → Type 0
Fits r e (Err f) = Unit {0}
Fits r e (Ok Knows) = Unit {0}
Fits r e (Ok Applies) = entries_in r + insertions (e ∷ shelf_of r) ≤ r.tree.slots
Fits r e (Ok Shelves) = (entries_in r + insertions (e ∷ shelf_of r) ≤ r.tree.slots) × (vec_len r.shelf.edits < r.shelf.room)

-- The answer, and the replica after it. A known or refused edit changes nothing. An edit that waits is put behind the
-- others. An edit that is applied takes with it waiting edits, as many as the answer says besides, until none is ready.
abbrev pub Answered : {E : Type 0} → Edit E → Replica E → Replica E → Result Taken Fault → Result Verdict Fault → Type 0
Answered e before after r (Err f) = (r ≡ Err f) × (after ≡ before)
Answered e before after r (Ok Knows) = (r ≡ Ok Known) × (after ≡ before)
Answered e before after r (Ok Applies) =
    (n : ℕ) × (r ≡ Ok (Applied (n + 1))) × (n + vec_len after.shelf.edits ≡ vec_len before.shelf.edits)
    × (first_ready (roster_of after) (shelf_of after) ≡ None)
Answered e before after r (Ok Shelves) =
    (r ≡ Ok (Applied 0)) × (shelf_of after ≡ shelf_of before ++ (e ∷ [])) × (roster_of after ≡ admitted (stamp_of e).id.editor (roster_of before))
    × (after.tree ≡ before.tree)
