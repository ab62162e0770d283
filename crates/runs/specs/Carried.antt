-- The edits that channels really carry are values of the program's own type `Edit`; here is what they mean to the theory.
use Rattle.std.specs.Prelude.{◌≤◌}
use Rattle.edits.specs.declared.clock.Pair.{Pair}
use Rattle.edits.specs.declared.edit.Stamp.{Stamp}
use Rattle.edits.specs.declared.edit.Edit.{Edit as Carried}
use Rattle.edits.specs.declared.edit.Edit.TheVariants.{Insertion, Deletion}
use Rattle.edits.specs.Clocks.{pairs_of}
use Rattle.edits.specs.Pairs.{count_of}
use Rattle.edits.specs.Edits.{stamp_of}
use Rattle.order.specs.Lists.{◌∈◌}
use Rattle.order.specs.Edits.{Clock, Change, insertion, deletion, Edit}

-- the clock of a stamp as a function: what its pairs count of an editor, 0 where the editor is not listed
abbrev pub clock_of : Stamp → Clock
clock_of s = count_of (pairs_of s.clock)

-- what a carried edit does: it hangs its element under the parent on that side, or it deletes its target
abbrev pub change_of : {E : Type 0} → Carried E → Change E
change_of (Insertion p x) = insertion p.parent p.side x
change_of (Deletion r) = deletion r.target

-- the edit that a carried edit is
abbrev pub edit_of : {E : Type 0} → Carried E → Edit E
edit_of x = record { id = (stamp_of x).id; clock = clock_of (stamp_of x); change = change_of x }

-- Editors are bytes in the program. A value of the logic may hold any number, so that it is one of the program's is said here.
abbrev pub ByteWide : {E : Type 0} → Carried E → Type 0
ByteWide x = ((stamp_of x).id.editor ≤ 255) × ((p : Pair) → p ∈ pairs_of (stamp_of x).clock → p.editor ≤ 255)
