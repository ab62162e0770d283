-- Edits.
use Rattle.std.specs.Prelude.{Bool, true, false}
use Rattle.edits.specs.declared.edit.Stamp.{Stamp}
use Rattle.edits.specs.declared.edit.Edit.{Edit}
use Rattle.edits.specs.declared.edit.Edit.TheVariants.{Insertion, Deletion}

-- which edit it is, with its clock
abbrev pub stamp_of : {E : Type 0} → Edit E → Stamp
stamp_of (Insertion placement element) = placement.stamp
stamp_of (Deletion removal) = removal.stamp

abbrev pub is_insertion : {E : Type 0} → Edit E → Bool
is_insertion (Insertion placement element) = true
is_insertion (Deletion removal) = false
