-- Records as the code has them.
use Rattle.std.specs.Prelude.{◌≡◌, ℕ, ◌+◌, ◌*◌, ◌≤◌, true, length}
use Rattle.edits.specs.Clocks.{pairs_of}
use Rattle.edits.specs.Rules.{stamp_kept, parent_kept, covers}
use Rattle.formats.specs.declared.record.Record.{Record}
use Rattle.formats.specs.declared.record.Record.TheVariants.{Insertion, Deletion, Run}
use Rattle.formats.specs.Records.{Raw, insertion, deletion, run}

-- a record as plain data
abbrev pub raw : Record → Raw
raw (Insertion id clock parent side offset element) = insertion id (pairs_of clock) parent side offset element.now
raw (Deletion id clock target) = deletion id (pairs_of clock) target
raw (Run id clock parent side len offset elements) = run id (pairs_of clock) parent side len offset elements.now

-- the rules hold of what a record says, and its elements have width bytes each
abbrev pub Kept : ℕ → Record → Type 0
Kept width (Insertion id clock parent side offset element) =
    (stamp_kept id clock ≡ true) × (parent_kept (pairs_of clock) parent side ≡ true) × (length element.now ≡ width)
Kept width (Deletion id clock target) = (stamp_kept id clock ≡ true) × (covers (pairs_of clock) target ≡ true)
Kept width (Run id clock parent side len offset elements) =
    (stamp_kept id clock ≡ true) × (parent_kept (pairs_of clock) parent side ≡ true) × (length elements.now ≡ len * width)
    × (2 ≤ len) × (len ≤ 64) × (id.number + len ≤ 65536)
