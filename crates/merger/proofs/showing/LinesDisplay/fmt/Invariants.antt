use Rattle.std.proofs.Common.{take}
use Rattle.std.specs.Fmt.{HasWritten, IsPlainFormatter}
use Rattle.merger.specs.Lines.{entry_lines}
use Rattle.merger.proofs.showing.LinesDisplay.fmt.Given as goal

-- the slots so far have their lines
abbrev pub invariant-loop-slot : goal.invariant-loop-slot
invariant-loop-slot g l =
    IsPlainFormatter l.initial.f → HasWritten g.W.Write.write_str_gives l.initial.f
    (entry_lines g.K.Kind.packed l.self.replica.now l.self.reading.now (take l.slot-index l.slot-items)) l.f
