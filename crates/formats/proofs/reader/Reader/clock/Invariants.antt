use Rattle.std.proofs.Common.{◌≡◌, ◌+◌}
use Rattle.formats.proofs.Filling.{Filled}
use Rattle.formats.proofs.reader.Reader.clock.Given as goal

abbrev pub invariant-loop-pair : goal.invariant-loop-pair
invariant-loop-pair l = record {
  filled : Filled l.fn.self.input.now (l.place + 1) l.len l.pair-index l.last l.self.at l.pair-items;
  same : l.self.input ≡ l.fn.self.input;
}
