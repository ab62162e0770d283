use Rattle.std.proofs.Common.{◌≡◌, ◌+◌, ◌-◌, ◌*◌}
use Rattle.formats.specs.Records.{all_at}
use Rattle.formats.proofs.reader.Reader.elements.Given as goal

abbrev pub invariant-loop : goal.invariant-loop
invariant-loop g l = record {
  left : all_at g.K.Kind.WIDTH g.K.Kind.unpacked l.len l.fn.self.input.now l.start ≡ all_at g.K.Kind.WIDTH g.K.Kind.unpacked (l.len - l.counter) l.fn.self.input.now l.self.at;
  place : l.self.at ≡ l.start + l.counter * g.K.Kind.WIDTH;
  same : l.self.input ≡ l.fn.self.input;
}
