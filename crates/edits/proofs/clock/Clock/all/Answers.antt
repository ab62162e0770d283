use Rattle.std.proofs.Common.{◌≡◌, length, arith, length-take, rules}
use Rattle.std.proofs.lemmas.List.{take_all}
use Rattle.edits.proofs.clock.Clock.all.Goals as goal

pub returns : goal.returns
returns c =
    let x = c.args.self.now in
    let long : length x.pairs ≡ 16 = search rules in
    record { value = take_all 16 x.pairs (omega arith); full = long; most = omega (arith, length-take x.len x.pairs) }
