use Rattle.std.proofs.Common.{◌≡◌, ℕ, ◌-◌, min, length, take, ap, ◌∙◌, arith, rules}
use Rattle.std.proofs.lemmas.List.{take_min}
use Rattle.edits.proofs.clock.Clock.listed.Goals as goal

pub returns : goal.returns
returns c =
    let x = c.args.self.now in
    let long : length x.pairs ≡ 16 = search rules in
    let k : c.min-len.result - 0 ≡ min x.len (length x.pairs) = omega (arith, c.min-len.ensures, long) in
    ap (λ (j : ℕ). take j x.pairs) k ∙ take_min x.len x.pairs
