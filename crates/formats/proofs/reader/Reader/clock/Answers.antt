use Rattle.std.proofs.Common.{sym, rules}
use Rattle.std.proofs.lemmas.Result.{err_from_is_err_and}
use Rattle.formats.proofs.Filling.{clock_fails, filled_more, all_filled}
use Rattle.formats.proofs.reader.Reader.clock.Goals as goal

pub returns-in_err-pair : goal.returns-in_err-pair
returns-in_err-pair c =
    let p = err_from_is_err_and c.from_residual-in_err-pair.result c.from_residual-in_err-pair.ensures.1 in
    rw (p.1, p.2) (clock_fails _ _ _ _ _ _ _ c.in_err-pair.field-0.0 c.loop-pair.invariant.filled (search rules) (search rules) (search rules) (search rules))

pub loop-pair-preserved : goal.loop-pair-preserved
loop-pair-preserved c = record {
  filled = search (rules, filled_more);
  same = search rules;
}

pub returns : goal.returns
returns c =
    let h = all_filled _ _ _ c.from.result _ _ _ _ (sym c.in_ok-len.ensures.value) (search rules) c.loop-pair.invariant.filled (search rules) (search rules) (search rules) in
    (h.0, h.1, (c.loop-pair.invariant.same, h.2))
