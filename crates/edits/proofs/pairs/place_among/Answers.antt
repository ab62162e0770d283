use Rattle.std.proofs.Common.{◌≡◌, ◌∙◌, rules, tests, length, nat_lt}
use Rattle.std.specs.List.{take_while}
use Rattle.std.proofs.lemmas.Iterator.{YieldsList-from_slice}
use Rattle.std.proofs.lemmas.List.Folds.{length-prefix_len}
use Rattle.std.proofs.lemmas.Iterator.Search.{YieldsList-from_take_while}
use Rattle.std.proofs.lemmas.Iterator.Consumers.{count_from_yields_List}
use Rattle.edits.proofs.Counting.{prefix_len-place}
use Rattle.edits.proofs.pairs.place_among.Goals as goal

pub returns-clause-value : goal.returns-clause-value
returns-clause-value c =
    let e : c.count.result ≡ length (take_while (λ p. nat_lt p.editor c.args.editor) c.args.pairs.now) = count_from_yields_List _ _ c.count.ensures.ran (YieldsList-from_take_while _ (λ p. nat_lt p.editor c.args.editor) (YieldsList-from_slice c.args.pairs.now cc) c.take_while.ensures.closure c.take_while.ensures.done (λ x b q k. search (rules, tests))) in
    e ∙ length-prefix_len (λ p. nat_lt p.editor c.args.editor) c.args.pairs.now ∙ prefix_len-place c.args.editor c.args.pairs.now
