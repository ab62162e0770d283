use Rattle.std.proofs.Common.{◌==◌, rules, tests, ◌∙◌, ap}
use Rattle.std.proofs.lemmas.Iterator.{YieldsList-from_slice}
use Rattle.std.proofs.lemmas.Iterator.Search.{find_from_yields_List}
use Rattle.edits.proofs.Counting.{counted, counted-find, counted-read}
use Rattle.edits.proofs.pairs.count_among.Goals as goal

pub returns : goal.returns
returns c =
    let f = find_from_yields_List (λ p. p.editor == c.args.editor) _ _ c.find.result c.find.ensures.ran (YieldsList-from_slice c.args.pairs.now cc) (λ x b q k. search (rules, tests)) in
    let m = counted-read c.find.result _ c.map_or.ensures (λ x h. search (rules, tests)) in
    m ∙ ap counted f ∙ counted-find c.args.editor c.args.pairs.now
