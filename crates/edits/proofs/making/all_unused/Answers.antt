use Rattle.std.proofs.Common.{◌==◌, ◌&&◌, ◌∙◌, rules, tests}
use Rattle.std.proofs.lemmas.Iterator.{YieldsList-from_slice}
use Rattle.std.proofs.lemmas.Iterator.Search.{all_from_yields_List}
use Rattle.edits.proofs.Walking.{all-unused}
use Rattle.edits.proofs.making.all_unused.Goals as goal

pub returns : goal.returns
returns c = all_from_yields_List (λ p. p.editor == 0 && p.count == 0) _ _ _ c.all.ensures.ran (YieldsList-from_slice c.args.pairs.now cc) (λ x b q k. search (rules, tests)) ∙ all-unused c.args.pairs.now
