use Rattle.std.proofs.Common.{◌∙◌, sym, nat_lt, rules, tests}
use Rattle.std.proofs.lemmas.Iterator.{YieldsList-from_slice}
use Rattle.std.proofs.lemmas.List.Sorted.{answers_always}
use Rattle.std.proofs.lemmas.Iterator.Search.{all_from_yields_List}
use Rattle.edits.proofs.Walking.{listable, not_listable, sorted-ascending}
use Rattle.edits.proofs.making.ascends.Goals as goal

pub returns-then-all : goal.returns-then-all
returns-then-all c =
    let a = all_from_yields_List listable _ _ c.all.result c.all.ensures.ran (YieldsList-from_slice c.args.pairs.now cc) (λ x b q k. search (rules, tests)) in
    sorted-ascending c.args.pairs.now _ (sym a ∙ c.if-all.true) (c.is_sorted_by.ensures.cases (λ p q. nat_lt p.editor q.editor) (answers_always _ _ _ (λ f a r q k. search (rules, tests))))

pub returns-else-all : goal.returns-else-all
returns-else-all c =
    let a = all_from_yields_List listable _ _ c.all.result c.all.ensures.ran (YieldsList-from_slice c.args.pairs.now cc) (λ x b q k. search (rules, tests)) in
    c.if-all.false ∙ not_listable 0 c.args.pairs.now (sym a ∙ c.if-all.false)
