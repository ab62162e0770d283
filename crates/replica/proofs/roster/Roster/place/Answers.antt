use Rattle.std.proofs.Common.{List, length, subst, rules}
use Rattle.std.proofs.lemmas.List.Sorted.{answers_always}
use Rattle.std.specs.List.Sorted.{IsBinarySearchResult, IsSearchInRange}
use Rattle.std.specs.Ordering.{nat_cmp}
use Rattle.edits.specs.declared.clock.Pair.{Pair}
use Rattle.replica.proofs.Places.{found}
use Rattle.replica.proofs.roster.Roster.place.Goals as goal

pub returns : goal.returns
returns c =
    let editor = c.args.editor in
    let place = c.binary_search_by_key.result in
    let says : List Pair → Type 0 = λ ps. IsSearchInRange place (length ps) × IsBinarySearchResult (λ p. nat_cmp p.editor editor) ps place in
    let searched = c.binary_search_by_key.ensures.position (λ p. p.editor) (answers_always _ _ _ (λ f a r q k. search rules)) in
    let at = subst says c.deref.ensures.value (c.binary_search_by_key.ensures.bound, searched) in
    found editor c.args.self.now.pairs.items place at.0 at.1 c.args.self.now.ascending
