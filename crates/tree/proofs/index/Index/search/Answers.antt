use Rattle.std.proofs.Common.{sym, subst, rules}
use Rattle.std.proofs.lemmas.List.Sorted.{answers_always}
use Rattle.tree.specs.declared.index.Place.{Place}
use Rattle.tree.specs.Places.{IsAscending}
use Rattle.tree.proofs.Places.{searched}
use Rattle.tree.proofs.index.Index.search.Goals as goal

-- the search compares the identifiers of the places
pub returns : goal.returns
returns c =
    let facts = c.binary_search_by_key.ensures in
    let by_key = facts.position (λ (p : Place). p.id) (answers_always _ _ _ (λ f a r g called. search rules)) in
    let ends = searched c.deref.result.now (subst IsAscending (sym c.deref.ensures.value) c.args.self.now.ascending) c.args.id c.binary_search_by_key.result by_key in
    rw (← c.deref.ensures.value) (record { within = search rules; found = ends.found; gap = ends.gap })
