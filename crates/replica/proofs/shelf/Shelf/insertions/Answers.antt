use Rattle.std.proofs.Common.{ℕ, cond, rules, tests, arith}
use Rattle.std.proofs.lemmas.Iterator.{YieldsList-from_slice, YieldsList-from_map}
use Rattle.std.proofs.lemmas.Iterator.Adapters.{fits_from_length, at_most_from_yields_List}
use Rattle.std.proofs.lemmas.Iterator.Consumers.{sum_by_from_yields_List}
use Rattle.edits.specs.declared.edit.Edit.{Edit}
use Rattle.edits.specs.Edits.{is_insertion}
use Rattle.replica.proofs.shelf.Shelf.insertions.Goals as goal

-- what an edit adds to the sum
abbrev one : {E : Type 0} → Edit E → ℕ
one e = cond (is_insertion e) 1 0

-- each adds 1 at most, and a `Vec` has fewer than 2^64
pub sum-requires-clause-fits : goal.sum-requires-clause-fits
sum-requires-clause-fits g c =
    let items = c.args.self.now.edits.items in
    fits_from_length _ _ 18446744073709551615 _ (at_most_from_yields_List (YieldsList-from_slice items (search rules)) (search rules)) c.map.ensures.closure (omega arith) (λ x r q k. search (rules, tests))

pub returns : goal.returns
returns g c =
    let items = c.args.self.now.edits.items in
    sum_by_from_yields_List one items _ _ c.sum.ensures.ran (YieldsList-from_map _ one (YieldsList-from_slice items (search rules)) (search rules) (λ x r q k. search rules))
