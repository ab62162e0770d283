use Rattle.std.proofs.Common.{rules}
use Rattle.std.proofs.lemmas.Iterator.{YieldsList-from_slice, YieldsList-from_map}
use Rattle.edits.specs.Edits.{stamp_of}
use Rattle.replica.proofs.Lowest.{lowest_reduced}
use Rattle.replica.proofs.shelf.Shelf.lowest.Goals as goal

pub returns : goal.returns
returns g c =
    let items = c.args.self.now.edits.items in
    lowest_reduced items c.reduce.ensures.ran
    (YieldsList-from_map _ (λ e. (stamp_of e).id) (YieldsList-from_slice items (search rules)) (search rules) (λ x r q k. search rules))
    (λ low id r q k. search rules)
