use Rattle.order.proofs.any_order_gives_one_tree.Goals as goal
use Rattle.order.proofs.Reordering.{same_tree}

pub returns : goal.returns
returns g c before O h k H K alike = same_tree O H k K alike
