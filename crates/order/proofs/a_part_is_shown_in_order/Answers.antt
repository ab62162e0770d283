use Rattle.order.proofs.a_part_is_shown_in_order.Goals as goal
use Rattle.order.proofs.Entries.{part_in_order}

pub returns : goal.returns
returns g c before O h all H A sub = part_in_order O H A sub
