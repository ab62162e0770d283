use Rattle.order.proofs.one_order_serves_all.Goals as goal
use Rattle.order.proofs.Systems.{facts, one_order}

pub returns : goal.returns
returns g c before O ms more hs later r r' i = one_order (facts r) O more (facts r').all i
