use Rattle.order.proofs.replicas_agree.Goals as goal
use Rattle.order.proofs.Systems.{facts, agreement}

pub returns : goal.returns
returns g c before O ms hs r i j = agreement (facts r) O i j
