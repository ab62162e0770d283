use Rattle.runs.proofs.a_replica_holds_what_is_applied.Goals as goal
use Rattle.runs.proofs.Alone.{kept_alone}

pub returns : goal.returns
returns g c before r accepted fed = kept_alone fed
