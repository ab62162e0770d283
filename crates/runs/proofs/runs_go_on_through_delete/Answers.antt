use Rattle.runs.proofs.runs_go_on_through_delete.Goals as goal
use Rattle.runs.proofs.Clauses.{delete_on}

pub returns : goal.returns
returns g c before O meaning k r = delete_on O meaning k r
