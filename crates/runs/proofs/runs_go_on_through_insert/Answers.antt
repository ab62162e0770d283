use Rattle.runs.proofs.runs_go_on_through_insert.Goals as goal
use Rattle.runs.proofs.Clauses.{insert_on}

pub returns : goal.returns
returns g c before O meaning k x r = insert_on O meaning k x r
