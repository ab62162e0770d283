use Rattle.runs.proofs.runs_go_on_through_send.Goals as goal
use Rattle.runs.proofs.Clauses.{send_on}

pub returns : goal.returns
returns g c before O meaning = send_on O meaning
