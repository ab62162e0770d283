use Rattle.runs.proofs.runs_go_on_through_fetch.Goals as goal
use Rattle.runs.proofs.Clauses.{fetch_on}

pub returns : goal.returns
returns g c before O meaning = fetch_on O meaning
