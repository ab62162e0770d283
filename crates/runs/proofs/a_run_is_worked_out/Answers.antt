use Rattle.runs.proofs.a_run_is_worked_out.Goals as goal
use Rattle.runs.proofs.Worked.{worked}

pub returns : goal.returns
returns c = worked
