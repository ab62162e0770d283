use Rattle.runs.proofs.every_run_keeps_the_promises.Goals as goal
use Rattle.runs.proofs.Promises.{promises}

pub returns : goal.returns
returns g c before O meaning w run = promises O meaning w run
