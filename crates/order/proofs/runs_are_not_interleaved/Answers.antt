use Rattle.order.proofs.runs_are_not_interleaved.Goals as goal
use Rattle.order.proofs.Interleaving.{no_interleaving}

pub returns : goal.returns
returns g c before O ms hs r m n rest run = no_interleaving O r m n rest run
