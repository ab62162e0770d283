use Rattle.order.proofs.insertions_become_entries.Goals as goal
use Rattle.order.proofs.Systems.{facts, becomes_entry}

pub returns : goal.returns
returns g c before O ms hs r m k p s x q = becomes_entry (facts r) O m k p s x q
