use Rattle.order.proofs.deletions_hide_at_their_index.Goals as goal
use Rattle.order.proofs.Making.{deletion_lawful, new_next, deletes_at}

pub returns : goal.returns
returns g c before h H i k lt = (deletion_lawful before H i k lt, new_next H i _, deletes_at before H i k lt)
