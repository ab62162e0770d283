use Rattle.order.proofs.insertions_stand_at_their_index.Goals as goal
use Rattle.order.proofs.Making.{insertion_lawful, new_next, inserts_at}

pub returns : goal.returns
returns g c before h H i k x le = (insertion_lawful before H i k x, new_next H i _, inserts_at before H i k x le)
