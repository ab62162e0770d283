use Rattle.order.proofs.identifiers_are_ordered.Goals as goal
use Rattle.order.proofs.Ids.{by_editor_then_number}

pub returns : goal.returns
returns c = by_editor_then_number
