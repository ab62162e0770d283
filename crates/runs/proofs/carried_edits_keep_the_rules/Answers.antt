use Rattle.runs.proofs.carried_edits_keep_the_rules.Goals as goal
use Rattle.runs.proofs.Carried.{carried_lawful, carried_sound}

pub returns : goal.returns
returns g c = record { lawful = carried_lawful; sound = carried_sound }
