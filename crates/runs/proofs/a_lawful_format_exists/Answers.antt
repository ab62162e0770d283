use Rattle.runs.proofs.a_lawful_format_exists.Goals as goal
use Rattle.runs.proofs.Numbers.{numbers_lawful}

pub returns : goal.returns
returns c = numbers_lawful
