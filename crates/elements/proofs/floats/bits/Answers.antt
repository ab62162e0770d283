use Rattle.elements.specs.CellBytes.{not_nan}
use Rattle.elements.proofs.floats.bits.Goals as goal

pub float_to_bits-result : goal.float_to_bits-result
float_to_bits-result c = not_nan c.args.x c.requires
