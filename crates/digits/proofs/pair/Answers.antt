-- The table is the list of the rule's values, which antt computes and compares.
use Rattle.std.proofs.Common.{[], zero-add, rules}
use Rattle.std.proofs.lemmas.List.FromFn.{get_or-map-range_with_len}
use Rattle.digits.specs.Hex.{hex_pair}
use Rattle.digits.proofs.pair.Goals as goal

pub returns : goal.returns
returns c = get_or-map-range_with_len hex_pair 0 256 c.args.byte c.args.byte [] (search rules) (zero-add c.args.byte)
