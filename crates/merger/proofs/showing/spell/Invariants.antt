use Rattle.std.proofs.Common.{◌≡◌, ◌*◌, take}
use Rattle.std.specs.List.{flat_map}
use Rattle.digits.specs.Hex.{hex_pair}
use Rattle.merger.proofs.showing.spell.Given as goal

-- the front has the digits of the bytes so far
abbrev pub invariant-loop-at : goal.invariant-loop-at
invariant-loop-at l = take (2 * l.at) l.out ≡ flat_map hex_pair (take l.at l.bytes)
