use Rattle.std.proofs.Common.{◌≡◌, true, length, rules}
use lib.Ieee.{binary32, of_bits}
use lib.Utf8.{scalar}
use Rattle.elements.specs.Fours.{four_at}
use Rattle.elements.specs.CellBytes.{cell_value}
use Rattle.elements.proofs.cell_kind.CellKind.read.Goals as goal

pub returns-in_ok-tolerance-in-len13 : goal.returns-in_ok-tolerance-in-len13
returns-in_ok-tolerance-in-len13 c =
    let b = c.args.bytes.now in
    let l : length b ≡ 13 = search rules in
    let s : scalar (four_at b 0) ≡ true = search rules in
    let e : c.in_ok-character-in-len13.character ≡ four_at b 0 = search rules in
    let p : c.in_ok-chainage-in-len13.chainage ≡ of_bits binary32 (four_at b 5) = search rules in
    let q : c.in_ok-tolerance-in-len13.tolerance ≡ of_bits binary32 (four_at b 9) = search rules in
    cell_value b _ l s e (search rules) p q
