use Rattle.std.proofs.Common.{◌≡◌, ℕ, zero, suc, ◌/◌, ◌%◌, ◌<◌, List, [], ◌∷◌, ◌++◌, slice_index}
use Rattle.std.proofs.Common.{refl, ap, arith, rules}
use Rattle.std.specs.List.{flat_map}
use Rattle.std.specs.Str.{IsAscii}
use Rattle.std.proofs.lemmas.Bool.Decides.{nat_tests}
use Rattle.std.proofs.lemmas.Grind.{common_steps}
use Rattle.std.proofs.lemmas.Str.{IsAscii-append}
use Rattle.std.proofs.lemmas.Str.Ascii.{IsAscii-nil}
use Rattle.digits.specs.Hex.{hex_digit, hex_pair, hex_text}
use Rattle.merger.proofs.showing.spell.Goals as goal

-- the digits of bytes, in the library's words
hex_text-flat_map : (bytes : List ℕ) → hex_text bytes ≡ flat_map hex_pair bytes
hex_text-flat_map [] = refl
hex_text-flat_map (b ∷ bytes) = ap (λ (t : List ℕ). hex_pair b ++ t) (hex_text-flat_map bytes)

-- each digit is ASCII
hex_digit-ascii : (n : ℕ) → n < 16 → hex_digit n < 128
hex_digit-ascii n below = grind (arith, nat_tests)

IsAscii-hex_pair : (b : ℕ) → b < 256 → IsAscii (hex_pair b)
IsAscii-hex_pair b below zero = hex_digit-ascii (b / 16) (omega arith)
IsAscii-hex_pair b below (suc zero) = hex_digit-ascii (b % 16) (omega arith)
IsAscii-hex_pair b below (suc (suc i)) = omega arith

IsAscii-hex_text : (bytes : List ℕ) → ((i : ℕ) → slice_index bytes i < 256) → IsAscii (hex_text bytes)
IsAscii-hex_text [] below = IsAscii-nil
IsAscii-hex_text (b ∷ bytes) below =
    let rest = IsAscii-hex_text bytes (λ i. below (suc i)) in
    IsAscii-append (hex_pair b) (hex_text bytes) (IsAscii-hex_pair b (below zero)) rest

pub returns : goal.returns
returns c =
    let bytes = c.args.bytes.now in
    let same : c.loop-at.out ≡ hex_text bytes = grind (arith, common_steps, hex_text-flat_map bytes) in
    record { digits = same; ascii = rw same (IsAscii-hex_text bytes (search rules)) }
