-- The digits that bytes are printed as.
use Rattle.std.specs.Prelude.{ℕ, ◌+◌, ◌/◌, ◌%◌, cond, List, [], ◌∷◌, ◌++◌, nat_lt}

-- the upper-case digit of a number below 16: 0 to 9 from code 48 on, A to F from code 65 on
abbrev pub hex_digit : ℕ → ℕ
hex_digit n = cond (nat_lt n 10) (48 + n) (55 + n)

-- the two digits of a byte, the higher first
abbrev pub hex_pair : ℕ → List ℕ
hex_pair byte = hex_digit (byte / 16) ∷ hex_digit (byte % 16) ∷ []

-- what is written of each element of a list, in turn
abbrev pub spelled : {X : Type 0} → (X → List ℕ) → List X → List ℕ
spelled text [] = []
spelled text (x ∷ xs) = text x ++ spelled text xs

-- the digits of bytes in turn
abbrev pub hex_text : List ℕ → List ℕ
hex_text bytes = spelled hex_pair bytes
