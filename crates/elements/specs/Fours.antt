-- Numbers in four bytes, and characters.
use Rattle.std.specs.Prelude.{ℕ, ◌+◌, ◌*◌, ◌/◌, ◌%◌, cond, ◌&&◌, List, [], ◌∷◌, length, Some, None, Option, ◌==◌, slice_index}
use Rattle.std.proofs.Math.Utf8.{scalar}

-- four bytes, the highest first
abbrev pub four : ℕ → List ℕ
four n = (n / 16777216 % 256) ∷ (n / 65536 % 256) ∷ (n / 256 % 256) ∷ (n % 256) ∷ []

-- the number that four bytes from the place i on stand for
abbrev pub four_at : List ℕ → ℕ → ℕ
four_at b i = slice_index b i * 16777216 + slice_index b (i + 1) * 65536 + slice_index b (i + 2) * 256 + slice_index b (i + 3)

-- the character that bytes stand for: four bytes whose number is a Unicode scalar value
abbrev pub character_of : List ℕ → Option ℕ
character_of b = cond (length b == 4 && scalar (four_at b 0)) (Some (four_at b 0)) None
