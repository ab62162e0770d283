-- The bytes of a cell, and the cell that bytes stand for.
use Rattle.std.specs.Prelude.{◌≡◌, ℕ, Bool, true, false, cond, ◌&&◌, List, ◌∷◌, ◌++◌, length, Some, None, Option, ◌==◌, from_bits, slice_index, to_bits, refl, Float}
use Rattle.std.specs.Float.Ieee.{fits}
use Rattle.std.proofs.Math.Utf8.{scalar}
use Rattle.std.specs.Float.{float_is_finite, binary32}
use Rattle.elements.specs.Fours.{four, four_at}
use Rattle.elements.specs.declared.cell.Cell.{Cell}

-- character, style, chainage, tolerance
abbrev pub cell_bytes : Cell → List ℕ
cell_bytes x = four x.character ++ (x.style ∷ (four (to_bits binary32 x.chainage) ++ four (to_bits binary32 x.tolerance)))

-- a Unicode scalar value and two floats of 32 bits
abbrev pub cell_proper : Cell → Bool
cell_proper x = scalar x.character && (fits binary32 x.chainage && fits binary32 x.tolerance)

-- the cell of these parts, where both floats are finite
abbrev pub finite_cell : (c s : ℕ) (p q : Float) (v : Bool) → float_is_finite p ≡ v → (w : Bool) → float_is_finite q ≡ w → Option Cell
finite_cell c s p q true e true f = Some (record { character = c; style = s; chainage = p; tolerance = q; placed = e; bounded = f })
finite_cell c s p q true e false f = None
finite_cell c s p q false e true f = None
finite_cell c s p q false e false f = None

-- the cell that bytes stand for: thirteen bytes, a Unicode scalar value and two finite floats
abbrev pub cell_of : List ℕ → Option Cell
cell_of b =
    cond (length b == 13 && scalar (four_at b 0))
    (finite_cell (four_at b 0) (slice_index b 4) (from_bits binary32 (four_at b 5)) (from_bits binary32 (four_at b 9)) (float_is_finite (from_bits binary32 (four_at b 5))) refl (float_is_finite (from_bits binary32 (four_at b 9))) refl)
    None
