-- Four bytes and the number that they stand for: the proofs of the laws that characters owe as a kind, and lemmas for
-- those of cells. They stand in specs/ since an impl can name nothing else; what contracts cite is in Fours and Bytes.
use Rattle.std.specs.Prelude.{◌≡◌, ℕ, zero, suc, ◌+◌, ◌*◌, ◌/◌, ◌%◌, ◌^◌, ◌<◌, Bool, true, false, cond, ◌&&◌, List, [], ◌∷◌, length, Some, None, ◌==◌, ◌≢◌, slice_index, refl}
use Rattle.std.proofs.Common.{sym, ap, ◌∙◌, arith, eqb-true}
use Rattle.std.proofs.Math.Nat.{div-add-mod, div-div-eq-div-mul}
use Rattle.std.proofs.Math.Utf8.{scalar}
use Rattle.elements.specs.Bytes.{Bytes}
use Rattle.elements.specs.Fours.{four, four_at, character_of}

pub byte_at : (b : List ℕ) → Bytes b → (i : ℕ) → slice_index b i < 256
byte_at [] h i = omega arith
byte_at (p ∷ b) h zero = h.0
byte_at (p ∷ b) h (suc i) = byte_at b h.1 i

-- the bytes of the number that four bytes stand for are those bytes
pub four_back : (a b c d : ℕ) → a < 256 → b < 256 → c < 256 → d < 256 → four (a * 16777216 + b * 65536 + c * 256 + d) ≡ a ∷ b ∷ c ∷ d ∷ []
four_back a b c d ha hb hc hd =
    let n = a * 16777216 + b * 65536 + c * 256 + d in
    let e0 : n / 16777216 % 256 ≡ a = omega arith in
    let e1 : n / 65536 % 256 ≡ b = omega arith in
    let e2 : n / 256 % 256 ≡ c = omega arith in
    let e3 : n % 256 ≡ d = omega arith in
    cc

-- a number of 32 bits is what its four bytes stand for
pub four_forth : (n : ℕ) → n < 2 ^ 32 → n / 16777216 % 256 * 16777216 + n / 65536 % 256 * 65536 + n / 256 % 256 * 256 + n % 256 ≡ n
four_forth n h =
    let d1 : n / 256 / 256 ≡ n / 65536 = div-div-eq-div-mul n 256 256 in
    let d2 : n / 65536 / 256 ≡ n / 16777216 = div-div-eq-div-mul n 65536 256 in
    let m0 = div-add-mod n 256 in
    let m1 = div-add-mod (n / 256) 256 in
    let m2 = div-add-mod (n / 65536) 256 in
    let small : n / 16777216 % 256 ≡ n / 16777216 = omega arith in
    omega arith

four_of : (b : List ℕ) → length b ≡ 4 → Bytes b → four (four_at b 0) ≡ b
four_of [] l h = absurd (omega arith)
four_of (p ∷ []) l h = absurd (omega arith)
four_of (p ∷ q ∷ []) l h = absurd (omega arith)
four_of (p ∷ q ∷ s ∷ []) l h = absurd (omega arith)
four_of (p ∷ q ∷ s ∷ t ∷ []) l h = four_back p q s t h.0 h.1.0 h.1.1.0 h.1.1.1.0
four_of (p ∷ q ∷ s ∷ t ∷ u ∷ b) l h = absurd (omega arith)

pub none_some : {A : Type 0} {x : A} → None ≢ Some x
none_some e = let z : ◌≡◌ {A = ℕ} 0 1 = cc in omega arith

pub some_same : {A : Type 0} {x y : A} → Some x ≡ Some y → x ≡ y
some_same e = cc

pub character_exact : (b : List ℕ) (x : ℕ) → Bytes b → character_of b ≡ Some x → (scalar x ≡ true) × (four x ≡ b)
character_exact b x h e = by (length b == 4) (scalar (four_at b 0)) refl refl e
  where
    by : (v w : Bool) → (length b == 4) ≡ v → scalar (four_at b 0) ≡ w → cond (v && w) (Some (four_at b 0)) None ≡ Some x → (scalar x ≡ true) × (four x ≡ b)
    by true true p q e = let n = some_same (sym e) in (ap scalar n ∙ q, ap four n ∙ four_of b (eqb-true (length b) 4 p) h)
    by true false p q e = absurd (none_some e)
    by false w p q e = absurd (none_some e)
