-- Cells and their bytes: the proofs of the laws that cells owe as a kind. They stand in specs/ since an impl can name
-- nothing else; what contracts cite is in Cells, Fours and Bytes.
use Rattle.std.specs.Prelude.{◌≡◌, ℕ, ◌+◌, ◌^◌, ◌<◌, Bool, true, false, cond, not, ◌&&◌, T, List, ◌∷◌, ◌++◌, length, Some, None, Option, ◌==◌, from_bits, slice_index, to_bits, refl, Float}
use Rattle.std.proofs.Common.{sym, ap, subst, ◌∙◌, arith, eq-eqb, eqb-true}
use Rattle.std.proofs.Math.Bool.{Bool-set}
use Rattle.std.proofs.lemmas.Bool.{false≢true}
use Rattle.std.proofs.Math.Utf8.{scalar, scalar_fits}
use Rattle.std.specs.Float.Ieee.{is_nan, fits}
use Rattle.std.specs.Float.Ieee.Bits.{of_bits-to_bits, to_bits-of_bits, to_bits-lt, of_bits-fits}
use Rattle.std.specs.Float.{float_is_finite, nan, inf, fin, binary32}
use Rattle.std.proofs.lemmas.List.FromFn.{fill_by_all}
use Rattle.edits.proofs.Conjunctions.{three, all_three}
use Rattle.elements.specs.declared.cell.Cell.{Cell}
use Rattle.elements.specs.Bytes.{Bytes}
use Rattle.elements.specs.Fours.{four, four_at}
use Rattle.elements.specs.Cells.{cell_bytes, cell_proper, finite_cell, cell_of}
use Rattle.elements.specs.Numbers.{byte_at, four_back, four_forth, none_some, some_same}

pub not_nan : (x : Float) → float_is_finite x ≡ true → T (not (is_nan x))
unfolding float_is_finite is_nan
not_nan nan e = subst T (sym e) tt
not_nan (inf s) e = tt
not_nan (fin s m n) e = tt

holds : (b : Bool) → T b → b ≡ true
holds true h = refl
holds false h = absurd h

held : {b : Bool} → b ≡ true → T b
held e = subst T (sym e) tt

-- the cell of a cell's own parts is that cell
own_parts : (x : Cell) (v : Bool) (e : float_is_finite x.chainage ≡ v) (w : Bool) (f : float_is_finite x.tolerance ≡ w) → finite_cell x.character x.style x.chainage x.tolerance v e w f ≡ Some x
own_parts x true e true f =
    ap (λ (pq : (float_is_finite x.chainage ≡ true) × (float_is_finite x.tolerance ≡ true)). Some (record { character = x.character; style = x.style; chainage = x.chainage; tolerance = x.tolerance; placed = pq.0; bounded = pq.1 }))
    (λ i. (Bool-set (float_is_finite x.chainage) true e x.placed i, Bool-set (float_is_finite x.tolerance) true f x.bounded i))
own_parts x true e false f = absurd (false≢true (sym f ∙ x.bounded))
own_parts x false e true f = absurd (false≢true (sym e ∙ x.placed))
own_parts x false e false f = absurd (false≢true (sym e ∙ x.placed))

parts : (x : Cell) (c s : ℕ) (p q : Float) → x.character ≡ c → x.style ≡ s → x.chainage ≡ p → x.tolerance ≡ q → finite_cell c s p q (float_is_finite p) refl (float_is_finite q) refl ≡ Some x
parts x c s p q ec es ep eq =
    subst (λ (y : ℕ). finite_cell y s p q (float_is_finite p) refl (float_is_finite q) refl ≡ Some x) ec
    (subst (λ (y : ℕ). finite_cell x.character y p q (float_is_finite p) refl (float_is_finite q) refl ≡ Some x) es
    (subst (λ (y : Float). finite_cell x.character x.style y q (float_is_finite y) refl (float_is_finite q) refl ≡ Some x) ep
    (subst (λ (y : Float). finite_cell x.character x.style x.chainage y (float_is_finite x.chainage) refl (float_is_finite y) refl ≡ Some x) eq
    (own_parts x (float_is_finite x.chainage) refl (float_is_finite x.tolerance) refl))))

pub cell_value : (b : List ℕ) (x : Cell) → length b ≡ 13 → scalar (four_at b 0) ≡ true → x.character ≡ four_at b 0 → x.style ≡ slice_index b 4 → x.chainage ≡ from_bits binary32 (four_at b 5) → x.tolerance ≡ from_bits binary32 (four_at b 9)
    → Some x ≡ cell_of b
cell_value b x l s ec es ep eq = sym (choose (length b == 13) (scalar (four_at b 0)) _ (eq-eqb (length b) 13 l) s (parts x (four_at b 0) (slice_index b 4) (from_bits binary32 (four_at b 5)) (from_bits binary32 (four_at b 9)) ec es ep eq))
  where
    choose : (u v : Bool) (o : Option Cell) {x : Cell} → u ≡ true → v ≡ true → o ≡ Some x → cond (u && v) o None ≡ Some x
    choose u v o eu ev h = rw (eu, ev) h

pub cell_back : (x : Cell) → cell_proper x ≡ true → cell_of (cell_bytes x) ≡ Some x
cell_back x h =
    let t = three (scalar x.character) (fits binary32 x.chainage) (fits binary32 x.tolerance) h in
    let p = held t.1 in
    let q = held t.2 in
    let c0 = four_forth x.character (scalar_fits x.character t.0) in
    let c5 = four_forth (to_bits binary32 x.chainage) (to_bits-lt binary32 x.chainage p) in
    let c9 = four_forth (to_bits binary32 x.tolerance) (to_bits-lt binary32 x.tolerance q) in
    sym (cell_value (cell_bytes x) x refl (ap scalar c0 ∙ t.0) (sym c0) refl
    (sym (ap (from_bits binary32) c5 ∙ of_bits-to_bits binary32 x.chainage p))
    (sym (ap (from_bits binary32) c9 ∙ of_bits-to_bits binary32 x.tolerance q)))

same_bytes : (b : List ℕ) (c s m n : ℕ) → length b ≡ 13 → Bytes b → c ≡ four_at b 0 → s ≡ slice_index b 4 → m ≡ four_at b 5 → n ≡ four_at b 9 → four c ++ (s ∷ (four m ++ four n)) ≡ b
same_bytes b c s m n l bytes ec es em en =
    let h = byte_at b bytes in
    let e0 : four c ≡ _ = ap four ec ∙ four_back (slice_index b 0) (slice_index b 1) (slice_index b 2) (slice_index b 3) (h 0) (h 1) (h 2) (h 3) in
    let e5 : four m ≡ _ = ap four em ∙ four_back (slice_index b 5) (slice_index b 6) (slice_index b 7) (slice_index b 8) (h 5) (h 6) (h 7) (h 8) in
    let e9 : four n ≡ _ = ap four en ∙ four_back (slice_index b 9) (slice_index b 10) (slice_index b 11) (slice_index b 12) (h 9) (h 10) (h 11) (h 12) in
    joined e0 es e5 e9 ∙ sym (fill_by_all (λ i. slice_index b i) b 13 0 l (λ k _. refl))
  where
    joined : {a a' c c' d d' : List ℕ} {s s' : ℕ} → a ≡ a' → s ≡ s' → c ≡ c' → d ≡ d' → a ++ (s ∷ (c ++ d)) ≡ a' ++ (s' ∷ (c' ++ d'))
    joined e f g k = cc

four_fits : (b : List ℕ) (i : ℕ) → Bytes b → four_at b i < 2 ^ 32
four_fits b i h = omega (arith, byte_at b h i, byte_at b h (i + 1), byte_at b h (i + 2), byte_at b h (i + 3))

bits_back : (n : ℕ) → n < 2 ^ 32 → float_is_finite (from_bits binary32 n) ≡ true → to_bits binary32 (from_bits binary32 n) ≡ n
bits_back n h e = to_bits-of_bits binary32 n h (not_nan (from_bits binary32 n) e)

-- what a cell that was read is made of
pub record Made (b : List ℕ) (x : Cell) : Type 0 where
  pub character_is : x.character ≡ four_at b 0
  pub style_is : x.style ≡ slice_index b 4
  pub chainage_is : x.chainage ≡ from_bits binary32 (four_at b 5)
  pub tolerance_is : x.tolerance ≡ from_bits binary32 (four_at b 9)

made : (b : List ℕ) (x : Cell) → length b ≡ 13 → scalar (four_at b 0) ≡ true → Made b x → Bytes b → (cell_proper x ≡ true) × (cell_bytes x ≡ b)
made b x l s m h =
    let p : to_bits binary32 x.chainage ≡ four_at b 5 = ap (to_bits binary32) m.chainage_is ∙ bits_back (four_at b 5) (four_fits b 5 h) (ap float_is_finite (sym m.chainage_is) ∙ x.placed) in
    let q : to_bits binary32 x.tolerance ≡ four_at b 9 = ap (to_bits binary32) m.tolerance_is ∙ bits_back (four_at b 9) (four_fits b 9 h) (ap float_is_finite (sym m.tolerance_is) ∙ x.bounded) in (
      all_three (scalar x.character) (fits binary32 x.chainage) (fits binary32 x.tolerance) (ap scalar m.character_is ∙ s)
          (ap (fits binary32) m.chainage_is ∙ holds _ (of_bits-fits binary32 (four_at b 5)))
          (ap (fits binary32) m.tolerance_is ∙ holds _ (of_bits-fits binary32 (four_at b 9))),
      same_bytes b x.character x.style (to_bits binary32 x.chainage) (to_bits binary32 x.tolerance) l h m.character_is m.style_is p q,
    )

made_of : (b : List ℕ) (x : Cell) (v : Bool) (e : float_is_finite (from_bits binary32 (four_at b 5)) ≡ v) (w : Bool) (f : float_is_finite (from_bits binary32 (four_at b 9)) ≡ w)
    → finite_cell (four_at b 0) (slice_index b 4) (from_bits binary32 (four_at b 5)) (from_bits binary32 (four_at b 9)) v e w f ≡ Some x → Made b x
made_of b x true e true f h =
    let s = sym (some_same h) in
    record { character_is = ap (λ (y : Cell). y.character) s; style_is = ap (λ (y : Cell). y.style) s; chainage_is = ap (λ (y : Cell). y.chainage) s; tolerance_is = ap (λ (y : Cell). y.tolerance) s }
made_of b x true e false f h = absurd (none_some h)
made_of b x false e true f h = absurd (none_some h)
made_of b x false e false f h = absurd (none_some h)

pub cell_exact : (b : List ℕ) (x : Cell) → Bytes b → cell_of b ≡ Some x → (cell_proper x ≡ true) × (cell_bytes x ≡ b)
cell_exact b x h e = by (length b == 13) (scalar (four_at b 0)) refl refl e
  where
    by : (v w : Bool) → (length b == 13) ≡ v → scalar (four_at b 0) ≡ w
        → cond (v && w) (finite_cell (four_at b 0) (slice_index b 4) (from_bits binary32 (four_at b 5)) (from_bits binary32 (four_at b 9)) (float_is_finite (from_bits binary32 (four_at b 5))) refl (float_is_finite (from_bits binary32 (four_at b 9))) refl) None ≡ Some x
        → (cell_proper x ≡ true) × (cell_bytes x ≡ b)
    by true true p q e = made b x (eqb-true (length b) 13 p) q (made_of b x _ refl _ refl e) h
    by true false p q e = absurd (none_some e)
    by false w p q e = absurd (none_some e)
