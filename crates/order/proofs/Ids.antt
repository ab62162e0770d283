-- Identifiers compared.
use Rattle.std.proofs.Common.{◌≡◌, ◌<◌, true, false, eqb, ◌⊎◌, sym, refl, inl, inr, arith, ltb-true, lt-ltb, eq-eqb, ne_eqb, eqb-true}
use Rattle.std.proofs.lemmas.Bool.{both_ways, cases_Bool, cases_order, false_from_ne_true, and_parts}
use Rattle.std.proofs.Math.Logic.{⊎_map}
use Rattle.edits.specs.declared.id.Id.{Id}
use Rattle.edits.specs.Ids.{same, precedes}
use Rattle.order.specs.Edits.{Order}

pub id_eq : (a b : Id) → a.editor ≡ b.editor → a.number ≡ b.number → a ≡ b
id_eq a b p q = λ i. record { editor = p i; number = q i }

pub same_refl : (a : Id) → same a a ≡ true
same_refl a = rw (eq-eqb a.editor a.editor refl, eq-eqb a.number a.number refl)

pub same_eq : (a b : Id) → same a b ≡ true → a ≡ b
same_eq a b e = let h = and_parts (eqb a.editor b.editor) (eqb a.number b.number) e in
    id_eq a b (eqb-true a.editor b.editor h.0) (eqb-true a.number b.number h.1)

pub eq_same : (a b : Id) → a ≡ b → same a b ≡ true
eq_same a b e = rw⁻¹ e (same_refl a)

pub same_apart : (a b : Id) → (a ≡ b → ⊥) → same a b ≡ false
same_apart a b ne = false_from_ne_true (same a b) (λ e. ne (same_eq a b e))

-- the test, with what it says
pub compare : (a b : Id) → ((same a b ≡ true) × (a ≡ b)) ⊎ ((same a b ≡ false) × (a ≡ b → ⊥))
compare a b = ⊎_map (λ e. (e, same_eq a b e)) (λ e. (e, λ p. both_ways _ e (eq_same a b p))) (cases_Bool (same a b))

-- by editor, then by number
Less : Id → Id → Type 0
Less a b = (a.editor < b.editor) ⊎ ((a.editor ≡ b.editor) × (a.number < b.number))

precedes_less : (a b : Id) → precedes a b ≡ true → Less a b
unfolding Less
precedes_less a b e = go (cases_Bool (eqb a.editor b.editor))
  where
    go : (eqb a.editor b.editor ≡ true) ⊎ (eqb a.editor b.editor ≡ false) → Less a b
    go (inl t) = inr (eqb-true a.editor b.editor t, ltb-true a.number b.number (rw t at e))
    go (inr t) = inl (ltb-true a.editor b.editor (rw t at e))

less_precedes : (a b : Id) → Less a b → precedes a b ≡ true
unfolding Less
less_precedes a b (inl h) = rw (ne_eqb a.editor b.editor (λ p. omega arith)) (lt-ltb a.editor b.editor h)
less_precedes a b (inr h) = rw (h.0, eq-eqb b.editor b.editor refl) (lt-ltb a.number b.number h.1)

pub by_editor_then_number : Order precedes
unfolding Less
by_editor_then_number = record {
  irreflexive = λ a e. none a (precedes_less a a e);
  transitive = λ a b c p q. less_precedes a c (join a b c (precedes_less a b p) (precedes_less b c q));
  total = λ a b ne f. less_precedes b a (other a b ne (λ l. both_ways _ f (less_precedes a b l)));
}
  where
    none : (a : Id) → Less a a → ⊥
    none a (inl h) = omega arith
    none a (inr h) = omega arith

    join : (a b c : Id) → Less a b → Less b c → Less a c
    join a b c (inl p) (inl q) = inl (omega arith)
    join a b c (inl p) (inr q) = inl (omega arith)
    join a b c (inr p) (inl q) = inl (omega arith)
    join a b c (inr p) (inr q) = inr (omega arith)

    other : (a b : Id) → (a ≡ b → ⊥) → (Less a b → ⊥) → Less b a
    other a b ne nl = go (cases_order a.editor b.editor) (cases_order a.number b.number)
      where
        go : (a.editor ≡ b.editor) ⊎ ((a.editor < b.editor) ⊎ (b.editor < a.editor))
            → (a.number ≡ b.number) ⊎ ((a.number < b.number) ⊎ (b.number < a.number)) → Less b a
        go (inl e) (inl n) = absurd (ne (id_eq a b e n))
        go (inl e) (inr (inl l)) = absurd (nl (inr (e, l)))
        go (inl e) (inr (inr l)) = inr (sym e, l)
        go (inr (inl l)) v = absurd (nl (inl l))
        go (inr (inr l)) v = inl l
