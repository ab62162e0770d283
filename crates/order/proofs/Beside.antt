-- The first of a list of identifiers, what stands right after another, and an entry put next to another.
use Rattle.std.proofs.Common.{◌≡◌, Bool, true, false, cond, ◌⊎◌, List, [], ◌∷◌, ◌++◌, map, Some, sym, refl, ap, ◌∙◌, inl, inr}
use Rattle.std.proofs.lemmas.Bool.{cases_Bool}
use Rattle.std.proofs.lemmas.Option.{none-some, same_Some}
use Rattle.edits.specs.declared.id.Id.{Id}
use Rattle.edits.specs.declared.edit.Side.{Side}
use Rattle.edits.specs.declared.edit.Side.TheVariants.{Left, Right}
use Rattle.edits.specs.Ids.{same}
use Rattle.order.specs.Lists.{◌∈◌, here, there, ◌∉◌, Before}
use Rattle.order.specs.Forests.{Entry, entry_id}
use Rattle.order.specs.Placing.{first, after}
use Rattle.order.proofs.Ids.{compare, same_refl, same_apart, same_eq, eq_same}
use Rattle.order.proofs.Lists.{before_right, Distinct, none_of}

-- the first of a list
pub first_in : (xs : List Id) {a : Id} → first xs ≡ Some a → a ∈ xs
first_in [] e = absurd (none-some _ e)
first_in (x ∷ xs) e = here (sym (same_Some _ _ e))

pub first_some : (xs ys : List Id) {k : Id} → k ∈ xs → (a : Id) × (first (xs ++ ys) ≡ Some a) × (a ∈ xs)
first_some [] ys m = elim m [ ]
first_some (x ∷ xs) ys m = (x, refl, here refl)

pub none_before_first : (xs : List Id) → Distinct xs → {a : Id} → first xs ≡ Some a → (k : Id) → Before xs k a → ⊥
none_before_first [] d e k b = absurd b
none_before_first (x ∷ xs) d e k (inl b) = d.0 (rw (same_Some _ _ e) b.1)
none_before_first (x ∷ xs) d {a} e k (inr b) = d.0 (rw (same_Some _ _ e) (before_right xs k a b))

-- what stands right after another
pub after_in : (b : Id) (xs : List Id) {a : Id} → after b xs ≡ Some a → a ∈ xs
after_in b [] e = absurd (none-some _ e)
after_in b (x ∷ xs) {a} e = there (go (same x b) e (after_in b xs))
  where
    go : (t : Bool) → cond t (first xs) (after b xs) ≡ Some a → (after b xs ≡ Some a → a ∈ xs) → a ∈ xs
    go true k ih = first_in xs k
    go false k ih = ih k

pub after_it : (b : Id) (xs ys : List Id) → b ∉ xs → after b (xs ++ (b ∷ ys)) ≡ first ys
after_it b [] ys no-b = rw (same_refl b)
after_it b (x ∷ xs) ys no-b = rw (same_apart x b (λ p. no-b (here (sym p)))) (after_it b xs ys (λ m. no-b (there m)))

pub none_between_after : (b : Id) (xs : List Id) → Distinct xs → {a : Id} → after b xs ≡ Some a → (k : Id) → Before xs b k → Before xs k a → ⊥
none_between_after b [] d e k p q = absurd p
none_between_after b (x ∷ xs) d {a} e k p q = go (compare x b) p q (none_between_after b xs d.1)
  where
    go : ((same x b ≡ true) × (x ≡ b)) ⊎ ((same x b ≡ false) × (x ≡ b → ⊥)) → Before (x ∷ xs) b k → Before (x ∷ xs) k a
        → (after b xs ≡ Some a → (j : Id) → Before xs b j → Before xs j a → ⊥) → ⊥
    go t (inl u) (inl v) ih = d.0 (rw v.0 u.1)
    go t (inr u) (inl v) ih = d.0 (rw v.0 (before_right xs b k u))
    go (inl t) u (inr v) ih = none_before_first xs d.1 (rw t.0 at e) k v
    go (inr t) (inl u) (inr v) ih = t.1 u.0
    go (inr t) (inr u) (inr v) ih = ih (rw t.0 at e) k u v

module _ {E : Type 0} where
  -- e next to x on the side s, where the test holds
  abbrev pub beside_one : Bool → Side → Entry E → Entry E → List (Entry E) → List (Entry E)
  beside_one false s e x xs = x ∷ xs
  beside_one true Left e x xs = e ∷ (x ∷ xs)
  beside_one true Right e x xs = x ∷ (e ∷ xs)

  -- e next to each entry a, on the side s
  abbrev pub beside : Id → Side → Entry E → List (Entry E) → List (Entry E)
  beside a s e [] = []
  beside a s e (x ∷ xs) = beside_one (same x.id a) s e x (beside a s e xs)

  pub beside_append : (a : Id) (s : Side) (e : Entry E) (xs ys : List (Entry E)) → beside a s e (xs ++ ys) ≡ beside a s e xs ++ beside a s e ys
  beside_append a s e [] ys = refl
  beside_append a s e (x ∷ xs) ys = ap (beside_one (same x.id a) s e x) (beside_append a s e xs ys) ∙ go (same x.id a) s
    where
      go : (t : Bool) (s' : Side) → beside_one t s' e x (beside a s e xs ++ beside a s e ys) ≡ beside_one t s' e x (beside a s e xs) ++ beside a s e ys
      go false s' = refl
      go true Left = refl
      go true Right = refl

  pub beside_absent : (a : Id) (s : Side) (e : Entry E) (xs : List (Entry E)) → a ∉ map entry_id xs → beside a s e xs ≡ xs
  beside_absent a s e [] no-a = refl
  beside_absent a s e (x ∷ xs) no-a =
      λ i. beside_one (same_apart x.id a (λ p. no-a (here (sym p))) i) s e x (beside_absent a s e xs (λ m. no-a (there m)) i)

  -- left of the first is in front
  pub beside_first : (a : Id) (e : Entry E) (xs : List (Entry E)) → Distinct (map entry_id xs) → first (map entry_id xs) ≡ Some a
      → beside a Left e xs ≡ e ∷ xs
  beside_first a e [] d h = absurd (none-some _ h)
  beside_first a e (x ∷ xs) d h = λ i. beside_one (eq_same x.id a (same_Some _ _ h) i) Left e x
      (beside_absent a Left e xs (rw⁻¹ (same_Some _ _ h) d.0) i)

  -- left of what stands right after b is right of b
  pub beside_after : (a b : Id) (e : Entry E) (xs : List (Entry E)) → Distinct (map entry_id xs) → after b (map entry_id xs) ≡ Some a
      → beside a Left e xs ≡ beside b Right e xs
  beside_after a b e [] d h = absurd (none-some _ h)
  beside_after a b e (x ∷ xs) d h = go (cases_Bool (same x.id b)) (beside_after a b e xs d.1)
    where
      not_x : a ∈ map entry_id xs → same x.id a ≡ false
      not_x = none_of x.id (map entry_id xs) d.0 a

      go : (same x.id b ≡ true) ⊎ (same x.id b ≡ false)
          → (after b (map entry_id xs) ≡ Some a → beside a Left e xs ≡ beside b Right e xs)
          → beside a Left e (x ∷ xs) ≡ beside b Right e (x ∷ xs)
      go (inl t) ih = let k : first (map entry_id xs) ≡ Some a = rw t at h in
          (λ i. beside_one (not_x (first_in (map entry_id xs) k) i) Left e x (beside_first a e xs d.1 k i))
          ∙ (λ i. beside_one (sym t i) Right e x
          (sym (beside_absent b Right e xs (rw⁻¹ (same_eq x.id b t) d.0)) i))
      go (inr t) ih = let k : after b (map entry_id xs) ≡ Some a = rw t at h in
          (λ i. beside_one (not_x (after_in b (map entry_id xs) k) i) Left e x (ih k i)) ∙ (λ i. beside_one (sym t i) Right e x (beside b Right e xs))
