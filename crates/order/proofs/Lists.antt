-- Members of lists, filters, lists without repetition, order of places, and functions replaced at a place.
use Rattle.std.proofs.Common.{◌≡◌, ℕ, zero, suc, ◌<◌, Bool, true, false, cond, ◌&&◌, ◌||◌, eqb, ◌⊎◌, List, [], ◌∷◌, ◌++◌, map, length, get_or, sym, refl, ap, ◌∙◌, inl, inr, arith, eq-eqb, ne_eqb, eqb-true}
use Rattle.std.proofs.lemmas.Bool.{false≢true, both_ways, cond-false, cond-true, cond_both, eqb-false, false_from_ne_true, or_cases, or_left, or_right}
use Rattle.std.specs.Cmp.{both_ways as same_test}
use Rattle.std.proofs.Math.Bool.{or_assoc}
use Rattle.std.proofs.Math.Logic.{⊎_map}
use Rattle.edits.specs.declared.id.Id.{Id}
use Rattle.edits.specs.Ids.{same}
use Rattle.order.specs.Lists.{◌∈◌, here, there, ◌∉◌, ◌⊆◌, keep, Before, with_at, any}
use Rattle.order.proofs.Ids.{same_apart, same_eq, same_refl}

module _ {A : Type 0} where
  pub in_left : {x : A} (xs ys : List A) → x ∈ xs → x ∈ (xs ++ ys)
  in_left [] ys m = elim m [ ]
  in_left (z ∷ xs) ys (here e) = here e
  in_left (z ∷ xs) ys (there m) = there (in_left xs ys m)

  pub in_right : {x : A} (xs ys : List A) → x ∈ ys → x ∈ (xs ++ ys)
  in_right [] ys m = m
  in_right (z ∷ xs) ys m = there (in_right xs ys m)

  pub in_split : {x : A} (xs ys : List A) → x ∈ (xs ++ ys) → (x ∈ xs) ⊎ (x ∈ ys)
  in_split [] ys m = inr m
  in_split (z ∷ xs) ys (here e) = inl (here e)
  in_split (z ∷ xs) ys (there m) = ⊎_map (λ k. there k) (λ k. k) (in_split xs ys m)

  -- one more at the end
  pub in_last : (xs : List A) (x : A) → x ∈ (xs ++ (x ∷ []))
  in_last xs x = in_right xs (x ∷ []) (here refl)

  pub in_snoc : {x : A} (xs : List A) (y : A) → x ∈ (xs ++ (y ∷ [])) → (x ∈ xs) ⊎ (x ≡ y)
  in_snoc xs y m = ⊎_map (λ k. k) (λ k. elim k [ here e ↦ e | there n ↦ elim n [ ] ]) (in_split xs (y ∷ []) m)

  -- what holds of the elements and of one more, at the end or in front
  pub each_snoc : (P : A → Type 0) (xs : List A) (y : A) → ((x : A) → x ∈ xs → P x) → P y → (x : A) → x ∈ (xs ++ (y ∷ [])) → P x
  each_snoc P xs y all last x m = elim (in_snoc xs y m) [ inl k ↦ all x k | inr e ↦ rw e last ]

  pub each_cons : (P : A → Type 0) (y : A) (ys : List A) → P y → ((x : A) → x ∈ ys → P x) → (x : A) → x ∈ (y ∷ ys) → P x
  each_cons P y ys first all x (here e) = rw e first
  each_cons P y ys first all x (there m) = all x m

  pub sub_snoc : {xs zs : List A} {y : A} → xs ⊆ zs → y ∈ zs → (xs ++ (y ∷ [])) ⊆ zs
  sub_snoc {xs} {zs} {y} all last = each_snoc (λ (x : A). x ∈ zs) xs y all last

  pub in_getD : (xs : List A) (n : ℕ) (d : A) → n < length xs → get_or xs n d ∈ xs
  in_getD [] n d l = absurd (omega arith)
  in_getD (x ∷ xs) zero d l = here refl
  in_getD (x ∷ xs) (suc n) d l = there (in_getD xs n d (omega arith))

  -- filters
  pub in_keep : (p : A → Bool) (xs : List A) {x : A} → x ∈ xs → p x ≡ true → x ∈ keep p xs
  in_keep p [] m t = elim m [ ]
  in_keep p (z ∷ xs) {x} (here e) t = rw (ap p (sym e) ∙ t) (here e)
  in_keep p (z ∷ xs) {x} (there m) t = go (p z) (in_keep p xs m t)
    where
      go : (b : Bool) → x ∈ keep p xs → x ∈ cond b (z ∷ keep p xs) (keep p xs)
      go true k = there k
      go false k = k

  pub of_keep : (p : A → Bool) (xs : List A) {x : A} → x ∈ keep p xs → (x ∈ xs) × (p x ≡ true)
  of_keep p [] m = elim m [ ]
  of_keep p (z ∷ xs) {x} m = go (p z) refl m (of_keep p xs)
    where
      up : (x ∈ xs) × (p x ≡ true) → (x ∈ (z ∷ xs)) × (p x ≡ true)
      up k = (there k.0, k.1)

      go : (b : Bool) → p z ≡ b → x ∈ cond b (z ∷ keep p xs) (keep p xs) → (x ∈ keep p xs → (x ∈ xs) × (p x ≡ true)) → (x ∈ (z ∷ xs)) × (p x ≡ true)
      go true e (here k) ih = (here k, ap p k ∙ e)
      go true e (there k) ih = up (ih k)
      go false e k ih = up (ih k)

  pub keep_append : (p : A → Bool) (xs ys : List A) → keep p (xs ++ ys) ≡ keep p xs ++ keep p ys
  keep_append p [] ys = refl
  keep_append p (x ∷ xs) ys = go (p x) (keep_append p xs ys)
    where
      go : (b : Bool) → keep p (xs ++ ys) ≡ keep p xs ++ keep p ys
          → cond b (x ∷ keep p (xs ++ ys)) (keep p (xs ++ ys)) ≡ cond b (x ∷ keep p xs) (keep p xs) ++ keep p ys
      go true e = ap (λ (zs : List A). x ∷ zs) e
      go false e = e

  pub keep_snoc : (p : A → Bool) (xs : List A) (x : A) (b : Bool) → p x ≡ b → keep p (xs ++ (x ∷ [])) ≡ keep p xs ++ cond b (x ∷ []) []
  keep_snoc p xs x b t = keep_append p xs (x ∷ []) ∙ ap (λ (c : Bool). keep p xs ++ cond c (x ∷ []) []) t

  -- two tests that agree on the elements
  pub keep_alike : (p q : A → Bool) (xs : List A) → ((x : A) → x ∈ xs → p x ≡ q x) → keep p xs ≡ keep q xs
  keep_alike p q [] f = refl
  keep_alike p q (x ∷ xs) f = λ i. cond (f x (here refl) i) (x ∷ keep_alike p q xs (λ y m. f y (there m)) i) (keep_alike p q xs (λ y m. f y (there m)) i)

  pub keep_all : (p : A → Bool) (xs : List A) → ((x : A) → x ∈ xs → p x ≡ true) → keep p xs ≡ xs
  keep_all p [] f = refl
  keep_all p (x ∷ xs) f = rw (f x (here refl)) (ap (λ (zs : List A). x ∷ zs) (keep_all p xs (λ y m. f y (there m))))

  -- a filter on what another has left
  pub keep_keep : (p q : A → Bool) (xs : List A) → keep p (keep q xs) ≡ keep (λ (x : A). q x && p x) xs
  keep_keep p q [] = refl
  keep_keep p q (x ∷ xs) = go (q x) (keep_keep p q xs)
    where
      go : (b : Bool) → keep p (keep q xs) ≡ keep (λ (y : A). q y && p y) xs
          → keep p (cond b (x ∷ keep q xs) (keep q xs)) ≡ cond (b && p x) (x ∷ keep (λ (y : A). q y && p y) xs) (keep (λ (y : A). q y && p y) xs)
      go true e = λ i. cond (p x) (x ∷ e i) (e i)
      go false e = e

  -- some element passes
  pub any_true : (p : A → Bool) (xs : List A) → any p xs ≡ true → (x : A) × (x ∈ xs) × (p x ≡ true)
  any_true p [] t = absurd (false≢true t)
  any_true p (y ∷ xs) t = go (or_cases (p y) (any p xs) t) (any_true p xs)
    where
      go : (p y ≡ true) ⊎ (any p xs ≡ true) → (any p xs ≡ true → (x : A) × (x ∈ xs) × (p x ≡ true)) → (x : A) × (x ∈ (y ∷ xs)) × (p x ≡ true)
      go (inl k) ih = (y, here refl, k)
      go (inr k) ih = let u = ih k in (u.0, there u.1, u.2)

  pub true_any : (p : A → Bool) (xs : List A) {x : A} → x ∈ xs → p x ≡ true → any p xs ≡ true
  true_any p [] m t = elim m [ ]
  true_any p (y ∷ xs) (here q) t = or_left (p y) (any p xs) (ap p (sym q) ∙ t)
  true_any p (y ∷ xs) (there m) t = or_right (p y) (any p xs) (true_any p xs m t)

  pub any_false : (p : A → Bool) (xs : List A) → any p xs ≡ false → (x : A) → x ∈ xs → p x ≡ false
  any_false p xs t x m = false_from_ne_true (p x) (λ u. both_ways _ t (true_any p xs m u))

  pub any_append : (p : A → Bool) (xs ys : List A) → any p (xs ++ ys) ≡ (any p xs || any p ys)
  any_append p [] ys = refl
  any_append p (x ∷ xs) ys = ap (λ (b : Bool). p x || b) (any_append p xs ys) ∙ sym (or_assoc (p x) (any p xs) (any p ys))

  -- lists with the same elements
  pub any_same : (p : A → Bool) (xs ys : List A) → xs ⊆ ys → ys ⊆ xs → any p xs ≡ any p ys
  any_same p xs ys f g = same_test (any p xs) (any p ys)
      (λ t. let u = any_true p xs t in true_any p ys (f u.0 u.1) u.2)
      (λ t. let u = any_true p ys t in true_any p xs (g u.0 u.1) u.2)

  -- no element twice
  abbrev pub Distinct : List A → Type 0
  Distinct [] = Unit {0}
  Distinct (x ∷ xs) = (x ∉ xs) × Distinct xs

  pub distinct_left : (xs ys : List A) → Distinct (xs ++ ys) → Distinct xs
  distinct_left [] ys d = tt
  distinct_left (x ∷ xs) ys d = ((λ m. d.0 (in_left xs ys m)), distinct_left xs ys d.1)

  pub distinct_right : (xs ys : List A) → Distinct (xs ++ ys) → Distinct ys
  distinct_right [] ys d = d
  distinct_right (x ∷ xs) ys d = distinct_right xs ys d.1

  pub distinct_across : (xs ys : List A) → Distinct (xs ++ ys) → {x : A} → x ∈ xs → x ∉ ys
  distinct_across [] ys d m k = elim m [ ]
  distinct_across (z ∷ xs) ys d {x} (here e) k = d.0 (in_right xs ys (rw⁻¹ e k))
  distinct_across (z ∷ xs) ys d {x} (there m) k = distinct_across xs ys d.1 m k

  pub distinct_append : (xs ys : List A) → Distinct xs → Distinct ys → ((x : A) → x ∈ xs → x ∉ ys) → Distinct (xs ++ ys)
  distinct_append [] ys d e f = e
  distinct_append (x ∷ xs) ys d e f = (
    (λ m. elim (in_split xs ys m) [ inl k ↦ d.0 k | inr k ↦ f x (here refl) k ]),
    distinct_append xs ys d.1 e (λ y m. f y (there m)),
  )

  pub distinct_snoc : (xs : List A) (y : A) → Distinct xs → y ∉ xs → Distinct (xs ++ (y ∷ []))
  distinct_snoc xs y d new = distinct_append xs (y ∷ []) d ((λ m. elim m [ ]), tt) (λ x m k. elim k [ here e ↦ new (rw⁻¹ e m) | there n ↦ elim n [ ] ])

  -- order of places
  pub before_left : (xs : List A) (x y : A) → Before xs x y → x ∈ xs
  before_left [] x y b = absurd b
  before_left (z ∷ xs) x y (inl b) = here (sym b.0)
  before_left (z ∷ xs) x y (inr b) = there (before_left xs x y b)

  pub before_right : (xs : List A) (x y : A) → Before xs x y → y ∈ xs
  before_right [] x y b = absurd b
  before_right (z ∷ xs) x y (inl b) = there b.1
  before_right (z ∷ xs) x y (inr b) = there (before_right xs x y b)

  pub before_later : (xs ys : List A) (x y : A) → Before ys x y → Before (xs ++ ys) x y
  before_later [] ys x y b = b
  before_later (z ∷ xs) ys x y b = inr (before_later xs ys x y b)

  pub before_earlier : (xs ys : List A) (x y : A) → Before xs x y → Before (xs ++ ys) x y
  before_earlier [] ys x y b = absurd b
  before_earlier (z ∷ xs) ys x y (inl b) = inl (b.0, in_left xs ys b.1)
  before_earlier (z ∷ xs) ys x y (inr b) = inr (before_earlier xs ys x y b)

  pub before_across : (xs ys : List A) (x y : A) → x ∈ xs → y ∈ ys → Before (xs ++ ys) x y
  before_across [] ys x y m k = elim m [ ]
  before_across (z ∷ xs) ys x y (here e) k = inl (sym e, in_right xs ys k)
  before_across (z ∷ xs) ys x y (there m) k = inr (before_across xs ys x y m k)

  pub before_once : (xs : List A) → Distinct xs → (x y : A) → Before xs x y → Before xs y x → ⊥
  before_once [] d x y b c = absurd b
  before_once (z ∷ xs) d x y (inl b) (inl c) = d.0 (rw c.0 b.1)
  before_once (z ∷ xs) d x y (inl b) (inr c) = d.0 (rw b.0 (before_right xs y x c))
  before_once (z ∷ xs) d x y (inr b) (inl c) = d.0 (rw c.0 (before_right xs x y b))
  before_once (z ∷ xs) d x y (inr b) (inr c) = before_once xs d.1 x y b c

module _ {A B : Type 0} (f : A → B) where
  pub in_map : {x : A} (xs : List A) → x ∈ xs → f x ∈ map f xs
  in_map [] m = elim m [ ]
  in_map (z ∷ xs) (here e) = here (ap f e)
  in_map (z ∷ xs) (there m) = there (in_map xs m)

  pub of_map : {y : B} (xs : List A) → y ∈ map f xs → (x : A) × (x ∈ xs) × (f x ≡ y)
  of_map [] m = elim m [ ]
  of_map (z ∷ xs) (here e) = (z, here refl, sym e)
  of_map {y} (z ∷ xs) (there m) = up (of_map xs m)
    where
      up : (x : A) × (x ∈ xs) × (f x ≡ y) → (x : A) × (x ∈ (z ∷ xs)) × (f x ≡ y)
      up k = (k.0, there k.1, k.2)

  -- a test that looks at the image alone
  pub keep_map : (p : B → Bool) (xs : List A) → keep p (map f xs) ≡ map f (keep (λ (x : A). p (f x)) xs)
  keep_map p [] = refl
  keep_map p (x ∷ xs) = go (p (f x)) (keep_map p xs)
    where
      go : (b : Bool) → keep p (map f xs) ≡ map f (keep (λ (y : A). p (f y)) xs)
          → cond b (f x ∷ keep p (map f xs)) (keep p (map f xs)) ≡ map f (cond b (x ∷ keep (λ (y : A). p (f y)) xs) (keep (λ (y : A). p (f y)) xs))
      go true e = ap (λ (zs : List B). f x ∷ zs) e
      go false e = e

-- what is not in a list is none of its elements
pub none_of : (x : Id) (xs : List Id) → x ∉ xs → (a : Id) → a ∈ xs → same x a ≡ false
none_of x xs no-x a m = same_apart x a (λ p. no-x (rw p m))

-- whether an identifier is in a list
pub is_in : List Id → Id → Bool
is_in xs a = any (λ (x : Id). same x a) xs

pub is_in_true : (xs : List Id) (a : Id) → a ∈ xs → is_in xs a ≡ true
unfolding is_in
is_in_true xs a m = true_any (λ (x : Id). same x a) xs m (same_refl a)

pub of_is_in : (xs : List Id) (a : Id) → is_in xs a ≡ true → a ∈ xs
unfolding is_in
of_is_in xs a t = let u = any_true (λ (x : Id). same x a) xs t in rw⁻¹ (same_eq u.0 a u.2) u.1

-- a function replaced at a place
module _ {X : Type 0} where
  pub at_it : (f : ℕ → X) (i : ℕ) (x : X) → with_at f i x i ≡ x
  at_it f i x = cond-true (eqb i i) x (f i) (eq-eqb i i refl)

  pub at_other : (f : ℕ → X) (i : ℕ) (x : X) (j : ℕ) → (j ≡ i → ⊥) → with_at f i x j ≡ f j
  at_other f i x j ne = cond-false (eqb j i) x (f j) (ne_eqb j i ne)

  -- what holds of the new value and of the others
  pub at_each : (P : ℕ → X → Type 0) (f : ℕ → X) (i : ℕ) (x : X) → P i x → ((j : ℕ) → (j ≡ i → ⊥) → P j (f j)) → (j : ℕ) → P j (with_at f i x j)
  at_each P f i x it others j = cond_both (eqb j i) x (f j) (P j) (λ t. rw (eqb-true j i t) it) (λ t. others j (eqb-false j i t))
