-- Members of a list, a filter, which of two stands before the other, and a function replaced at a place.
use Rattle.std.specs.Prelude.{◌≡◌, ℕ, Bool, false, cond, ◌||◌, ◌⊎◌, List, [], ◌∷◌, ◌==◌}

infix 50 ◌∈◌
-- x is an element of the list
pub data ◌∈◌ {A : Type 0} (x : A) : List A → Type 0 where
  here : {y : A} {ys : List A} → x ≡ y → x ∈ (y ∷ ys)
  there : {y : A} {ys : List A} → x ∈ ys → x ∈ (y ∷ ys)

infix 50 ◌∉◌
abbrev pub ◌∉◌ : {A : Type 0} → A → List A → Type 0
x ∉ xs = x ∈ xs → ⊥

-- every element of the first list is one of the second
infix 50 ◌⊆◌
abbrev pub ◌⊆◌ : {A : Type 0} → List A → List A → Type 0
◌⊆◌ {A} xs ys = (x : A) → x ∈ xs → x ∈ ys

-- those that pass the test, in their order
abbrev pub keep : {A : Type 0} → (A → Bool) → List A → List A
keep test [] = []
keep test (x ∷ xs) = cond (test x) (x ∷ keep test xs) (keep test xs)

-- x stands somewhere before y
abbrev pub Before : {A : Type 0} → List A → A → A → Type 0
Before [] x y = ⊥
Before (z ∷ zs) x y = ((z ≡ x) × (y ∈ zs)) ⊎ Before zs x y

-- the function f, but x at i
abbrev pub with_at : {X : Type 0} → (ℕ → X) → ℕ → X → ℕ → X
with_at f i x j = cond (j == i) x (f j)

-- some element passes the test
abbrev pub any : {A : Type 0} → (A → Bool) → List A → Bool
any test [] = false
any test (x ∷ xs) = test x || any test xs
