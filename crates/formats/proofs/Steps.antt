-- Results one after the other.
use Rattle.std.proofs.Common.{◌≡◌, ℕ, Ok, Err, Result, refl, arith}
use Rattle.edits.specs.declared.fault.Fault.{Fault}
use Rattle.formats.specs.Fields.{◌then◌}

pub then_ok : {A : Type 0} (r : Result A Fault) → (r then (λ x. Ok x)) ≡ r
then_ok (Ok x) = refl
then_ok (Err e) = refl

pub then_then : {A B C : Type 0} (r : Result A Fault) (f : A → Result B Fault) (g : B → Result C Fault) → ((r then f) then g) ≡ (r then (λ x. f x then g))
then_then (Ok x) f g = refl
then_then (Err e) f g = refl

pub then_same : {A B : Type 0} (r : Result A Fault) (f g : A → Result B Fault) → ((x : A) → f x ≡ g x) → (r then f) ≡ (r then g)
then_same (Ok x) f g h = h x
then_same (Err e) f g h = refl

pub ok_same : {A : Type 0} {x y : A} → ◌≡◌ {A = Result A Fault} (Ok x) (Ok y) → x ≡ y
ok_same e = cc

pub err_ok : {A : Type 0} {f : Fault} {y : A} → ◌≡◌ {A = Result A Fault} (Err f) (Ok y) → ⊥
err_ok e = let z : ◌≡◌ {A = ℕ} 0 1 = cc in omega arith

-- what went on had a value to go on with
pub went_on : {A B : Type 0} (r : Result A Fault) (f : A → Result B Fault) (y : B) → (r then f) ≡ Ok y → (x : A) × (r ≡ Ok x) × (f x ≡ Ok y)
went_on (Ok x) f y e = (x, refl, e)
went_on (Err g) f y e = absurd (err_ok e)
