-- Three tests in a row.
use Rattle.std.proofs.Common.{◌≡◌, Bool, true, false, ◌&&◌, refl}
use borrow.Author.Tests.{clash}

pub three : (a b c : Bool) → (a && (b && c)) ≡ true → (a ≡ true) × (b ≡ true) × (c ≡ true)
three true true true e = (refl, refl, refl)
three true true false e = absurd (clash e)
three true false c e = absurd (clash e)
three false b c e = absurd (clash e)

pub all_three : (a b c : Bool) → a ≡ true → b ≡ true → c ≡ true → (a && (b && c)) ≡ true
all_three a b c p q r = rw (p, q, r)

-- the last one fails
pub third_false : (a b c : Bool) → false ≡ c → false ≡ (a && (b && c))
third_false true true c e = e
third_false true false c e = refl
third_false false b c e = refl
