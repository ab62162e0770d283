-- What the index has for an identifier is at the place that a search finds.
use Rattle.std.proofs.Common.{◌≡◌, ℕ, zero, suc, ◌<◌, true, false, List, [], ◌∷◌, length, get_or, Option, Some, None, inl, inr, refl, arith, subst}
use Rattle.std.specs.List.{find, HoldsAt}
use Rattle.std.proofs.lemmas.Bool.{cases_lt}
use Rattle.std.proofs.lemmas.Bool.Decides.{nat_tests}
use Rattle.edits.specs.declared.id.Id.{Id}
use Rattle.edits.specs.Ids.{precedes, same}
use Rattle.tree.specs.declared.index.Place.{Place}
use Rattle.tree.specs.Places.{IsAscending, IsGapFor}

same_as_itself : (a : Id) → same a a ≡ true
same_as_itself a = grind (arith, nat_tests)

before_differs : (a b : Id) → precedes a b ≡ true → same a b ≡ false
before_differs a b before = grind (arith, nat_tests)

after_differs : (a b : Id) → precedes b a ≡ true → same a b ≡ false
after_differs a b before = grind (arith, nat_tests)

module _ (id : Id) where
  passed : (p : Place) (ps : List Place) {r : Option Place} → same p.id id ≡ false → find (λ q. same q.id id) ps ≡ r → find (λ q. same q.id id) (p ∷ ps) ≡ r
  passed p ps other rest = rw other rest

  pub found : (places : List Place) (at : ℕ) (d : Place) → IsAscending places → at < length places → HoldsAt (λ p. p.id ≡ id) places at
      → find (λ p. same p.id id) places ≡ Some (get_or places at d)
  found [] at d ascending within holds = absurd (omega (arith, within))
  found (p ∷ ps) zero d ascending within holds = rw (holds p) (rw (same_as_itself id) refl)
  found (p ∷ ps) (suc at) d ascending within holds =
      passed p ps (before_differs p.id id (subst (λ (b : Id). precedes p.id b ≡ true) (holds p) (ascending zero (suc at) p (omega arith) within)))
      (found ps at d (λ i j e lt in_range. ascending (suc i) (suc j) e (omega (arith, lt)) (omega (arith, in_range))) (omega (arith, within)) holds)

  missing : (places : List Place) → ((k : ℕ) → k < length places → (d : Place) → same (get_or places k d).id id ≡ false) → find (λ p. same p.id id) places ≡ None
  missing [] other = refl
  missing (p ∷ ps) other = passed p ps (other zero (omega arith) p) (missing ps (λ k within d. other (suc k) (omega (arith, within)) d))

  pub not_in_gap : (places : List Place) (at : ℕ) → IsGapFor id places at → find (λ p. same p.id id) places ≡ None
  not_in_gap places at gap = missing places (λ k within d. elim (cases_lt k at) [
    | inl lt ↦ before_differs _ id (gap.0 k d (omega arith) lt)
    | inr ge ↦ after_differs _ id (gap.1 k d ge within)
  ])
