-- The place of an editor among pairs that ascend, as the binary search finds it.
use Rattle.std.proofs.Common.{◌≡◌, ℕ, zero, suc, ◌∙◌, Bool, cond, set, sym, eq-eqb, inl, inr, subst, ◌<◌, ◌≤◌, false, List, [], ◌∷◌, ◌==◌, Result, Ok, Err, length, get_or, refl, ap, arith}
use Rattle.std.proofs.lemmas.Bool.{cases_lt, or_parts}
use Rattle.std.proofs.lemmas.Bool.Decides.{nat_tests}
use Rattle.std.proofs.lemmas.List.Folds.{list_any_at}
use Rattle.std.specs.Ordering.{nat_cmp, ordering_index}
use Rattle.std.specs.declared.cmp.Ordering.TheVariants.{Less, Equal, Greater}
use Rattle.std.specs.List.Sorted.{IsBinarySearchResult, IsSearchInRange}
use Rattle.std.specs.List.{AllWithin, HoldsAt}
use Rattle.edits.specs.declared.id.Id.{Id}
use Rattle.edits.specs.declared.clock.Pair.{Pair}
use Rattle.edits.specs.Pairs.{place_of}
use Rattle.edits.proofs.Counting.{no_pair}
use Rattle.replica.specs.Rosters.{Ascends, lists, count_up, advanced, Placed}

-- what a comparison of two numbers says of them
less : (a e : ℕ) → nat_cmp a e ≡ Less → a < e
less a e h = grind (arith, nat_tests, h)

greater : (a e : ℕ) → nat_cmp a e ≡ Greater → e < a
greater a e h = grind (arith, nat_tests, h)

same : (a e : ℕ) → nat_cmp a e ≡ Equal → a ≡ e
same a e h = grind (arith, nat_tests, h)

-- along numbers that do not fall the comparisons with one number do not fall
rises : (a b e : ℕ) → a ≤ b → ordering_index (nat_cmp a e) ≤ ordering_index (nat_cmp b e)
rises a b e le = grind (arith, nat_tests, le)

-- between the lower and the higher ones stands none, and the lower ones are those that `place_of` counts
between : (e : ℕ) (ps : List Pair) (i : ℕ) → i ≤ length ps → ((k : ℕ) → k < i → (get_or ps k no_pair).editor < e)
    → ((k : ℕ) → i ≤ k → k < length ps → e < (get_or ps k no_pair).editor) → (lists ps e ≡ false) × (i ≡ place_of e ps)
between e [] i within below above = (refl, omega (arith, within))
between e (p ∷ ps) zero within below above =
    let here : e < p.editor = above 0 (omega arith) (omega arith) in
    let rest = between e ps 0 (omega arith) (λ k lt. absurd (omega (arith, lt))) (λ k le lt. above (suc k) (omega arith) (omega (arith, lt))) in
    (grind (arith, nat_tests, here, rest.0), grind (arith, nat_tests, here))
between e (p ∷ ps) (suc i) within below above =
    let here : p.editor < e = below 0 (omega arith) in
    let rest = between e ps i (omega (arith, within)) (λ k lt. below (suc k) (omega (arith, lt))) (λ k le lt. above (suc k) (omega (arith, le)) (omega (arith, lt))) in
    (grind (arith, nat_tests, here, rest.0), grind (arith, nat_tests, here, rest.1))

-- what the binary search says of them
pub found : (e : ℕ) (ps : List Pair) (r : Result ℕ ℕ) → IsSearchInRange r (length ps) → IsBinarySearchResult (λ p. nat_cmp p.editor e) ps r → Ascends ps → Placed e ps r
found e ps (Ok i) within at up =
    let is : HoldsAt (λ p. p.editor ≡ e) ps i = λ d. same _ e (at d) in
    (list_any_at (λ p. p.editor == e) ps i no_pair within (grind (arith, nat_tests, is no_pair)), within, is)
found e ps (Err i) within at up =
    let order : (k j : ℕ) (d : Pair) → k ≤ j → j < length ps → (get_or ps k d).editor ≤ (get_or ps j d).editor =
    λ k j d le lt. elim (cases_lt k j) [ inl less ↦ omega (arith, up k j d less lt) | inr more ↦ same_place k j d (omega (arith, le, more)) ]
    in
    let part = at (λ k j d le lt. rises _ _ e (order k j d le lt)) in
    let below : AllWithin (λ p. p.editor < e) ps 0 i = λ k d le lt. less _ e (part.0 k d le lt) in
    let above : AllWithin (λ p. e < p.editor) ps i (length ps) = λ k d le lt. greater _ e (part.1 k d le lt) in
    let b = between e ps i within (λ k lt. below k no_pair (omega arith) lt) (λ k le lt. above k no_pair le lt) in
    (b.0, b.1, within, (below, above))
  where
    same_place : (k j : ℕ) (d : Pair) → k ≡ j → (get_or ps k d).editor ≤ (get_or ps j d).editor
    same_place k j d e = subst (λ (n : ℕ). (get_or ps k d).editor ≤ (get_or ps n d).editor) e (omega arith)

-- an edit of an editor that is not listed counts nowhere
pub advanced_none : (id : Id) (ps : List Pair) → lists ps id.editor ≡ false → ps ≡ advanced id ps
advanced_none id [] none = refl
advanced_none id (p ∷ ps) none =
    let parts = or_parts _ _ none in
    ap (λ (v : Bool). cond v (record { editor = p.editor; count = id.number }) p ∷ ps) (sym parts.0) ∙ ap (λ (qs : List Pair). count_up id p ∷ qs) (advanced_none id ps parts.1)

-- an edit of a listed editor counts at its place
counted_at : (id : Id) (ps : List Pair) (i : ℕ) → i < length ps → ((k : ℕ) → k < i → (get_or ps k no_pair).editor < id.editor)
    → ((k : ℕ) → i < k → k < length ps → id.editor < (get_or ps k no_pair).editor) → (get_or ps i no_pair).editor ≡ id.editor
    → set ps i (record { editor = (get_or ps i no_pair).editor; count = id.number }) ≡ advanced id ps
counted_at id [] i within below above is = absurd (omega (arith, within))
counted_at id (p ∷ ps) zero within below above is =
    let none = (between id.editor ps 0 (omega arith) (λ k lt. absurd (omega (arith, lt))) (λ k le lt. above (suc k) (omega arith) (omega (arith, lt)))).0 in
    ap (λ (v : Bool). cond v (record { editor = p.editor; count = id.number }) p ∷ ps) (sym (eq-eqb _ _ is)) ∙ ap (λ (qs : List Pair). count_up id p ∷ qs) (advanced_none id ps none)
counted_at id (p ∷ ps) (suc i) within below above is =
    let here : p.editor < id.editor = below 0 (omega arith) in
    let rest = counted_at id ps i (omega (arith, within)) (λ k lt. below (suc k) (omega (arith, lt))) (λ k lt far. above (suc k) (omega (arith, lt)) (omega (arith, far))) is in
    let other : (p.editor == id.editor) ≡ false = grind (arith, nat_tests, here) in
    ap (λ (v : Bool). cond v (record { editor = p.editor; count = id.number }) p ∷ set ps i (record { editor = (get_or ps i no_pair).editor; count = id.number })) (sym other)
    ∙ ap (λ (qs : List Pair). count_up id p ∷ qs) rest

pub advanced_at : (id : Id) (ps : List Pair) (i : ℕ) (editor : ℕ) → Ascends ps → i < length ps → HoldsAt (λ p. p.editor ≡ id.editor) ps i → editor ≡ id.editor
    → set ps i (record { editor = editor; count = id.number }) ≡ advanced id ps
advanced_at id ps i editor up within is same =
    ap (λ (n : ℕ). set ps i (record { editor = n; count = id.number })) (same ∙ sym (is no_pair))
    ∙ counted_at id ps i within (λ k lt. omega (arith, up k i no_pair lt within, is no_pair)) (λ k lt far. omega (arith, up i k no_pair lt far, is no_pair)) (is no_pair)
