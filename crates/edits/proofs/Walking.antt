-- Tests of all pairs of a clock, as the code makes them.
use Rattle.std.proofs.Common.{◌≡◌, ℕ, zero, suc, ◌+◌, ◌<◌, Bool, true, false, ◌&&◌, ◌==◌, List, [], ◌∷◌, length, get_or, nat_lt, sym, refl, ap, subst, ◌∙◌, arith, lt-ltb, ltb-true, ltb-false}
use Rattle.std.specs.List.{list_all, IsAllAdjacentAnswer}
use borrow.Author.Tests.{clash}
use Rattle.edits.specs.declared.clock.Pair.{Pair}
use Rattle.edits.specs.Pairs.{unused, ascending}
use Rattle.edits.proofs.Conjunctions.{three, all_three, third_false}
use Rattle.edits.proofs.Counting.{no_pair}

both : (a b c : Bool) → ((a && b) && c) ≡ (a && (b && c))
both true b c = refl
both false b c = refl

-- each is unused
pub all-unused : (ps : List Pair) → list_all (λ p. p.editor == 0 && p.count == 0) ps ≡ unused ps
all-unused [] = refl
all-unused (p ∷ ps) = both (p.editor == 0) (p.count == 0) _ ∙ ap (λ (b : Bool). p.editor == 0 && (p.count == 0 && b)) (all-unused ps)

-- a pair of a clock: an editor and a count
abbrev pub listable : Pair → Bool
listable p = nat_lt 0 p.editor && nat_lt 0 p.count

-- one that is none fails
pub not_listable : (low : ℕ) (ps : List Pair) → list_all listable ps ≡ false → false ≡ ascending low ps
not_listable low [] e = absurd (clash (sym e))
not_listable low (p ∷ ps) e = by (nat_lt low p.editor) (nat_lt 0 p.editor) (nat_lt 0 p.count) refl refl (list_all listable ps) e (not_listable p.editor ps)
  where
    by : (u v w : Bool) → nat_lt low p.editor ≡ u → nat_lt 0 p.editor ≡ v → (r : Bool) → ((v && w) && r) ≡ false → (r ≡ false → false ≡ ascending p.editor ps) → false ≡ (u && (w && ascending p.editor ps))
    by false v w eu ev r e k = refl
    by true v false eu ev r e k = refl
    by true true true eu ev r e k = k e
    by true false true eu ev r e k = absurd (omega (arith, ltb-true low p.editor eu, ltb-false 0 p.editor ev))

later : (p : Pair) (ps : List Pair) (k : ℕ) (d : Pair) (P : Pair → Type 0) → P (get_or (p ∷ ps) (suc k + 1) d) → P (get_or ps (k + 1) d)
later p ps k d P h = let e : suc k + 1 ≡ suc (k + 1) = omega arith in subst (λ (n : ℕ). P (get_or (p ∷ ps) n d)) e h

-- two in a row that do not ascend
falls : (low k : ℕ) (ps : List Pair) → k + 1 < length ps → ((d : Pair) → false ≡ nat_lt (get_or ps k d).editor (get_or ps (k + 1) d).editor) → false ≡ ascending low ps
falls low k [] lt h = absurd (omega (arith, lt))
falls low zero (p ∷ []) lt h = absurd (omega (arith, lt))
falls low zero (p ∷ (q ∷ ps)) lt h = third_false _ _ _ (ap (λ (b : Bool). b && (nat_lt 0 q.count && ascending q.editor ps)) (h no_pair))
falls low (suc k) (p ∷ ps) lt h = third_false _ _ _ (falls p.editor k ps (omega (arith, lt)) (λ d. later p ps k d (λ (x : Pair). false ≡ nat_lt (get_or ps k d).editor x.editor) (h d)))

rises : (low : ℕ) (ps : List Pair) → list_all listable ps ≡ true → ((d : Pair) → 0 < length ps → low < (get_or ps 0 d).editor)
    → ((k : ℕ) (d : Pair) → k + 1 < length ps → true ≡ nat_lt (get_or ps k d).editor (get_or ps (k + 1) d).editor) → true ≡ ascending low ps
rises low [] a first h = refl
rises low (p ∷ ps) a first h =
    let t = three (nat_lt 0 p.editor) (nat_lt 0 p.count) (list_all listable ps) (sym (both (nat_lt 0 p.editor) (nat_lt 0 p.count) (list_all listable ps)) ∙ a) in
    let up = lt-ltb low p.editor (first no_pair (omega arith)) in
    let rest = rises p.editor ps t.2 (λ d l. ltb-true p.editor (get_or ps 0 d).editor (sym (h 0 d (omega (arith, l))))) (λ k d l. later p ps k d (λ (x : Pair). true ≡ nat_lt (get_or ps k d).editor x.editor) (h (suc k) d (omega (arith, l)))) in
    sym (all_three _ _ _ up t.1 (sym rest))

begins : (ps : List Pair) → list_all listable ps ≡ true → (d : Pair) → 0 < length ps → 0 < (get_or ps 0 d).editor
begins [] a d l = absurd (omega (arith, l))
begins (p ∷ ps) a d l = ltb-true 0 p.editor (three (nat_lt 0 p.editor) (nat_lt 0 p.count) (list_all listable ps) (sym (both (nat_lt 0 p.editor) (nat_lt 0 p.count) (list_all listable ps)) ∙ a)).0

pub sorted-ascending : (ps : List Pair) (r : Bool) → list_all listable ps ≡ true → IsAllAdjacentAnswer (λ p q b. b ≡ nat_lt p.editor q.editor) ps r → r ≡ ascending 0 ps
sorted-ascending ps true a h = rises 0 ps a (begins ps a) h
sorted-ascending ps false a h = falls 0 h.0 ps h.1 h.2
