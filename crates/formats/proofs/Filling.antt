-- The loop that fills a clock.
use Rattle.std.proofs.Common.{◌≡◌, ℕ, zero, suc, ◌+◌, ◌-◌, ◌*◌, ◌<◌, ◌≤◌, Bool, true, false, cond, ◌&&◌, eqb, ltb, leb, List, [], ◌∷◌, ◌++◌, length, take, drop, set, replicate, Ok, Err, Result, sym, refl, ap, ◌∙◌, append_assoc, append-nil, arith, length-append, length-drop, le-leb}
use Rattle.std.proofs.lemmas.Bool.{and_parts}
use Rattle.std.proofs.lemmas.List.{take_all, take_at, drop_at, take_more_set}
use Rattle.edits.specs.declared.fault.Fault.{Fault}
use Rattle.edits.specs.declared.fault.Fault.TheVariants.{Pairs}
use Rattle.edits.specs.declared.clock.Pair.{Pair}
use Rattle.edits.specs.declared.clock.Clock.{Clock}
use Rattle.edits.specs.Clocks.{pairs_of, clock_kept}
use Rattle.edits.specs.Pairs.{ascending, unused}
use Rattle.edits.proofs.Conjunctions.{three, all_three}
use Rattle.edits.proofs.Placed.{kept_by}
use Rattle.formats.specs.Fields.{◌then◌, byte_at, two_at, pair_at, pairs_at, clock_at}
use Rattle.formats.proofs.Steps.{then_ok, then_then, then_same, ok_same, err_ok, went_on}

-- n + 1 pairs are a pair and n more
module _ (n low : ℕ) (s : List ℕ) (at : ℕ) where
  abbrev one : ℕ → ℕ → Result Pair Fault
  one e c = cond (ltb low e && ltb 0 c) (Ok (record { editor = e; count = c })) (Err (Pairs at))

  abbrev more : Pair → Result (List Pair) Fault
  more p = pairs_at n p.editor s (at + 3) then (λ ps. Ok (p ∷ ps))

  one_more : (e c : ℕ) (v : Bool) → cond v (more (record { editor = e; count = c })) (Err (Pairs at)) ≡ ((cond v (Ok (record { editor = e; count = c })) (Err (Pairs at))) then more)
  one_more e c true = refl
  one_more e c false = refl

  pair_step : pairs_at (suc n) low s at ≡ (pair_at low s at then more)
  pair_step =
      then_same (byte_at s at) _ _ (λ e. then_same (two_at s (at + 1)) _ _ (λ c. one_more e c (ltb low e && ltb 0 c)) ∙ sym (then_then (two_at s (at + 1)) (one e) more))
      ∙ sym (then_then (byte_at s at) (λ e. two_at s (at + 1) then one e) more)

-- i of n pairs, from the offset o on, are read
pub record Filled (s : List ℕ) (o n i last at : ℕ) (ps : List Pair) : Type 0 where
  pub reads : pairs_at n 0 s o ≡ (pairs_at (n - i) last s at then (λ qs. Ok (take i ps ++ qs)))
  pub place : at ≡ o + 3 * i

pub filled_none : (s : List ℕ) (o n : ℕ) (ps : List Pair) → Filled s o n 0 0 o ps
filled_none s o n ps =
    let all : n - 0 ≡ n = omega arith in
    record {
      reads = sym (ap (λ (m : ℕ). pairs_at m 0 s o then (λ qs. Ok qs)) all ∙ then_ok (pairs_at n 0 s o));
      place = omega arith;
    }

-- what is left fails at the next pair, or goes on behind it
module _ (s : List ℕ) (o n i last at : ℕ) (ps : List Pair) (h : Filled s o n i last at ps) (lt : i < n) where
  next_is : (r : Result Pair Fault) → pair_at last s at ≡ r → pairs_at n 0 s o ≡ ((r then more (n - (i + 1)) last s at) then (λ qs. Ok (take i ps ++ qs)))
  next_is r e =
      let left : n - i ≡ suc (n - (i + 1)) = omega arith in
      h.reads ∙ ap (λ (m : ℕ). pairs_at m last s at then (λ qs. Ok (take i ps ++ qs))) left
      ∙ ap (λ (x : Result (List Pair) Fault). x then (λ qs. Ok (take i ps ++ qs))) (pair_step (n - (i + 1)) last s at ∙ ap (λ (x : Result Pair Fault). x then more (n - (i + 1)) last s at) e)

  pair_fails : (f : Fault) → pair_at last s at ≡ Err f → pairs_at n 0 s o ≡ Err f
  pair_fails f e = next_is (Err f) e

  pub filled_more : (p : Pair) (end : ℕ) → pair_at last s at ≡ Ok p → end ≡ at + 3 → i < length ps → Filled s o n (i + 1) p.editor end (set ps i p)
  filled_more p end e there room =
      let front : take (i + 1) (set ps i p) ≡ take i ps ++ p ∷ [] = take_more_set ps i p room in
      let rest = pairs_at (n - (i + 1)) p.editor s in
      record {
        reads =
            next_is (Ok p) e
            ∙ then_then (rest (at + 3)) (λ qs. Ok (p ∷ qs)) (λ qs. Ok (take i ps ++ qs))
            ∙ then_same (rest (at + 3)) _ _ (λ qs. ap Ok (sym (append_assoc (take i ps) (p ∷ []) qs) ∙ ap (λ (t : List Pair). t ++ qs) (sym front)))
            ∙ ap (λ (m : ℕ). rest m then (λ qs. Ok (take (i + 1) (set ps i p) ++ qs))) (sym there);
        place = omega (arith, h.place);
      }

-- a pair that is read ascends
pair_rises : (low : ℕ) (s : List ℕ) (at : ℕ) (p : Pair) → pair_at low s at ≡ Ok p → (ltb low p.editor && ltb 0 p.count) ≡ true
pair_rises low s at p h =
    let t = went_on (byte_at s at) _ _ h in
    let v = went_on (two_at s (at + 1)) _ _ t.2 in
    by_test t.0 v.0 (ltb low t.0 && ltb 0 v.0) refl v.2
  where
    by_test : (e c : ℕ) (v : Bool) → (ltb low e && ltb 0 c) ≡ v → cond v (Ok (record { editor = e; count = c })) (Err (Pairs at)) ≡ Ok p → (ltb low p.editor && ltb 0 p.count) ≡ true
    by_test e c true is h = ap (λ (q : Pair). ltb low q.editor && ltb 0 q.count) (sym (ok_same h)) ∙ is
    by_test e c false is h = absurd (err_ok h)

-- the pairs that are read ascend
pairs_rise : (n low : ℕ) (s : List ℕ) (at : ℕ) (ps : List Pair) → pairs_at n low s at ≡ Ok ps → ascending low ps ≡ true
pairs_rise zero low s at ps e = ap (ascending low) (sym (ok_same e))
pairs_rise (suc n) low s at ps e =
    let t = went_on (pair_at low s at) (more n low s at) ps (sym (pair_step n low s at) ∙ e) in
    let v = went_on (pairs_at n t.0.editor s (at + 3)) _ _ t.2 in
    let one = and_parts (ltb low t.0.editor) (ltb 0 t.0.count) (pair_rises low s at t.0 t.1) in
    ap (ascending low) (sym (ok_same v.2))
    ∙ all_three (ltb low t.0.editor) (ltb 0 t.0.count) (ascending t.0.editor v.0) one.0 one.1 (pairs_rise n t.0.editor s (at + 3) v.0 v.1)

-- the clock is as its pairs are
clock_by : (s : List ℕ) (at n : ℕ) (r : Result (List Pair) Fault) → byte_at s at ≡ Ok n → n ≤ 16 → pairs_at n 0 s (at + 1) ≡ r → clock_at s at ≡ r
clock_by s at n r b h e =
    ap (λ (x : Result ℕ Fault). x then (λ m. cond (leb m 16) (pairs_at m 0 s (at + 1)) (Err (Pairs at)))) b
    ∙ ap (λ (v : Bool). cond v (pairs_at n 0 s (at + 1)) (Err (Pairs at))) (le-leb n 16 h) ∙ e

-- the next pair fails
pub clock_fails : (s : List ℕ) (at n i last place : ℕ) (ps : List Pair) (f : Fault) → Filled s (at + 1) n i last place ps → pair_at last s place ≡ Err f → byte_at s at ≡ Ok n → n ≤ 16 → i < n → clock_at s at ≡ Err f
clock_fails s at n i last place ps f h e b small lt = clock_by s at n (Err f) b small (pair_fails s (at + 1) n i last place ps h lt f e)

unused_drop : (i : ℕ) (ps : List Pair) → unused ps ≡ true → unused (drop i ps) ≡ true
unused_drop zero ps e = e
unused_drop (suc i) [] e = e
unused_drop (suc i) (p ∷ ps) e = unused_drop i ps (three (eqb p.editor 0) (eqb p.count 0) (unused ps) e).2

-- the array before it is filled
abbrev blank : List Pair
blank = replicate 16 (record { editor = 0; count = 0 })

-- all n pairs are read, into the first m places of the array
pub all_filled : (s : List ℕ) (at n m i last end : ℕ) (ps : List Pair) → byte_at s at ≡ Ok n → n ≤ 16 → Filled s (at + 1) n i last end ps → i ≡ n → m ≡ n → length ps ≡ m
    → let x : Clock = record { len = n; pairs = ps ++ drop m blank } in (clock_at s at ≡ Ok (pairs_of x)) × (clock_kept x ≡ true) × (end ≡ at + 1 + 3 * length (pairs_of x))
all_filled s at n m i last end ps b small h all same long =
    let x : Clock = record { len = n; pairs = ps ++ drop m blank } in
    let none : n - i ≡ 0 = omega arith in
    let front : pairs_of x ≡ ps = take_at ps (drop m blank) n (long ∙ same) in
    let reads : pairs_at n 0 s (at + 1) ≡ Ok ps =
    h.reads ∙ ap (λ (m : ℕ). pairs_at m last s end then (λ qs. Ok (take i ps ++ qs))) none ∙ ap Ok (append-nil (take i ps) ∙ take_all i ps (omega arith)) in (
      clock_by s at n (Ok (pairs_of x)) b small (reads ∙ ap Ok (sym front)),
      kept_by x (length-append ps (drop m blank) ∙ omega (arith, length-drop m blank)) small (ap (ascending 0) front ∙ pairs_rise n 0 s (at + 1) ps reads)
          (ap unused (drop_at ps (drop m blank) n (long ∙ same)) ∙ unused_drop m blank refl),
      omega (arith, h.place, ap length front),
    )
