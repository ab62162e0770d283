-- A count put in its place among the pairs.
use Rattle.std.proofs.Common.{◌≡◌, ℕ, zero, suc, ◌+◌, ◌-◌, ◌<◌, ◌≤◌, Bool, true, false, cond, ◌&&◌, eqb, ltb, leb, List, [], ◌∷◌, ◌++◌, length, get_or, take, drop, set, sym, refl, ap, ◌∙◌, subst, append_assoc, add-one, arith, length-append, length-drop, length-set, length-take, ltb-false, ltb-true, lt-ltb, eq-eqb, ne_eqb, eqb-true, le-leb, leb-true}
use borrow.Author.Tests.{eqb-false}
use borrow.Rule.Slice.PartMut.{put_mid}
use Rattle.std.proofs.Math.Seq.{take-set-lt}
use Rattle.std.proofs.lemmas.List.{take_min, get_or-take, take-take, take_at, drop_at, drop-drop, drop-set-lt, take_more_set, length-take-le}
use Rattle.std.proofs.lemmas.Slice.{between_is}
use Rattle.std.proofs.lemmas.Bool.{and_parts, and_from}
use Rattle.edits.specs.declared.clock.Pair.{Pair}
use Rattle.edits.specs.declared.clock.Clock.{Clock}
use Rattle.edits.specs.Pairs.{ascending, unused, place_of, counting}
use Rattle.edits.specs.Clocks.{pairs_of, clock_kept}
use Rattle.edits.proofs.Conjunctions.{three, all_three}
use Rattle.edits.proofs.Counting.{no_pair}

abbrev pub new : ℕ → ℕ → Pair
new e c = record { editor = e; count = c }

-- the editor is listed
pub counting_listed : (e c : ℕ) (ps : List Pair) → place_of e ps < length ps → eqb (get_or ps (place_of e ps) no_pair).editor e ≡ true
    → counting e c ps ≡ set ps (place_of e ps) (new e c)
counting_listed e c [] lt is = absurd (omega (arith, lt))
counting_listed e c (p ∷ ps) lt is = step (ltb p.editor e) lt is (λ lt is. counting_listed e c ps lt is)
  where
    step : (v : Bool) → cond v (suc (place_of e ps)) 0 < length (p ∷ ps) → eqb (get_or (p ∷ ps) (cond v (suc (place_of e ps)) 0) no_pair).editor e ≡ true
        → (place_of e ps < length ps → eqb (get_or ps (place_of e ps) no_pair).editor e ≡ true → counting e c ps ≡ set ps (place_of e ps) (new e c))
        → cond v (p ∷ counting e c ps) (cond (eqb p.editor e) (new e c ∷ ps) (new e c ∷ p ∷ ps)) ≡ set (p ∷ ps) (cond v (suc (place_of e ps)) 0) (new e c)
    step true lt is more = ap (λ (l : List Pair). p ∷ l) (more (omega (arith, lt)) is)
    step false lt is more = ap (λ (v : Bool). cond v (new e c ∷ ps) (new e c ∷ p ∷ ps)) is

-- the editor is new
pub counting_new : (e c : ℕ) (ps : List Pair) → (place_of e ps < length ps → eqb (get_or ps (place_of e ps) no_pair).editor e ≡ false)
    → counting e c ps ≡ take (place_of e ps) ps ++ (new e c ∷ drop (place_of e ps) ps)
counting_new e c [] other = refl
counting_new e c (p ∷ ps) other = step (ltb p.editor e) other (λ other. counting_new e c ps other)
  where
    step : (v : Bool) → (cond v (suc (place_of e ps)) 0 < length (p ∷ ps) → eqb (get_or (p ∷ ps) (cond v (suc (place_of e ps)) 0) no_pair).editor e ≡ false)
        → ((place_of e ps < length ps → eqb (get_or ps (place_of e ps) no_pair).editor e ≡ false) → counting e c ps ≡ take (place_of e ps) ps ++ (new e c ∷ drop (place_of e ps) ps))
        → cond v (p ∷ counting e c ps) (cond (eqb p.editor e) (new e c ∷ ps) (new e c ∷ p ∷ ps))
        ≡ take (cond v (suc (place_of e ps)) 0) (p ∷ ps) ++ (new e c ∷ drop (cond v (suc (place_of e ps)) 0) (p ∷ ps))
    step true other more = ap (λ (l : List Pair). p ∷ l) (more (λ lt. other (omega (arith, lt))))
    step false other more = ap (λ (v : Bool). cond v (new e c ∷ ps) (new e c ∷ p ∷ ps)) (other (omega arith))

-- the pairs ascend still
pub ascending_counting : (low e c : ℕ) (ps : List Pair) → ascending low ps ≡ true → low < e → 0 < c → ascending low (counting e c ps) ≡ true
ascending_counting low e c [] r up some = rw (lt-ltb low e up, lt-ltb 0 c some)
ascending_counting low e c (p ∷ ps) r up some =
    let t = three (ltb low p.editor) (ltb 0 p.count) (ascending p.editor ps) r in
    step (ltb p.editor e) (eqb p.editor e) refl refl t (λ lt. ascending_counting p.editor e c ps t.2 lt some)
  where
    step : (v w : Bool) → ltb p.editor e ≡ v → eqb p.editor e ≡ w → (ltb low p.editor ≡ true) × (ltb 0 p.count ≡ true) × (ascending p.editor ps ≡ true)
        → (p.editor < e → ascending p.editor (counting e c ps) ≡ true)
        → ascending low (cond v (p ∷ counting e c ps) (cond w (new e c ∷ ps) (new e c ∷ p ∷ ps))) ≡ true
    step true w v-is w-is t more = all_three (ltb low p.editor) (ltb 0 p.count) (ascending p.editor (counting e c ps)) t.0 t.1 (more (ltb-true p.editor e v-is))
    step false true v-is w-is t more =
        all_three (ltb low e) (ltb 0 c) (ascending e ps) (lt-ltb low e up) (lt-ltb 0 c some) (subst (λ (m : ℕ). ascending m ps ≡ true) (eqb-true p.editor e w-is) t.2)
    step false false v-is w-is t more =
        let le : e ≤ p.editor = ltb-false p.editor e v-is in
        let ne : p.editor ≡ e → ⊥ = eqb-false p.editor e w-is in
        let lt : e < p.editor = omega (arith, ne) in
        all_three (ltb low e) (ltb 0 c) (ltb e p.editor && (ltb 0 p.count && ascending p.editor ps)) (lt-ltb low e up) (lt-ltb 0 c some)
        (all_three (ltb e p.editor) (ltb 0 p.count) (ascending p.editor ps) (lt-ltb e p.editor lt) t.1 t.2)

pub unused_tail : (i : ℕ) (ps : List Pair) → unused (drop i ps) ≡ true → unused (drop (i + 1) ps) ≡ true
unused_tail i ps e = subst (λ (k : ℕ). unused (drop k ps) ≡ true) (sym (add-one i)) (tail i ps e)
  where
    tail : (i : ℕ) (ps : List Pair) → unused (drop i ps) ≡ true → unused (drop (suc i) ps) ≡ true
    tail zero [] e = e
    tail zero (p ∷ ps) e = (three (eqb p.editor 0) (eqb p.count 0) (unused ps) e).2
    tail (suc i) [] e = e
    tail (suc i) (p ∷ ps) e = tail i ps e

-- what a clock keeps to, by its parts
pub kept_parts : (x : Clock) → clock_kept x ≡ true → (length x.pairs ≡ 16) × (x.len ≤ 16) × (ascending 0 (pairs_of x) ≡ true) × (unused (drop x.len x.pairs) ≡ true)
kept_parts x e =
    let t = three (eqb (length x.pairs) 16) (leb x.len 16) (ascending 0 (pairs_of x) && unused (drop x.len x.pairs)) e in
    let u = and_parts (ascending 0 (pairs_of x)) (unused (drop x.len x.pairs)) t.2 in
    (eqb-true _ _ t.0, leb-true _ _ t.1, u.0, u.1)

pub kept_by : (x : Clock) → length x.pairs ≡ 16 → x.len ≤ 16 → ascending 0 (pairs_of x) ≡ true → unused (drop x.len x.pairs) ≡ true → clock_kept x ≡ true
kept_by x full short up rest =
    all_three (eqb (length x.pairs) 16) (leb x.len 16) (ascending 0 (pairs_of x) && unused (drop x.len x.pairs)) (eq-eqb _ _ full) (le-leb _ _ short)
    (and_from (ascending 0 (pairs_of x)) (unused (drop x.len x.pairs)) up rest)

-- a clock x, and the place k of the editor e among its pairs
module _ (x : Clock) (e c k : ℕ) (full : length x.pairs ≡ 16) (place : k ≡ place_of e (pairs_of x)) where
  -- the editor's pair is written over
  module _ (lt : k < length (pairs_of x)) (is : (get_or x.pairs k no_pair).editor ≡ e) where
    below : k < x.len
    below = omega (arith, length-take x.len x.pairs)

    pub listed_pairs : take x.len (set x.pairs k (new e c)) ≡ counting e c (pairs_of x)
    listed_pairs =
        let here : eqb (get_or (pairs_of x) (place_of e (pairs_of x)) no_pair).editor e ≡ true =
        ap (λ (m : ℕ). eqb (get_or (pairs_of x) m no_pair).editor e) (sym place) ∙ ap (λ (p : Pair). eqb p.editor e) (get_or-take x.len x.pairs k no_pair below) ∙ eq-eqb _ _ is in
        take-set-lt x.len x.pairs k (new e c) below ∙ ap (λ (m : ℕ). set (pairs_of x) m (new e c)) place
        ∙ sym (counting_listed e c (pairs_of x) (subst (λ (m : ℕ). m < length (pairs_of x)) place lt) here)

    pub listed_kept : 0 < e → 0 < c → clock_kept x ≡ true → clock_kept (record { len = x.len; pairs = set x.pairs k (new e c) }) ≡ true
    listed_kept some-e some-c kept =
        let t = kept_parts x kept in
        kept_by (record { len = x.len; pairs = set x.pairs k (new e c) })
        (length-set x.pairs k (new e c) ∙ full) t.1
        (ap (ascending 0) listed_pairs ∙ ascending_counting 0 e c (pairs_of x) t.2 some-e some-c)
        (ap unused (drop-set-lt x.len x.pairs k (new e c) below) ∙ t.3)

  -- the editor is new: those behind it move up
  module _ (n : ℕ) (n-is : n ≡ length (pairs_of x)) (le : k ≤ n) (other : k < n → (get_or x.pairs k no_pair).editor ≡ e → ⊥) where
    own : take n x.pairs ≡ pairs_of x
    own = ap (λ (m : ℕ). take m x.pairs) n-is ∙ ap (λ (m : ℕ). take m x.pairs) (length-take x.len x.pairs) ∙ take_min x.len x.pairs

    at_most : (n ≤ x.len) × (n ≤ 16)
    at_most = (omega (arith, length-take x.len x.pairs), omega (arith, length-take x.len x.pairs))

    new_pairs : counting e c (pairs_of x) ≡ take k x.pairs ++ (new e c ∷ take (n - k) (drop k x.pairs))
    new_pairs =
        let there : place_of e (pairs_of x) < length (pairs_of x) → eqb (get_or (pairs_of x) (place_of e (pairs_of x)) no_pair).editor e ≡ false =
        λ h. let lt : k < n = omega arith in
        let under : k < x.len = omega (arith, at_most.0) in
        ap (λ (m : ℕ). eqb (get_or (pairs_of x) m no_pair).editor e) (sym place) ∙ ap (λ (p : Pair). eqb p.editor e) (get_or-take x.len x.pairs k no_pair under) ∙ ne_eqb _ _ (other lt) in
        counting_new e c (pairs_of x) there
        ∙ ap (λ (m : ℕ). take m (pairs_of x) ++ (new e c ∷ drop m (pairs_of x))) (sym place)
        ∙ ap (λ (l : List Pair). take k l ++ (new e c ∷ drop k l)) (sym own)
        ∙ ap (λ (l : List Pair). l ++ (new e c ∷ drop k (take n x.pairs))) (take-take k n x.pairs le)
        ∙ ap (λ (l : List Pair). take k x.pairs ++ (new e c ∷ l)) (sym (between_is x.pairs k n))

    pub new_length : length (counting e c (pairs_of x)) ≡ n + 1
    new_length =
        let mid : length (take (n - k) (drop k x.pairs)) ≡ n - k = length-take-le (n - k) (drop k x.pairs) (omega (arith, length-drop k x.pairs, at_most.1)) in
        let front : length (take k x.pairs) ≡ k = length-take-le k x.pairs (omega (arith, at_most.1)) in
        ap length new_pairs ∙ length-append (take k x.pairs) (new e c ∷ take (n - k) (drop k x.pairs)) ∙ omega arith

    -- the array after the write at k and the copy behind it
    module _ (mid : List Pair) (room : n < 16) (mid-is : mid ≡ take (n - k) (drop k x.pairs)) where
      shifted : put_mid (k + 1) (n + 1 - (k + 1)) (set x.pairs k (new e c)) mid ≡ counting e c (pairs_of x) ++ drop (n + 1) x.pairs
      shifted =
          let p₁ = set x.pairs k (new e c) in
          let m = n + 1 - (k + 1) in
          let mid₀ = take (n - k) (drop k x.pairs) in
          let sum : k + 1 + m ≡ n + 1 = omega arith in
          let rest : drop m (drop (k + 1) p₁) ≡ drop (n + 1) x.pairs =
          drop-drop m (k + 1) p₁ ∙ ap (λ (j : ℕ). drop j p₁) sum ∙ drop-set-lt (n + 1) x.pairs k (new e c) (omega arith) in
          ap (λ (l : List Pair). l ++ (mid ++ drop m (drop (k + 1) p₁))) (take_more_set x.pairs k (new e c) (omega arith))
          ∙ ap (λ (l : List Pair). (take k x.pairs ++ new e c ∷ []) ++ (l ++ drop m (drop (k + 1) p₁))) mid-is
          ∙ ap (λ (l : List Pair). (take k x.pairs ++ new e c ∷ []) ++ (mid₀ ++ l)) rest
          ∙ append_assoc (take k x.pairs) (new e c ∷ []) (mid₀ ++ drop (n + 1) x.pairs)
          ∙ sym (append_assoc (take k x.pairs) (new e c ∷ mid₀) (drop (n + 1) x.pairs))
          ∙ ap (λ (l : List Pair). l ++ drop (n + 1) x.pairs) (sym new_pairs)

      pub moved_pairs : take (n + 1) (put_mid (k + 1) (n + 1 - (k + 1)) (set x.pairs k (new e c)) mid) ≡ counting e c (pairs_of x)
      moved_pairs = ap (take (n + 1)) shifted ∙ take_at (counting e c (pairs_of x)) (drop (n + 1) x.pairs) (n + 1) new_length

      pub moved_kept : 0 < e → 0 < c → clock_kept x ≡ true → clock_kept (record { len = n + 1; pairs = put_mid (k + 1) (n + 1 - (k + 1)) (set x.pairs k (new e c)) mid }) ≡ true
      moved_kept some-e some-c kept =
          let t = kept_parts x kept in
          let all : x.len ≡ n = omega (arith, length-take x.len x.pairs, t.1) in
          kept_by (record { len = n + 1; pairs = put_mid (k + 1) (n + 1 - (k + 1)) (set x.pairs k (new e c)) mid })
          (ap length shifted ∙ length-append (counting e c (pairs_of x)) (drop (n + 1) x.pairs) ∙ omega (arith, new_length, length-drop (n + 1) x.pairs))
          (omega arith)
          (ap (ascending 0) moved_pairs ∙ ascending_counting 0 e c (pairs_of x) t.2 some-e some-c)
          (ap (λ (l : List Pair). unused (drop (n + 1) l)) shifted ∙ ap unused (drop_at (counting e c (pairs_of x)) (drop (n + 1) x.pairs) (n + 1) new_length)
          ∙ unused_tail n x.pairs (subst (λ (j : ℕ). unused (drop j x.pairs) ≡ true) all t.3))
