-- The rules hold of the later insertions of a run.
use Rattle.std.proofs.Common.{◌≡◌, ℕ, suc, ◌+◌, ◌-◌, ◌<◌, ◌≤◌, Bool, true, false, cond, ◌&&◌, ◌||◌, eqb, ltb, leb, List, [], ◌∷◌, length, refl, ap, ◌∙◌, ⊎_elim, arith, length-take, ltb-false, ltb-true, lt-ltb, eq-eqb, ne_eqb, eqb-true, le-leb}
use Rattle.std.proofs.lemmas.Bool.{and_parts, and_from, or_cases, or_left}
use Rattle.edits.specs.declared.id.Id.{Id}
use Rattle.edits.specs.declared.clock.Pair.{Pair}
use Rattle.edits.specs.declared.clock.Clock.{Clock}
use Rattle.edits.specs.declared.edit.Side.TheVariants.{Right}
use Rattle.edits.specs.declared.edit.Parent.TheVariants.{Entry}
use Rattle.edits.specs.Clocks.{pairs_of, clock_kept}
use Rattle.edits.specs.Pairs.{ascending, count_of, counting}
use Rattle.edits.specs.Rules.{own_kept, stamp_kept, parent_kept}
use Rattle.edits.proofs.Conjunctions.{three, all_three}
use Rattle.edits.proofs.Placed.{new, kept_parts}
use Rattle.formats.specs.Expanded.{further}

-- the editor's count is the one that was put in
count_counting : (e c : ℕ) (ps : List Pair) → count_of (counting e c ps) e ≡ c
count_counting e c [] = ap (λ (v : Bool). cond v c 0) (eq-eqb e e refl)
count_counting e c (p ∷ ps) = step (ltb p.editor e) (eqb p.editor e) refl (count_counting e c ps)
  where
    step : (v w : Bool) → ltb p.editor e ≡ v → count_of (counting e c ps) e ≡ c → count_of (cond v (p ∷ counting e c ps) (cond w (new e c ∷ ps) (new e c ∷ p ∷ ps))) e ≡ c
    step true w is more = ap (λ (v : Bool). cond v p.count (count_of (counting e c ps) e)) (ne_eqb p.editor e (λ q. omega (arith, ltb-true p.editor e is))) ∙ more
    step false true is more = ap (λ (v : Bool). cond v c (count_of ps e)) (eq-eqb e e refl)
    step false false is more = ap (λ (v : Bool). cond v c (count_of (p ∷ ps) e)) (eq-eqb e e refl)

length_most : (e c : ℕ) (ps : List Pair) → length (counting e c ps) ≤ length ps + 1
length_most e c [] = omega arith
length_most e c (p ∷ ps) = step (ltb p.editor e) (eqb p.editor e) (length_most e c ps)
  where
    step : (v w : Bool) → length (counting e c ps) ≤ length ps + 1 → length (cond v (p ∷ counting e c ps) (cond w (new e c ∷ ps) (new e c ∷ p ∷ ps))) ≤ length (p ∷ ps) + 1
    step true w more = omega arith
    step false true more = omega arith
    step false false more = omega arith

-- an editor below all is not listed
count_below : (low e : ℕ) (ps : List Pair) → ascending low ps ≡ true → e ≤ low → count_of ps e ≡ 0
count_below low e [] r le = refl
count_below low e (p ∷ ps) r le =
    let t = three (ltb low p.editor) (ltb 0 p.count) (ascending p.editor ps) r in
    let up : low < p.editor = ltb-true low p.editor t.0 in
    ap (λ (v : Bool). cond v p.count (count_of ps e)) (ne_eqb p.editor e (λ q. omega arith))
    ∙ count_below p.editor e ps t.2 (omega arith)

-- an editor that is listed takes no more room
length_listed : (low e c : ℕ) (ps : List Pair) → ascending low ps ≡ true → 0 < count_of ps e → length (counting e c ps) ≡ length ps
length_listed low e c [] r some = absurd (omega (arith, some))
length_listed low e c (p ∷ ps) r some =
    let t = three (ltb low p.editor) (ltb 0 p.count) (ascending p.editor ps) r in
    step (ltb p.editor e) (eqb p.editor e) refl refl some t.2 (λ h. length_listed p.editor e c ps t.2 h)
  where
    step : (v w : Bool) → ltb p.editor e ≡ v → eqb p.editor e ≡ w → 0 < cond w p.count (count_of ps e) → ascending p.editor ps ≡ true → (0 < count_of ps e → length (counting e c ps) ≡ length ps)
        → length (cond v (p ∷ counting e c ps) (cond w (new e c ∷ ps) (new e c ∷ p ∷ ps))) ≡ length (p ∷ ps)
    step true true v-is w-is h up more = absurd (omega (arith, ltb-true p.editor e v-is, eqb-true p.editor e w-is))
    step true false v-is w-is h up more = ap suc (more h)
    step false true v-is w-is h up more = refl
    step false false v-is w-is h up more =
        let z : count_of ps e ≡ 0 = count_below p.editor e ps up (ltb-false p.editor e v-is) in
        absurd (omega arith)

-- an edit with its clock
module _ (id : Id) (x : Clock) (kept : stamp_kept id x ≡ true) where
  parts : (0 < id.editor) × (0 < id.number) × (clock_kept x ≡ true) × (own_kept id (pairs_of x) ≡ true)
  parts =
      let t = three (ltb 0 id.editor) (ltb 0 id.number) (clock_kept x && own_kept id (pairs_of x)) kept in
      let u = and_parts (clock_kept x) (own_kept id (pairs_of x)) t.2 in
      (ltb-true 0 id.editor t.0, ltb-true 0 id.number t.1, u.0, u.1)

  pub some_editor : 0 < id.editor
  some_editor = parts.0

  pub some_number : 0 < id.number
  some_number = parts.1

  pub clock_is_kept : clock_kept x ≡ true
  clock_is_kept = parts.2

  -- the clock has room for the own editor
  pub room : (c : ℕ) → length (counting id.editor c (pairs_of x)) ≤ 16
  room c =
      let t = kept_parts x parts.2 in
      let own = and_parts (eqb (count_of (pairs_of x) id.editor) (id.number - 1)) (ltb 1 id.number || ltb (length (pairs_of x)) 16) parts.3 in
      let count = eqb-true (count_of (pairs_of x) id.editor) (id.number - 1) own.0 in
      ⊎_elim
      (λ h. let more : 1 < id.number = ltb-true 1 id.number h in
      let same = length_listed 0 id.editor c (pairs_of x) t.2 (omega arith) in
      omega (arith, same, length-take x.len x.pairs, t.1))
      (λ h. let few : length (pairs_of x) < 16 = ltb-true (length (pairs_of x)) 16 h in omega (arith, length_most id.editor c (pairs_of x)))
      (or_cases (ltb 1 id.number) (ltb (length (pairs_of x)) 16) own.1)

  -- the insertion behind the place i, with a clock y that counts the one there besides
  module _ (i : ℕ) (y : Clock) (counts : pairs_of y ≡ counting id.editor (id.number + i) (pairs_of x)) where
    own_count : count_of (pairs_of y) id.editor ≡ id.number + i
    own_count = ap (λ (ps : List Pair). count_of ps id.editor) counts ∙ count_counting id.editor (id.number + i) (pairs_of x)

    pub later_stamp : clock_kept y ≡ true → stamp_kept (further id (i + 1)) y ≡ true
    later_stamp y_kept =
        let own : eqb (count_of (pairs_of y) id.editor) (id.number + (i + 1) - 1) ≡ true = eq-eqb _ _ (own_count ∙ omega arith) in
        let late : 1 < id.number + (i + 1) = omega (arith, parts.1) in
        all_three (ltb 0 id.editor) (ltb 0 (id.number + (i + 1))) (clock_kept y && own_kept (further id (i + 1)) (pairs_of y)) (lt-ltb _ _ parts.0) (lt-ltb _ _ (omega (arith, parts.1)))
        (and_from (clock_kept y) (own_kept (further id (i + 1)) (pairs_of y)) y_kept
        (and_from (eqb (count_of (pairs_of y) id.editor) (id.number + (i + 1) - 1)) (ltb 1 (id.number + (i + 1)) || ltb (length (pairs_of y)) 16) own (or_left _ _ (lt-ltb _ _ late))))

    pub later_parent : parent_kept (pairs_of y) (Entry (further id i)) Right ≡ true
    later_parent =
        all_three (ltb 0 id.editor) (ltb 0 (id.number + i)) (leb (id.number + i) (count_of (pairs_of y) id.editor)) (lt-ltb _ _ parts.0) (lt-ltb _ _ (omega (arith, parts.1)))
        (le-leb _ _ (omega (arith, own_count)))
