use Rattle.std.proofs.Common.{◌≡◌, ◌-◌, ◌<◌, ◌≤◌, List, length, get_or, take, drop, sym, ap, ◌∙◌, arith}
use Rattle.edits.specs.declared.clock.Pair.{Pair}
use Rattle.edits.specs.Clocks.{pairs_of}
use Rattle.edits.proofs.Counting.{no_pair}
use Rattle.edits.proofs.Placed.{listed_pairs, listed_kept, new_length, moved_pairs, moved_kept}
use Rattle.edits.proofs.clock.Clock.counting.Goals.{else-place-len-via-then-place-len+else-all-place, else-place-len-via-else-place-len}
use Rattle.edits.proofs.clock.Clock.counting.Goals as goal

pub returns-then-all-place : goal.returns-then-all-place
returns-then-all-place c =
    let x = c.args.self.now in
    let e = c.args.id.editor in
    let f = c.all-all.ensures.full in
    let p = c.place-place.ensures.value in
    let lt : c.place-place.result < length (pairs_of x) = omega (arith, c.if-place-len.true, ap length c.listed-len.ensures) in
    let is : (get_or x.pairs c.place-place.result no_pair).editor ≡ e = ap (λ (a : List Pair). (get_or a c.place-place.result no_pair).editor) (sym c.all-all.ensures.value) ∙ c.if-all-place.true in
    record {
      value = listed_pairs x e c.args.id.number _ f p lt is;
      kept = listed_kept x e c.args.id.number _ f p lt is;
    }

pub returns-then-len-ge16 : goal.returns-then-len-ge16
returns-then-len-ge16 c =
    let x = c.args.self.now in
    let e = c.args.id.editor in
    let k = c.place-place.result in
    let n = length c.listed-len.result.now in
    let le : k ≤ n = omega (arith, c.place-place.ensures.within, ap length c.listed-len.ensures) in
    let same = sym c.all-all.ensures.value in
    let other : k < n → (get_or x.pairs k no_pair).editor ≡ e → ⊥ =
    elim c.else-place-len.branch [ else-place-len-via-then-place-len+else-all-place w ↦ λ _ h. w.if-all-place.false (ap (λ (a : List Pair). (get_or a k no_pair).editor) (sym same) ∙ h) | else-place-len-via-else-place-len w ↦ λ lt _. omega (arith, lt, w.if-place-len.false) ] in
    let m = new_length x e c.args.id.number k c.all-all.ensures.full c.place-place.ensures.value n (ap length c.listed-len.ensures) le other in
    record { value = omega (arith, m, c.if-len-ge16.true); kept = λ _ _ _. tt }

pub returns : goal.returns
returns c =
    let x = c.args.self.now in
    let e = c.args.id.editor in
    let k = c.place-place.result in
    let n = length c.listed-len.result.now in
    let le : k ≤ n = omega (arith, c.place-place.ensures.within, ap length c.listed-len.ensures) in
    let same = sym c.all-all.ensures.value in
    let other : k < n → (get_or x.pairs k no_pair).editor ≡ e → ⊥ =
    elim c.else-place-len.branch [ else-place-len-via-then-place-len+else-all-place w ↦ λ _ h. w.if-all-place.false (ap (λ (a : List Pair). (get_or a k no_pair).editor) (sym same) ∙ h) | else-place-len-via-else-place-len w ↦ λ lt _. omega (arith, lt, w.if-place-len.false) ] in
    let f = c.all-all.ensures.full in
    let p = c.place-place.ensures.value in
    let l = ap length c.listed-len.ensures in
    let m : c.copy_from_slice.new.self ≡ take (n - k) (drop k x.pairs) = c.copy_from_slice.ensures.after ∙ ap (λ (a : List Pair). take (n - k) (drop k a)) (sym same) in
    record {
      value = moved_pairs x e c.args.id.number k f p n l le other c.copy_from_slice.new.self c.if-len-ge16.false m;
      kept = moved_kept x e c.args.id.number k f p n l le other c.copy_from_slice.new.self c.if-len-ge16.false m;
    }
