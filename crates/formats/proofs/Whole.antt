-- Every edit that a record which was read stands for is there.
use Rattle.std.proofs.Common.{◌≡◌, ℕ, zero, suc, ◌+◌, ◌-◌, ◌*◌, ◌<◌, ◌≤◌, Bool, true, false, cond, ◌&&◌, leb, List, length, take, drop, is_some, Some, None, Ok, Err, Option, Result, sym, refl, ap, ◌∙◌, subst, mul-le-mul_right, suc-mul, zero-mul, arith, lt-ltb}
use Rattle.std.proofs.lemmas.List.{drop-take, take-take, drop-drop}
use Rattle.edits.specs.declared.fault.Fault.{Fault}
use Rattle.edits.specs.declared.fault.Fault.TheVariants.{Extent, Mark, Element}
use Rattle.edits.specs.declared.id.Id.{Id}
use Rattle.edits.specs.declared.clock.Pair.{Pair}
use Rattle.edits.specs.declared.edit.Side.{Side}
use Rattle.edits.specs.declared.edit.Parent.{Parent}
use Rattle.formats.specs.declared.format.Format.{Format}
use Rattle.formats.specs.Marks.{has_runs, insertion_mark, deletion_mark, run_mark}
use Rattle.formats.specs.Fields.{byte_at, placement_at, removal_at}
use Rattle.formats.specs.Records.{Raw, element_at, all_at, length_at, insertion_at, deletion_at, run_at, record_at}
use Rattle.formats.proofs.Steps.{ok_same, err_ok, went_on}
use Rattle.formats.specs.Expanded.{length_of, place_in, inserted, edit_within, edit_at, Whole}

module _ {K : Type 0} (w : ℕ) (u : List ℕ → Option K) where
  element_some : (s : List ℕ) (at : ℕ) (b : List ℕ) → element_at w u s at ≡ Ok b → (b ≡ take w (drop at s)) × (is_some (u b) ≡ true)
  element_some s at b e = by (leb (at + w) (length s)) (is_some (u (take w (drop at s)))) refl e
    where
      by : (v t : Bool) → is_some (u (take w (drop at s))) ≡ t → cond v (cond t (Ok (take w (drop at s))) (Err (Element at))) (Err (Extent (length s))) ≡ Ok b → (b ≡ take w (drop at s)) × (is_some (u b) ≡ true)
      by true true is e = let same = sym (ok_same e) in (same, ap (λ (c : List ℕ). is_some (u c)) same ∙ is)
      by true false is e = absurd (err_ok e)
      by false t is e = absurd (err_ok e)

  all_some : (m : ℕ) (s : List ℕ) (at : ℕ) → all_at w u m s at ≡ Ok tt → (i : ℕ) → i < m → is_some (u (take w (drop (at + i * w) s))) ≡ true
  all_some zero s at e i lt = absurd (omega (arith, lt))
  all_some (suc m) s at e zero lt =
      let t = went_on (element_at w u s at) _ _ e in
      let h = element_some s at t.0 t.1 in
      let here : at ≡ at + 0 * w = omega (arith, zero-mul w) in
      ap (λ (o : ℕ). is_some (u (take w (drop o s)))) (sym here) ∙ ap (λ (b : List ℕ). is_some (u b)) (sym h.0) ∙ h.1
  all_some (suc m) s at e (suc i) lt =
      let t = went_on (element_at w u s at) _ _ e in
      let there : at + w + i * w ≡ at + suc i * w = omega (arith, suc-mul i w) in
      ap (λ (o : ℕ). is_some (u (take w (drop o s)))) (sym there) ∙ all_some m s (at + w) t.2 i (omega (arith, lt))

  inserted_some : (x : Id × List Pair × Parent × Side) (o : Option K) → is_some o ≡ true → is_some (inserted w u x o) ≡ true
  inserted_some x (Some k) e = refl
  inserted_some x None e = e

  within_some : (r : Raw) (i : ℕ) → i < length_of r → is_some (edit_within w u r i) ≡ true → is_some (edit_at w u r i) ≡ true
  within_some r i lt e = ap (λ (v : Bool). is_some (cond v (edit_within w u r i) None)) (lt-ltb i (length_of r) lt) ∙ e

  -- what a record is read as is whole if each edit within it is there
  whole_by : (r r' : Raw) (n n' : ℕ) → ((i : ℕ) → i < length_of r → is_some (edit_within w u r i) ≡ true) → ◌≡◌ {A = Result (Raw × ℕ) Fault} (Ok (r, n)) (Ok (r', n')) → Whole w u r'
  whole_by r r' n n' h e = subst (Whole w u) (ap (λ (p : Raw × ℕ). p.0) (ok_same e)) (λ i lt. within_some r i lt (h i lt))

  insertion_whole : (s : List ℕ) (at : ℕ) (r : Raw) (end : ℕ) → insertion_at w u s at ≡ Ok (r, end) → Whole w u r
  insertion_whole s at r end e =
      let t = went_on (placement_at s at) _ _ e in
      let o = at + 8 + 3 * length t.0.1 in
      let v = went_on (element_at w u s o) _ _ t.2 in
      whole_by _ r _ end (λ i lt. inserted_some t.0 (u v.0) (element_some s o v.0 v.1).1) v.2

  deletion_whole : (s : List ℕ) (at : ℕ) (r : Raw) (end : ℕ) → deletion_at s at ≡ Ok (r, end) → Whole w u r
  deletion_whole s at r end e = whole_by _ r _ end (λ i lt. refl) (went_on (removal_at s at) _ _ e).2

  -- the bytes of one element among those of all
  one_of : (s : List ℕ) (q m i : ℕ) → i < m → take w (drop (i * w) (take (m * w) (drop q s))) ≡ take w (drop (q + i * w) s)
  one_of s q m i lt =
      let fits : suc i * w ≤ m * w = mul-le-mul_right w (omega arith) in
      let room : w ≤ m * w - i * w = omega (arith, fits, suc-mul i w) in
      let split : m * w ≡ i * w + (m * w - i * w) = omega (arith, fits, suc-mul i w) in
      ap (λ (n : ℕ). take w (drop (i * w) (take n (drop q s)))) split
      ∙ ap (take w) (drop-take (i * w) (m * w - i * w) (drop q s))
      ∙ take-take w (m * w - i * w) (drop (i * w) (drop q s)) room
      ∙ ap (take w) (drop-drop (i * w) q s)

  run_whole : (s : List ℕ) (at : ℕ) (r : Raw) (end : ℕ) → run_at w u s at ≡ Ok (r, end) → Whole w u r
  run_whole s at r end e =
      let t = went_on (placement_at s at) _ _ e in
      let x = t.0 in
      let q = at + 9 + 3 * length x.1 in
      let v = went_on (length_at x.0 s (at + 8 + 3 * length x.1)) _ _ t.2 in
      let m = v.0 in
      let z = went_on (all_at w u m s q) _ _ v.2 in
      whole_by _ r _ end
      (λ i lt. inserted_some (place_in x.0 x.1 x.2 x.3 i) (u (take w (drop (i * w) (take (m * w) (drop q s)))))
      (ap (λ (b : List ℕ). is_some (u b)) (one_of s q m i lt) ∙ all_some m s q z.1 i lt)) z.2

  pub record_whole : (format : Format) (s : List ℕ) (at : ℕ) (r : Raw) (end : ℕ) → record_at w u format s at ≡ Ok (r, end) → Whole w u r
  record_whole format s at r end e =
      let t = went_on (byte_at s at) _ _ e in
      let v = went_on (byte_at s (at + 1)) _ _ t.2 in
      by (insertion_mark t.0 v.0) (deletion_mark t.0 v.0) (has_runs format && run_mark t.0 v.0) v.2
    where
      by : (k l m : Bool) → cond k (insertion_at w u s (at + 2)) (cond l (deletion_at s (at + 2)) (cond m (run_at w u s (at + 2)) (Err (Mark at)))) ≡ Ok (r, end) → Whole w u r
      by true l m e = insertion_whole s (at + 2) r end e
      by false true m e = deletion_whole s (at + 2) r end e
      by false false true e = run_whole s (at + 2) r end e
      by false false false e = absurd (err_ok e)
