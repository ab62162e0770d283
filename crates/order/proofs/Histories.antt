-- What holds of every history: lawful edits, each after all that its clock covers.
use Rattle.std.proofs.Common.{◌≡◌, ℕ, zero, suc, ◌+◌, ◌<◌, ◌≤◌, Bool, ◌⊎◌, List, [], ◌∷◌, ◌++◌, sym, refl, ap, ◌∙◌, inl, inr, arith, eq-eqb, ne_eqb}
use Rattle.std.proofs.lemmas.Bool.{cases_eq, cases_lt}
use Rattle.std.proofs.lemmas.List.{map_push}
use Rattle.edits.specs.declared.id.Id.{Id}
use Rattle.order.specs.Lists.{◌∈◌, ◌∉◌, ◌⊆◌}
use Rattle.order.specs.Edits.{Clock, Edit, Covers, Lawful}
use Rattle.order.specs.Forests.{Forest, nil, apply, grown, tree}
use Rattle.order.specs.Histories.{edit_id, edit_ids, count, Next, History, empty, more}
use Rattle.order.proofs.Ids.{id_eq}
use Rattle.order.proofs.Lists.{in_left, in_last, in_snoc, each_snoc, in_map, of_map, Distinct, distinct_snoc}

module _ {E : Type 0} where
  pub grown_append : (before : Id → Id → Bool) (f : Forest E) (h k : List (Edit E)) → grown before f (h ++ k) ≡ grown before (grown before f h) k
  grown_append before f [] k = refl
  grown_append before f (e ∷ h) k = grown_append before (apply before e f) h k

  pub tree_snoc : (before : Id → Id → Bool) (h : List (Edit E)) (e : Edit E) → tree before (h ++ (e ∷ [])) ≡ apply before e (tree before h)
  tree_snoc before h e = grown_append before nil h (e ∷ [])

  pub in_ids : {e : Edit E} (h : List (Edit E)) → e ∈ h → e.id ∈ edit_ids h
  in_ids h m = in_map edit_id h m

  pub of_ids : (h : List (Edit E)) {a : Id} → a ∈ edit_ids h → (e : Edit E) × (e ∈ h) × (e.id ≡ a)
  of_ids h m = of_map edit_id h m

  pub ids_sub : (h k : List (Edit E)) → h ⊆ k → edit_ids h ⊆ edit_ids k
  ids_sub h k sub a m = let u = of_ids h m in rw⁻¹ u.2 (in_ids k (sub u.0 u.1))

  pub ids_old : (h : List (Edit E)) (e : Edit E) {a : Id} → a ∈ edit_ids h → a ∈ edit_ids (h ++ (e ∷ []))
  ids_old h e {a} m = ids_sub h (h ++ (e ∷ [])) (λ d k. in_left h (e ∷ []) k) a m

  pub ids_snoc : (h : List (Edit E)) (e : Edit E) {a : Id} → a ∈ edit_ids (h ++ (e ∷ [])) → (a ∈ edit_ids h) ⊎ (a ≡ e.id)
  ids_snoc h e {a} m = in_snoc (edit_ids h) e.id (rw⁻¹ (map_push edit_id h e) m)

  -- an edit does not cover itself
  pub not_own : (e : Edit E) → Lawful e → Covers e.clock e.id → ⊥
  not_own e l c = omega arith

  pub lawful_in : {h : List (Edit E)} → History h → (d : Edit E) → d ∈ h → Lawful d
  lawful_in empty = λ d m. elim m [ ]
  lawful_in (more {h} e H l n) = each_snoc Lawful h e (lawful_in H) l

  -- what an edit of the history covers is in the history
  pub covered_in : {h : List (Edit E)} → History h → (d : Edit E) → d ∈ h → (a : Id) → Covers d.clock a → a ∈ edit_ids h
  covered_in empty = λ d m. elim m [ ]
  covered_in (more {h} e H l n) = each_snoc (λ (d : Edit E). (a : Id) → Covers d.clock a → a ∈ edit_ids (h ++ (e ∷ []))) h e
      (λ d m a c. ids_old h e (covered_in H d m a c)) (λ a c. ids_old h e (n.covered a c))

  -- no identifier stands for two
  pub one_each : {h : List (Edit E)} → History h → (c d : Edit E) → c ∈ h → d ∈ h → c.id ≡ d.id → c ≡ d
  one_each empty c d m k p = elim m [ ]
  one_each (more {h} e H l n) c d m k p = go (in_snoc h e m) (in_snoc h e k) (one_each H c d)
    where
      go : (c ∈ h) ⊎ (c ≡ e) → (d ∈ h) ⊎ (d ≡ e) → (c ∈ h → d ∈ h → c.id ≡ d.id → c ≡ d) → c ≡ d
      go (inl i) (inl j) ih = ih i j p
      go (inl i) (inr j) ih = absurd (n.new (rw⁻¹ (p ∙ ap edit_id j) (in_ids h i)))
      go (inr i) (inl j) ih = absurd (n.new (rw⁻¹ (sym p ∙ ap edit_id i) (in_ids h j)))
      go (inr i) (inr j) ih = i ∙ sym j

  -- an edit of a history is in a part of it if its identifier is
  pub in_part : {h k : List (Edit E)} → History h → k ⊆ h → (d : Edit E) → d ∈ h → d.id ∈ edit_ids k → d ∈ k
  in_part {h} {k} H sub d m i = let u = of_ids k i in rw⁻¹ (one_each H u.0 d (sub u.0 u.1) m u.2) u.1

  pub distinct_ids_snoc : (h : List (Edit E)) (e : Edit E) → Distinct (edit_ids h) → e.id ∉ edit_ids h → Distinct (edit_ids (h ++ (e ∷ [])))
  distinct_ids_snoc h e d new = rw (map_push edit_id h e) (distinct_snoc (edit_ids h) e.id d new)

  -- counting
  count_append : (h k : List (Edit E)) (editor : ℕ) → count (h ++ k) editor ≡ count h editor + count k editor
  count_append [] k editor = omega arith
  count_append (e ∷ h) k editor = omega (arith, count_append h k editor)

  pub count_own : (h : List (Edit E)) (e : Edit E) → count (h ++ (e ∷ [])) e.id.editor ≡ suc (count h e.id.editor)
  count_own h e = let s = count_append h (e ∷ []) e.id.editor in
      let one : count (e ∷ []) e.id.editor ≡ 1 = rw (eq-eqb e.id.editor e.id.editor refl) (omega arith) in
      omega arith

  pub count_other : (h : List (Edit E)) (e : Edit E) (editor : ℕ) → (e.id.editor ≡ editor → ⊥) → count (h ++ (e ∷ [])) editor ≡ count h editor
  count_other h e editor ne = let s = count_append h (e ∷ []) editor in
      let none : count (e ∷ []) editor ≡ 0 = rw (ne_eqb e.id.editor editor ne) (omega arith) in
      omega arith

  pub count_grows : (h : List (Edit E)) (e : Edit E) (editor : ℕ) → count h editor ≤ count (h ++ (e ∷ [])) editor
  count_grows h e editor = omega (arith, count_append h (e ∷ []) editor)

  -- the edits of each editor in a history are numbered from 1 to their count
  pub record Counted (h : List (Edit E)) : Type 0 where
    pub within : (a : Id) → a ∈ edit_ids h → Covers (count h) a
    pub full : (a : Id) → Covers (count h) a → a ∈ edit_ids h

  -- a clock whose edits are all there counts no more
  pub clock_within : {h : List (Edit E)} → Counted h → (clock : Clock) → ((a : Id) → Covers clock a → a ∈ edit_ids h) → (editor : ℕ) → clock editor ≤ count h editor
  clock_within {h} C clock all editor = go (clock editor) refl
    where
      go : (c : ℕ) → clock editor ≡ c → c ≤ count h editor
      go zero p = omega arith
      go (suc c) p = let a : Id = record { editor = editor; number = suc c } in (C.within a (all a (omega arith))).1

  pub next_number : {h : List (Edit E)} → Counted h → (e : Edit E) → Lawful e → Next h e → e.id.number ≡ suc (count h e.id.editor)
  next_number {h} C e l n = elim (cases_lt (count h e.id.editor) e.id.number) [
    | inl gt ↦ omega (arith, l.own, clock_within C e.clock n.covered e.id.editor)
    | inr le ↦ absurd (n.new (C.full e.id (omega (arith, l.own), le)))
  ]

  counted_more : {h : List (Edit E)} → Counted h → (e : Edit E) → e.id.number ≡ suc (count h e.id.editor) → Counted (h ++ (e ∷ []))
  counted_more {h} C e num = record { within = λ a m. low a (ids_snoc h e m); full = λ a c. high a c (cases_eq e.id.editor a.editor) }
    where
      low : (a : Id) → (a ∈ edit_ids h) ⊎ (a ≡ e.id) → Covers (count (h ++ (e ∷ []))) a
      low a (inl m) = omega (arith, C.within a m, count_grows h e a.editor)
      low a (inr p) = rw p (omega (arith, count_own h e))

      last : (a : Id) → Covers (count (h ++ (e ∷ []))) a → e.id.editor ≡ a.editor
          → (count h a.editor < a.number) ⊎ (a.number ≤ count h a.editor) → a ∈ edit_ids (h ++ (e ∷ []))
      last a c p (inr le) = ids_old h e (C.full a (c.0, le))
      last a c p (inl gt) = rw⁻¹ (id_eq e.id a p same_number) (in_ids (h ++ (e ∷ [])) (in_last h e))
        where
          same_number : e.id.number ≡ a.number
          same_number = let o = count_own h e in
              let c₁ : count (h ++ (e ∷ [])) e.id.editor ≡ count (h ++ (e ∷ [])) a.editor = ap (count (h ++ (e ∷ []))) p in
              let c₂ : count h e.id.editor ≡ count h a.editor = ap (count h) p in
              omega arith

      high : (a : Id) → Covers (count (h ++ (e ∷ []))) a → (e.id.editor ≡ a.editor) ⊎ (e.id.editor ≡ a.editor → ⊥) → a ∈ edit_ids (h ++ (e ∷ []))
      high a c (inl p) = last a c p (cases_lt (count h a.editor) a.number)
      high a c (inr ne) = ids_old h e (C.full a (c.0, omega (arith, c.1, count_other h e a.editor ne)))

  pub counted : {h : List (Edit E)} → History h → Counted h
  counted empty = record { within = λ a m. elim m [ ]; full = λ a c. absurd (none a c.0 c.1) }
    where
      none : (a : Id) → 1 ≤ a.number → a.number ≤ 0 → ⊥
      none a l u = omega arith
  counted (more e H l n) = let C = counted H in counted_more C e (next_number C e l n)

  -- a part of a history counts no more
  pub count_part : {h k : List (Edit E)} → Counted h → Counted k → edit_ids h ⊆ edit_ids k → (editor : ℕ) → count h editor ≤ count k editor
  count_part {h} {k} C D sub = clock_within D (count h) (λ a c. sub a (C.full a c))
