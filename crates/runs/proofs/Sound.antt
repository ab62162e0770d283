-- What every call at one replica keeps, whatever edits come in.
use Rattle.std.proofs.Common.{◌≡◌, ℕ, zero, suc, ◌+◌, ◌≤◌, Bool, true, false, leb, ◌⊎◌, ◌↔◌, List, [], ◌∷◌, ◌++◌, length, sym, ap, ◌∙◌, subst, inl, inr, arith, leb-false}
use Rattle.std.proofs.lemmas.Bool.{both_ways, or_parts}
use Rattle.std.proofs.Math.Logic.{⊎_map}
use Rattle.std.proofs.Math.Path.{fun_ext}
use Rattle.std.proofs.lemmas.List.{length_push, length-map, nil_from_length}
use Rattle.edits.specs.declared.id.Id.{Id}
use Rattle.edits.specs.declared.edit.Parent.TheVariants as parent
use Rattle.edits.specs.Ids.{same}
use Rattle.order.specs.Lists.{◌∈◌, ◌∉◌, keep}
use Rattle.order.specs.Edits.{Clock, Change, insertion, deletion, Edit, Covers, is_insertion}
use Rattle.order.specs.Forests.{Entry, read, hide, apply, tree}
use Rattle.order.specs.Histories.{edit_ids, count, Next, History, more}
use Rattle.order.proofs.Ids.{eq_same}
use Rattle.order.proofs.Lists.{any_false, in_left, in_last, each_snoc, sub_snoc, Distinct, at_each}
use Rattle.order.proofs.Growing.{Effect, grew_length, effect}
use Rattle.order.proofs.Histories.{tree_snoc, in_ids, of_ids, ids_snoc, count_own, count_other, counted, clock_within, next_number}
use Rattle.order.proofs.Entries.{entries}
use Rattle.runs.specs.Replicas.{Editor, most_editors, Replica, with_shelf, inserts, waits, is_known, ready, Pick, nothing, picked, pick, applied, go_on, release}
use Rattle.runs.specs.Promises.{SoundEdit}
use Rattle.runs.proofs.Tests.{within_each, each_within, one_if, Picked, Picks, picks}

module _ {E : Type 0} where
  -- the log grows by edits of a kind, each of which can be applied next
  pub data Onward (P : Edit E → Type 0) (log : List (Edit E)) : List (Edit E) → Type 0 where
    stays : Onward P log log
    on : {k : List (Edit E)} (e : Edit E) → Onward P log k → P e → Next k e → Onward P log (k ++ (e ∷ []))

  pub first_on : {P : Edit E → Type 0} {log : List (Edit E)} (e : Edit E) {k : List (Edit E)} → P e → Next log e → Onward P (log ++ (e ∷ [])) k → Onward P log k
  first_on e p n stays = on e stays p n
  first_on e p n (on d o q m) = on d (first_on e p n o) q m

  pub on_as : {P Q : Edit E → Type 0} → ((e : Edit E) → P e → Q e) → {log k : List (Edit E)} → Onward P log k → Onward Q log k
  on_as f stays = stays
  on_as f (on e o p n) = on e (on_as f o) (f e p) n

  -- a change puts in one entry at most
  effect_length : (a : Id) (c : Change E) (xs ys : List (Entry E)) → Effect a c xs ys → length ys ≤ length xs + one_if (is_insertion c)
  effect_length a (insertion parent.Start s x) xs ys g = omega (arith, grew_length g)
  effect_length a (insertion (parent.Entry p) s x) xs ys (inl u) = let l : length ys ≡ length xs = ap length u.0 in omega arith
  effect_length a (insertion (parent.Entry p) s x) xs ys (inr u) = omega (arith, grew_length u.0)
  effect_length a (deletion t) xs ys u = let l : length ys ≡ length xs = ap length u ∙ length-map xs (hide t) in omega arith

  -- what the replica r holds that has accepted acc, and has applied log in this order
  pub record Sound (before : Id → Id → Bool) (r : Replica E) (acc log : List (Edit E)) : Type 0 where
    pub history : History log
    pub forest : r.forest ≡ tree before log
    pub clock : r.clock ≡ count log
    pub makers : (e : Edit E) → e ∈ log → Editor e.id.editor
    pub waiting : (e : Edit E) → e ∈ r.shelf → SoundEdit e × (e.id ∉ edit_ids log)
    pub apart : Distinct (edit_ids r.shelf)
    pub accepted : (e : Edit E) → (e ∈ acc) ↔ ((e ∈ log) ⊎ (e ∈ r.shelf))
    pub sizes : length log + length r.shelf ≡ length acc
    pub slots : length (read r.forest) + length (keep inserts r.shelf) ≤ r.slots
    pub room : length r.shelf ≤ r.room
    pub editors : length r.roster ≤ most_editors

  -- no waiting edit is ready
  abbrev pub Settled : Replica E → Type 0
  Settled r = (e : Edit E) → e ∈ r.shelf → ready r e ≡ false

  module _ {before : Id → Id → Bool} {r : Replica E} {acc log : List (Edit E)} (S : Sound before r acc log) where
    count_clock : (i : ℕ) → r.clock i ≡ count log i
    count_clock i = ap (λ (f : Clock). f i) S.clock

    -- a ready edit can be applied next
    pub ready_next : (e : Edit E) → SoundEdit e → e.id ∉ edit_ids log → ready r e ≡ true → Next log e
    ready_next e s new t = record { new = new; covered = λ a c. (counted S.history).full a (c.0, below a c) }
      where
        below : (a : Id) → Covers e.clock a → a.number ≤ count log a.editor
        below a c = let ed = s.counts a.editor (omega arith) in
            let le = within_each 255 e.clock r.clock t a.editor ed.0 ed.1 in
            let q = count_clock a.editor in
            omega arith

    -- an edit is ready when everything that it covers is applied
    pub covered_ready : (e : Edit E) → ((a : Id) → Covers e.clock a → a ∈ edit_ids log) → ready r e ≡ true
    covered_ready e all = each_within 255 e.clock r.clock (λ i l u. omega (arith, clock_within (counted S.history) e.clock all i, count_clock i))

    -- an edit that is not known is neither applied nor waiting
    pub unknown_new : (e : Edit E) → is_known r e.id ≡ false → (e.id ∉ edit_ids log) × (e.id ∉ edit_ids r.shelf)
    unknown_new e t = ((λ m. not_applied ((counted S.history).within e.id m)), λ m. not_waiting (of_ids r.shelf m))
      where
        both : (leb e.id.number (r.clock e.id.editor) ≡ false) × (waits r e.id ≡ false)
        both = or_parts (leb e.id.number (r.clock e.id.editor)) (waits r e.id) t

        not_applied : Covers (count log) e.id → ⊥
        not_applied c = omega (arith, leb-false e.id.number (r.clock e.id.editor) both.0, count_clock e.id.editor)

        not_waiting : (d : Edit E) × (d ∈ r.shelf) × (d.id ≡ e.id) → ⊥
        not_waiting u = both_ways _ (any_false (λ (d : Edit E). same d.id e.id) r.shelf both.1 u.0 u.1) (eq_same u.0.id e.id u.2)

    -- e is applied, and others are left on the shelf
    apply_one : (e : Edit E) (others acc' : List (Edit E)) → SoundEdit e → Next log e
        → ((d : Edit E) → d ∈ others → d ∈ r.shelf) → Distinct (edit_ids others) → e.id ∉ edit_ids others
        → ((d : Edit E) → (d ∈ acc') ↔ ((d ∈ (log ++ (e ∷ []))) ⊎ (d ∈ others)))
        → suc (length log) + length others ≡ length acc'
        → length (read r.forest) + (one_if (inserts e) + length (keep inserts others)) ≤ r.slots → length others ≤ r.room
        → Sound before (applied before e (with_shelf others r)) acc' (log ++ (e ∷ []))
    apply_one e others acc' s n sub apart out same-acc sizes slot few = record {
      history = more e S.history s.lawful n;
      forest = ap (apply before e) S.forest ∙ sym (tree_snoc before log e);
      clock = fun_ext (at_each (λ i k. k ≡ count (log ++ (e ∷ [])) i) r.clock e.id.editor e.id.number
          (next_number (counted S.history) e s.lawful n ∙ sym (count_own log e)) (λ j ne. count_clock j ∙ sym (count_other log e j (λ p. ne (sym p)))));
      makers = each_snoc (λ (d : Edit E). Editor d.id.editor) log e S.makers s.maker;
      waiting = λ d m. ((S.waiting d (sub d m)).0, λ k. not_there d m (ids_snoc log e k));
      apart = apart;
      accepted = same-acc;
      sizes = omega (arith, length_push log e);
      slots = omega (arith, effect_length e.id e.change (read r.forest) (read (apply before e r.forest)) grown);
      room = few;
      editors = S.editors;
    }
      where
        grown : Effect e.id e.change (read r.forest) (read (apply before e r.forest))
        grown = effect before e.id e.change r.forest (rw S.forest (entries before S.history).distinct)

        not_there : (d : Edit E) → d ∈ others → (d.id ∈ edit_ids log) ⊎ (d.id ≡ e.id) → ⊥
        not_there d m (inl k) = (S.waiting d (sub d m)).1 k
        not_there d m (inr p) = out (rw⁻¹ p (in_ids others m))

    -- a new edit is applied
    pub apply_new : (e : Edit E) → SoundEdit e → Next log e → e.id ∉ edit_ids r.shelf
        → length (read r.forest) + (one_if (inserts e) + length (keep inserts r.shelf)) ≤ r.slots
        → Sound before (applied before e r) (acc ++ (e ∷ [])) (log ++ (e ∷ []))
    apply_new e s n out slot = apply_one e r.shelf (acc ++ (e ∷ [])) s n (λ d m. m) S.apart out (λ d. (there_now d, back d))
        (omega (arith, length_push acc e)) slot S.room
      where
        there_now : (d : Edit E) → d ∈ (acc ++ (e ∷ [])) → (d ∈ (log ++ (e ∷ []))) ⊎ (d ∈ r.shelf)
        there_now = each_snoc (λ (d : Edit E). (d ∈ (log ++ (e ∷ []))) ⊎ (d ∈ r.shelf)) acc e
            (λ d k. ⊎_map (λ i. in_left log (e ∷ []) i) (λ i. i) ((S.accepted d).0 k)) (inl (in_last log e))

        back : (d : Edit E) → (d ∈ (log ++ (e ∷ []))) ⊎ (d ∈ r.shelf) → d ∈ (acc ++ (e ∷ []))
        back d (inr k) = in_left acc (e ∷ []) ((S.accepted d).1 (inr k))
        back d (inl m) = sub_snoc (λ b k. in_left acc (e ∷ []) ((S.accepted b).1 (inl k))) (in_last acc e) d m

    -- a waiting edit that is ready leaves the shelf
    pub apply_waiting : (e : Edit E) (others : List (Edit E)) → Picked (ready r) r.shelf e others
        → Next log e × Sound before (applied before e (with_shelf others r)) acc (log ++ (e ∷ []))
    apply_waiting e others k = (
      n,
      apply_one e others acc W.0 n k.sub (k.apart S.apart).0 (k.apart S.apart).1 (λ d. (there_now d, back d))
          (omega arith)
          (omega arith)
          (omega arith),
    )
      where
        W : SoundEdit e × (e.id ∉ edit_ids log)
        W = S.waiting e k.member

        n : Next log e
        n = ready_next e W.0 W.1 k.passes

        there_now : (d : Edit E) → d ∈ acc → (d ∈ (log ++ (e ∷ []))) ⊎ (d ∈ others)
        there_now d m = go ((S.accepted d).0 m)
          where
            left : (d ≡ e) ⊎ (d ∈ others) → (d ∈ (log ++ (e ∷ []))) ⊎ (d ∈ others)
            left (inl p) = inl (rw p (in_last log e))
            left (inr j) = inr j

            go : (d ∈ log) ⊎ (d ∈ r.shelf) → (d ∈ (log ++ (e ∷ []))) ⊎ (d ∈ others)
            go (inl j) = inl (in_left log (e ∷ []) j)
            go (inr j) = left (k.rest d j)

        back : (d : Edit E) → (d ∈ (log ++ (e ∷ []))) ⊎ (d ∈ others) → d ∈ acc
        back d (inr j) = (S.accepted d).1 (inr (k.sub d j))
        back d (inl m) = sub_snoc (λ b j. (S.accepted b).1 (inl j)) ((S.accepted e).1 (inr k.member)) d m

  -- a replica after a call: what it has applied then
  pub record After (before : Id → Id → Bool) (log : List (Edit E)) (r : Replica E) (acc : List (Edit E)) : Type 0 where
    pub now : List (Edit E)
    pub onward : Onward (λ (e : Edit E). e ∈ acc) log now
    pub sound : Sound before r acc now

  pub released : {before : Id → Id → Bool} (n : ℕ) (r : Replica E) (acc log : List (Edit E)) → Sound before r acc log → After before log (release before n r) acc
  released zero r acc log S = record { now = log; onward = stays; sound = S }
  released {before} (suc n) r acc log S = go (pick (ready r) r.shelf) (picks (ready r) r.shelf) (released n)
    where
      go : (k : Pick E) → Picks (ready r) r.shelf k
          → ((r' : Replica E) (acc' log' : List (Edit E)) → Sound before r' acc' log' → After before log' (release before n r') acc')
          → After before log (go_on before k r (release before n)) acc
      go nothing k ih = record { now = log; onward = stays; sound = S }
      go (picked e others) k ih = let u = apply_waiting S e others k in
          let A = ih (applied before e (with_shelf others r)) acc (log ++ (e ∷ [])) u.1 in
          record { now = A.now; onward = first_on e ((S.accepted e).1 (inr k.member)) u.0 A.onward; sound = A.sound }

  -- after as many releases as there are waiting edits none is ready
  pub release_settles : (before : Id → Id → Bool) (n : ℕ) (r : Replica E) → length r.shelf ≤ n → Settled (release before n r)
  release_settles before zero r le = λ e m. elim (subst (λ (l : List (Edit E)). e ∈ l) (nil_from_length r.shelf (omega arith)) m) [ ]
  release_settles before (suc n) r le = go (pick (ready r) r.shelf) (picks (ready r) r.shelf) (release_settles before n)
    where
      go : (k : Pick E) → Picks (ready r) r.shelf k → ((r' : Replica E) → length r'.shelf ≤ n → Settled (release before n r')) → Settled (go_on before k r (release before n))
      go nothing k ih = k
      go (picked e others) k ih = ih (applied before e (with_shelf others r)) (omega arith)

  -- the shelf does not grow
  pub release_fewer : (before : Id → Id → Bool) (n : ℕ) (r : Replica E) → length (release before n r).shelf ≤ length r.shelf
  release_fewer before zero r = omega arith
  release_fewer before (suc n) r = go (pick (ready r) r.shelf) (picks (ready r) r.shelf) (release_fewer before n)
    where
      go : (k : Pick E) → Picks (ready r) r.shelf k → ((r' : Replica E) → length (release before n r').shelf ≤ length r'.shelf)
          → length (go_on before k r (release before n)).shelf ≤ length r.shelf
      go nothing k ih = omega arith
      go (picked e others) k ih = omega (arith, ih (applied before e (with_shelf others r)))
