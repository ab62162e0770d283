-- One replica, given any edits: its document is the tree of exactly the applied edits.
use Rattle.std.proofs.Common.{◌≡◌, ℕ, zero, suc, ◌+◌, ◌<◌, ◌≤◌, Bool, false, ltb, leb, ◌⊎◌, List, [], ◌∷◌, ◌++◌, length, Some, None, Option, sym, refl, ap, ◌∙◌, inl, inr, arith, ltb-false, leb-false}
use Rattle.std.proofs.lemmas.List.{length_push}
use Rattle.std.proofs.lemmas.Bool.{cases_eq, both_ways}
use Rattle.std.proofs.Math.Path.{fun_ext}
use Rattle.edits.specs.declared.id.Id.{Id}
use Rattle.edits.specs.declared.fault.Fault.{Fault}
use Rattle.order.specs.Lists.{◌∈◌, ◌⊆◌}
use Rattle.order.specs.Edits.{Clock, Edit, Covers}
use Rattle.order.specs.Forests.{visible, apply, tree}
use Rattle.order.specs.Histories.{count, History, empty, more}
use Rattle.order.specs.Systems.{Making, insertion_made, deletion_made}
use Rattle.order.specs.Theorems.{PutAt, HiddenAt}
use Rattle.order.proofs.Lists.{in_left, in_last, each_snoc}
use Rattle.order.proofs.Histories.{tree_snoc, in_ids, of_ids, count_own, count_other}
use Rattle.order.proofs.Making.{inserts_at, deletes_at}
use Rattle.runs.specs.Replicas.{Editor, Replica, new, own_roster, own, own_waits, used_up, next_id, full, no_insert, no_delete, own_insertion, own_deletion, edited, commit, insert, delete}
use Rattle.runs.specs.Promises.{total, Applied, applies, Rostered, Document, Fed, unused, takes_in, makes_insertion, makes_deletion, KeptAlone}
use Rattle.runs.proofs.Tests.{Allowed, allowed_by}
use Rattle.runs.proofs.Sound.{Sound, Settled, covered_ready}
use Rattle.runs.proofs.Calls.{takes, own_is, insertion_is, deletion_is, insert_edits, delete_edits}
use Rattle.runs.proofs.Rosters.{new_rostered, takes_rostered, commit_rostered}

-- outside 1 to n nothing is added
total_same : {E : Type 0} (n : ℕ) (h : List (Edit E)) (e : Edit E) → n < e.id.editor → total n (count (h ++ (e ∷ []))) ≡ total n (count h)
unfolding total
total_same zero h e l = refl
total_same (suc n) h e l = omega (arith, total_same n h e (omega arith), count_other h e (suc n) (λ p. omega arith))

total_more : {E : Type 0} (n : ℕ) (h : List (Edit E)) (e : Edit E) → 1 ≤ e.id.editor → e.id.editor ≤ n → total n (count (h ++ (e ∷ []))) ≡ suc (total n (count h))
unfolding total
total_more zero h e l u = absurd (omega arith)
total_more (suc n) h e l u = go (cases_eq e.id.editor (suc n)) (total_more n h e l)
  where
    go : (e.id.editor ≡ suc n) ⊎ (e.id.editor ≡ suc n → ⊥)
        → (e.id.editor ≤ n → total n (count (h ++ (e ∷ []))) ≡ suc (total n (count h)))
        → count (h ++ (e ∷ [])) (suc n) + total n (count (h ++ (e ∷ []))) ≡ suc (count h (suc n) + total n (count h))
    go (inl p) ih =
        let o : count (h ++ (e ∷ [])) (suc n) ≡ suc (count h (suc n)) = rw⁻¹ p (count_own h e) in
        omega (arith, total_same n h e (omega arith))
    go (inr ne) ih = omega (arith, count_other h e (suc n) ne, ih (omega arith))

total_none : (n : ℕ) → total n (λ i. 0) ≡ 0
unfolding total
total_none zero = refl
total_none (suc n) = omega (arith, total_none n)

-- a clock adds up to the number of edits that it counts
total_length : {E : Type 0} {h : List (Edit E)} → History h → ((e : Edit E) → e ∈ h → Editor e.id.editor) → total 255 (count h) ≡ length h
total_length empty ed = total_none 255
total_length (more {h} e H l n) ed = let o = ed e (in_last h e) in
    omega (arith, length_push h e, total_more 255 h e o.0 o.1, total_length H (λ d m. ed d (in_left h (e ∷ []) m)))

module _ {E : Type 0} where
  -- an edit of a history is applied wherever the whole history was accepted
  pub history_applied : {log : List (Edit E)} → History log → (acc : List (Edit E)) → log ⊆ acc → (e : Edit E) → e ∈ log → Applied acc e
  history_applied empty acc sub = λ e m. elim m [ ]
  history_applied (more {h} d H l n) acc sub = let old : (e : Edit E) → e ∈ h → Applied acc e = history_applied H acc (λ c k. sub c (in_left h (d ∷ []) k)) in
      each_snoc (Applied acc) h d old
      (applies d (sub d (in_last h d)) (λ a c. (of_ids h (n.covered a c)).0) (λ a c. (of_ids h (n.covered a c)).2) (λ a c. old _ (of_ids h (n.covered a c)).1))

  module _ {before : Id → Id → Bool} {r : Replica E} {acc log : List (Edit E)} (S : Sound before r acc log) (rest : Settled r) where
    pub in_log : {e : Edit E} → Applied acc e → e ∈ log
    in_log (applies e m of same_id known) = go ((S.accepted e).0 m) (λ a c. in_log (known a c))
      where
        go : (e ∈ log) ⊎ (e ∈ r.shelf) → ((a : Id) (c : Covers e.clock a) → of a c ∈ log) → e ∈ log
        go (inl k) ih = k
        go (inr k) ih = absurd (both_ways _ (rest e k) (covered_ready S e (λ a c. rw⁻¹ (same_id a c) (in_ids log (ih a c)))))

    pub log_applied : (e : Edit E) → e ∈ log → Applied acc e
    log_applied = history_applied S.history acc (λ e m. (S.accepted e).1 (inl m))

    pub document : Rostered r acc → Document before r acc
    document on_roster = record {
      log = log;
      history = S.history;
      exactly = λ e. (log_applied e, in_log);
      forest = S.forest;
      clock = λ i. ap (λ (f : Clock). f i) S.clock;
      shelf = λ e. ((λ m. ((S.accepted e).1 (inr m), λ a. (S.waiting e m).1 (in_ids log (in_log a)))), λ u. left e u.1 ((S.accepted e).0 u.0));
      waiting = rest;
      slots = S.slots;
      room = S.room;
      editors = S.editors;
      roster = on_roster;
    }
      where
        left : (e : Edit E) → (Applied acc e → ⊥) → (e ∈ log) ⊎ (e ∈ r.shelf) → e ∈ r.shelf
        left e out (inl k) = absurd (out (log_applied e k))
        left e out (inr k) = k

  -- a reply that is no refusal: the tests let the edit pass, and it is the own edit
  passed : (before : Id → Id → Bool) (r : Replica E) (own m : Making E) (n : ℕ) (used no_index slotless : Bool) (o : Option Fault) → Allowed (own_waits r) used no_index slotless o
      → (commit before o own r).1 ≡ edited m n → (own ≡ m) × (no_index ≡ false)
  passed before r own m n used no_index slotless (Some f) a q = absurd (cc)
  passed before r own m n used no_index slotless None a q = (cc, a.2)

  module _ {before : Id → Id → Bool} {r : Replica E} {acc log : List (Edit E)} (S : Sound before r acc log) (i : ℕ) (ed : Editor i) (owner : r.editor ≡ Some i) where
    pub puts_at : (k n : ℕ) (x : E) (m : Making E) → (insert before k x r).1 ≡ edited m n → (own_insertion k x r ≡ m) × (k ≤ length (visible r.forest)) × PutAt k m.edit.id x r.forest (apply before m.edit r.forest)
    puts_at k n x m q = (
      u.0,
      ltb-false (length (visible r.forest)) k u.1,
      rw⁻¹ (sym (insertion_is S i ed owner k x) ∙ u.0) (rw S.forest (ap visible (sym (tree_snoc before log (insertion_made before i log k x).edit)) ∙ inserts_at before S.history i k x le)),
    )
      where
        u : (own_insertion k x r ≡ m) × (ltb (length (visible r.forest)) k ≡ false)
        u = passed before r (own_insertion k x r) m n (used_up r) (ltb (length (visible r.forest)) k) (full r) (no_insert k r)
            (allowed_by (next_id r) (own_waits r) (used_up r) (ltb (length (visible r.forest)) k) (full r)) q

        le : k ≤ length (visible (tree before log))
        le = rw⁻¹ S.forest (ltb-false (length (visible r.forest)) k u.1)

    pub hides_at : (k n : ℕ) (m : Making E) → (delete before k r).1 ≡ edited m n → (own_deletion k r ≡ m) × (k < length (visible r.forest)) × HiddenAt k r.forest (apply before m.edit r.forest)
    hides_at k n m q = (
      u.0,
      leb-false (length (visible r.forest)) k u.1,
      rw⁻¹ (sym (deletion_is S i ed owner k) ∙ u.0) (rw S.forest (ap visible (sym (tree_snoc before log (deletion_made before i log k).edit)) ∙ deletes_at before S.history i k lt)),
    )
      where
        u : (own_deletion k r ≡ m) × (leb (length (visible r.forest)) k ≡ false)
        u = passed before r (own_deletion k r) m n (used_up r) (leb (length (visible r.forest)) k) false (no_delete k r)
            (allowed_by (next_id r) (own_waits r) (used_up r) (leb (length (visible r.forest)) k) false) q

        lt : k < length (visible (tree before log))
        lt = rw⁻¹ S.forest (leb-false (length (visible r.forest)) k u.1)

  pub new_sound : (before : Id → Id → Bool) (editor : Option ℕ) (slots room : ℕ) → Sound {E = E} before (new editor slots room) [] []
  new_sound before editor slots room = record {
    history = empty;
    forest = refl;
    clock = fun_ext (λ i. refl);
    makers = λ e m. elim m [ ];
    waiting = λ e m. elim m [ ];
    apart = tt;
    accepted = λ e. ((λ m. elim m [ ]), λ m. elim m [ inl k ↦ k | inr k ↦ k ]);
    sizes = refl;
    slots = omega arith;
    room = omega arith;
    editors = few editor;
  }
    where
      few : (o : Option ℕ) → length (own_roster o) ≤ 16
      few None = omega arith
      few (Some i) = omega arith

  -- a replica that was given any edits is sound
  record Fine (before : Id → Id → Bool) (r : Replica E) (acc : List (Edit E)) : Type 0 where
    log : List (Edit E)
    sound : Sound before r acc log
    settled : Settled r
    roster : Rostered r acc

  -- the editor of an own edit
  own_of : (r : Replica E) (i : ℕ) → r.editor ≡ Some i → r.editor ≡ Some (own r)
  own_of r i owner = owner ∙ ap Some (sym (own_is r i owner))

  fine : {before : Id → Id → Bool} {r : Replica E} {acc : List (Edit E)} → Fed before r acc → Fine before r acc
  fine {before} (unused editor slots room) = record { log = []; sound = new_sound before editor slots room; settled = λ e m. elim m [ ]; roster = new_rostered editor slots room }
  fine {before} (takes_in {r = r} {accepted = accepted} e s f) = let F = fine f in let T = takes F.sound F.settled e s in
      record { log = T.after.now; sound = T.after.sound; settled = T.settled; roster = takes_rostered before e r accepted F.roster }
  fine {before} (makes_insertion {r = r} i k x ed owner f) = let F = fine f in let T = insert_edits F.sound i ed owner F.settled k x in
      record { log = T.after.now; sound = T.after.sound; settled = T.settled; roster = commit_rostered before (no_insert k r) (own_insertion k x r) r _ (own_of r i owner) F.roster }
  fine {before} (makes_deletion {r = r} i k ed owner f) = let F = fine f in let T = delete_edits F.sound i ed owner F.settled k in
      record { log = T.after.now; sound = T.after.sound; settled = T.settled; roster = commit_rostered before (no_delete k r) (own_deletion k r) r _ (own_of r i owner) F.roster }

  -- the clock adds up to the number of applied edits
  sum_applied : {before : Id → Id → Bool} {r : Replica E} {acc log : List (Edit E)} → Sound before r acc log → total 255 r.clock ≡ length log
  sum_applied S = ap (total 255) S.clock ∙ total_length S.history S.makers

  sum_grows : {before : Id → Id → Bool} {r r' : Replica E} {acc acc' log log' : List (Edit E)} (n : ℕ) → Sound before r acc log → Sound before r' acc' log'
      → length log' ≡ length log + n → total 255 r'.clock ≡ total 255 r.clock + n
  sum_grows n S S' grows = sum_applied S' ∙ grows ∙ ap (λ (m : ℕ). m + n) (sym (sum_applied S))

pub kept_alone : {E : Type 0} {before : Id → Id → Bool} {r : Replica E} {acc : List (Edit E)} → Fed before r acc → KeptAlone before r acc
kept_alone fed = let F = fine fed in record {
  document = document F.sound F.settled F.roster;
  grows = λ e s n q. let T = takes F.sound F.settled e s in sum_grows n F.sound T.after.sound (T.grows n q);
  insert_grows = λ i k n x m ed owner q. let T = insert_edits F.sound i ed owner F.settled k x in sum_grows n F.sound T.after.sound (T.grows m n q);
  delete_grows = λ i k n m ed owner q. let T = delete_edits F.sound i ed owner F.settled k in sum_grows n F.sound T.after.sound (T.grows m n q);
  inserted = λ i k n x m ed owner q. let u = puts_at F.sound i ed owner k n x m q in (u.1, u.2);
  deleted = λ i k n m ed owner q. let u = hides_at F.sound i ed owner k n m q in (u.1, u.2);
}
