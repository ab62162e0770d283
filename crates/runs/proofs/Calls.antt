-- Taking in, inserting and deleting keep a replica sound.
use Rattle.std.proofs.Common.{◌≡◌, ℕ, suc, ◌+◌, ◌<◌, ◌≤◌, Bool, true, false, cond, not, ◌&&◌, eqb, ltb, leb, ◌⊎◌, List, [], ◌∷◌, ◌++◌, length, Some, None, Option, sym, refl, ap, ◌∙◌, subst, inl, inr, append-nil, arith, length-append, eq-eqb, leb-false}
use Rattle.std.proofs.lemmas.List.{length_push}
use Rattle.std.proofs.lemmas.Bool.{both_ways}
use Rattle.std.proofs.Math.Logic.{⊎_map}
use Rattle.edits.specs.declared.id.Id.{Id}
use Rattle.edits.specs.declared.edit.Parent.TheVariants.{Start}
use Rattle.edits.specs.declared.fault.Fault.{Fault}
use Rattle.order.specs.Lists.{◌∈◌, ◌∉◌, keep}
use Rattle.order.specs.Edits.{Change, Edit, Lawful}
use Rattle.order.specs.Forests.{Forest, read, visible, tree}
use Rattle.order.specs.Placing.{left_neighbour, follower, insertion_at, deletion_at}
use Rattle.order.specs.Histories.{edit_ids, Next}
use Rattle.order.specs.Systems.{Making, edits_of, new_edit, insertion_made, deletion_made}
use Rattle.order.proofs.Lists.{any_false, in_left, in_last, each_snoc, sub_snoc, keep_append}
use Rattle.order.proofs.Histories.{of_ids, counted, distinct_ids_snoc}
use Rattle.order.proofs.Making.{insertion_lawful, deletion_lawful, new_next}
use Rattle.runs.specs.Replicas.{Editor, most_editors, Replica, new, placed, with_shelf, inserts, is_known, ready, listed, full, enrolled, Verdict, knows, refuses, applies, shelves, Answer, known, refused, taken, Reply, edited, verdict, own, own_waits, used_up, next_id, no_insert, no_delete, own_insertion, own_deletion, applied, settled, applied_with, judge, take_in, commit, insert, delete}
use Rattle.runs.specs.Promises.{SoundEdit, accepted_by}
use Rattle.runs.specs.Worlds.{made_by}
use Rattle.runs.proofs.Tests.{placed_length, one_if, keep_length, Judged, judged_by, Allowed, allowed_by}
use Rattle.runs.proofs.Sound.{stays, first_on, Sound, Settled, ready_next, unknown_new, apply_new, After, released, release_settles, release_fewer}

-- the slots suffice for an edit that passed the test
slot_left : {E : Type 0} (r : Replica E) (e : Edit E) → (inserts e && full r) ≡ false → length (read r.forest) + length (keep inserts r.shelf) ≤ r.slots
    → length (read r.forest) + (one_if (inserts e) + length (keep inserts r.shelf)) ≤ r.slots
slot_left r e t le = go (inserts e) t
  where
    go : (b : Bool) → (b && full r) ≡ false → length (read r.forest) + (one_if b + length (keep inserts r.shelf)) ≤ r.slots
    go true u = omega (arith, leb-false r.slots (length (read r.forest) + length (keep inserts r.shelf)) u)
    go false u = omega arith

pub own_is : {E : Type 0} (r : Replica E) (i : ℕ) → r.editor ≡ Some i → own r ≡ i
own_is r i owner = rw owner refl

module _ {E : Type 0} (before : Id → Id → Bool) where
  pub settles : (e : Edit E) (r : Replica E) → Settled (settled before e r)
  settles e r = release_settles before (length r.shelf) (applied before e r) (omega arith)

  -- one is applied with what left the shelf
  growth : {r : Replica E} {acc log : List (Edit E)} (e : Edit E) → Sound before r acc log → (A : After before (log ++ (e ∷ [])) (settled before e r) (acc ++ (e ∷ [])))
      → length A.now ≡ length log + applied_with before e r
  growth {r} {acc} e S A = omega (arith, length_push acc e, release_fewer before (length r.shelf) (applied before e r))

  pub record Takes (r : Replica E) (acc log : List (Edit E)) (e : Edit E) (p : Replica E × Answer) : Type 0 where
    pub after : After before log p.0 (acc ++ accepted_by p.1 e)
    pub settled : Settled p.0
    pub grows : (n : ℕ) → p.1 ≡ taken n → length after.now ≡ length log + n

module _ {E : Type 0} {before : Id → Id → Bool} where
  -- the roster takes the editor in
  enrol : {r : Replica E} {acc log : List (Edit E)} → Sound before r acc log → (e : Edit E)
      → (not (listed r e.id.editor) && leb most_editors (length r.roster)) ≡ false → Sound before (enrolled e r) acc log
  enrol {r} S e t = record {
    history = S.history;
    forest = S.forest;
    clock = S.clock;
    makers = S.makers;
    waiting = S.waiting;
    apart = S.apart;
    accepted = S.accepted;
    sizes = S.sizes;
    slots = S.slots;
    room = S.room;
    editors = few (listed r e.id.editor) t;
  }
    where
      few : (b : Bool) → (not b && leb most_editors (length r.roster)) ≡ false → length (cond b r.roster (placed e.id.editor r.roster)) ≤ most_editors
      few true u = S.editors
      few false u = omega (arith, leb-false most_editors (length r.roster) u, placed_length e.id.editor r.roster)

  -- a new edit is applied, and then what waited for it
  settle : {r : Replica E} {acc log : List (Edit E)} → Sound before r acc log → (e : Edit E) → SoundEdit e → Next log e → e.id ∉ edit_ids r.shelf
      → length (read r.forest) + (one_if (inserts e) + length (keep inserts r.shelf)) ≤ r.slots
      → After before (log ++ (e ∷ [])) (settled before e r) (acc ++ (e ∷ []))
  settle {r} {acc} {log} S e s n out slot = released (length r.shelf) (applied before e r) (acc ++ (e ∷ [])) (log ++ (e ∷ [])) (apply_new S e s n out slot)

  -- an edit is put on the shelf
  shelve : {r : Replica E} {acc log : List (Edit E)} → Sound before r acc log → (e : Edit E) → SoundEdit e → e.id ∉ edit_ids log → e.id ∉ edit_ids r.shelf
      → length (read r.forest) + (one_if (inserts e) + length (keep inserts r.shelf)) ≤ r.slots → leb r.room (length r.shelf) ≡ false
      → Sound before (with_shelf (r.shelf ++ (e ∷ [])) r) (acc ++ (e ∷ [])) log
  shelve {r} {acc} {log} S e s new out slot room = record {
    history = S.history;
    forest = S.forest;
    clock = S.clock;
    makers = S.makers;
    waiting = each_snoc (λ (d : Edit E). SoundEdit d × (d.id ∉ edit_ids log)) r.shelf e S.waiting (s, new);
    apart = distinct_ids_snoc r.shelf e S.apart out;
    accepted = λ d. (there_now d, back d);
    sizes = omega (arith, length_push r.shelf e, length_push acc e);
    slots = omega (arith, kept);
    room = omega (arith, leb-false r.room (length r.shelf) room, length_push r.shelf e);
    editors = S.editors;
  }
    where
      kept : length (keep inserts (r.shelf ++ (e ∷ []))) ≡ length (keep inserts r.shelf) + one_if (inserts e)
      kept = let a : length (keep inserts (r.shelf ++ (e ∷ []))) ≡ length (keep inserts r.shelf ++ keep inserts (e ∷ [])) = ap length (keep_append inserts r.shelf (e ∷ [])) in
          omega (arith, length-append (keep inserts r.shelf) (keep inserts (e ∷ [])), keep_length e [])

      there_now : (d : Edit E) → d ∈ (acc ++ (e ∷ [])) → (d ∈ log) ⊎ (d ∈ (r.shelf ++ (e ∷ [])))
      there_now = each_snoc (λ (d : Edit E). (d ∈ log) ⊎ (d ∈ (r.shelf ++ (e ∷ [])))) acc e
          (λ d k. ⊎_map (λ i. i) (λ i. in_left r.shelf (e ∷ []) i) ((S.accepted d).0 k)) (inr (in_last r.shelf e))

      back : (d : Edit E) → (d ∈ log) ⊎ (d ∈ (r.shelf ++ (e ∷ []))) → d ∈ (acc ++ (e ∷ []))
      back d (inl m) = in_left acc (e ∷ []) ((S.accepted d).1 (inl m))
      back d (inr m) = sub_snoc (λ b k. in_left acc (e ∷ []) ((S.accepted b).1 (inr k))) (in_last acc e) d m

  unmoved : {r : Replica E} {acc log : List (Edit E)} → Sound before r acc log → After before log r (acc ++ [])
  unmoved {r} {acc} {log} S = rw (append-nil acc) (record { now = log; onward = stays; sound = S })

  module _ {r : Replica E} {acc log : List (Edit E)} (S : Sound before r acc log) (rest : Settled r) (e : Edit E) (s : SoundEdit e) where
    not_taken : (a : Answer) → ((n : ℕ) → a ≡ taken n → ⊥) → accepted_by a e ≡ [] → Takes before r acc log e (r, a)
    not_taken a no_number none = record {
      after = rw none (unmoved S);
      settled = rest;
      grows = λ n q. absurd (no_number n q);
    }

    by_verdict : (v : Verdict) → Judged (is_known r e.id) (not (listed r e.id.editor) && leb most_editors (length r.roster)) (inserts e && full r) (ready r e) (leb r.room (length r.shelf)) v
        → Takes before r acc log e (judge before v e r)
    by_verdict knows j = not_taken known (λ n q. cc) refl
    by_verdict (refuses f) j = not_taken (refused f) (λ n q. cc) refl
    by_verdict applies j = record {
      after = record { now = A.now; onward = first_on e (in_last acc e) n A.onward; sound = A.sound };
      settled = settles before e (enrolled e r);
      grows = λ n q. growth before e (enrol S e j.1) A ∙ ap (λ (m : ℕ). length log + m) (cc);
    }
      where
        N : (e.id ∉ edit_ids log) × (e.id ∉ edit_ids r.shelf)
        N = unknown_new S e j.0

        n : Next log e
        n = ready_next S e s N.0 j.3

        A : After before (log ++ (e ∷ [])) (settled before e (enrolled e r)) (acc ++ (e ∷ []))
        A = settle (enrol S e j.1) e s n N.1 (slot_left r e j.2 S.slots)
    by_verdict shelves j = record {
      after = record { now = log; onward = stays; sound = shelve (enrol S e j.1) e s N.0 N.1 (slot_left r e j.2 S.slots) j.4 };
      settled = each_snoc (λ (d : Edit E). ready r d ≡ false) r.shelf e rest j.3;
      grows = λ n q. let z : 0 ≡ n = cc in omega arith;
    }
      where
        N : (e.id ∉ edit_ids log) × (e.id ∉ edit_ids r.shelf)
        N = unknown_new S e j.0

    pub takes : Takes before r acc log e (take_in before e r)
    takes = by_verdict (verdict e r) (judged_by e.id (is_known r e.id) (not (listed r e.id.editor) && leb most_editors (length r.roster))
        (inserts e && full r) (ready r e) (leb r.room (length r.shelf)))

  -- the edits that a replica makes itself
  module _ {r : Replica E} {acc log : List (Edit E)} (S : Sound before r acc log) (i : ℕ) (ed : Editor i) (owner : r.editor ≡ Some i) where
    -- they are those of the theory
    pub insertion_is : (k : ℕ) (x : E) → own_insertion k x r ≡ insertion_made before i log k x
    insertion_is k x = λ d. record {
      edit = record { id = record { editor = own_is r i owner d; number = suc (S.clock d (own_is r i owner d)) }; clock = S.clock d; change = insertion_at k x (S.forest d) };
      left = left_neighbour k (S.forest d);
      next = follower (left_neighbour k (S.forest d)) (S.forest d);
    }

    pub deletion_is : (k : ℕ) → own_deletion k r ≡ deletion_made before i log k
    deletion_is k = λ d. record {
      edit = record { id = record { editor = own_is r i owner d; number = suc (S.clock d (own_is r i owner d)) }; clock = S.clock d; change = deletion_at k (S.forest d) };
      left = Start;
      next = None;
    }

    -- editors of counted edits are in range
    pub own_sound : (c : Change E) → Lawful (new_edit i log c) → SoundEdit (new_edit i log c)
    own_sound c l = record {
      lawful = l;
      maker = ed;
      counts = λ j one. let a : Id = record { editor = j; number = 1 } in let u = of_ids log ((counted S.history).full a (omega arith)) in
          rw⁻¹ (ap (λ (b : Id). b.editor) u.2) (S.makers u.0 u.1);
    }

    -- no own edit waits
    own_new : (c : Change E) → own_waits r ≡ false → (new_edit i log c).id ∉ edit_ids r.shelf
    own_new c t m = let u = of_ids r.shelf m in
        both_ways _ (any_false (λ (d : Edit E). eqb d.id.editor (own r)) r.shelf t u.0 u.1)
        (eq-eqb u.0.id.editor (own r) (ap (λ (b : Id). b.editor) u.2 ∙ sym (own_is r i owner)))

    -- the log goes on from the edit that was made
    pub record Edits (p : Replica E × Reply E) : Type 0 where
      pub after : After before (log ++ edits_of (made_by p.1)) p.0 (acc ++ edits_of (made_by p.1))
      pub settled : Settled p.0
      pub grows : (m : Making E) (n : ℕ) → p.1 ≡ edited m n → length after.now ≡ length log + n

    -- an edit that the tests let pass
    commits : Settled r → (m : Making E) (c : Change E) → m.edit ≡ new_edit i log c → (used no_index slotless : Bool)
        → (no_index ≡ false → Lawful (new_edit i log c)) → (slotless ≡ false → (inserts m.edit && full r) ≡ false)
        → (o : Option Fault) → Allowed (own_waits r) used no_index slotless o → Edits (commit before o m r)
    commits rest m c p used no_index slotless lawful free (Some f) a = record { after = rw (append-nil log) (unmoved S); settled = rest; grows = λ d n q. cc }
    commits rest m c p used no_index slotless lawful free None a = record {
      after = A;
      settled = settles before m.edit r;
      grows = λ d n q. growth before m.edit S A ∙ ap (λ (k : ℕ). length log + k) (cc);
    }
      where
        A : After before (log ++ (m.edit ∷ [])) (settled before m.edit r) (acc ++ (m.edit ∷ []))
        A = settle S m.edit (rw p (own_sound c (lawful a.2))) (rw p (new_next S.history i c))
            (rw p (own_new c a.0)) (slot_left r m.edit (free a.3) S.slots)

    pub insert_edits : Settled r → (k : ℕ) (x : E) → Edits (insert before k x r)
    insert_edits rest k x = commits rest (own_insertion k x r) (insertion_at k x (tree before log)) (ap (λ (m : Making E). m.edit) (insertion_is k x))
        (used_up r) (ltb (length (visible r.forest)) k) (full r) (λ t. insertion_lawful before S.history i k x) (no_slot (inserts (own_insertion k x r).edit))
        (no_insert k r) (allowed_by (next_id r) (own_waits r) (used_up r) (ltb (length (visible r.forest)) k) (full r))
      where
        no_slot : (b : Bool) → full r ≡ false → (b && full r) ≡ false
        no_slot true t = t
        no_slot false t = refl

    pub delete_edits : Settled r → (k : ℕ) → Edits (delete before k r)
    delete_edits rest k = commits rest (own_deletion k r) (deletion_at k (tree before log)) (ap (λ (m : Making E). m.edit) (deletion_is k))
        (used_up r) (leb (length (visible r.forest)) k) false (λ t. deletion_lawful before S.history i k (shorter (leb-false (length (visible r.forest)) k t))) (λ t. refl)
        (no_delete k r) (allowed_by (next_id r) (own_waits r) (used_up r) (leb (length (visible r.forest)) k) false)
      where
        shorter : k < length (visible r.forest) → k < length (visible (tree before log))
        shorter = subst (λ (f : Forest E). k < length (visible f)) S.forest
