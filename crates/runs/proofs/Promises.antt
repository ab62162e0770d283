-- The promises hold of every run.
use Rattle.std.proofs.Common.{◌≡◌, ℕ, zero, suc, ◌-◌, ◌<◌, ◌≤◌, Bool, true, false, not, ◌&&◌, eqb, ◌⊎◌, ◌↔◌, List, [], ◌∷◌, map, length, Some, None, Option, sym, refl, ap, ◌∙◌, inl, inr, arith, eqb-true}
use Rattle.std.proofs.lemmas.Bool.{both_ways, cases_Bool, false_from_ne_true}
use Rattle.edits.specs.declared.id.Id.{Id}
use Rattle.edits.specs.declared.fault.Fault.{Fault}
use Rattle.edits.specs.Ids.{same}
use Rattle.runs.proofs.Calls.{own_is}
use Rattle.order.specs.Lists.{◌∈◌, here, ◌⊆◌}
use Rattle.order.specs.Edits.{Clock, Edit, Order, is_insertion}
use Rattle.order.specs.Forests.{Entry, read, visible, apply, tree}
use Rattle.order.specs.Histories.{count, SameEdits, SameCounts, stands, as_shown, standing, deletes}
use Rattle.order.specs.Systems.{Making, making_edit, edits_of}
use Rattle.order.specs.Theorems.{PutAt, HiddenAt}
use Rattle.order.proofs.Lists.{any_true, keep_alike, any_same, of_map}
use Rattle.order.proofs.Histories.{in_ids, one_each, count_part, counted, ids_sub}
use Rattle.order.proofs.Systems.{Facts, facts, has_own, edits_more, becomes_entry}
use Rattle.order.proofs.Entries.{part_in_order}
use Rattle.order.proofs.Systems as systems
use Rattle.order.proofs.Interleaving.{no_interleaving}
use Rattle.runs.specs.Replicas.{Editor, Replica, ready, own, own_waits, Pick, nothing, picked, pick, own_insertion, own_deletion, edited, applied, go_on, release, settled, applied_with, commit, insert, delete, no_insert, no_delete}
use Rattle.runs.specs.Worlds.{World, Step, sends, fetches, misreads, finds_none, Leads, no_call, then, Run}
use Rattle.runs.specs.Worlds as worlds
use Rattle.runs.specs.Promises.{Applied, Exactly, SameClocks, SameApplied, tree_of_all, Kept}
use Rattle.runs.proofs.Tests.{Picks, picks, each_within, within_each}
use Rattle.runs.proofs.Sound.{Settled}
use Rattle.runs.proofs.Alone.{in_log, log_applied, document, puts_at, hides_at, history_applied}
use Rattle.runs.proofs.Simulation.{Sim, run_sim, leads_sim}

-- where none is ready nothing is released
release_none : {E : Type 0} (before : Id → Id → Bool) (n : ℕ) (r : Replica E) → Settled r → release before n r ≡ r
release_none before zero r rest = refl
release_none {E} before (suc n) r rest = go (pick (ready r) r.shelf) (picks (ready r) r.shelf)
  where
    go : (k : Pick E) → Picks (ready r) r.shelf k → go_on before k r (release before n) ≡ r
    go nothing k = refl
    go (picked e others) k = absurd (both_ways _ (rest e k.member) k.passes)

-- calls only add to what was made
module _ {E X : Type 0} {before : Id → Id → Bool} {meaning : X → Edit E} where
  step_more : {v w : World E X} → Step before meaning v w → edits_of v.makings ⊆ edits_of w.makings
  step_more {v} (worlds.inserts i k x ed) = edits_more v.makings _
  step_more {v} (worlds.deletes i k ed) = edits_more v.makings _
  step_more (sends c xs rest rs k made fit sent) = λ e m. m
  step_more (fetches i c n k xs ed t q) = λ e m. m
  step_more (misreads c n k t q) = λ e m. m
  step_more (finds_none c q) = λ e m. m

  leads_more : {v w : World E X} → Leads before meaning v w → edits_of v.makings ⊆ edits_of w.makings
  leads_more no_call = λ e m. m
  leads_more (then l s) = λ e m. step_more s e (leads_more l e m)

module _ {E X : Type 0} {before : Id → Id → Bool} (O : Order before) (meaning : X → Edit E) (w : World E X) (S : Sim before meaning w) where
  F : Facts before w.makings S.logs
  F = facts S.reached

  clock_at : (i editor : ℕ) → (w.replicas i).clock editor ≡ count (S.logs i) editor
  clock_at i editor = ap (λ (f : Clock). f editor) (S.sound i).clock

  to_log : (i : ℕ) {e : Edit E} → Applied (w.accepted i) e → e ∈ S.logs i
  to_log i a = in_log (S.sound i) (S.settled i) a

  of_log : (i : ℕ) (e : Edit E) → e ∈ S.logs i → Applied (w.accepted i) e
  of_log i = log_applied (S.sound i) (S.settled i)

  agree : (i j : ℕ) → (SameClocks w i j ↔ SameApplied w i j) × (SameApplied w i j → visible (w.replicas i).forest ≡ visible (w.replicas j).forest)
  agree i j = (
    (
      (λ same e. ((λ a. of_log j e ((A.0.0 (counts same) e).0 (to_log i a))), λ a. of_log i e ((A.0.0 (counts same) e).1 (to_log j a)))),
      λ same editor. clock_at i editor ∙ A.0.1 (edits same) editor ∙ sym (clock_at j editor),
    ),
    λ same. ap visible (S.sound i).forest ∙ A.1 (edits same) ∙ sym (ap visible (S.sound j).forest),
  )
    where
      A : (SameCounts (S.logs i) (S.logs j) ↔ SameEdits (S.logs i) (S.logs j))
          × (SameEdits (S.logs i) (S.logs j) → visible (tree before (S.logs i)) ≡ visible (tree before (S.logs j)))
      A = systems.agreement F O i j

      counts : SameClocks w i j → SameCounts (S.logs i) (S.logs j)
      counts same editor = sym (clock_at i editor) ∙ same editor ∙ clock_at j editor

      edits : SameApplied w i j → SameEdits (S.logs i) (S.logs j)
      edits same e = ((λ m. to_log j ((same e).0 (of_log i e m))), λ m. to_log i ((same e).1 (of_log j e m)))

  -- the members of a log that holds exactly the applied edits are those of any other
  same_log : (i : ℕ) (log : List (Edit E)) → Exactly (w.accepted i) log → (S.logs i ⊆ log) × (log ⊆ S.logs i)
  same_log i log ex = ((λ e m. (ex e).1 (of_log i e m)), λ e m. to_log i ((ex e).0 m))

  stands_same : (i : ℕ) (log : List (Edit E)) → Exactly (w.accepted i) log → (y : Entry E) → stands (S.logs i) y ≡ stands log y
  stands_same i log ex y = let u = same_log i log ex in λ d.
      any_same (λ (e : Edit E). is_insertion e.change && same e.id y.id) (S.logs i) log u.0 u.1 d
      && not (any_same (λ (e : Edit E). deletes e.change y.id) (S.logs i) log u.0 u.1 d)

  in_order : (later : World E X) → Leads before meaning w later → (i : ℕ) (log : List (Edit E)) → Exactly (w.accepted i) log
      → visible (w.replicas i).forest ≡ standing log (read (tree_of_all before later))
  in_order later leads i log ex =
      ap visible (S.sound i).forest
      ∙ part_in_order O (F.each i) (facts (leads_sim before meaning w S leads).reached).all
      (λ e m. leads_more leads e (F.part i e m))
      ∙ ap (map as_shown) (keep_alike (stands (S.logs i)) (stands log) (read (tree_of_all before later)) (λ y m. stands_same i log ex y))

  -- an edit that was made counts no more of an editor than were made
  made_bound : (d : Edit E) → d ∈ edits_of w.makings → (i : ℕ) → d.clock i ≤ (w.replicas i).clock i
  made_bound d m i = let u = of_map making_edit w.makings m in let M = F.made u.0 u.1 in
      let le = count_part (counted M.history) (counted F.all) (ids_sub M.known (edits_of w.makings) M.part) i in
      let p : d.clock i ≡ count M.known i = ap (λ (e : Edit E). e.clock i) (sym u.2) ∙ ap (λ (f : Clock). f i) M.clock in
      omega (arith, F.own i, clock_at i i)

  -- no edit that waits has waited for an edit that is made just now
  nothing_waited : (i : ℕ) (e : Edit E) → e.id.editor ≡ i → Settled (applied before e (w.replicas i))
  nothing_waited i e own d m = false_from_ne_true (ready (applied before e (w.replicas i)) d) (λ t. both_ways _ (S.settled i d m)
      (each_within 255 d.clock (w.replicas i).clock (λ j l u. still t j l u (cases_Bool (eqb j e.id.editor)))))
    where
      still : ready (applied before e (w.replicas i)) d ≡ true → (j : ℕ) → 1 ≤ j → j ≤ 255 → (eqb j e.id.editor ≡ true) ⊎ (eqb j e.id.editor ≡ false)
          → d.clock j ≤ (w.replicas i).clock j
      still t j l u (inl q) = rw (eqb-true j e.id.editor q ∙ own) (made_bound d (S.honest i d (((S.sound i).accepted d).1 (inr m))) i)
      still t j l u (inr q) = rw q at (within_each 255 d.clock (applied before e (w.replicas i)).clock t j l u)

  none_released : (i : ℕ) (e : Edit E) → e.id.editor ≡ i → settled before e (w.replicas i) ≡ applied before e (w.replicas i)
  none_released i e own = release_none before (length (w.replicas i).shelf) (applied before e (w.replicas i)) (nothing_waited i e own)

  -- a reply that is no refusal: the edit was applied, and nothing else
  applied_only : (i n : ℕ) (o : Option Fault) (own m : Making E) → own.edit.id.editor ≡ i → own ≡ m → (commit before o own (w.replicas i)).1 ≡ edited m n
      → (commit before o own (w.replicas i)).0.forest ≡ apply before m.edit (w.replicas i).forest
  applied_only i n (Some f) own m ed p q = cc
  applied_only i n None own m ed p q = ap (λ (r : Replica E). r.forest) (none_released i own.edit ed) ∙ ap (λ (u : Making E). apply before u.edit (w.replicas i).forest) p

  applied_one : (i n : ℕ) (o : Option Fault) (own m : Making E) → own.edit.id.editor ≡ i → (commit before o own (w.replicas i)).1 ≡ edited m n → n ≡ 1
  applied_one i n (Some f) own m ed q = cc
  applied_one i n None own m ed q = let z : n ≡ applied_with before own.edit (w.replicas i) = cc in z ∙ ap (λ (r : Replica E). suc (length (w.replicas i).shelf - length r.shelf)) (none_released i own.edit ed) ∙ omega arith

  own_number : (i : ℕ) → own (w.replicas i) ≡ i
  own_number i = own_is (w.replicas i) i (S.owner i)

  puts : (i k n : ℕ) (x : E) (m : Making E) → Editor i → (insert before k x (w.replicas i)).1 ≡ edited m n
      → (n ≡ 1) × (k ≤ length (visible (w.replicas i).forest)) × PutAt k m.edit.id x (w.replicas i).forest (insert before k x (w.replicas i)).0.forest
  puts i k n x m ed q = let u = puts_at (S.sound i) i ed (S.owner i) k n x m q in
      (applied_one i n (no_insert k (w.replicas i)) (own_insertion k x (w.replicas i)) m (own_number i) q, u.1, ap visible (applied_only i n (no_insert k (w.replicas i)) (own_insertion k x (w.replicas i)) m (own_number i) u.0 q) ∙ u.2)

  hides : (i k n : ℕ) (m : Making E) → Editor i → (delete before k (w.replicas i)).1 ≡ edited m n
      → (n ≡ 1) × (k < length (visible (w.replicas i).forest)) × HiddenAt k (w.replicas i).forest (delete before k (w.replicas i)).0.forest
  hides i k n m ed q = let u = hides_at (S.sound i) i ed (S.owner i) k n m q in
      (applied_one i n (no_delete k (w.replicas i)) (own_deletion k (w.replicas i)) m (own_number i) q, u.1, ap visible (applied_only i n (no_delete k (w.replicas i)) (own_deletion k (w.replicas i)) m (own_number i) u.0 q) ∙ u.2)

  all_applied : (i : ℕ) → edits_of w.makings ⊆ w.accepted i → ((e : Edit E) → e ∈ edits_of w.makings → Applied (w.accepted i) e) × ((w.replicas i).shelf ≡ [])
  all_applied i sub = (all, none (w.replicas i).shelf (λ d m. ((S.sound i).waiting d m).1 (in_ids (S.logs i) (to_log i (all d (S.honest i d (((S.sound i).accepted d).1 (inr m))))))))
    where
      all : (e : Edit E) → e ∈ edits_of w.makings → Applied (w.accepted i) e
      all = history_applied F.all (w.accepted i) sub

      none : (es : List (Edit E)) → ((d : Edit E) → d ∈ es → ⊥) → es ≡ []
      none [] out = refl
      none (d ∷ es) out = absurd (out d (here refl))

  no_own_waits : (i : ℕ) → own_waits (w.replicas i) ≡ false
  no_own_waits i = false_from_ne_true (own_waits (w.replicas i)) (λ t. out (any_true (λ (e : Edit E). eqb e.id.editor (own (w.replicas i))) (w.replicas i).shelf t))
    where
      out : (d : Edit E) × (d ∈ (w.replicas i).shelf) × (eqb d.id.editor (own (w.replicas i)) ≡ true) → ⊥
      out u = ((S.sound i).waiting u.0 u.1).1 (has_own F i u.0.id (eqb-true u.0.id.editor (own (w.replicas i)) u.2 ∙ own_number i)
          (in_ids (edits_of w.makings) (S.honest i u.0 (((S.sound i).accepted u.0).1 (inr u.1)))))

  pub kept : Kept before meaning w
  unfolding F
  kept = record {
    document = λ i. document (S.sound i) (S.settled i) (S.roster i);
    editor = S.owner;
    honest = S.honest;
    one_each = one_each F.all;
    agreement = agree;
    one_order = in_order;
    inserted = puts;
    deleted = hides;
    unbroken = no_interleaving O S.reached;
    entries = becomes_entry F O;
    complete = all_applied;
    own_applied = λ i ed. no_own_waits i;
  }

pub promises : {E X : Type 0} {before : Id → Id → Bool} → Order before → (meaning : X → Edit E) (w : World E X) → Run before meaning w → Kept before meaning w
promises {before = before} O meaning w run = kept O meaning w (run_sim before meaning w run)
