-- Edits taken in one after another, and what no call changes: a replica's editor.
use Rattle.std.proofs.Common.{◌≡◌, ℕ, zero, suc, Bool, List, [], ◌∷◌, ◌++◌, length, Some, None, Option, refl, ◌∙◌, append_assoc, append-nil}
use Rattle.edits.specs.declared.id.Id.{Id}
use Rattle.edits.specs.declared.fault.Fault.{Fault}
use Rattle.order.specs.Lists.{◌∈◌, here, there, ◌⊆◌}
use Rattle.order.specs.Edits.{Edit}
use Rattle.order.specs.Systems.{Making}
use Rattle.order.proofs.Lists.{in_left}
use Rattle.runs.specs.Replicas.{Replica, with_shelf, ready, enrolled, Verdict, knows, refuses, applies, shelves, Answer, known, refused, taken, Pick, nothing, picked, pick, verdict, applied, go_on, release, judge, take_in, commit, Intake, after_one, take_all}
use Rattle.runs.specs.Promises.{SoundEdit}
use Rattle.runs.proofs.Sound.{Onward, stays, on, on_as, Sound, Settled, After}
use Rattle.runs.proofs.Calls.{Takes, takes}

module _ {E : Type 0} (before : Id → Id → Bool) where
  -- what stays as it is when an edit leaves the shelf and is applied stays so over a release
  pub release_keeps : {A : Type 0} (part : Replica E → A) → ((e : Edit E) (others : List (Edit E)) (r : Replica E) → part (applied before e (with_shelf others r)) ≡ part r)
      → (n : ℕ) (r : Replica E) → part (release before n r) ≡ part r
  release_keeps part keeps zero r = refl
  release_keeps {A} part keeps (suc n) r = go (pick (ready r) r.shelf) (release_keeps part keeps n)
    where
      go : (k : Pick E) → ((r' : Replica E) → part (release before n r') ≡ part r') → part (go_on before k r (release before n)) ≡ part r
      go nothing ih = refl
      go (picked e others) ih = ih (applied before e (with_shelf others r)) ∙ keeps e others r

  -- no call changes whose replica it is
  pub release_editor : (n : ℕ) (r : Replica E) → (release before n r).editor ≡ r.editor
  release_editor = release_keeps (λ r. r.editor) (λ e others r. refl)

  judge_editor : (v : Verdict) (e : Edit E) (r : Replica E) → (judge before v e r).0.editor ≡ r.editor
  judge_editor knows e r = refl
  judge_editor (refuses f) e r = refl
  judge_editor applies e r = release_editor (length r.shelf) (applied before e (enrolled e r))
  judge_editor shelves e r = refl

  pub commit_editor : (o : Option Fault) (m : Making E) (r : Replica E) → (commit before o m r).0.editor ≡ r.editor
  commit_editor (Some f) m r = refl
  commit_editor None m r = release_editor (length r.shelf) (applied before m.edit r)

  after_editor : (a : Answer) (e : Edit E) (r : Replica E) (rest : Replica E → Intake E) → ((r' : Replica E) → (rest r').replica.editor ≡ r'.editor) → (after_one before (r, a) e rest).replica.editor ≡ r.editor
  after_editor known e r rest ih = ih r
  after_editor (refused f) e r rest ih = refl
  after_editor (taken n) e r rest ih = ih r

  pub take_all_editor : (es : List (Edit E)) (r : Replica E) → (take_all before es r).replica.editor ≡ r.editor
  take_all_editor [] r = refl
  take_all_editor (e ∷ es) r = after_editor (take_in before e r).1 e (take_in before e r).0 (take_all before es) (take_all_editor es) ∙ judge_editor (verdict e r) e r

  after_sub : (a : Answer) (e : Edit E) (es : List (Edit E)) (r : Replica E) (rest : Replica E → Intake E) → (rest r).accepted ⊆ es → (after_one before (r, a) e rest).accepted ⊆ (e ∷ es)
  after_sub known e es r rest ih d m = there (ih d m)
  after_sub (refused f) e es r rest ih d m = elim m [ ]
  after_sub (taken n) e es r rest ih d (here p) = here p
  after_sub (taken n) e es r rest ih d (there m) = there (ih d m)

  -- only what came in is accepted
  pub take_all_sub : (es : List (Edit E)) (r : Replica E) → (take_all before es r).accepted ⊆ es
  take_all_sub [] r = λ d m. m
  take_all_sub (e ∷ es) r = after_sub (take_in before e r).1 e es (take_in before e r).0 (take_all before es) (take_all_sub es (take_in before e r).0)

module _ {E : Type 0} where
  onward_then : {P : Edit E → Type 0} {log k l : List (Edit E)} → Onward P log k → Onward P k l → Onward P log l
  onward_then o stays = o
  onward_then o (on e p q n) = on e (onward_then o p) q n

  -- a replica after edits were taken in
  pub record FedAll (before : Id → Id → Bool) (log acc : List (Edit E)) (intake : Intake E) : Type 0 where
    pub after : After before log intake.replica (acc ++ intake.accepted)
    pub settled : Settled intake.replica

  pub feeds : {before : Id → Id → Bool} (es : List (Edit E)) → ((e : Edit E) → e ∈ es → SoundEdit e) → (r : Replica E) (acc log : List (Edit E))
      → Sound before r acc log → Settled r → FedAll before log acc (take_all before es r)
  feeds {before} [] s r acc log S rest = record { after = record { now = log; onward = stays; sound = rw (append-nil acc) S }; settled = rest }
  feeds {before} (e ∷ es) s r acc log S rest = go (take_in before e r).1 (take_in before e r).0 (takes S rest e (s e (here refl))) (feeds es (λ d m. s d (there m)))
    where
      -- first e, then the others
      both : (r' : Replica E) (got : List (Edit E)) (A : After before log r' (acc ++ got)) (i : Intake E) → FedAll before A.now (acc ++ got) i
          → After before log i.replica (acc ++ (got ++ i.accepted))
      both r' got A i F = record {
        now = F.after.now;
        onward = on_as (λ d m. rw⁻¹ (append_assoc acc got i.accepted) m)
            (onward_then (on_as (λ d m. in_left (acc ++ got) i.accepted m) A.onward) F.after.onward);
        sound = rw⁻¹ (append_assoc acc got i.accepted) F.after.sound;
      }

      go : (a : Answer) (r' : Replica E) → Takes before r acc log e (r', a)
          → ((r'' : Replica E) (acc' log' : List (Edit E)) → Sound before r'' acc' log' → Settled r'' → FedAll before log' acc' (take_all before es r''))
          → FedAll before log acc (after_one before (r', a) e (take_all before es))
      go known r' T ih = let F = ih r' _ _ T.after.sound T.settled in record { after = both r' [] T.after (take_all before es r') F; settled = F.settled }
      go (refused f) r' T ih = record { after = T.after; settled = T.settled }
      go (taken n) r' T ih = let F = ih r' _ _ T.after.sound T.settled in record { after = both r' (e ∷ []) T.after (take_all before es r') F; settled = F.settled }
