-- Every run of the calls is one of replicas that make edits and take them in: each replica has a log of what it applied.
use Rattle.std.proofs.Common.{◌≡◌, ℕ, ◌<◌, ◌≤◌, Bool, false, ltb, leb, List, [], ◌∷◌, ◌++◌, map, length, get_or, take, drop, Some, None, Option, sym, refl, ap, ◌∙◌, subst, inl, inr, append_assoc, append-nil, take-append-drop, ltb-false, leb-false}
use Rattle.std.proofs.Math.Path.{fun_ext}
use Rattle.std.proofs.lemmas.List.{map_push}
use Rattle.std.proofs.lemmas.Option.{none-some, same_Some}
use Rattle.edits.specs.declared.id.Id.{Id}
use Rattle.edits.specs.declared.fault.Fault.{Fault}
use Rattle.order.specs.Lists.{◌∈◌, ◌⊆◌, with_at}
use Rattle.order.specs.Edits.{Change, Edit, Lawful}
use Rattle.order.specs.Forests.{visible, tree}
use Rattle.order.specs.Placing.{insertion_at, deletion_at}
use Rattle.order.specs.Systems.{Making, making_edit, edits_of, new_edit, extended, insertion_made, deletion_made, Reached, begin, inserts, deletes, takes_in}
use Rattle.order.proofs.Lists.{in_left, in_right, in_split, in_snoc, each_snoc, sub_snoc, in_last, in_getD, in_map, of_map, at_it, at_other, at_each}
use Rattle.order.proofs.Systems.{edits_more}
use Rattle.order.proofs.Making.{insertion_lawful, deletion_lawful}
use Rattle.runs.specs.Replicas.{Editor, Replica, declined, edited, own_waits, used_up, next_id, full, no_insert, no_delete, own_insertion, own_deletion, settled, applied_with, commit, insert, delete, Intake, take_all}
use Rattle.runs.specs.Channels.{Bytes, Channel, Taken, Format, AllFit, KeepsLaw, Cut, uncut, one_cut, Puts, none_put, one_put, Sent, Line}
use Rattle.runs.specs.Worlds as worlds
use Rattle.runs.specs.Worlds.{World, Fresh, after_edit, with_line, after_send, after_fetch, Step, sends, fetches, misreads, finds_none, Leads, no_call, then, Run}
use Rattle.runs.specs.Promises.{SoundEdit, Rostered}
use Rattle.runs.proofs.Tests.{Allowed, allowed_by}
use Rattle.runs.proofs.Sound.{Onward, stays, on, on_as, Sound, Settled, After}
use Rattle.runs.proofs.Calls.{insertion_is, deletion_is, own_sound, Edits, insert_edits, delete_edits}
use Rattle.runs.proofs.Alone.{new_sound}
use Rattle.runs.proofs.Rosters.{new_rostered, commit_rostered, all_rostered}
use Rattle.runs.proofs.Keeping.{commit_editor, take_all_editor, take_all_sub, FedAll, feeds}

-- functions replaced at a place
pub at_same : {X : Type 0} (f : ℕ → X) (i : ℕ) → with_at f i (f i) ≡ f
at_same f i = fun_ext (at_each (λ j x. x ≡ f j) f i (f i) refl (λ j ne. refl))

-- no edit is accepted at a place
pub none_more : {X : Type 0} (f : ℕ → List X) (i : ℕ) → with_at f i (f i ++ []) ≡ f
none_more f i = ap (with_at f i) (append-nil (f i)) ∙ at_same f i

at_all : {X : Type 0} (P : X → Type 0) (f : ℕ → X) (i : ℕ) (x : X) → P x → ((j : ℕ) → P (f j)) → (j : ℕ) → P (with_at f i x j)
at_all P f i x it others = at_each (λ j. P) f i x it (λ j ne. others j)

at_two : {X Y : Type 0} (P : ℕ → X → Y → Type 0) (f : ℕ → X) (g : ℕ → Y) (i : ℕ) (x : X) (y : Y)
    → P i x y → ((j : ℕ) → (j ≡ i → ⊥) → P j (f j) (g j)) → (j : ℕ) → P j (with_at f i x j) (with_at g i y j)
at_two P f g i x y it others = at_each (λ j z. P j z (with_at g i y j)) f i x (rw (at_it g i y) it)
    (λ j ne. rw (at_other g i y j ne) (others j ne))

in_take : {X : Type 0} (n : ℕ) (xs : List X) → take n xs ⊆ xs
in_take n xs x m = rw⁻¹ (take-append-drop n xs) (in_left (take n xs) (drop n xs) m)

in_drop : {X : Type 0} (n : ℕ) (xs : List X) → drop n xs ⊆ xs
in_drop n xs x m = rw⁻¹ (take-append-drop n xs) (in_right (take n xs) (drop n xs) m)

-- the records of a channel are read as edits that were made
abbrev Known : {X Y : Type 0} → (X → Y) → List Y → Line X → Type 0
Known {X} meaning all l = (r : Bytes) → r ∈ l.holds.put → (xs : List X) → l.format.reads r ≡ Some xs → (x : X) → x ∈ xs → meaning x ∈ all

module _ {X : Type 0} (format : Format X) (law : KeepsLaw format) (xs : List X) (fit : AllFit format xs) where
  record Pieces (rs : List Bytes) (rest : List X) : Type 0 where
    left : rest ⊆ xs
    read : (r : Bytes) → r ∈ rs → (ys : List X) → format.reads r ≡ Some ys → ys ⊆ xs

  pieces : {rs : List Bytes} {rest : List X} → Cut format xs rs rest → Pieces rs rest
  pieces uncut = record { left = λ e i. i; read = λ r i. elim i [ ] }
  pieces (one_cut {rs = rs} {rest = rest} c pos) = more (pieces c)
    where
      last : (r : Bytes) → r ≡ (format.packs rest).0 → (ys : List X) → rest ⊆ xs → format.reads r ≡ Some ys → ys ⊆ xs
      last r p ys sub q e i =
          let same : take (format.packs rest).1 rest ≡ ys = same_Some _ ys (sym (law.packing rest pos (λ x m. fit x (sub x m))).read_back ∙ ap format.reads (sym p) ∙ q) in
          sub e (in_take (format.packs rest).1 rest e (rw same i))

      more : Pieces rs rest → Pieces (rs ++ ((format.packs rest).0 ∷ [])) (drop (format.packs rest).1 rest)
      more p = record {
        left = λ e i. p.left e (in_drop (format.packs rest).1 rest e i);
        read = λ r i ys q. elim (in_snoc rs (format.packs rest).0 i) [ inl a ↦ p.read r a ys q | inr b ↦ last r b ys p.left q ];
      }

all_put : (h : Channel) {rs : List Bytes} {k : Channel} → Puts h rs k → k.put ≡ h.put ++ rs
all_put h none_put = sym (append-nil h.put)
all_put h (one_put {rs = rs} {r = r} ps p) = p.put ∙ ap (λ (x : List Bytes). x ++ (r ∷ [])) (all_put h ps) ∙ append_assoc h.put rs (r ∷ [])

-- a replica goes on in the theory as its log does
record Moved {E : Type 0} (before : Id → Id → Bool) (ms : List (Making E)) (hs : ℕ → List (Edit E)) (i : ℕ) (now : List (Edit E)) : Type 0 where
  logs : ℕ → List (Edit E)
  reached : Reached before ms logs
  there_now : logs i ≡ now
  elsewhere : (j : ℕ) → (j ≡ i → ⊥) → logs j ≡ hs j

moves : {E : Type 0} {before : Id → Id → Bool} {ms : List (Making E)} (hs : ℕ → List (Edit E)) (i : ℕ) {now : List (Edit E)} → Reached before ms hs
    → Onward (λ (e : Edit E). e ∈ edits_of ms) (hs i) now → Moved before ms hs i now
moves hs i r stays = record { logs = hs; reached = r; there_now = refl; elsewhere = λ j ne. refl }
moves {E} hs i r (on e o m n) = let M = moves hs i r o in record {
  logs = extended M.logs i e;
  reached = takes_in i e M.reached m (rw M.there_now n);
  there_now = at_it M.logs i (M.logs i ++ (e ∷ [])) ∙ ap (λ (l : List (Edit E)). l ++ (e ∷ [])) M.there_now;
  elsewhere = λ j ne. at_other M.logs i (M.logs i ++ (e ∷ [])) j ne ∙ M.elsewhere j ne;
}

module _ {E X : Type 0} (before : Id → Id → Bool) (meaning : X → Edit E) where
  pub record Sim (w : World E X) : Type 0 where
    pub logs : ℕ → List (Edit E)
    pub reached : Reached before w.makings logs
    pub sound : (i : ℕ) → Sound before (w.replicas i) (w.accepted i) (logs i)
    pub settled : (i : ℕ) → Settled (w.replicas i)
    pub roster : (i : ℕ) → Rostered (w.replicas i) (w.accepted i)
    pub owner : (i : ℕ) → (w.replicas i).editor ≡ Some i
    pub honest : (i : ℕ) → w.accepted i ⊆ edits_of w.makings
    pub edits : (e : Edit E) → e ∈ edits_of w.makings → SoundEdit e
    pub records : (c : ℕ) → Known meaning (edits_of w.makings) (w.lines c)
    pub formats : (c : ℕ) → KeepsLaw (w.lines c).format

  fresh_sim : (w : World E X) → Fresh w → Sim w
  fresh_sim w f = record {
    logs = λ i. [];
    reached = rw f.none_made begin;
    sound = λ i. rw ((f.replicas i).2, f.none_accepted i) (new_sound before (Some i) (f.replicas i).0 (f.replicas i).1);
    settled = λ i. rw (f.replicas i).2 (λ e m. elim m [ ]);
    roster = λ i. rw ((f.replicas i).2, f.none_accepted i) (new_rostered (Some i) (f.replicas i).0 (f.replicas i).1);
    owner = λ i. ap (λ (r : Replica E). r.editor) (f.replicas i).2;
    honest = λ i e m. elim (subst (λ (l : List (Edit E)). e ∈ l) (f.none_accepted i) m) [ ];
    edits = λ e m. elim (subst (λ (ms : List (Making E)). e ∈ edits_of ms) f.none_made m) [ ];
    records = λ c r m. elim (subst (λ (p : List Bytes). r ∈ p) (f.channels c).put m) [ ];
    formats = f.formats;
  }

  -- a refused call changes nothing
  unedited : (w : World E X) (i : ℕ) (f : Fault) → after_edit w i (w.replicas i, declined f) ≡ w
  unedited w i f = λ d. record {
    replicas = at_same w.replicas i d;
    lines = w.lines;
    makings = append-nil w.makings d;
    accepted = none_more w.accepted i d;
  }

  -- one edit is made at the replica i
  made_sim : (w : World E X) (S : Sim w) (i n : ℕ) (r : Replica E) (m : Making E) → r.editor ≡ (w.replicas i).editor
      → Reached before (w.makings ++ (m ∷ [])) (extended S.logs i m.edit)
      → SoundEdit m.edit → After before (S.logs i ++ (m.edit ∷ [])) r (w.accepted i ++ (m.edit ∷ [])) → Settled r
      → Rostered r (w.accepted i ++ (m.edit ∷ [])) → Sim (after_edit w i (r, edited m n))
  made_sim w S i n r m same-editor reach s A rest on_roster = record {
    logs = M.logs;
    reached = M.reached;
    sound = at_two (λ j r' acc. Sound before r' acc (M.logs j)) w.replicas w.accepted i _ _
        (rw M.there_now A.sound)
        (λ j ne. rw (M.elsewhere j ne ∙ at_other S.logs i _ j ne) (S.sound j));
    settled = at_all Settled w.replicas i r rest S.settled;
    roster = at_two (λ j r' acc. Rostered r' acc) w.replicas w.accepted i _ _ on_roster (λ j ne. S.roster j);
    owner = at_each (λ j r'. r'.editor ≡ Some j) w.replicas i r (same-editor ∙ S.owner i) (λ j ne. S.owner j);
    honest = at_all (λ (acc : List (Edit E)). acc ⊆ edits_of (w.makings ++ (m ∷ []))) w.accepted i _ own (λ j d k. wider d (S.honest j d k));
    edits = rw (map_push making_edit w.makings m) (each_snoc SoundEdit (edits_of w.makings) m.edit S.edits s);
    records = λ c b k xs q x o. wider (meaning x) (S.records c b k xs q x o);
    formats = S.formats;
  }
    where
      wider : edits_of w.makings ⊆ edits_of (w.makings ++ (m ∷ []))
      wider = edits_more w.makings (m ∷ [])

      own : (w.accepted i ++ (m.edit ∷ [])) ⊆ edits_of (w.makings ++ (m ∷ []))
      own = sub_snoc (λ d k. wider d (S.honest i d k)) (in_map making_edit (w.makings ++ (m ∷ [])) (in_last w.makings m))

      M : Moved before (w.makings ++ (m ∷ [])) (extended S.logs i m.edit) i A.now
      M = moves (extended S.logs i m.edit) i reach (rw (at_it S.logs i _) (on_as own A.onward))

  module _ (w : World E X) (S : Sim w) (i : ℕ) (ed : Editor i) where
    -- what the replica makes is what the theory makes
    own_sim : (o : Option Fault) (m : Making E) (c : Change E) → m.edit ≡ new_edit i (S.logs i) c
        → (o ≡ None → Reached before (w.makings ++ (m ∷ [])) (extended S.logs i m.edit) × Lawful (new_edit i (S.logs i) c))
        → Edits (S.sound i) i ed (S.owner i) (commit before o m (w.replicas i)) → Sim (after_edit w i (commit before o m (w.replicas i)))
    own_sim (Some f) m c p reach F = rw (unedited w i f) S
    own_sim None m c p reach F = made_sim w S i (applied_with before m.edit (w.replicas i)) (settled before m.edit (w.replicas i)) m (commit_editor before None m (w.replicas i)) (reach refl).0
        (rw p (own_sound (S.sound i) i ed (S.owner i) c (reach refl).1)) F.after F.settled
        (commit_rostered before None m (w.replicas i) (w.accepted i) (S.owner i ∙ ap (λ (e : Edit E). Some e.id.editor) (sym p)) (S.roster i))

    insert_sim : (k : ℕ) (x : E) → Sim (after_edit w i (insert before k x (w.replicas i)))
    insert_sim k x = own_sim (no_insert k r) (own_insertion k x r) (insertion_at k x (tree before (S.logs i))) (ap making_edit is) reach (insert_edits (S.sound i) i ed (S.owner i) (S.settled i) k x)
      where
        r : Replica E
        r = w.replicas i

        is : own_insertion k x r ≡ insertion_made before i (S.logs i) k x
        is = insertion_is (S.sound i) i ed (S.owner i) k x

        short : (o : Option Fault) → Allowed (own_waits r) (used_up r) (ltb (length (visible r.forest)) k) (full r) o → o ≡ None → k ≤ length (visible r.forest)
        short (Some f) a q = absurd (none-some f (sym q))
        short None a q = ltb-false (length (visible r.forest)) k a.2

        reach : no_insert k r ≡ None → Reached before (w.makings ++ (own_insertion k x r ∷ [])) (extended S.logs i (own_insertion k x r).edit) × Lawful (new_edit i (S.logs i) (insertion_at k x (tree before (S.logs i))))
        reach q = (
          subst (λ (m : Making E). Reached before (w.makings ++ (m ∷ [])) (extended S.logs i m.edit)) (sym is)
              (inserts i k x S.reached (rw⁻¹ (S.sound i).forest (short (no_insert k r) (allowed_by (next_id r) (own_waits r) (used_up r) (ltb (length (visible r.forest)) k) (full r)) q))),
          insertion_lawful before (S.sound i).history i k x,
        )

    delete_sim : (k : ℕ) → Sim (after_edit w i (delete before k (w.replicas i)))
    delete_sim k = own_sim (no_delete k r) (own_deletion k r) (deletion_at k (tree before (S.logs i))) (ap making_edit is) reach (delete_edits (S.sound i) i ed (S.owner i) (S.settled i) k)
      where
        r : Replica E
        r = w.replicas i

        is : own_deletion k r ≡ deletion_made before i (S.logs i) k
        is = deletion_is (S.sound i) i ed (S.owner i) k

        short : (o : Option Fault) → Allowed (own_waits r) (used_up r) (leb (length (visible r.forest)) k) false o → o ≡ None → k < length (visible r.forest)
        short (Some f) a q = absurd (none-some f (sym q))
        short None a q = leb-false (length (visible r.forest)) k a.2

        within : no_delete k r ≡ None → k < length (visible (tree before (S.logs i)))
        within q = rw⁻¹ (S.sound i).forest (short (no_delete k r) (allowed_by (next_id r) (own_waits r) (used_up r) (leb (length (visible r.forest)) k) false) q)

        reach : no_delete k r ≡ None → Reached before (w.makings ++ (own_deletion k r ∷ [])) (extended S.logs i (own_deletion k r).edit) × Lawful (new_edit i (S.logs i) (deletion_at k (tree before (S.logs i))))
        reach q = (
          subst (λ (m : Making E). Reached before (w.makings ++ (m ∷ [])) (extended S.logs i m.edit)) (sym is) (deletes i k S.reached (within q)),
          deletion_lawful before (S.sound i).history i k (within q),
        )

  -- a channel changes, and its records are still read as edits that were made
  line_records : (w : World E X) (S : Sim w) (c : ℕ) (k : Channel) → Known meaning (edits_of w.makings) (record { format = (w.lines c).format; holds = k }) → (j : ℕ) → Known meaning (edits_of w.makings) (with_line w c k j)
  line_records w S c k it = at_all (Known meaning (edits_of w.makings)) w.lines c (record { format = (w.lines c).format; holds = k }) it S.records

  line_formats : (w : World E X) (S : Sim w) (c : ℕ) (k : Channel) (j : ℕ) → KeepsLaw (with_line w c k j).format
  line_formats w S c k = at_all (λ (l : Line X). KeepsLaw l.format) w.lines c (record { format = (w.lines c).format; holds = k }) (S.formats c) S.formats

  send_sim : (w : World E X) (S : Sim w) (c : ℕ) (k : Channel) → Known meaning (edits_of w.makings) (record { format = (w.lines c).format; holds = k }) → Sim (after_send w c k)
  send_sim w S c k it = record {
    logs = S.logs;
    reached = S.reached;
    sound = S.sound;
    settled = S.settled;
    roster = S.roster;
    owner = S.owner;
    honest = S.honest;
    edits = S.edits;
    records = line_records w S c k it;
    formats = line_formats w S c k;
  }

  taken_known : (w : World E X) (S : Sim w) (c n : ℕ) (k : Channel) → Taken (w.lines c).holds n k → Known meaning (edits_of w.makings) (record { format = (w.lines c).format; holds = k })
  taken_known w S c n k t r m = S.records c r (rw⁻¹ t.put m)

  sent_known : (w : World E X) (S : Sim w) (c : ℕ) (xs rest : List X) (rs : List Bytes) (k : Channel) → ((x : X) → x ∈ xs → meaning x ∈ edits_of w.makings)
      → AllFit (w.lines c).format xs → Sent (w.lines c).format (w.lines c).holds xs k rs rest → Known meaning (edits_of w.makings) (record { format = (w.lines c).format; holds = k })
  sent_known w S c xs rest rs k made fit sent r m ys q x o =
      elim (in_split (w.lines c).holds.put rs (rw⁻¹ (all_put (w.lines c).holds sent.puts) m)) [
        | inl a ↦ S.records c r a ys q x o
        | inr b ↦ made x ((pieces (w.lines c).format (S.formats c) xs fit sent.cut).read r b ys q x o)
      ]

  fetch_sim : (w : World E X) (S : Sim w) (i c n : ℕ) (k : Channel) (xs : List X) → Taken (w.lines c).holds n k
      → (w.lines c).format.reads (get_or (w.lines c).holds.put n []) ≡ Some xs → Sim (after_fetch w i c k (take_all before (map meaning xs) (w.replicas i)))
  fetch_sim w S i c n k xs t q = record {
    logs = M.logs;
    reached = M.reached;
    sound = at_two (λ j r acc. Sound before r acc (M.logs j)) w.replicas w.accepted i _ _
        (rw M.there_now F.after.sound)
        (λ j ne. rw (M.elsewhere j ne) (S.sound j));
    settled = at_all Settled w.replicas i _ F.settled S.settled;
    roster = at_two (λ j r acc. Rostered r acc) w.replicas w.accepted i _ _ (all_rostered before es (w.replicas i) (w.accepted i) (S.roster i)) (λ j ne. S.roster j);
    owner = at_each (λ j r. r.editor ≡ Some j) w.replicas i _ (take_all_editor before es (w.replicas i) ∙ S.owner i) (λ j ne. S.owner j);
    honest = at_all (λ (acc : List (Edit E)). acc ⊆ edits_of w.makings) w.accepted i _ all_made S.honest;
    edits = S.edits;
    records = line_records w S c k (taken_known w S c n k t);
    formats = line_formats w S c k;
  }
    where
      es : List (Edit E)
      es = map meaning xs

      intake : Intake E
      intake = take_all before es (w.replicas i)

      made : es ⊆ edits_of w.makings
      made e m = let u = of_map meaning xs m in rw⁻¹ u.2 (S.records c (get_or (w.lines c).holds.put n []) (in_getD (w.lines c).holds.put n [] t.place) xs q u.0 u.1)

      F : FedAll before (S.logs i) (w.accepted i) intake
      F = feeds es (λ e m. S.edits e (made e m)) (w.replicas i) (w.accepted i) (S.logs i) (S.sound i) (S.settled i)

      all_made : (w.accepted i ++ intake.accepted) ⊆ edits_of w.makings
      all_made e m = elim (in_split (w.accepted i) intake.accepted m) [ inl a ↦ S.honest i e a | inr b ↦ made e (take_all_sub before es (w.replicas i) e b) ]

      M : Moved before w.makings S.logs i F.after.now
      M = moves S.logs i S.reached (on_as all_made F.after.onward)

  pub step_sim : (w : World E X) → Sim w → {w' : World E X} → Step before meaning w w' → Sim w'
  step_sim w S (worlds.inserts i k x ed) = insert_sim w S i ed k x
  step_sim w S (worlds.deletes i k ed) = delete_sim w S i ed k
  step_sim w S (sends c xs rest rs k made fit sent) = send_sim w S c k (sent_known w S c xs rest rs k made fit sent)
  step_sim w S (fetches i c n k xs ed t q) = fetch_sim w S i c n k xs t q
  step_sim w S (misreads c n k t q) = send_sim w S c k (taken_known w S c n k t)
  step_sim w S (finds_none c q) = S

  pub leads_sim : (v : World E X) → Sim v → {w : World E X} → Leads before meaning v w → Sim w
  leads_sim v S no_call = S
  leads_sim v S (then {w = w} l s) = step_sim w (leads_sim v S l) s

  pub run_sim : (w : World E X) → Run before meaning w → Sim w
  run_sim w r = leads_sim r.first (fresh_sim r.first r.fresh) r.calls
