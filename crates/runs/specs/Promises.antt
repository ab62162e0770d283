-- What is promised of one replica, whatever it is given, and of every run.
use Rattle.std.specs.Prelude.{◌≡◌, ℕ, zero, suc, ◌+◌, ◌<◌, ◌≤◌, Bool, false, ◌⊎◌, ◌↔◌, List, [], ◌∷◌, ◌++◌, length, Some, Option}
use Rattle.edits.specs.declared.id.Id.{Id}
use Rattle.order.specs.Lists.{◌∈◌, ◌⊆◌, keep}
use Rattle.order.specs.Edits.{Clock, Edit, Covers, Lawful}
use Rattle.order.specs.Forests.{Forest, read, visible, ids, apply, tree}
use Rattle.order.specs.Histories.{count, History, standing}
use Rattle.order.specs.Systems.{Making, edits_of}
use Rattle.order.specs.Theorems.{PutAt, HiddenAt, TypedRun, Unbroken, BecomesEntry}
use Rattle.runs.specs.Replicas.{Editor, most_editors, Replica, new, inserts, ready, own_waits, Answer, known, refused, taken, edited, take_in, insert, delete}
use Rattle.runs.specs.Worlds.{World, made_by, Leads}

-- how many edits of the editors 1 to n a clock counts
unfoldable pub total : ℕ → Clock → ℕ
total zero clock = 0
total (suc n) clock = clock (suc n) + total n clock

module _ {E : Type 0} where
  -- By the calls alone: an accepted edit is applied as soon as everything that its clock covers is applied, that is,
  -- as soon as each identifier that it covers is that of an applied edit.
  pub data Applied (accepted : List (Edit E)) : Edit E → Type 0 where
    applies : (e : Edit E) → e ∈ accepted
        → (of : (a : Id) → Covers e.clock a → Edit E)
        → ((a : Id) (c : Covers e.clock a) → (of a c).id ≡ a)
        → ((a : Id) (c : Covers e.clock a) → Applied accepted (of a c))
        → Applied accepted e

  -- the list holds exactly the applied edits
  abbrev pub Exactly : List (Edit E) → List (Edit E) → Type 0
  Exactly accepted log = (e : Edit E) → (e ∈ log) ↔ Applied accepted e

  abbrev pub Rostered : Replica E → List (Edit E) → Type 0
  Rostered r accepted = (i : ℕ) → (i ∈ r.roster) ↔ ((r.editor ≡ Some i) ⊎ ((e : Edit E) × (e ∈ accepted) × (e.id.editor ≡ i)))

  -- What a replica holds that has accepted these edits: the tree of exactly the applied edits, a clock that counts
  -- them, a shelf with the accepted edits that are not applied, none of them ready; and nothing beyond its limits.
  pub record Document (before : Id → Id → Bool) (r : Replica E) (accepted : List (Edit E)) : Type 0 where
    pub log : List (Edit E)
    pub history : History log
    pub exactly : Exactly accepted log
    pub forest : r.forest ≡ tree before log
    pub clock : (editor : ℕ) → r.clock editor ≡ count log editor
    pub shelf : (e : Edit E) → (e ∈ r.shelf) ↔ ((e ∈ accepted) × (Applied accepted e → ⊥))
    pub waiting : (e : Edit E) → e ∈ r.shelf → ready r e ≡ false
    pub slots : length (read r.forest) + length (keep inserts r.shelf) ≤ r.slots
    pub room : length r.shelf ≤ r.room
    pub editors : length r.roster ≤ most_editors
    -- on the roster stand the own editor and the editors of all accepted edits
    pub roster : Rostered r accepted

  -- An edit of any origin, honest or not: it keeps the rules, and only editors from 1 to 255 stand in it.
  pub record SoundEdit (e : Edit E) : Type 0 where
    pub lawful : Lawful e
    pub maker : Editor e.id.editor
    pub counts : (i : ℕ) → 1 ≤ e.clock i → Editor i

  abbrev pub accepted_by : Answer → Edit E → List (Edit E)
  accepted_by known e = []
  accepted_by (refused fault) e = []
  accepted_by (taken n) e = e ∷ []

  -- any calls at one replica, with edits of any origin: the replica then, and what it has accepted
  pub data Fed (before : Id → Id → Bool) : Replica E → List (Edit E) → Type 0 where
    unused : (editor : Option ℕ) (slots room : ℕ) → Fed before (new editor slots room) []
    takes_in : {r : Replica E} {accepted : List (Edit E)} (e : Edit E) → SoundEdit e → Fed before r accepted
        → Fed before (take_in before e r).0 (accepted ++ accepted_by (take_in before e r).1 e)
    makes_insertion : {r : Replica E} {accepted : List (Edit E)} (i k : ℕ) (x : E) → Editor i → r.editor ≡ Some i → Fed before r accepted
        → Fed before (insert before k x r).0 (accepted ++ edits_of (made_by (insert before k x r).1))
    makes_deletion : {r : Replica E} {accepted : List (Edit E)} (i k : ℕ) → Editor i → r.editor ≡ Some i → Fed before r accepted
        → Fed before (delete before k r).0 (accepted ++ edits_of (made_by (delete before k r).1))

  -- the promises of one replica by itself
  pub record KeptAlone (before : Id → Id → Bool) (r : Replica E) (accepted : List (Edit E)) : Type 0 where
    pub document : Document before r accepted
    -- each call answers with the number of edits that it applied, the clock's growth
    pub grows : (e : Edit E) → SoundEdit e → (n : ℕ) → (take_in before e r).1 ≡ taken n
        → total 255 (take_in before e r).0.clock ≡ total 255 r.clock + n
    pub insert_grows : (i k n : ℕ) (x : E) (m : Making E) → Editor i → r.editor ≡ Some i → (insert before k x r).1 ≡ edited m n
        → total 255 (insert before k x r).0.clock ≡ total 255 r.clock + n
    pub delete_grows : (i k n : ℕ) (m : Making E) → Editor i → r.editor ≡ Some i → (delete before k r).1 ≡ edited m n
        → total 255 (delete before k r).0.clock ≡ total 255 r.clock + n
    -- the entry of an insertion stands at its index before any waiting edit is released, and the others stay as they are
    pub inserted : (i k n : ℕ) (x : E) (m : Making E) → Editor i → r.editor ≡ Some i → (insert before k x r).1 ≡ edited m n
        → (k ≤ length (visible r.forest)) × PutAt k m.edit.id x r.forest (apply before m.edit r.forest)
    -- a deletion hides the entry at its index and no other, before any waiting edit is released
    pub deleted : (i k n : ℕ) (m : Making E) → Editor i → r.editor ≡ Some i → (delete before k r).1 ≡ edited m n
        → (k < length (visible r.forest)) × HiddenAt k r.forest (apply before m.edit r.forest)

module _ {E X : Type 0} where
  abbrev pub SameClocks : World E X → ℕ → ℕ → Type 0
  SameClocks w i j = (editor : ℕ) → (w.replicas i).clock editor ≡ (w.replicas j).clock editor

  abbrev pub SameApplied : World E X → ℕ → ℕ → Type 0
  SameApplied w i j = (e : Edit E) → Applied (w.accepted i) e ↔ Applied (w.accepted j) e

  -- the tree of all edits that were made: its reading order is the one order of all entries, tombstones counted
  abbrev pub tree_of_all : (Id → Id → Bool) → World E X → Forest E
  tree_of_all before w = tree before (edits_of w.makings)

  -- The promises of a run that has come to the world w.
  pub record Kept (before : Id → Id → Bool) (meaning : X → Edit E) (w : World E X) : Type 0 where
    -- state: each replica holds the document of exactly the edits applied there
    pub document : (i : ℕ) → Document before (w.replicas i) (w.accepted i)
    -- the replica i is that of the editor i
    pub editor : (i : ℕ) → (w.replicas i).editor ≡ Some i
    -- what a replica has accepted was made
    pub honest : (i : ℕ) → w.accepted i ⊆ edits_of w.makings
    -- no identifier stands for two edits
    pub one_each : (d e : Edit E) → d ∈ edits_of w.makings → e ∈ edits_of w.makings → d.id ≡ e.id → d ≡ e
    -- agreement: equal clocks exactly when the same edits are applied, and then the same entries in the same order
    pub agreement : (i j : ℕ) → (SameClocks w i j ↔ SameApplied w i j)
        × (SameApplied w i j → visible (w.replicas i).forest ≡ visible (w.replicas j).forest)
    -- one order: in the reading order of the tree of all edits that the whole run makes, calls yet to come included, each
    -- replica shows exactly the entries, identifier and element, of which it has applied the insertion and no deletion
    pub one_order : (later : World E X) → Leads before meaning w later → (i : ℕ) (log : List (Edit E)) → Exactly (w.accepted i) log
        → visible (w.replicas i).forest ≡ standing log (read (tree_of_all before later))
    -- an insert that is not refused has its entry at the index given, and the others stay as they are, release included;
    -- it applies its own edit and no other
    pub inserted : (i k n : ℕ) (x : E) (m : Making E) → Editor i → (insert before k x (w.replicas i)).1 ≡ edited m n
        → (n ≡ 1) × (k ≤ length (visible (w.replicas i).forest)) × PutAt k m.edit.id x (w.replicas i).forest (insert before k x (w.replicas i)).0.forest
    -- a delete that is not refused hides the entry at the index given, and no other, release included; it applies its own
    -- edit and no other
    pub deleted : (i k n : ℕ) (m : Making E) → Editor i → (delete before k (w.replicas i)).1 ≡ edited m n
        → (n ≡ 1) × (k < length (visible (w.replicas i).forest)) × HiddenAt k (w.replicas i).forest (delete before k (w.replicas i)).0.forest
    -- no interleaving: between two entries of a run, in the one order of all entries, tombstones counted, stand only entries
    -- whose makers had applied the run's first edit
    pub unbroken : (m n : Making E) (rest : List (Making E)) → TypedRun w.makings m n rest
        → Unbroken w.makings (ids (tree_of_all before w)) (m ∷ n ∷ rest) m.edit.id
    -- nothing is lost: every insertion that was made is an entry, shown or a tombstone, in the one order of all entries
    pub entries : (m : Making E) → m ∈ w.makings → BecomesEntry m (read (tree_of_all before w))
    -- a replica that has accepted all that was made has applied it all, and nothing waits there
    pub complete : (i : ℕ) → edits_of w.makings ⊆ w.accepted i
        → ((e : Edit E) → e ∈ edits_of w.makings → Applied (w.accepted i) e) × ((w.replicas i).shelf ≡ [])
    -- an editor's own edits never wait at its replica
    pub own_applied : (i : ℕ) → Editor i → own_waits (w.replicas i) ≡ false
