-- Numbered replicas and numbered channels, and all that can come about by the calls.
use Rattle.std.specs.Prelude.{◌≡◌, ℕ, Bool, List, [], ◌∷◌, ◌++◌, map, Some, None, slice_index_or}
use Rattle.edits.specs.declared.id.Id.{Id}
use Rattle.order.specs.Lists.{◌∈◌, with_at}
use Rattle.order.specs.Edits.{Edit}
use Rattle.order.specs.Systems.{Making, edits_of}
use Rattle.runs.specs.Replicas.{Editor, Replica, new, Reply, declined, edited, insert, delete, Intake, take_all}
use Rattle.runs.specs.Channels.{Bytes, Channel, Empty, Taken, AllFit, KeepsLaw, Sent, Line}

-- E is the type of elements, X that of the edits that channels carry
pub record World (E X : Type 0) : Type 0 where
  -- the replica of each editor
  pub replicas : ℕ → Replica E
  -- the channels, each with its format
  pub lines : ℕ → Line X
  -- the edits that were made, oldest first
  pub makings : List (Making E)
  -- the edits that each replica has accepted: made there, or taken in and neither known nor refused
  pub accepted : ℕ → List (Edit E)

-- new replicas, one for each editor and of any size, and new channels, each with a format that keeps its law
pub record Fresh {E X : Type 0} (w : World E X) : Type 0 where
  pub replicas : (i : ℕ) → (slots : ℕ) × (room : ℕ) × (w.replicas i ≡ new (Some i) slots room)
  pub channels : (c : ℕ) → Empty (w.lines c).holds
  pub formats : (c : ℕ) → KeepsLaw (w.lines c).format
  pub none_made : w.makings ≡ []
  pub none_accepted : (i : ℕ) → w.accepted i ≡ []

abbrev pub made_by : {E : Type 0} → Reply E → List (Making E)
made_by (declined fault) = []
made_by (edited m n) = m ∷ []

module _ {E X : Type 0} where
  -- after insert or delete at the replica i
  abbrev pub after_edit : World E X → ℕ → Replica E × Reply E → World E X
  after_edit w i p = record {
    replicas = with_at w.replicas i p.0;
    lines = w.lines;
    makings = w.makings ++ made_by p.1;
    accepted = with_at w.accepted i (w.accepted i ++ edits_of (made_by p.1));
  }

  abbrev pub with_line : World E X → ℕ → Channel → ℕ → Line X
  with_line w c k = with_at w.lines c (record { format = (w.lines c).format; holds = k })

  -- after the channel c changed
  abbrev pub after_send : World E X → ℕ → Channel → World E X
  after_send w c k = record { replicas = w.replicas; lines = with_line w c k; makings = w.makings; accepted = w.accepted }

  -- after the channel c changed and the replica i took edits in
  abbrev pub after_fetch : World E X → ℕ → ℕ → Channel → Intake E → World E X
  after_fetch w i c k intake = record {
    replicas = with_at w.replicas i intake.replica;
    lines = with_line w c k;
    makings = w.makings;
    accepted = with_at w.accepted i (w.accepted i ++ intake.accepted);
  }

-- One call at any replica and any channel, refused and vain calls included. meaning: which edit a carried one is.
pub data Step {E X : Type 0} (before : Id → Id → Bool) (meaning : X → Edit E) (w : World E X) : World E X → Type 0 where
  inserts : (i k : ℕ) (x : E) → Editor i → Step before meaning w (after_edit w i (insert before k x (w.replicas i)))
  deletes : (i k : ℕ) → Editor i → Step before meaning w (after_edit w i (delete before k (w.replicas i)))
  -- edits that were made, in any order, number and repetition, and that the format can carry, are sent by the channel c,
  -- as far as it can hold them
  sends : (c : ℕ) (xs rest : List X) (rs : List Bytes) (k : Channel)
      → ((x : X) → x ∈ xs → meaning x ∈ edits_of w.makings) → AllFit (w.lines c).format xs
      → Sent (w.lines c).format (w.lines c).holds xs k rs rest
      → Step before meaning w (after_send w c k)
  -- the replica i fetches the record n of the channel c, and takes its edits in
  fetches : (i c n : ℕ) (k : Channel) (xs : List X) → Editor i → Taken (w.lines c).holds n k
      → (w.lines c).format.reads (slice_index_or (w.lines c).holds.put n []) ≡ Some xs
      → Step before meaning w (after_fetch w i c k (take_all before (map meaning xs) (w.replicas i)))
  -- a fetched record is none of the format
  misreads : (c n : ℕ) (k : Channel) → Taken (w.lines c).holds n k
      → (w.lines c).format.reads (slice_index_or (w.lines c).holds.put n []) ≡ None
      → Step before meaning w (after_send w c k)
  -- a fetch where nothing is to come
  finds_none : (c : ℕ) → (w.lines c).holds.coming ≡ 0 → Step before meaning w w

-- any calls, one after another, lead from v to the last world
pub data Leads {E X : Type 0} (before : Id → Id → Bool) (meaning : X → Edit E) (v : World E X) : World E X → Type 0 where
  no_call : Leads before meaning v v
  then : {w w' : World E X} → Leads before meaning v w → Step before meaning w w' → Leads before meaning v w'

-- a run: what comes of calls on new replicas and new channels
pub record Run {E X : Type 0} (before : Id → Id → Bool) (meaning : X → Edit E) (w : World E X) : Type 0 where
  pub first : World E X
  pub fresh : Fresh first
  pub calls : Leads before meaning first w
