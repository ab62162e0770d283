-- The promises as the contract of one call carries them: whatever run has the call's entry state, the run goes on
-- through the call, and all is kept.
use Rattle.std.specs.Prelude.{◌≡◌, ℕ, Bool, ◌⊎◌, List, [], map, Some, None, Ok, slice_index_or}
use Rattle.edits.specs.declared.id.Id.{Id}
use Rattle.order.specs.Lists.{◌∈◌}
use Rattle.order.specs.Edits.{Edit}
use Rattle.order.specs.Systems.{edits_of}
use Rattle.runs.specs.Replicas.{Editor, Replica, Reply, Intake, take_all}
use Rattle.runs.specs.Channels.{Channel, Taken, Format, AllFit}
use Rattle.runs.specs.Worlds.{World, after_edit, after_send, after_fetch, Run}
use Rattle.runs.specs.Promises.{Kept}

module _ {E X : Type 0} (before : Id → Id → Bool) (meaning : X → Edit E) where
  -- the run goes on to w, and the promises hold there
  abbrev pub GoesOn : World E X → Type 0
  GoesOn w = Run before meaning w × Kept before meaning w

  -- insert or delete, which turns the replica r into p.0 and answers p .1. The promises on indexes are those of the world
  -- before the call. When it is refused, and with which fault, the exact clause of the call says.
  abbrev pub EditsOn : Replica E → Replica E × Reply E → Type 0
  EditsOn r p = (w : World E X) (i : ℕ) → Run before meaning w → Editor i → w.replicas i ≡ r
      → Kept before meaning w × GoesOn (after_edit w i p)

  -- send of xs, or of a front of it, by a channel that was h and now is k
  abbrev pub SendsOn : Format X → Channel → List X → Channel → Type 0
  SendsOn format h xs k = (w : World E X) (c : ℕ) → Run before meaning w → ((x : X) → x ∈ xs → meaning x ∈ edits_of w.makings) → AllFit format xs
      → (w.lines c).format ≡ format → (w.lines c).holds ≡ h → GoesOn (after_send w c k)

  -- nothing taken in
  abbrev pub untouched : Replica E → Intake E
  untouched r = record { replica = r; accepted = []; answer = Ok 0 }

  -- what a fetch does: nothing is to come; or a record comes and is read; or it is none of the format
  abbrev pub Fetched : Format X → Channel → Replica E → Channel → Intake E → Type 0
  Fetched format h r k intake =
      ((h.coming ≡ 0) × (k ≡ h) × (intake ≡ untouched r))
      ⊎ (((n : ℕ) × (xs : List X) × Taken h n k × (format.reads (slice_index_or h.put n []) ≡ Some xs) × (intake ≡ take_all before (map meaning xs) r))
      ⊎ ((n : ℕ) × Taken h n k × (format.reads (slice_index_or h.put n []) ≡ None) × (intake ≡ untouched r)))

  -- fetch by the replica r from a channel that was h and now is k
  abbrev pub FetchesOn : Format X → Channel → Replica E → Channel → Intake E → Type 0
  FetchesOn format h r k intake = (w : World E X) (i c : ℕ) → Run before meaning w → Editor i → w.replicas i ≡ r
      → (w.lines c).format ≡ format → (w.lines c).holds ≡ h → GoesOn (after_fetch w i c k intake)
