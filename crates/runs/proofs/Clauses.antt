-- Each call carries its clause: the run goes on through it, and the promises hold there.
use Rattle.std.proofs.Common.{◌≡◌, ℕ, Bool, List, ap, ◌∙◌, inl, inr}
use Rattle.edits.specs.declared.id.Id.{Id}
use Rattle.order.specs.Edits.{Edit, Order}
use Rattle.runs.specs.Replicas.{Editor, Replica, insert, delete, Intake}
use Rattle.runs.specs.Channels.{Channel, Format, Sent, Bytes}
use Rattle.runs.specs.Worlds as worlds
use Rattle.runs.specs.Worlds.{World, after_edit, with_line, after_send, after_fetch, Step, sends, fetches, misreads, finds_none, then, Run}
use Rattle.runs.specs.Clauses.{GoesOn, untouched, EditsOn, SendsOn, Fetched, FetchesOn}
use Rattle.runs.proofs.Simulation.{at_same, none_more}
use Rattle.runs.proofs.Promises.{promises}

module _ {E X : Type 0} {before : Id → Id → Bool} (O : Order before) (meaning : X → Edit E) where
  goes_on : (w w' : World E X) → Run before meaning w → Step before meaning w w' → GoesOn before meaning w'
  goes_on w w' run s = (next, promises O meaning w' next)
    where
      next : Run before meaning w'
      next = record { first = run.first; fresh = run.fresh; calls = then run.calls s }

  -- a channel as it was
  same_line : (w : World E X) (c : ℕ) (k : Channel) → k ≡ (w.lines c).holds → with_line w c k ≡ w.lines
  same_line w c k p = ap (λ (h : Channel). with_line w c h) p ∙ at_same w.lines c

  -- a replica as it was
  same_world : (w : World E X) (i c : ℕ) (k : Channel) → after_fetch w i c k (untouched before meaning (w.replicas i)) ≡ after_send w c k
  same_world w i c k = λ d. record {
    replicas = at_same w.replicas i d;
    lines = with_line w c k;
    makings = w.makings;
    accepted = none_more w.accepted i d;
  }

  same_send : (w : World E X) (c : ℕ) (k : Channel) → k ≡ (w.lines c).holds → after_send w c k ≡ w
  same_send w c k p = λ d. record { replicas = w.replicas; lines = same_line w c k p d; makings = w.makings; accepted = w.accepted }

  -- the three ways of a fetch
  fetched_on : (w : World E X) (i c : ℕ) → Run before meaning w → Editor i → (k : Channel) (intake : Intake E)
      → Fetched before meaning (w.lines c).format (w.lines c).holds (w.replicas i) k intake → GoesOn before meaning (after_fetch w i c k intake)
  fetched_on w i c run ed k intake (inl u) = rw u.2 (rw (same_world w i c k ∙ same_send w c k u.1) (goes_on w w run (finds_none c u.0)))
  fetched_on w i c run ed k intake (inr (inl u)) = rw u.4 (goes_on w _ run (fetches i c u.0 k u.1 ed u.2 u.3))
  fetched_on w i c run ed k intake (inr (inr u)) = rw u.3 (rw (same_world w i c k) (goes_on w _ run (misreads c u.0 k u.1 u.2)))

  pub insert_on : (k : ℕ) (x : E) (r : Replica E) → EditsOn before meaning r (insert before k x r)
  insert_on k x r w i run ed p = (
    promises O meaning w run,
    rw⁻¹ p (goes_on w _ run (worlds.inserts i k x ed)),
  )

  pub delete_on : (k : ℕ) (r : Replica E) → EditsOn before meaning r (delete before k r)
  delete_on k r w i run ed p = (
    promises O meaning w run,
    rw⁻¹ p (goes_on w _ run (worlds.deletes i k ed)),
  )

  pub send_on : (format : Format X) (h : Channel) (xs : List X) (k : Channel) (rs : List Bytes) (rest : List X) → Sent format h xs k rs rest → SendsOn before meaning format h xs k
  send_on format h xs k rs rest sent w c run made fit pf ph = goes_on w _ run (sends c xs rest rs k made (rw pf fit) (rw (pf, ph) sent))

  pub fetch_on : (format : Format X) (h : Channel) (r : Replica E) (k : Channel) (intake : Intake E) → Fetched before meaning format h r k intake
      → FetchesOn before meaning format h r k intake
  fetch_on format h r k intake fetched w i c run ed pr pf ph =
      fetched_on w i c run ed k intake (rw (pf, ph, pr) fetched)
