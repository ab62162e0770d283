-- The known stations hold: each is computed.
use Rattle.std.proofs.Common.{refl, arith}
use Rattle.edits.specs.Ids.{precedes}
use Rattle.order.specs.Edits.{Lawful}
use Rattle.runs.specs.Replicas.{within}
use Rattle.runs.specs.Stations.{stray, Stations}

lawful : Lawful stray
lawful = record { own = refl; refers = omega arith }

pub stations : Stations precedes
unfolding within
stations = record {
  words_stay_whole = (refl, refl);
  words_stay_whole_backward = (refl, refl);
  beside_a_first_tombstone = (refl, refl);
  beside_an_inner_tombstone = (refl, refl);
  three_editors_at_one_place = (refl, refl, refl);
  no_insertion_past_the_end = (refl, refl, refl);
  what_comes_early_waits = (refl, refl, refl, refl, refl, refl, refl, refl, refl);
  no_entry_no_effect = (refl, lawful, refl, refl, refl, refl, refl, refl, refl);
}
