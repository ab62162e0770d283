-- A run worked out, with carried edits of the program's own type and the format `numbers`: edits come in the wrong order
-- and one comes twice; the early one waits, the repeated one changes nothing, and in the end both replicas show the same.
use Rattle.std.specs.Prelude.{◌≡◌, ℕ, true, [], ◌∷◌, length, replicate, codes, refl}
use Prim.Native.String.{String}
use Rattle.edits.specs.declared.clock.Pair.{Pair}
use Rattle.edits.specs.declared.clock.Clock.{Clock}
use Rattle.edits.specs.declared.edit.Side.TheVariants.{Right}
use Rattle.edits.specs.declared.edit.Parent.TheVariants.{Start, Entry}
use Rattle.edits.specs.declared.edit.Edit.{Edit as Carried}
use Rattle.edits.specs.declared.edit.Edit.TheVariants.{Insertion, Deletion}
use Rattle.edits.specs.Ids.{precedes}
use Rattle.order.specs.Systems.{edits_of}
use Rattle.runs.specs.Worlds.{World, Leads, Run}
use Rattle.runs.specs.Carried.{edit_of}
use Rattle.runs.specs.Numbers.{put_edit, numbers}
use Rattle.runs.specs.Stations.{letter, shows, ◌·◌}

-- THE CARRIED EDITS; their ghost fields are computed: each test passes

abbrev pub pair : ℕ → ℕ → Pair
pair i n = record { editor = i; count = n }

-- the clock that lists nothing, and the clock that lists n edits of editor 1
abbrev pub counts_none : Clock
counts_none = record { len = 0; pairs = replicate 16 (pair 0 0) }

abbrev pub counts_of_1 : ℕ → Clock
counts_of_1 n = record { len = 1; pairs = pair 1 n ∷ replicate 15 (pair 0 0) }

-- 1.1 inserts A under the start
abbrev pub first : Carried ℕ
first = Insertion (record { stamp = record { id = 1 · 1; clock = counts_none; kept = refl }; parent = Start; side = Right; kept = refl }) (letter "A")

-- 1.2 inserts B on the right of 1.1
abbrev pub second : Carried ℕ
second =
    Insertion (record { stamp = record { id = 1 · 2; clock = counts_of_1 1; kept = refl }; parent = Entry (1 · 1); side = Right; kept = refl }) (letter "B")

-- 1.3 deletes 1.1
abbrev pub third : Carried ℕ
third = Deletion (record { stamp = record { id = 1 · 3; clock = counts_of_1 2; kept = refl }; target = 1 · 1; kept = refl })

-- in the world w the replica i shows the text, and n edits wait there
abbrev pub Stands : World ℕ (Carried ℕ) → ℕ → String → ℕ → Type 0
Stands w i text n = (shows (w.replicas i) ≡ codes text) × (length (w.replicas i).shelf ≡ n)

abbrev pub Later : World ℕ (Carried ℕ) → World ℕ (Carried ℕ) → Type 0
Later = Leads precedes edit_of

-- final: what both replicas show in the end
pub record Worked (final : String) : Type 0 where
  -- editor 1 has inserted A at 0 and B at 1
  pub typed : World ℕ (Carried ℕ)
  pub run : Run precedes edit_of typed
  pub typed_at_1 : Stands typed 1 "AB" 0
  pub typed_at_2 : Stands typed 2 "" 0
  -- it has deleted at 0, and has sent by the channel 0 the second edit, the first, the second again, and the third
  pub sent : World ℕ (Carried ℕ)
  pub sends : Later typed sent
  pub made : edits_of sent.makings ≡ edit_of first ∷ edit_of second ∷ edit_of third ∷ []
  pub format : (sent.lines 0).format ≡ numbers
  pub records : (sent.lines 0).holds.put ≡ put_edit second ∷ put_edit first ∷ put_edit second ∷ put_edit third ∷ []
  pub sent_at_1 : Stands sent 1 "B" 0
  pub sent_at_2 : Stands sent 2 "" 0
  -- editor 2 has fetched the second edit, which waits for the first
  pub early : World ℕ (Carried ℕ)
  pub fetches_second : Later sent early
  pub early_at_1 : Stands early 1 "B" 0
  pub early_at_2 : Stands early 2 "" 1
  -- it has fetched the first, and both are applied
  pub applied : World ℕ (Carried ℕ)
  pub fetches_first : Later early applied
  pub applied_at_1 : Stands applied 1 "B" 0
  pub applied_at_2 : Stands applied 2 "AB" 0
  -- it has fetched the second again, which is known: nothing changes at its replica
  pub again : World ℕ (Carried ℕ)
  pub fetches_again : Later applied again
  pub again_at_1 : Stands again 1 "B" 0
  pub again_at_2 : Stands again 2 "AB" 0
  pub unchanged : again.replicas 2 ≡ applied.replicas 2
  -- it has fetched the deletion, and both replicas show the same and count the same
  pub last : World ℕ (Carried ℕ)
  pub fetches_third : Later again last
  pub last_at_1 : Stands last 1 final 0
  pub last_at_2 : Stands last 2 final 0
  pub counts_at_1 : ((last.replicas 1).clock 1 ≡ 3) × ((last.replicas 1).clock 2 ≡ 0)
  pub counts_at_2 : ((last.replicas 2).clock 1 ≡ 3) × ((last.replicas 2).clock 2 ≡ 0)
  -- all four records were handed out, and no answer is to come
  pub handed_out : (last.lines 0).holds.handed ≡ true ∷ true ∷ true ∷ true ∷ []
  pub none_to_come : (last.lines 0).holds.coming ≡ 0
