-- The worked run, by computing.
use Rattle.std.proofs.Common.{◌≡◌, ℕ, suc, ◌-◌, ◌<◌, ◌≤◌, Bool, true, false, cond, eqb, leb, List, [], ◌∷◌, ◌++◌, map, length, get_or, set, Some, sym, refl, ap, ◌∙◌, inl, arith, eq-eqb, eqb-true}
use Rattle.std.specs.Cmp.{both_ways}
use Rattle.std.proofs.Math.Path.{fun_ext}
use Rattle.edits.specs.declared.edit.Edit.{Edit as Carried}
use Rattle.edits.specs.Ids.{precedes}
use Rattle.order.specs.Lists.{◌∈◌, here, there, with_at}
use Rattle.order.specs.Edits.{Clock, Edit}
use Rattle.order.specs.Systems.{edits_of}
use Rattle.order.proofs.Lists.{each_cons}
use Rattle.runs.specs.Replicas.{within, new, insert, delete, take_all}
use Rattle.runs.specs.Channels.{Bytes, Channel, AllFit, Put, uncut, one_cut, none_put, one_put, Sent}
use Rattle.runs.specs.Worlds.{World, Fresh, after_edit, after_send, after_fetch, inserts, deletes, sends, fetches, no_call, then}
use Rattle.runs.specs.Carried.{edit_of}
use Rattle.runs.specs.Numbers.{put_edit, numbers}
use Rattle.runs.specs.Stations.{letter}
use Rattle.runs.specs.Worked.{first, second, third, Later, Worked}
use Rattle.runs.proofs.Numbers.{numbers_lawful}

-- THE WORLDS

abbrev records : List Bytes
records = put_edit second ∷ put_edit first ∷ put_edit second ∷ put_edit third ∷ []

-- a channel that can hold any record of up to 1,024 bytes
abbrev can_hold : ℕ → Bool
can_hold n = leb n 1024

abbrev empty : Channel
empty = record { put = []; handed = []; coming = 0; can_hold = can_hold }

abbrev start : World ℕ (Carried ℕ)
start = record { replicas = λ i. new (Some i) 9 9; lines = λ c. record { format = numbers; holds = empty }; makings = []; accepted = λ i. [] }

abbrev one : World ℕ (Carried ℕ)
one = after_edit start 1 (insert precedes 0 (letter "A") (start.replicas 1))

abbrev typed : World ℕ (Carried ℕ)
typed = after_edit one 1 (insert precedes 1 (letter "B") (one.replicas 1))

abbrev three : World ℕ (Carried ℕ)
three = after_edit typed 1 (delete precedes 0 (typed.replicas 1))

abbrev sent : World ℕ (Carried ℕ)
sent = after_send three 0 (record { put = records; handed = false ∷ false ∷ false ∷ false ∷ []; coming = 4; can_hold = can_hold })

-- the record n is handed out
abbrev handing_out : Channel → ℕ → Channel
handing_out h n = record { put = h.put; handed = set h.handed n true; coming = h.coming - 1; can_hold = h.can_hold }

-- editor 2 fetches the record n, which holds x
abbrev fetched : World ℕ (Carried ℕ) → ℕ → Carried ℕ → World ℕ (Carried ℕ)
fetched w n x = after_fetch w 2 0 (handing_out (w.lines 0).holds n) (take_all precedes (map edit_of (x ∷ [])) (w.replicas 2))

abbrev early : World ℕ (Carried ℕ)
early = fetched sent 0 second

abbrev applied : World ℕ (Carried ℕ)
applied = fetched early 1 first

abbrev again : World ℕ (Carried ℕ)
again = fetched applied 2 second

abbrev last : World ℕ (Carried ℕ)
last = fetched again 3 third

-- what holds of four holds of each of them
of_four : {A : Type 0} (P : A → Type 0) {a b c d : A} → P a → P b → P c → P d → (x : A) → x ∈ (a ∷ b ∷ c ∷ d ∷ []) → P x
of_four P a b c d = each_cons P _ _ a (each_cons P _ _ b (each_cons P _ _ c (each_cons P _ _ d (λ x m. elim m [ ]))))

-- THE CARRIED EDITS MEAN THE EDITS MADE

-- The clock of a made edit tests whether the editor asked for is 1, that of a carried edit whether 1 is the editor asked for.
turned : (i j : ℕ) → eqb i j ≡ eqb j i
turned i j = both_ways (eqb i j) (eqb j i) (λ t. eq-eqb j i (sym (eqb-true i j t))) (λ t. eq-eqb i j (sym (eqb-true j i t)))

-- a later count of the same editor replaces an earlier one
replaced : (b : Bool) (m n : ℕ) → cond b n (cond b m 0) ≡ cond b n 0
replaced true m n = refl
replaced false m n = refl

clock_second : with_at (λ i. 0) 1 1 ≡ (edit_of second).clock
clock_second = fun_ext (λ j. ap (λ (b : Bool). cond b 1 0) (turned j 1))

clock_third : with_at (with_at (λ i. 0) 1 1) 1 2 ≡ (edit_of third).clock
clock_third = fun_ext (λ j. replaced (eqb j 1) 1 2 ∙ ap (λ (b : Bool). cond b 2 0) (turned j 1))

made : edits_of three.makings ≡ edit_of first ∷ edit_of second ∷ edit_of third ∷ []
made = λ i. edit_of first ∷ with_clock (edit_of second) (clock_second i) ∷ with_clock (edit_of third) (clock_third i) ∷ []
  where
    with_clock : Edit ℕ → Clock → Edit ℕ
    with_clock e c = record { id = e.id; clock = c; change = e.change }

abbrev carried : List (Carried ℕ)
carried = second ∷ first ∷ second ∷ third ∷ []

meant : (x : Carried ℕ) → x ∈ carried → edit_of x ∈ edits_of three.makings
meant = rw made (of_four (λ (x : Carried ℕ). edit_of x ∈ (edit_of first ∷ edit_of second ∷ edit_of third ∷ []))
    (there (here refl)) (here refl) (there (here refl)) (there (there (here refl))))

-- THE CALLS

fresh : Fresh start
fresh = record { replicas = λ i. (9, 9, refl); channels = λ c. record { put = refl; handed = refl; coming = refl }; formats = λ c. numbers_lawful; none_made = refl; none_accepted = λ i. refl }

-- a record put, with one answer more to come
abbrev with_record : Channel → Bytes → Channel
with_record h r = record { put = h.put ++ (r ∷ []); handed = h.handed ++ (false ∷ []); coming = suc h.coming; can_hold = h.can_hold }

put : (h : Channel) (r : Bytes) → h.can_hold (length r) ≡ true → length r ≤ 1024 → Put h r (with_record h r)
put h r held few = record { held = held; few_bytes = few; put = refl; handed = refl; more = omega arith }

-- four edits make four records
all_sent : Sent numbers empty carried (sent.lines 0).holds records []
all_sent = record {
  cut = one_cut (one_cut (one_cut (one_cut uncut (omega arith)) (omega arith)) (omega arith)) (omega arith);
  puts = one_put (one_put (one_put (one_put none_put (put empty (put_edit second) refl (omega arith)))
      (put _ (put_edit first) refl (omega arith))) (put _ (put_edit second) refl (omega arith))) (put _ (put_edit third) refl (omega arith));
  ends = inl refl;
}

fits : AllFit numbers carried
fits = of_four (λ (x : Carried ℕ). numbers.fits x ≡ true) refl refl refl refl

-- one call leads to the world after the fetch
fetch : (w : World ℕ (Carried ℕ)) (n : ℕ) (x : Carried ℕ) → n < length (w.lines 0).holds.put → 1 ≤ (w.lines 0).holds.coming
    → (w.lines 0).format.reads (get_or (w.lines 0).holds.put n []) ≡ Some (x ∷ [])
    → ((w.lines 0).holds.coming ≡ 1 → (b : Bool) → b ∈ set (w.lines 0).holds.handed n true → b ≡ true) → Later w (fetched w n x)
fetch w n x place some e last =
    then no_call (fetches 2 0 n _ (x ∷ []) (omega arith) (record { place = place; put = refl; handed = refl; fewer = omega arith; last = λ q. last (omega arith) }) e)

-- more than one answer is to come
not_one : {A : Type 0} {n : ℕ} → 2 ≤ n → n ≡ 1 → A
not_one le q = let no : ⊥ = omega arith in absurd no

all_handed : (b : Bool) → b ∈ (true ∷ true ∷ true ∷ true ∷ []) → b ≡ true
all_handed = of_four (λ (b : Bool). b ≡ true) refl refl refl refl

pub worked : Worked "B"
unfolding within
worked = record {
  typed = typed;
  run = record { first = start; fresh = fresh; calls = then (then no_call (inserts 1 0 (letter "A") (omega arith))) (inserts 1 1 (letter "B") (omega arith)) };
  typed_at_1 = (refl, refl);
  typed_at_2 = (refl, refl);
  sent = sent;
  sends = then (then no_call (deletes 1 0 (omega arith))) (sends 0 carried [] records _ meant fits all_sent);
  made = made;
  format = refl;
  records = refl;
  sent_at_1 = (refl, refl);
  sent_at_2 = (refl, refl);
  early = early;
  fetches_second = fetch sent 0 second (omega arith) (omega arith) refl (not_one (omega arith));
  early_at_1 = (refl, refl);
  early_at_2 = (refl, refl);
  applied = applied;
  fetches_first = fetch early 1 first (omega arith) (omega arith) refl (not_one (omega arith));
  applied_at_1 = (refl, refl);
  applied_at_2 = (refl, refl);
  again = again;
  fetches_again = fetch applied 2 second (omega arith) (omega arith) refl (not_one (omega arith));
  again_at_1 = (refl, refl);
  again_at_2 = (refl, refl);
  unchanged = refl;
  last = last;
  fetches_third = fetch again 3 third (omega arith) (omega arith) refl (λ q. all_handed);
  last_at_1 = (refl, refl);
  last_at_2 = (refl, refl);
  counts_at_1 = (refl, refl);
  counts_at_2 = (refl, refl);
  handed_out = refl;
  none_to_come = refl;
}
