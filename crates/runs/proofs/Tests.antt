-- What the tests of a replica say.
use Rattle.std.proofs.Common.{◌≡◌, ℕ, zero, suc, ◌+◌, ◌≤◌, Bool, true, false, cond, leb, ◌⊎◌, List, [], ◌∷◌, length, Some, None, Option, refl, ap, inl, inr, arith, le-leb, leb-true}
use Rattle.std.proofs.lemmas.Bool.{cases_lt, and_parts}
use Rattle.std.proofs.Math.Logic.{⊎_map}
use Rattle.edits.specs.declared.id.Id.{Id}
use Rattle.edits.specs.declared.fault.Fault.{Fault}
use Rattle.order.specs.Lists.{◌∈◌, here, there, ◌∉◌, keep}
use Rattle.order.specs.Edits.{Clock, Edit}
use Rattle.order.specs.Histories.{edit_id, edit_ids}
use Rattle.order.proofs.Lists.{in_map, each_cons, Distinct}
use Rattle.order.proofs.Histories.{ids_sub}
use Rattle.runs.specs.Replicas.{within, placed, inserts, Verdict, knows, refuses, applies, shelves, Pick, nothing, picked, behind, pick, judged, barred}

-- every editor from 1 to n
pub within_each : (n : ℕ) (a b : Clock) → within n a b ≡ true → (i : ℕ) → 1 ≤ i → i ≤ n → a i ≤ b i
unfolding within
within_each zero a b t i l u = absurd (omega arith)
within_each (suc n) a b t i l u = let both = and_parts (leb (a (suc n)) (b (suc n))) (within n a b) t in elim (cases_lt n i) [
  | inl gt ↦ let last : suc n ≡ i = omega arith in rw⁻¹ last (leb-true (a (suc n)) (b (suc n)) both.0)
  | inr le ↦ within_each n a b both.1 i l le
]

pub each_within : (n : ℕ) (a b : Clock) → ((i : ℕ) → 1 ≤ i → i ≤ n → a i ≤ b i) → within n a b ≡ true
unfolding within
each_within zero a b f = refl
each_within (suc n) a b f = rw (le-leb (a (suc n)) (b (suc n)) (f (suc n) (omega arith) (omega arith))) (each_within n a b (λ i l u. f i l (omega arith)))

pub placed_length : (i : ℕ) (js : List ℕ) → length (placed i js) ≡ suc (length js)
placed_length i [] = refl
placed_length i (j ∷ js) = go _ (placed_length i js)
  where
    go : (b : Bool) → length (placed i js) ≡ suc (length js) → length (cond b (j ∷ placed i js) (i ∷ j ∷ js)) ≡ suc (suc (length js))
    go true ih = ap suc ih
    go false ih = refl

-- which tests have passed
abbrev pub Judged : Bool → Bool → Bool → Bool → Bool → Verdict → Type 0
Judged known crowded slotless ready no_room knows = Unit {0}
Judged known crowded slotless ready no_room (refuses f) = Unit {0}
Judged known crowded slotless ready no_room applies = (known ≡ false) × (crowded ≡ false) × (slotless ≡ false) × (ready ≡ true)
Judged known crowded slotless ready no_room shelves = (known ≡ false) × (crowded ≡ false) × (slotless ≡ false) × (ready ≡ false) × (no_room ≡ false)

pub judged_by : (id : Id) (a b c d e : Bool) → Judged a b c d e (judged id a b c d e)
judged_by id true b c d e = tt
judged_by id false true c d e = tt
judged_by id false false true d e = tt
judged_by id false false false true e = (refl, refl, refl, refl)
judged_by id false false false false true = tt
judged_by id false false false false false = (refl, refl, refl, refl, refl)

abbrev pub Allowed : Bool → Bool → Bool → Bool → Option Fault → Type 0
Allowed own_waits used_up no_index slotless (Some f) = Unit {0}
Allowed own_waits used_up no_index slotless None = (own_waits ≡ false) × (used_up ≡ false) × (no_index ≡ false) × (slotless ≡ false)

pub allowed_by : (id : Id) (a b c d : Bool) → Allowed a b c d (barred id a b c d)
allowed_by id true b c d = tt
allowed_by id false true c d = tt
allowed_by id false false true d = tt
allowed_by id false false false true = tt
allowed_by id false false false false = (refl, refl, refl, refl)

abbrev pub one_if : Bool → ℕ
one_if b = cond b 1 0

-- an edit taken out of a list
module _ {E : Type 0} where
  pub keep_length : (e : Edit E) (es : List (Edit E)) → length (keep inserts (e ∷ es)) ≡ one_if (inserts e) + length (keep inserts es)
  keep_length e es = go (inserts e)
    where
      go : (b : Bool) → length (cond b (e ∷ keep inserts es) (keep inserts es)) ≡ one_if b + length (keep inserts es)
      go true = omega arith
      go false = omega arith

  pub record Picked (p : Edit E → Bool) (es : List (Edit E)) (e : Edit E) (others : List (Edit E)) : Type 0 where
    pub passes : p e ≡ true
    pub member : e ∈ es
    pub rest : (d : Edit E) → d ∈ es → (d ≡ e) ⊎ (d ∈ others)
    pub sub : (d : Edit E) → d ∈ others → d ∈ es
    pub fewer : length es ≡ suc (length others)
    pub slots : length (keep inserts es) ≡ one_if (inserts e) + length (keep inserts others)
    pub apart : Distinct (edit_ids es) → Distinct (edit_ids others) × (e.id ∉ edit_ids others)

  abbrev pub Picks : (Edit E → Bool) → List (Edit E) → Pick E → Type 0
  Picks p es nothing = (d : Edit E) → d ∈ es → p d ≡ false
  Picks p es (picked e others) = Picked p es e others

  picks_behind : (p : Edit E → Bool) (d : Edit E) (es : List (Edit E)) → p d ≡ false → (k : Pick E) → Picks p es k → Picks p (d ∷ es) (behind d k)
  picks_behind p d es f nothing none = each_cons (λ (c : Edit E). p c ≡ false) d es f none
  picks_behind p d es f (picked e others) k = record {
    passes = k.passes;
    member = there k.member;
    rest = each_cons (λ (c : Edit E). (c ≡ e) ⊎ (c ∈ (d ∷ others))) d es (inr (here refl)) (λ c m. ⊎_map (λ q. q) (λ n. there n) (k.rest c m));
    sub = each_cons (λ (c : Edit E). c ∈ (d ∷ es)) d others (here refl) (λ c m. there (k.sub c m));
    fewer = ap suc k.fewer;
    slots = omega (arith, keep_length d es, keep_length d others);
    apart = λ a. (((λ m. a.0 (ids_sub others es k.sub d.id m)), (k.apart a.1).0), λ m. out a m);
  }
    where
      out : Distinct (edit_ids (d ∷ es)) → e.id ∈ (d.id ∷ edit_ids others) → ⊥
      out a (here q) = a.0 (rw⁻¹ q (in_map edit_id es k.member))
      out a (there m) = (k.apart a.1).1 m

  pub picks : (p : Edit E → Bool) (es : List (Edit E)) → Picks p es (pick p es)
  picks p [] = λ d m. elim m [ ]
  picks p (d ∷ es) = go (p d) refl (picks p es)
    where
      go : (b : Bool) → p d ≡ b → Picks p es (pick p es) → Picks p (d ∷ es) (cond b (picked d es) (behind d (pick p es)))
      go true t k = record {
        passes = t;
        member = here refl;
        rest = each_cons (λ (c : Edit E). (c ≡ d) ⊎ (c ∈ es)) d es (inl refl) (λ c m. inr m);
        sub = λ c m. there m;
        fewer = refl;
        slots = keep_length d es;
        apart = λ a. (a.1, a.0);
      }
      go false t k = picks_behind p d es t (pick p es) k
