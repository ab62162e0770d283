-- The format `numbers` keeps its law: what is written is read back, ghost fields included, since a test passes in one way only.
use Rattle.std.proofs.Common.{◌≡◌, ℕ, zero, suc, ◌+◌, ◌≤◌, Bool, true, false, leb, List, [], ◌∷◌, length, Some, None, Option, refl, ap, ◌∙◌, subst, arith, leb-true}
use Rattle.std.proofs.lemmas.Bool.{and_parts}
use Rattle.std.specs.List.{list_all}
use Rattle.std.proofs.Math.Bool.{Bool-set}
use Rattle.std.proofs.lemmas.Bool.{false≢true}
use Rattle.edits.specs.declared.id.Id.{Id}
use Rattle.edits.specs.declared.clock.Pair.{Pair}
use Rattle.edits.specs.declared.edit.Side.{Side}
use Rattle.edits.specs.declared.edit.Side.TheVariants.{Left, Right}
use Rattle.edits.specs.declared.edit.Parent.{Parent}
use Rattle.edits.specs.declared.edit.Parent.TheVariants.{Start, Entry}
use Rattle.edits.specs.declared.edit.Stamp.{Stamp}
use Rattle.edits.specs.declared.edit.Edit.{Edit as Carried}
use Rattle.edits.specs.declared.edit.Edit.TheVariants.{Insertion, Deletion}
use Rattle.order.specs.Lists.{◌∈◌, here}
use Rattle.order.proofs.Lists.{each_cons}
use Rattle.edits.specs.Clocks.{pairs_of}
use Rattle.edits.specs.Rules.{parent_kept, covers}
use Rattle.runs.specs.Channels.{Bytes, AllFit, KeepsLaw, Packed}
use Rattle.runs.specs.Numbers.{put_parent, put_side, put_pairs, put_stamp, put_edit, get_number, get_id, parent_by, get_parent, side_by, get_side, get_pairs, get_stamp, edit_by, get_edit}
use Rattle.runs.specs.Numbers.{if_some, if_passed, stamp_by, insertion_by, deletion_by, put_first, numbers}
use Rattle.runs.proofs.Carried.{stamp_rules}
use Rattle.edits.proofs.Placed.{kept_parts}

-- WHAT IS WRITTEN IS READ BACK

module _ {A : Type 0} where
  -- whichever proof k there is that the test passes
  passed : (test : Bool) (make : test ≡ true → A) (k : test ≡ true) → if_passed test make ≡ Some (make k)
  passed true make k = ap {B = Option A} (λ e. Some (make e)) (Bool-set true true refl k)
  passed false make k = absurd (false≢true k)

  parent_back : (p : Parent) (r : Bytes) (then : Parent → Bytes → Option A) → get_parent (put_parent p r) then ≡ then p r
  parent_back Start r then = refl
  parent_back (Entry a) r then = refl

  side_back : (s : Side) (r : Bytes) (then : Side → Bytes → Option A) → get_side (put_side s r) then ≡ then s r
  side_back Left r then = refl
  side_back Right r then = refl

pairs_back : (ps : List Pair) → get_pairs (put_pairs ps) ≡ Some ps
pairs_back [] = refl
pairs_back (p ∷ ps) = rw (pairs_back ps)

stamp_back : (s : Stamp) → get_stamp (put_stamp s) ≡ Some s
stamp_back s =
    ap (λ o. if_some o λ ps. stamp_by s.id (record { len = s.clock.len; pairs = ps })) (pairs_back s.clock.pairs)
    ∙ passed _ _ s.kept

edit_back : (x : Carried ℕ) → get_edit (put_edit x) ≡ Some (x ∷ [])
edit_back (Insertion p x) =
    parent_back p.parent _ _
    ∙ side_back p.side _ _
    ∙ ap (λ o. if_some o λ s. insertion_by s p.parent p.side x) (stamp_back p.stamp)
    ∙ passed _ _ p.kept
edit_back (Deletion d) = ap (λ o. if_some o λ s. deletion_by s d.target) (stamp_back d.stamp) ∙ passed _ _ d.kept

-- HOW LONG A RECORD IS

parent_long : (p : Parent) (r : Bytes) → length (put_parent p r) ≤ length r + 3
parent_long Start r = omega arith
parent_long (Entry a) r = omega arith

side_long : (s : Side) (r : Bytes) → length (put_side s r) ≤ length r + 1
side_long Left r = omega arith
side_long Right r = omega arith

pairs_long : (ps : List Pair) → length (put_pairs ps) ≡ length ps + length ps
pairs_long [] = refl
pairs_long (p ∷ ps) = omega (arith, pairs_long ps)

stamp_long : (s : Stamp) → length (put_stamp s) ≡ 35
stamp_long s =
    let c = s.clock in
    let all : length c.pairs ≡ 16 = (kept_parts c (stamp_rules s).1).0 in
    omega (arith, pairs_long c.pairs)

edit_long : (x : Carried ℕ) → length (put_edit x) ≤ 41
edit_long (Insertion p x) =
    omega (arith, parent_long p.parent (put_side p.side (x ∷ put_stamp p.stamp)), side_long p.side (x ∷ put_stamp p.stamp), stamp_long p.stamp)
edit_long (Deletion d) = omega (arith, stamp_long d.stamp)

some_numbers : (x : Carried ℕ) → 1 ≤ length (put_edit x)
some_numbers (Insertion p x) = omega arith
some_numbers (Deletion d) = omega arith

-- WHAT A RECORD HOLDS

small_bytes : (r : Bytes) → list_all (λ n. leb n 255) r ≡ true → (b : ℕ) → b ∈ r → b ≤ 255
small_bytes [] t = λ b m. elim m [ ]
small_bytes (n ∷ r) t = let both = and_parts (leb n 255) (list_all (λ n. leb n 255) r) t in
    each_cons (λ (b : ℕ). b ≤ 255) n r (leb-true n 255 both.0) (small_bytes r both.1)

-- HOW MANY EDITS ARE READ

-- if a list is read, it has one edit
abbrev One : Option (List (Carried ℕ)) → Type 0
One None = Unit {0}
One (Some xs) = length xs ≡ 1

some_one : (test : Bool) (make : test ≡ true → List (Carried ℕ)) → ((k : test ≡ true) → length (make k) ≡ 1) → One (if_passed test make)
some_one true make one = one refl
some_one false make one = tt

number_one : (r : Bytes) (then : ℕ → Bytes → Option (List (Carried ℕ))) → ((n : ℕ) (r : Bytes) → One (then n r)) → One (get_number r then)
number_one [] then one = tt
number_one (n ∷ r) then one = one n r

id_one : (r : Bytes) (then : Id → Bytes → Option (List (Carried ℕ))) → ((a : Id) (r : Bytes) → One (then a r)) → One (get_id r then)
id_one r then one = number_one r _ (λ i r. number_one r _ (λ n r. one (record { editor = i; number = n }) r))

if_one : {B : Type 0} (o : Option B) (then : B → Option (List (Carried ℕ))) → ((b : B) → One (then b)) → One (if_some o then)
if_one None then one = tt
if_one (Some b) then one = one b

parent_one : (r : Bytes) (then : Parent → Bytes → Option (List (Carried ℕ))) → ((p : Parent) (r : Bytes) → One (then p r)) → One (get_parent r then)
parent_one r then one = number_one r _ by
  where
    by : (n : ℕ) (r : Bytes) → One (parent_by n r then)
    by zero r = one Start r
    by (suc zero) r = id_one r _ (λ a r. one (Entry a) r)
    by (suc (suc n)) r = tt

side_one : (r : Bytes) (then : Side → Bytes → Option (List (Carried ℕ))) → ((s : Side) (r : Bytes) → One (then s r)) → One (get_side r then)
side_one r then one = number_one r _ by
  where
    by : (n : ℕ) (r : Bytes) → One (side_by n r then)
    by zero r = one Left r
    by (suc zero) r = one Right r
    by (suc (suc n)) r = tt

edit_one : (r : Bytes) → One (get_edit r)
edit_one r = number_one r edit_by by
  where
    deletion : (t : Id) (s : Stamp) → One (deletion_by s t)
    deletion t s = some_one (covers (pairs_of s.clock) t) _ (λ k. refl)

    insertion : (p : Parent) (side : Side) (x : ℕ) (s : Stamp) → One (insertion_by s p side x)
    insertion p side x s = some_one (parent_kept (pairs_of s.clock) p side) _ (λ k. refl)

    by : (n : ℕ) (r : Bytes) → One (edit_by n r)
    by zero r = id_one r _ (λ t r. if_one (get_stamp r) (λ s. deletion_by s t) (deletion t))
    by (suc zero) r = parent_one r _ (λ p r. side_one r _ (λ side r. number_one r _ (λ x r. if_one (get_stamp r) (λ s. insertion_by s p side x) (insertion p side x))))
    by (suc (suc n)) r = tt

pub numbers_lawful : KeepsLaw numbers
numbers_lawful = record {
  packing = packing;
  reading = λ r xs q. let one : length xs ≡ 1 = subst One q (edit_one r) in (omega arith, omega arith);
}
  where
    packing : (xs : List (Carried ℕ)) → 1 ≤ length xs → AllFit numbers xs → Packed get_edit xs (put_first xs).0 (put_first xs).1
    packing [] some fit = absurd (omega arith)
    packing (x ∷ xs) some fit = record {
      bytes = small_bytes (put_edit x) (fit x (here refl));
      some_bytes = some_numbers x;
      few_bytes = omega (arith, edit_long x);
      some_edits = omega arith;
      at_hand = omega arith;
      read_back = edit_back x;
    }
