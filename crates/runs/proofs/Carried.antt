-- Carried edits keep the rules: read off the invariants of their types.
use Rattle.runs.specs.Promises.{SoundEdit}
use Rattle.order.specs.Lists.{◌∈◌, here, there}
use Rattle.edits.specs.Edits.{stamp_of}
use Rattle.edits.specs.declared.edit.Edit.{Edit as Carried}
use Rattle.std.proofs.Common.{◌≡◌, ℕ, suc, ◌-◌, ◌<◌, ◌≤◌, true, false, ◌&&◌, eqb, ltb, leb, ◌⊎◌, List, [], ◌∷◌, refl, inl, inr, arith, ltb-true, eqb-true, leb-true}
use Rattle.std.proofs.lemmas.Bool.{false≢true, cases_Bool, and_parts}
use Rattle.edits.specs.declared.id.Id.{Id}
use Rattle.edits.specs.declared.clock.Pair.{Pair}
use Rattle.edits.specs.declared.edit.Stamp.{Stamp}
use Rattle.edits.specs.declared.edit.Side.{Side}
use Rattle.edits.specs.declared.edit.Side.TheVariants.{Left, Right}
use Rattle.edits.specs.declared.edit.Parent.{Parent}
use Rattle.edits.specs.declared.edit.Parent.TheVariants.{Start, Entry}
use Rattle.edits.specs.declared.edit.Edit.TheVariants.{Insertion, Deletion}
use Rattle.edits.specs.Clocks.{pairs_of, clock_kept}
use Rattle.edits.specs.Pairs.{count_of, ascending}
use Rattle.edits.specs.Rules.{covers, parent_kept, own_kept}
use Rattle.order.specs.Edits.{insertion, Covers, Refers, Lawful}
use Rattle.edits.proofs.Conjunctions.{three}
use Rattle.edits.proofs.Placed.{kept_parts}
use Rattle.order.proofs.Lists.{each_cons}
use Rattle.runs.specs.Carried.{clock_of, edit_of, ByteWide}

-- the rules of a stamp, one by one
pub stamp_rules : (s : Stamp) → (0 < s.id.number) × (clock_kept s.clock ≡ true) × (own_kept s.id (pairs_of s.clock) ≡ true)
stamp_rules s =
    let parts = three (ltb 0 s.id.editor) (ltb 0 s.id.number) (clock_kept s.clock && own_kept s.id (pairs_of s.clock)) s.kept in
    let both = and_parts (clock_kept s.clock) (own_kept s.id (pairs_of s.clock)) parts.2 in
    (ltb-true 0 s.id.number parts.1, both.0, both.1)

-- the number of a stamp is one more than its clock counts of its editor
own_of : (s : Stamp) → suc (clock_of s s.id.editor) ≡ s.id.number
own_of s =
    let some : 0 < s.id.number = (stamp_rules s).0 in
    let before = clock_of s s.id.editor in
    let test = (and_parts (eqb before (s.id.number - 1)) _ (stamp_rules s).2).0 in
    let same : before ≡ s.id.number - 1 = eqb-true before (s.id.number - 1) test in
    omega arith

-- what the test of an identifier says
covered : (ps : List Pair) (a : Id) → covers ps a ≡ true → Covers (count_of ps) a
covered ps a e =
    let parts = three (ltb 0 a.editor) (ltb 0 a.number) (leb a.number (count_of ps a.editor)) e in
    (ltb-true 0 a.number parts.1, leb-true a.number (count_of ps a.editor) parts.2)

-- what the test of a parent and a side says
hung_lawfully : {E : Type 0} (ps : List Pair) (p : Parent) (s : Side) (x : E) → parent_kept ps p s ≡ true → Refers (count_of ps) (insertion p s x)
hung_lawfully ps Start Left x e = false≢true e
hung_lawfully ps Start Right x e = tt
hung_lawfully ps (Entry a) s x e = covered ps a e

pub carried_lawful : {E : Type 0} (x : Carried E) → Lawful (edit_of x)
carried_lawful (Insertion p x) = record {
  own = own_of p.stamp;
  refers = hung_lawfully (pairs_of p.stamp.clock) p.parent p.side x p.kept;
}
carried_lawful (Deletion r) = record { own = own_of r.stamp; refers = covered (pairs_of r.stamp.clock) r.target r.kept }

-- an editor of whom something is counted is listed
counted_listed : (ps : List Pair) (i : ℕ) → 1 ≤ count_of ps i → (p : Pair) × (p ∈ ps) × (p.editor ≡ i)
counted_listed [] i one = absurd (omega arith)
counted_listed (p ∷ ps) i one = go (cases_Bool (eqb p.editor i)) (counted_listed ps i)
  where
    go : (eqb p.editor i ≡ true) ⊎ (eqb p.editor i ≡ false) → (1 ≤ count_of ps i → (q : Pair) × (q ∈ ps) × (q.editor ≡ i)) → (q : Pair) × (q ∈ (p ∷ ps)) × (q.editor ≡ i)
    go (inl t) ih = (p, here refl, eqb-true p.editor i t)
    go (inr t) ih = let u = ih (rw t at one) in (u.0, there u.1, u.2)

-- listed editors ascend from 1 on
listed_above : (low : ℕ) (ps : List Pair) → ascending low ps ≡ true → (p : Pair) → p ∈ ps → low < p.editor
listed_above low [] t = λ p m. elim m [ ]
listed_above low (q ∷ ps) t =
    let parts = three (ltb low q.editor) (ltb 0 q.count) (ascending q.editor ps) t in
    let above = ltb-true low q.editor parts.0 in
    let later = listed_above q.editor ps parts.2 in
    each_cons (λ (p : Pair). low < p.editor) q ps above (λ p m. omega (arith, later p m))

pub carried_sound : {E : Type 0} (x : Carried E) → ByteWide x → SoundEdit (edit_of x)
carried_sound x wide = record {
  lawful = carried_lawful x;
  maker = (ltb-true 0 s.id.editor (and_parts (ltb 0 s.id.editor) _ s.kept).0, wide.0);
  counts = λ i one. let u = counted_listed (pairs_of s.clock) i one in
      rw⁻¹ u.2 (listed_above 0 (pairs_of s.clock) ascends u.0 u.1, wide.1 u.0 u.1);
}
  where
    s : Stamp
    s = stamp_of x

    ascends : ascending 0 (pairs_of s.clock) ≡ true
    ascends = (kept_parts s.clock (stamp_rules s).1).2
