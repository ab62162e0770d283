-- Edits that are made by the rules of insertion and deletion, on any history.
use Rattle.std.proofs.Common.{ℕ, ◌<◌, ◌≤◌, Bool, List, [], ◌∷◌, ◌++◌, length, refl, ap, ◌∙◌, arith}
use Rattle.edits.specs.declared.id.Id.{Id}
use Rattle.order.specs.Lists.{◌∈◌}
use Rattle.order.specs.Edits.{Change, Edit, Covers, Refers, Lawful}
use Rattle.order.specs.Forests.{visible, ids, tree}
use Rattle.order.specs.Histories.{count, Next, History}
use Rattle.order.specs.Systems.{new_edit, insertion_made, deletion_made}
use Rattle.order.specs.Theorems.{PutAt, HiddenAt}
use Rattle.order.proofs.Histories.{tree_snoc, counted}
use Rattle.order.proofs.Entries.{entry_edit, entries}
use Rattle.order.proofs.Placing.{insertion_refers, deletion_refers, inserted_at, deleted_at}

module _ {E : Type 0} (before : Id → Id → Bool) {h : List (Edit E)} (H : History h) where
  -- an entry's insertion is counted
  entry_covered : (a : Id) → a ∈ ids (tree before h) → Covers (count h) a
  entry_covered a m = (counted H).within a (entry_edit (entries before H) a m)

  pub insertion_lawful : (i k : ℕ) (x : E) → Lawful (insertion_made before i h k x).edit
  insertion_lawful i k x = record {
    own = refl;
    refers = insertion_refers (tree before h) k x (Refers (count h)) tt (λ p s m. entry_covered p m);
  }

  pub deletion_lawful : (i k : ℕ) → k < length (visible (tree before h)) → Lawful (deletion_made before i h k).edit
  deletion_lawful i k lt = record { own = refl; refers = deletion_refers (tree before h) k (Refers (count h)) lt (λ t m. entry_covered t m) }

  pub inserts_at : (i k : ℕ) (x : E) → k ≤ length (visible (tree before h))
      → let e : Edit E = (insertion_made before i h k x).edit in PutAt k e.id x (tree before h) (tree before (h ++ (e ∷ [])))
  inserts_at i k x le = let e : Edit E = (insertion_made before i h k x).edit in
      ap visible (tree_snoc before h e) ∙ inserted_at before (tree before h) (entries before H).distinct k x e.id le

  pub deletes_at : (i k : ℕ) → k < length (visible (tree before h))
      → let e : Edit E = (deletion_made before i h k).edit in HiddenAt k (tree before h) (tree before (h ++ (e ∷ [])))
  deletes_at i k lt = let e : Edit E = (deletion_made before i h k).edit in
      ap visible (tree_snoc before h e) ∙ deleted_at before (tree before h) (entries before H).distinct k e.id lt

module _ {E : Type 0} {h : List (Edit E)} (H : History h) where
  pub new_next : (i : ℕ) (c : Change E) → Next h (new_edit i h c)
  new_next i c = record { new = λ m. omega (arith, ((counted H).within (new_edit i h c).id m).1); covered = λ a v. (counted H).full a v }
