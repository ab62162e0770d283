-- On the roster of a replica stand its own editor and the editors of all edits that it has accepted.
use Rattle.std.proofs.Common.{◌≡◌, ℕ, Bool, true, false, cond, eqb, ltb, ◌⊎◌, ◌↔◌, List, [], ◌∷◌, ◌++◌, length, Some, None, Option, sym, refl, ap, ◌∙◌, inl, inr, append_assoc, append-nil, eqb-true}
use Rattle.std.proofs.lemmas.Bool.{cases_Bool}
use Rattle.edits.specs.declared.id.Id.{Id}
use Rattle.edits.specs.declared.fault.Fault.{Fault}
use Rattle.order.specs.Lists.{◌∈◌, here, there}
use Rattle.order.specs.Edits.{Edit}
use Rattle.order.specs.Systems.{Making, edits_of}
use Rattle.order.proofs.Lists.{any_true, in_left, in_last, each_snoc}
use Rattle.runs.specs.Replicas.{Replica, new, placed, with_shelf, listed, enrolled, Verdict, knows, refuses, applies, shelves, Answer, known, refused, taken, verdict, applied, release, judge, take_in, commit, after_one, take_all}
use Rattle.runs.specs.Worlds.{made_by}
use Rattle.runs.specs.Promises.{Rostered, accepted_by}
use Rattle.runs.proofs.Keeping.{release_keeps, release_editor}

-- who stands in a list into which i is put
of_placed : (i : ℕ) (js : List ℕ) (j : ℕ) → j ∈ placed i js → (j ∈ js) ⊎ (j ≡ i)
of_placed i [] j (here p) = inr p
of_placed i [] j (there m) = inl m
of_placed i (k ∷ js) j m = go (ltb k i) m (of_placed i js j)
  where
    go : (b : Bool) → j ∈ cond b (k ∷ placed i js) (i ∷ k ∷ js) → (j ∈ placed i js → (j ∈ js) ⊎ (j ≡ i)) → (j ∈ (k ∷ js)) ⊎ (j ≡ i)
    go true (here p) ih = inl (here p)
    go true (there n) ih = elim (ih n) [ inl a ↦ inl (there a) | inr p ↦ inr p ]
    go false (here p) ih = inr p
    go false (there n) ih = inl n

in_placed : (i : ℕ) (js : List ℕ) (j : ℕ) → (j ∈ js) ⊎ (j ≡ i) → j ∈ placed i js
in_placed i [] j (inl m) = there m
in_placed i [] j (inr p) = here p
in_placed i (k ∷ js) j m = go (ltb k i) m (in_placed i js j)
  where
    go : (b : Bool) → (j ∈ (k ∷ js)) ⊎ (j ≡ i) → ((j ∈ js) ⊎ (j ≡ i) → j ∈ placed i js) → j ∈ cond b (k ∷ placed i js) (i ∷ k ∷ js)
    go true (inl (here p)) ih = here p
    go true (inl (there n)) ih = there (ih (inl n))
    go true (inr p) ih = there (ih (inr p))
    go false (inl n) ih = there n
    go false (inr p) ih = here p

-- the roster k has one editor more than the roster js, or had that one already
abbrev Joins : ℕ → List ℕ → List ℕ → Type 0
Joins i js k = (j : ℕ) → (j ∈ k) ↔ ((j ∈ js) ⊎ (j ≡ i))

joins_listed : (i : ℕ) (js : List ℕ) → i ∈ js → Joins i js js
joins_listed i js m j = ((λ n. inl n), λ n. elim n [ inl a ↦ a | inr p ↦ rw p m ])

module _ {E : Type 0} where
  enrolled_joins : (e : Edit E) (r : Replica E) → Joins e.id.editor r.roster (enrolled e r).roster
  enrolled_joins e r = go (cases_Bool (listed r e.id.editor))
    where
      at : listed r e.id.editor ≡ true → e.id.editor ∈ r.roster
      at t = let u = any_true (eqb e.id.editor) r.roster t in rw (eqb-true e.id.editor u.0 u.2) u.1

      go : (listed r e.id.editor ≡ true) ⊎ (listed r e.id.editor ≡ false) → Joins e.id.editor r.roster (cond (listed r e.id.editor) r.roster (placed e.id.editor r.roster))
      go (inl t) = rw t (joins_listed e.id.editor r.roster (at t))
      go (inr t) = rw t (λ j. (of_placed e.id.editor r.roster j, in_placed e.id.editor r.roster j))

  -- i is the own editor, or has made one of the edits
  abbrev Belongs : ℕ → Option ℕ → List (Edit E) → Type 0
  Belongs i own es = (own ≡ Some i) ⊎ ((e : Edit E) × (e ∈ es) × (e.id.editor ≡ i))

  -- one more edit is accepted, and its editor joins
  more_rostered : (r : Replica E) (acc : List (Edit E)) → Rostered r acc → (e : Edit E) (r' : Replica E) → r'.editor ≡ r.editor → Joins e.id.editor r.roster r'.roster
      → Rostered r' (acc ++ (e ∷ []))
  more_rostered r acc R e r' same joins i = ((λ m. now ((joins i).0 m)), back)
    where
      old : Belongs i r.editor acc → Belongs i r'.editor (acc ++ (e ∷ []))
      old (inl p) = inl (same ∙ p)
      old (inr u) = inr (u.0, in_left acc (e ∷ []) u.1, u.2)

      now : (i ∈ r.roster) ⊎ (i ≡ e.id.editor) → Belongs i r'.editor (acc ++ (e ∷ []))
      now (inl m) = old ((R i).0 m)
      now (inr p) = inr (e, in_last acc e, sym p)

      back : Belongs i r'.editor (acc ++ (e ∷ [])) → i ∈ r'.roster
      back (inl p) = (joins i).1 (inl ((R i).1 (inl (sym same ∙ p))))
      back (inr u) = each_snoc (λ (d : Edit E). d.id.editor ≡ i → i ∈ r'.roster) acc e
          (λ d m p. (joins i).1 (inl ((R i).1 (inr (d, m, p))))) (λ p. (joins i).1 (inr (sym p))) u.0 u.1 u.2

  same_rostered : (r : Replica E) (acc : List (Edit E)) → Rostered r acc → Rostered r (acc ++ [])
  same_rostered r acc R = rw (append-nil acc) R

  pub new_rostered : (editor : Option ℕ) (slots room : ℕ) → Rostered {E = E} (new editor slots room) []
  new_rostered None slots room i = ((λ m. elim m [ ]), λ u. elim u [ inl p ↦ cc | inr v ↦ elim v.1 [ ] ])
  new_rostered (Some j) slots room i = ((λ m. elim m [ here p ↦ inl (ap Some (sym p)) | there n ↦ elim n [ ] ]), λ u. elim u [ inl p ↦ here (cc) | inr v ↦ elim v.1 [ ] ])

  module _ (before : Id → Id → Bool) where
    -- nobody joins by what is released
    released_joins : (i n : ℕ) (js : List ℕ) (r : Replica E) → Joins i js r.roster → Joins i js (release before n r).roster
    released_joins i n js r joins = rw (release_keeps before (λ r. r.roster) (λ e others r. refl) n r) joins

    judge_rostered : (v : Verdict) (e : Edit E) (r : Replica E) (acc : List (Edit E)) → Rostered r acc
        → Rostered (judge before v e r).0 (acc ++ accepted_by (judge before v e r).1 e)
    judge_rostered knows e r acc R = same_rostered r acc R
    judge_rostered (refuses f) e r acc R = same_rostered r acc R
    judge_rostered applies e r acc R = more_rostered r acc R e (release before (length r.shelf) (applied before e (enrolled e r)))
        (release_editor before (length r.shelf) (applied before e (enrolled e r)))
        (released_joins e.id.editor (length r.shelf) r.roster (applied before e (enrolled e r)) (enrolled_joins e r))
    judge_rostered shelves e r acc R = more_rostered r acc R e (with_shelf (r.shelf ++ (e ∷ [])) (enrolled e r)) refl (enrolled_joins e r)

    pub takes_rostered : (e : Edit E) (r : Replica E) (acc : List (Edit E)) → Rostered r acc → Rostered (take_in before e r).0 (acc ++ accepted_by (take_in before e r).1 e)
    takes_rostered e r acc R = judge_rostered (verdict e r) e r acc R

    -- the own editor stands there already
    pub commit_rostered : (o : Option Fault) (m : Making E) (r : Replica E) (acc : List (Edit E)) → r.editor ≡ Some m.edit.id.editor → Rostered r acc
        → Rostered (commit before o m r).0 (acc ++ edits_of (made_by (commit before o m r).1))
    commit_rostered (Some f) m r acc owner R = same_rostered r acc R
    commit_rostered None m r acc owner R = more_rostered r acc R m.edit (release before (length r.shelf) (applied before m.edit r))
        (release_editor before (length r.shelf) (applied before m.edit r))
        (released_joins m.edit.id.editor (length r.shelf) r.roster (applied before m.edit r) (joins_listed m.edit.id.editor r.roster ((R m.edit.id.editor).1 (inl owner))))

    pub all_rostered : (es : List (Edit E)) (r : Replica E) (acc : List (Edit E)) → Rostered r acc → Rostered (take_all before es r).replica (acc ++ (take_all before es r).accepted)
    all_rostered [] r acc R = same_rostered r acc R
    all_rostered (e ∷ es) r acc R = go (take_in before e r).1 (take_in before e r).0 (takes_rostered e r acc R) (all_rostered es (take_in before e r).0)
      where
        go : (a : Answer) (r' : Replica E) → Rostered r' (acc ++ accepted_by a e)
            → ((acc' : List (Edit E)) → Rostered r' acc' → Rostered (take_all before es r').replica (acc' ++ (take_all before es r').accepted))
            → Rostered (after_one before (r', a) e (take_all before es)).replica (acc ++ (after_one before (r', a) e (take_all before es)).accepted)
        go known r' R' ih = ih acc (rw⁻¹ (append-nil acc) R')
        go (refused f) r' R' ih = R'
        go (taken n) r' R' ih = rw⁻¹ (append_assoc acc (e ∷ []) (take_all before es r').accepted) (ih (acc ++ (e ∷ [])) R')
