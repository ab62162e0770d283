-- What an insertion and a deletion at an index do to the document, and what they refer to.
use Rattle.std.proofs.Common.{◌≡◌, ℕ, zero, suc, ◌<◌, ◌≤◌, Bool, true, false, cond, List, [], ◌∷◌, ◌++◌, map, length, get_or, take, drop, Some, None, Option, sym, refl, ap, ◌∙◌, arith}
use Rattle.std.proofs.lemmas.List.{length-map}
use Rattle.edits.specs.declared.id.Id.{Id}
use Rattle.edits.specs.declared.edit.Side.{Side}
use Rattle.edits.specs.declared.edit.Side.TheVariants.{Left, Right}
use Rattle.edits.specs.declared.edit.Parent.{Parent}
use Rattle.edits.specs.declared.edit.Parent.TheVariants as parent
use Rattle.edits.specs.Ids.{same}
use Rattle.order.specs.Lists.{◌∈◌, here, there, ◌∉◌, keep}
use Rattle.order.specs.Edits.{Change, insertion, deletion}
use Rattle.order.specs.Forests.{Entry, Forest, read, is_shown, visible, entry_id, ids, fresh, hide, change}
use Rattle.order.specs.Placing.{left_neighbour, follower, has_right_child, hung, insertion_after, insertion_at, deletion_at}
use Rattle.order.proofs.Ids.{same_apart, same_refl}
use Rattle.order.proofs.Lists.{in_getD, in_map, of_map, of_keep, none_of, Distinct}
use Rattle.order.proofs.Nodes.{read_bury, hide_other}
use Rattle.order.proofs.Beside.{first_in, after_in, beside, beside_absent}
use Rattle.order.proofs.Hanging.{inserted_first, inserted_after}

-- what the two changes refer to
module _ {E : Type 0} where
  ids_shown : (xs : List (Entry E)) (b : Id) → b ∈ map entry_id (keep is_shown xs) → b ∈ map entry_id xs
  ids_shown xs b m = let k = of_map entry_id (keep is_shown xs) m in
      rw⁻¹ k.2 (in_map entry_id xs (of_keep is_shown xs k.1).0)

  neighbour_in : (xs : List (Entry E)) (k : ℕ) (b : Id) → get_or (map (λ (x : Entry E). parent.Entry x.id) xs) k parent.Start ≡ parent.Entry b
      → b ∈ map entry_id xs
  neighbour_in [] k b e = absurd (cc)
  neighbour_in (x ∷ xs) zero b e = here (cc)
  neighbour_in (x ∷ xs) (suc k) b e = there (neighbour_in xs k b e)

  pub left_neighbour_in : (f : Forest E) (k : ℕ) (b : Id) → left_neighbour k f ≡ parent.Entry b → b ∈ ids f
  left_neighbour_in f zero b e = absurd (cc)
  left_neighbour_in f (suc k) b e = ids_shown (read f) b (neighbour_in (visible f) k b e)

  pub follower_in : (left : Parent) (f : Forest E) (a : Id) → follower left f ≡ Some a → a ∈ ids f
  follower_in parent.Start f a e = first_in (ids f) e
  follower_in (parent.Entry b) f a e = after_in b (ids f) e

  pub insertion_refers : (f : Forest E) (k : ℕ) (x : E) (P : Change E → Type 0) → P (insertion parent.Start Right x)
      → ((p : Id) (s : Side) → p ∈ ids f → P (insertion (parent.Entry p) s x)) → P (insertion_at k x f)
  insertion_refers f k x P start entry = go (left_neighbour k f) refl
    where
      hangs : (t : Bool) (left : Parent) (next : Option Id) → P (insertion left Right x)
          → ((a : Id) → next ≡ Some a → a ∈ ids f) → P (hung t left next x)
      hangs false left next u v = u
      hangs true left (Some a) u v = entry a Left (v a refl)
      hangs true left None u v = u

      go : (left : Parent) → left_neighbour k f ≡ left → P (insertion_after left x f)
      go parent.Start e = hangs (has_right_child parent.Start f) parent.Start (follower parent.Start f) start (follower_in parent.Start f)
      go (parent.Entry b) e = hangs (has_right_child (parent.Entry b) f) (parent.Entry b) (follower (parent.Entry b) f)
          (entry b Right (left_neighbour_in f k b e)) (follower_in (parent.Entry b) f)

  -- the identifier of the entry at k (0.0, which no edit has, where none is)
  abbrev at : List (Entry E) → ℕ → Id
  at xs k = get_or (map entry_id xs) k (record { editor = 0; number = 0 })

  at_in : (xs : List (Entry E)) (k : ℕ) → k < length (keep is_shown xs) → at (keep is_shown xs) k ∈ map entry_id xs
  at_in xs k h = ids_shown xs (at (keep is_shown xs) k)
      (in_getD (map entry_id (keep is_shown xs)) k (record { editor = 0; number = 0 }) (omega (arith, length-map (keep is_shown xs) entry_id)))

  pub deletion_refers : (f : Forest E) (k : ℕ) (P : Change E → Type 0) → k < length (visible f)
      → ((t : Id) → t ∈ ids f → P (deletion t)) → P (deletion_at k f)
  deletion_refers f k P h all = all (at (visible f) k) (at_in (read f) k h)

  neighbour_at : (xs : List (Entry E)) (k : ℕ) → k < length xs
      → get_or (map (λ (x : Entry E). parent.Entry x.id) xs) k parent.Start ≡ parent.Entry (at xs k)
  neighbour_at [] k h = absurd (omega arith)
  neighbour_at (x ∷ xs) zero h = refl
  neighbour_at (x ∷ xs) (suc k) h = neighbour_at xs k (omega arith)

  -- what shows after a change g at the entry that shows at k: g lets the others pass, and R tells what shows then
  module _ (g : Id → List (Entry E) → List (Entry E)) (R : ℕ → List (Entry E) → List (Entry E))
      (pass : (a : Id) (x : Entry E) (xs : List (Entry E)) → same x.id a ≡ false → g a (x ∷ xs) ≡ x ∷ g a xs)
      (hit : (x : Entry E) (xs : List (Entry E)) → x.shown ≡ true → x.id ∉ map entry_id xs
      → keep is_shown (g x.id (x ∷ xs)) ≡ R zero (x ∷ keep is_shown xs))
      (more : (k : ℕ) (x : Entry E) (xs : List (Entry E)) → x ∷ R k xs ≡ R (suc k) (x ∷ xs)) where
    shown_after : (xs : List (Entry E)) → Distinct (map entry_id xs) → (k : ℕ) → k < length (keep is_shown xs)
        → keep is_shown (g (at (keep is_shown xs) k) xs) ≡ R k (keep is_shown xs)
    shown_after [] d k h = absurd (omega arith)
    shown_after (x ∷ xs) d k h = go x.shown refl k h (shown_after xs d.1)
      where
        S : List (Entry E)
        S = keep is_shown xs

        passed : (b : Bool) → x.shown ≡ b → (j : ℕ) → j < length S → keep is_shown (g (at S j) xs) ≡ R j S
            → keep is_shown (g (at S j) (x ∷ xs)) ≡ cond b (x ∷ R j S) (R j S)
        passed b t j l ih = ap (keep is_shown) (pass (at S j) x xs (none_of x.id (map entry_id xs) d.0 (at S j) (at_in xs j l))) ∙ (λ i. cond (t i) (x ∷ ih i) (ih i))

        go : (b : Bool) → x.shown ≡ b → (j : ℕ) → j < length (cond b (x ∷ S) S)
            → ((m : ℕ) → m < length S → keep is_shown (g (at S m) xs) ≡ R m S)
            → keep is_shown (g (at (cond b (x ∷ S) S) j) (x ∷ xs)) ≡ R j (cond b (x ∷ S) S)
        go true t zero l ih = hit x xs t d.0
        go true t (suc j) l ih = passed true t j (omega arith) (ih j (omega arith)) ∙ more j x S
        go false t j l ih = passed false t j l (ih j l)

  hide_absent : (t : Id) (xs : List (Entry E)) → t ∉ map entry_id xs → map (hide t) xs ≡ xs
  hide_absent t [] no-t = refl
  hide_absent t (x ∷ xs) no-t = λ i. hide_other t x (same_apart x.id t (λ p. no-t (here (sym p)))) i ∷ hide_absent t xs (λ m. no-t (there m)) i

module _ {E : Type 0} (before : Id → Id → Bool) where
  -- an insertion at k puts its entry there
  pub inserted_at : (f : Forest E) → Distinct (ids f) → (k : ℕ) (x : E) (a : Id) → k ≤ length (visible f)
      → visible (change before a (insertion_at k x f) f) ≡ take k (visible f) ++ (fresh a x ∷ drop k (visible f))
  inserted_at f d zero x a h = ap (keep is_shown) (inserted_first before f d a x)
  inserted_at f d (suc k) x a h =
      ap (λ (left : Parent). visible (change before a (insertion_after left x f) f)) (neighbour_at (visible f) k h)
      ∙ ap (keep is_shown) (inserted_after before f d (at (visible f) k) a x)
      ∙ shown_after (λ b. beside b Right e) (λ j ys. take (suc j) ys ++ (e ∷ drop (suc j) ys)) pass hit (λ j y ys. refl) (read f) d k h
    where
      e : Entry E
      e = fresh a x

      pass : (b : Id) (y : Entry E) (ys : List (Entry E)) → same y.id b ≡ false → beside b Right e (y ∷ ys) ≡ y ∷ beside b Right e ys
      pass b y ys n = rw n

      hit : (y : Entry E) (ys : List (Entry E)) → y.shown ≡ true → y.id ∉ map entry_id ys
          → keep is_shown (beside y.id Right e (y ∷ ys)) ≡ y ∷ (e ∷ keep is_shown ys)
      hit y ys t no-y = rw (same_refl y.id, beside_absent y.id Right e ys no-y, t)

  -- a deletion at k takes the entry there away
  pub deleted_at : (f : Forest E) → Distinct (ids f) → (k : ℕ) (a : Id) → k < length (visible f)
      → visible (change before a (deletion_at k f) f) ≡ take k (visible f) ++ drop (suc k) (visible f)
  deleted_at f d k a h = ap (keep is_shown) (read_bury (at (visible f) k) f)
      ∙ shown_after (λ t. map (hide t)) (λ j ys. take j ys ++ drop (suc j) ys)
      (λ t y ys n i. hide_other t y n i ∷ map (hide t) ys) hit (λ j y ys. refl) (read f) d k h
    where
      hit : (y : Entry E) (ys : List (Entry E)) → y.shown ≡ true → y.id ∉ map entry_id ys
          → keep is_shown (map (hide y.id) (y ∷ ys)) ≡ keep is_shown ys
      hit y ys t no-y = rw (same_refl y.id, t, hide_absent y.id ys no-y)
