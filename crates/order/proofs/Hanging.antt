-- The rule of insertion puts an entry right after its left neighbour in reading order.
use Rattle.std.proofs.Common.{◌≡◌, Bool, true, false, ◌⊎◌, List, [], ◌∷◌, ◌++◌, Some, sym, refl, ap, ◌∙◌, inl, inr, append-nil}
use Rattle.std.proofs.lemmas.Bool.{false≢true, both_ways, cases_Bool, false_from_ne_true}
use Rattle.edits.specs.declared.id.Id.{Id}
use Rattle.edits.specs.declared.edit.Side.{Side}
use Rattle.edits.specs.declared.edit.Side.TheVariants.{Left, Right}
use Rattle.edits.specs.declared.edit.Parent.TheVariants as parent
use Rattle.edits.specs.Ids.{same}
use Rattle.order.specs.Forests.{Entry, Forest, nil, node, read, ids, fresh, adopt, hang, change}
use Rattle.order.specs.Placing.{first, after, is_node, has_right, insertion_after}
use Rattle.order.proofs.Ids.{same_eq}
use Rattle.order.proofs.Lists.{Distinct}
use Rattle.order.proofs.Nodes.{placed, it}
use Rattle.order.proofs.Beside.{first_some, none_before_first, none_between_after, beside_one, beside, beside_append, beside_first, beside_after}
use Rattle.order.proofs.Under.{side_of, Under}
use Rattle.order.proofs.Between.{under_trans, under_aside, node_has, below_right, followed}

module _ {E : Type 0} where
  -- nothing is below the entry a on the side s
  abbrev Bare : Id → Side → Forest E → Type 0
  Bare a s f = (c : Id) → Under s a f c → ⊥

  first_bare : (a : Id) (f : Forest E) → Distinct (ids f) → first (ids f) ≡ Some a → Bare a Left f
  first_bare a f d e c u = none_before_first (ids f) d e c (under_aside Left a f d c u)

  -- what is below the follower of b on the left would stand between the two
  follower_bare : (b a : Id) (f : Forest E) → Distinct (ids f) → after b (ids f) ≡ Some a → Under Right b f a → Bare a Left f
  follower_bare b a f d e v c u = none_between_after b (ids f) d e c
      (under_aside Right b f d c (under_trans Right Left b a c f d v u)) (under_aside Left a f d c u)

module _ {E : Type 0} (before : Id → Id → Bool) where
  -- a leaf taken in where there is no child on that side
  read_adopt : (t : Bool) (s : Side) (a : Id) (e x : Entry E) (l r n : Forest E) → (t ≡ true → is_node (side_of s l r) ≡ false)
      → read (adopt before t s e x (hang before a s e l) (hang before a s e r) (hang before a s e n))
      ≡ read (hang before a s e l) ++ beside_one t s e x (read (hang before a s e r) ++ read (hang before a s e n))
  read_adopt false s a e x l r n h = refl
  read_adopt true Left a e x nil r n h = refl
  read_adopt true Left a e x (node y l' r' n') r n h = absurd (false≢true (sym (h refl)))
  read_adopt true Right a e x l nil n h = refl
  read_adopt true Right a e x l (node y l' r' n') n h = absurd (false≢true (sym (h refl)))

  -- a leaf hung where there is no child on that side stands next to its parent
  read_hang : (a : Id) (s : Side) (e : Entry E) (f : Forest E) → Bare a s f → read (hang before a s e f) ≡ beside a s e (read f)
  read_hang a s e nil b = refl
  read_hang a s e (node x l r n) b =
      read_adopt (same x.id a) s a e x l r n (λ t. false_from_ne_true (is_node (side_of s l r))
      (λ h. let k = node_has (side_of s l r) h in b k.0 (inl (same_eq x.id a t, k.1))))
      ∙ (λ i. read_hang a s e l (λ c u. b c (inr (inl u))) i ++ beside_one (same x.id a) s e x
      (read_hang a s e r (λ c u. b c (inr (inr (inl u)))) i ++ read_hang a s e n (λ c u. b c (inr (inr (inr u)))) i))
      ∙ sym (beside_append a s e (read l) (x ∷ (read r ++ read n))
      ∙ ap (λ (zs : List (Entry E)). beside a s e (read l) ++ beside_one (same x.id a) s e x zs) (beside_append a s e (read r) (read n)))

  -- an insertion after the start stands in front
  pub inserted_first : (f : Forest E) → Distinct (ids f) → (a : Id) (x : E)
      → read (change before a (insertion_after parent.Start x f) f) ≡ fresh a x ∷ read f
  inserted_first nil d a x = refl
  inserted_first (node y l r n) d a x = let f = node y l r n in let k = first_some (ids f) [] (placed y l r n (it refl)) in
      let e = ap first (sym (append-nil (ids f))) ∙ k.1 in
      rw e (read_hang k.0 Left (fresh a x) f (first_bare k.0 f d e) ∙ beside_first k.0 (fresh a x) (read f) d e)

  -- an insertion after an entry stands right after it
  pub inserted_after : (f : Forest E) → Distinct (ids f) → (b a : Id) (x : E)
      → read (change before a (insertion_after (parent.Entry b) x f) f) ≡ beside b Right (fresh a x) (read f)
  inserted_after f d b a x = go (cases_Bool (has_right b f))
    where
      go : (has_right b f ≡ true) ⊎ (has_right b f ≡ false)
          → read (change before a (insertion_after (parent.Entry b) x f) f) ≡ beside b Right (fresh a x) (read f)
      go (inl t) = let k = followed b f d t in
          rw (t, k.1) (read_hang k.0 Left (fresh a x) f (follower_bare b k.0 f d k.1 k.2) ∙ beside_after k.0 b (fresh a x) (read f) d k.1)
      go (inr t) = rw t (read_hang b Right (fresh a x) f (λ c u. both_ways _ t (below_right b f c u)))
