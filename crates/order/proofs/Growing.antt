-- What a change does to the entries in reading order: one more somewhere, one hidden, or nothing.
use Rattle.std.proofs.Common.{◌≡◌, suc, Bool, true, false, cond, ◌⊎◌, List, [], ◌∷◌, ◌++◌, map, length, sym, refl, ap, ◌∙◌, inl, inr}
use mathlib.Core.List.{map-map}
use Rattle.std.proofs.lemmas.Bool.{both_ways, cases_Bool}
use Rattle.edits.specs.declared.id.Id.{Id}
use Rattle.edits.specs.declared.edit.Side.{Side}
use Rattle.edits.specs.declared.edit.Side.TheVariants.{Left, Right}
use Rattle.edits.specs.declared.edit.Parent.TheVariants as parent
use Rattle.order.specs.Lists.{◌∈◌, here, there, ◌∉◌, keep}
use Rattle.order.specs.Edits.{Change, insertion, deletion}
use Rattle.order.specs.Forests.{Entry, Forest, nil, node, read, entry_id, ids, fresh, hide, join, adopt, hang, change}
use Rattle.order.proofs.Ids.{same_apart, eq_same}
use Rattle.order.proofs.Lists.{is_in, is_in_true, of_is_in, none_of, Distinct}
use Rattle.order.proofs.Nodes.{Place, it, lefts, rights, nexts, place, placed, Apart, apart, read_bury}

-- ys is xs with e put in once
pub data Grew {A : Type 0} (e : A) : List A → List A → Type 0 where
  grew_here : (xs : List A) → Grew e xs (e ∷ xs)
  grew_there : {xs ys : List A} (x : A) → Grew e xs ys → Grew e (x ∷ xs) (x ∷ ys)

module _ {A : Type 0} {e : A} where
  pub grew_length : {xs ys : List A} → Grew e xs ys → length ys ≡ suc (length xs)
  grew_length (grew_here xs) = refl
  grew_length (grew_there x g) = ap suc (grew_length g)

  grew_before : (zs : List A) {xs ys : List A} → Grew e xs ys → Grew e (zs ++ xs) (zs ++ ys)
  grew_before [] g = g
  grew_before (z ∷ zs) g = grew_there z (grew_before zs g)

  grew_after : (zs : List A) {xs ys : List A} → Grew e xs ys → Grew e (xs ++ zs) (ys ++ zs)
  grew_after zs (grew_here xs) = grew_here (xs ++ zs)
  grew_after zs (grew_there x g) = grew_there x (grew_after zs g)

  pub in_grew : {xs ys : List A} → Grew e xs ys → e ∈ ys
  in_grew (grew_here xs) = here refl
  in_grew (grew_there x g) = there (in_grew g)

  pub of_grew : {xs ys : List A} → Grew e xs ys → (y : A) → y ∈ ys → (y ∈ xs) ⊎ (y ≡ e)
  of_grew (grew_here xs) y (here p) = inr p
  of_grew (grew_here xs) y (there m) = inl m
  of_grew (grew_there x g) y (here p) = inl (here p)
  of_grew (grew_there x g) y (there m) = elim (of_grew g y m) [ inl k ↦ inl (there k) | inr p ↦ inr p ]

  grew_distinct : {xs ys : List A} → Grew e xs ys → e ∉ xs → Distinct xs → Distinct ys
  grew_distinct (grew_here xs) new d = (new, d)
  grew_distinct (grew_there {xs = xs} x g) new d = ((λ m. out (of_grew g x m)), grew_distinct g (λ m. new (there m)) d.1)
    where
      out : (x ∈ xs) ⊎ (x ≡ e) → ⊥
      out (inl m) = d.0 m
      out (inr p) = new (here (sym p))

  -- a filter that drops the new one sees no difference
  pub grew_keep : {xs ys : List A} → Grew e xs ys → (p : A → Bool) → p e ≡ false → keep p ys ≡ keep p xs
  grew_keep (grew_here xs) p t = rw t refl
  grew_keep (grew_there x g) p t = ap (λ (zs : List A). cond (p x) (x ∷ zs) zs) (grew_keep g p t)

pub grew_map : {A B : Type 0} (f : A → B) {e : A} {xs ys : List A} → Grew e xs ys → Grew (f e) (map f xs) (map f ys)
grew_map f (grew_here xs) = grew_here (map f xs)
grew_map f (grew_there x g) = grew_there (f x) (grew_map f g)

module _ {E : Type 0} where
  -- the change of the edit a turns the entries xs into ys
  abbrev pub Effect : Id → Change E → List (Entry E) → List (Entry E) → Type 0
  Effect a (insertion parent.Start s x) xs ys = Grew (fresh a x) xs ys
  Effect a (insertion (parent.Entry p) s x) xs ys = ((ys ≡ xs) × (p ∉ map entry_id xs)) ⊎ (Grew (fresh a x) xs ys × (p ∈ map entry_id xs))
  Effect a (deletion t) xs ys = ys ≡ map (hide t) xs

module _ {E : Type 0} (before : Id → Id → Bool) where
  pub join_grew : (e : Entry E) (f : Forest E) → Grew e (read f) (read (join before e f))
  join_grew e nil = grew_here []
  join_grew e (node x l r n) = go (before e.id x.id) (join_grew e n)
    where
      go : (b : Bool) → Grew e (read n) (read (join before e n))
          → Grew e (read (node x l r n)) (read (cond b (node e nil nil (node x l r n)) (node x l r (join before e n))))
      go true g = grew_here (read (node x l r n))
      go false g = grew_before (read l) (grew_there x (grew_before (read r) g))

  -- where the parent is no entry nothing changes; where it is one, the leaf comes in once
  hang_absent : (p : Id) (s : Side) (e : Entry E) (f : Forest E) → p ∉ ids f → hang before p s e f ≡ f
  hang_absent p s e nil no-p = refl
  hang_absent p s e (node x l r n) no-p = rw (same_apart x.id p (λ q. no-p (placed x l r n (it (sym q)))))
      (λ i. node x (hang_absent p s e l (λ m. no-p (placed x l r n (lefts m))) i) (hang_absent p s e r (λ m. no-p (placed x l r n (rights m))) i)
      (hang_absent p s e n (λ m. no-p (placed x l r n (nexts m))) i))

  hang_grew : (p : Id) (s : Side) (e : Entry E) (f : Forest E) → Distinct (ids f) → p ∈ ids f → Grew e (read f) (read (hang before p s e f))
  hang_grew p s e nil d m = elim m [ ]
  hang_grew p s e (node x l r n) d m = go (place x l r n m)
      (hang_grew p s e l A.in_lefts) (hang_grew p s e r A.in_rights) (hang_grew p s e n A.in_nexts)
    where
      A : Apart x l r n
      A = apart x l r n d

      Step : Forest E → Type 0
      Step f = p ∈ ids f → Grew e (read f) (read (hang before p s e f))

      taken : (t : Side) → Grew e (read (node x l r n)) (read (adopt before true t e x l r n))
      taken Left = grew_after (x ∷ (read r ++ read n)) (join_grew e l)
      taken Right = grew_before (read l) (grew_there x (grew_after (read n) (join_grew e r)))

      not_it : (f : Forest E) → p ≡ x.id → x.id ∉ ids f → p ∉ ids f
      not_it f q no-x k = no-x (rw⁻¹ q k)

      go : Place p x l r n → Step l → Step r → Step n → Grew e (read (node x l r n)) (read (hang before p s e (node x l r n)))
      go (it q) L R N = rw (
        eq_same x.id p (sym q),
        hang_absent p s e l (not_it l q A.it_lefts),
        hang_absent p s e r (not_it r q A.it_rights),
        hang_absent p s e n (not_it n q A.it_nexts),
      ) (taken s)
      go (lefts k) L R N = rw (none_of x.id (ids l) A.it_lefts p k, hang_absent p s e r (A.lefts_rights k), hang_absent p s e n (A.lefts_nexts k))
          (grew_after (x ∷ (read r ++ read n)) (L k))
      go (rights k) L R N = rw (none_of x.id (ids r) A.it_rights p k, hang_absent p s e l (λ m. A.lefts_rights m k), hang_absent p s e n (A.rights_nexts k))
          (grew_before (read l) (grew_there x (grew_after (read n) (R k))))
      go (nexts k) L R N = rw (none_of x.id (ids n) A.it_nexts p k, hang_absent p s e l (λ m. A.lefts_nexts m k), hang_absent p s e r (λ m. A.rights_nexts m k))
          (grew_before (read l) (grew_there x (grew_before (read r) (N k))))

  pub effect : (a : Id) (c : Change E) (f : Forest E) → Distinct (ids f) → Effect a c (read f) (read (change before a c f))
  effect a (insertion parent.Start s x) f d = join_grew (fresh a x) f
  effect a (insertion (parent.Entry p) s x) f d = go (cases_Bool (is_in (ids f) p))
    where
      go : (is_in (ids f) p ≡ true) ⊎ (is_in (ids f) p ≡ false) → Effect a (insertion (parent.Entry p) s x) (read f) (read (hang before p s (fresh a x) f))
      go (inl t) = let m = of_is_in (ids f) p t in inr (hang_grew p s (fresh a x) f d m, m)
      go (inr t) = let no-p : p ∉ ids f = λ m. both_ways _ t (is_in_true (ids f) p m) in inl (ap read (hang_absent p s (fresh a x) f no-p), no-p)
  effect a (deletion t) f d = read_bury t f

module _ {E : Type 0} where
  -- identifiers stay apart
  pub effect_distinct : (a : Id) (c : Change E) (xs ys : List (Entry E)) → Effect a c xs ys → a ∉ map entry_id xs → Distinct (map entry_id xs)
      → Distinct (map entry_id ys)
  effect_distinct a (insertion parent.Start s x) xs ys g new d = grew_distinct (grew_map entry_id g) new d
  effect_distinct a (insertion (parent.Entry p) s x) xs ys (inl h) new d = rw h.0 d
  effect_distinct a (insertion (parent.Entry p) s x) xs ys (inr h) new d = grew_distinct (grew_map entry_id h.0) new d
  effect_distinct a (deletion t) xs ys h new d = rw (ap (map entry_id) h ∙ map-map entry_id (hide t) xs) d

  -- no identifier but that of the edit is new
  pub effect_ids : (a : Id) (c : Change E) (xs ys : List (Entry E)) → Effect a c xs ys → (b : Id) → b ∈ map entry_id ys → (b ∈ map entry_id xs) ⊎ (b ≡ a)
  effect_ids a (insertion parent.Start s x) xs ys g b m = of_grew (grew_map entry_id g) b m
  effect_ids a (insertion (parent.Entry p) s x) xs ys (inl h) b m = inl (rw⁻¹ h.0 m)
  effect_ids a (insertion (parent.Entry p) s x) xs ys (inr h) b m = of_grew (grew_map entry_id h.0) b m
  effect_ids a (deletion t) xs ys h b m = inl (rw⁻¹ (ap (map entry_id) h ∙ map-map entry_id (hide t) xs) m)
