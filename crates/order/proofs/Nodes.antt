-- A node and its parts: its identifiers, where in it an identifier is, and that its parts share none; and how a deletion reads.
use Rattle.std.proofs.Common.{◌≡◌, Bool, false, not, ◌&&◌, ◌⊎◌, List, ◌∷◌, ◌++◌, map, sym, refl, ap, ◌∙◌, inl, inr}
use Rattle.std.proofs.Math.Bool.{and-true}
use Rattle.std.proofs.lemmas.List.{map-append}
use Rattle.edits.specs.declared.id.Id.{Id}
use Rattle.edits.specs.Ids.{same}
use Rattle.order.specs.Lists.{◌∈◌, here, there, ◌∉◌}
use Rattle.order.specs.Forests.{Entry, Forest, nil, node, read, entry_id, ids, hide, bury}
use Rattle.order.proofs.Lists.{in_left, in_right, in_split, Distinct, distinct_left, distinct_right, distinct_across}

module _ {E : Type 0} where
  pub ids_node : (x : Entry E) (l r n : Forest E) → ids (node x l r n) ≡ ids l ++ (x.id ∷ (ids r ++ ids n))
  ids_node x l r n = map-append entry_id (read l) (x ∷ (read r ++ read n))
      ∙ ap (λ (zs : List Id). ids l ++ (x.id ∷ zs)) (map-append entry_id (read r) (read n))

  -- where in a node an identifier is
  pub data Place (a : Id) (x : Entry E) (l r n : Forest E) : Type 0 where
    it : a ≡ x.id → Place a x l r n
    lefts : a ∈ ids l → Place a x l r n
    rights : a ∈ ids r → Place a x l r n
    nexts : a ∈ ids n → Place a x l r n

  pub place : {a : Id} (x : Entry E) (l r n : Forest E) → a ∈ ids (node x l r n) → Place a x l r n
  place {a} x l r n m = go (in_split (ids l) (x.id ∷ (ids r ++ ids n)) (rw⁻¹ (ids_node x l r n) m))
    where
      end : (a ∈ ids r) ⊎ (a ∈ ids n) → Place a x l r n
      end (inl k) = rights k
      end (inr k) = nexts k

      go : (a ∈ ids l) ⊎ (a ∈ (x.id ∷ (ids r ++ ids n))) → Place a x l r n
      go (inl k) = lefts k
      go (inr (here e)) = it e
      go (inr (there k)) = end (in_split (ids r) (ids n) k)

  pub placed : {a : Id} (x : Entry E) (l r n : Forest E) → Place a x l r n → a ∈ ids (node x l r n)
  placed {a} x l r n k = rw (ids_node x l r n) (go k)
    where
      go : Place a x l r n → a ∈ (ids l ++ (x.id ∷ (ids r ++ ids n)))
      go (it e) = in_right (ids l) (x.id ∷ (ids r ++ ids n)) (here e)
      go (lefts m) = in_left (ids l) (x.id ∷ (ids r ++ ids n)) m
      go (rights m) = in_right (ids l) (x.id ∷ (ids r ++ ids n)) (there (in_left (ids r) (ids n) m))
      go (nexts m) = in_right (ids l) (x.id ∷ (ids r ++ ids n)) (there (in_right (ids r) (ids n) m))

  -- the parts of a node have no identifier in common, and none twice
  pub record Apart (x : Entry E) (l r n : Forest E) : Type 0 where
    pub in_lefts : Distinct (ids l)
    pub in_rights : Distinct (ids r)
    pub in_nexts : Distinct (ids n)
    pub it_lefts : x.id ∉ ids l
    pub it_rights : x.id ∉ ids r
    pub it_nexts : x.id ∉ ids n
    pub lefts_rights : {a : Id} → a ∈ ids l → a ∉ ids r
    pub lefts_nexts : {a : Id} → a ∈ ids l → a ∉ ids n
    pub rights_nexts : {a : Id} → a ∈ ids r → a ∉ ids n

  pub apart : (x : Entry E) (l r n : Forest E) → Distinct (ids (node x l r n)) → Apart x l r n
  apart x l r n d = record {
    in_lefts = distinct_left (ids l) _ whole;
    in_rights = distinct_left (ids r) (ids n) end.1;
    in_nexts = distinct_right (ids r) (ids n) end.1;
    it_lefts = λ m. distinct_across (ids l) _ whole m (here refl);
    it_rights = λ m. end.0 (in_left (ids r) (ids n) m);
    it_nexts = λ m. end.0 (in_right (ids r) (ids n) m);
    lefts_rights = λ m k. distinct_across (ids l) _ whole m (there (in_left (ids r) (ids n) k));
    lefts_nexts = λ m k. distinct_across (ids l) _ whole m (there (in_right (ids r) (ids n) k));
    rights_nexts = λ m k. distinct_across (ids r) (ids n) end.1 m k;
  }
    where
      whole : Distinct (ids l ++ (x.id ∷ (ids r ++ ids n)))
      whole = rw⁻¹ (ids_node x l r n) d

      end : Distinct (x.id ∷ (ids r ++ ids n))
      end = distinct_right (ids l) (x.id ∷ (ids r ++ ids n)) whole

  -- a deletion hides in every part, and leaves the entries with other identifiers as they are
  pub read_bury : (t : Id) (f : Forest E) → read (bury t f) ≡ map (hide t) (read f)
  read_bury t nil = refl
  read_bury t (node x l r n) = (λ i. read_bury t l i ++ (hide t x ∷ (read_bury t r i ++ read_bury t n i)))
      ∙ sym (map-append (hide t) (read l) (x ∷ (read r ++ read n))
      ∙ ap (λ (zs : List (Entry E)). map (hide t) (read l) ++ (hide t x ∷ zs)) (map-append (hide t) (read r) (read n)))

  pub hide_other : (t : Id) (x : Entry E) → same x.id t ≡ false → hide t x ≡ x
  hide_other t x n = λ i. record { id = x.id; element = x.element; shown = stays i }
    where
      stays : (x.shown && not (same x.id t)) ≡ x.shown
      stays = ap (λ (c : Bool). x.shown && not c) n ∙ and-true x.shown
