-- The entries of the tree of a history: which there are, which of them are shown, and in which order.
use Rattle.std.proofs.Common.{◌≡◌, Bool, true, false, cond, not, ◌&&◌, ◌||◌, ◌⊎◌, List, [], ◌∷◌, ◌++◌, map, sym, refl, ap, ◌∙◌, subst, inl, inr}
use mathlib.Core.List.{map-map}
use Rattle.std.proofs.lemmas.Bool.{false≢true, false_from_ne_true, and_parts, or_cases}
use Rattle.std.proofs.Math.Bool.{or-false}
use Rattle.edits.specs.declared.id.Id.{Id}
use Rattle.edits.specs.declared.edit.Side.{Side}
use Rattle.edits.specs.declared.edit.Parent.{Parent}
use Rattle.edits.specs.declared.edit.Parent.TheVariants as parent
use Rattle.edits.specs.Ids.{same}
use Rattle.order.specs.Lists.{◌∈◌, here, there, ◌∉◌, ◌⊆◌, keep}
use Rattle.order.specs.Edits.{Change, insertion, deletion, Edit, Refers, Lawful, is_insertion, Order}
use Rattle.order.specs.Forests.{Entry, Forest, read, is_shown, entry_id, ids, fresh, hide, apply, grown, tree, visible}
use Rattle.order.specs.Histories.{edit_ids, Next, History, empty, more, inserted, deletes, deleted, stands, as_shown, standing}
use Rattle.order.proofs.Ids.{same_eq, same_refl}
use Rattle.order.proofs.Lists.{any_true, true_any, any_append, in_left, in_last, of_map, keep_alike, keep_map, Distinct}
use Rattle.order.proofs.Growing.{Grew, Effect, of_grew, grew_keep, effect, effect_distinct, effect_ids}
use Rattle.order.proofs.Histories.{tree_snoc, in_ids, ids_old, distinct_ids_snoc}
use Rattle.order.proofs.Reordering.{rest_of, rest_new, rest_distinct, tree_from_part}

pub not_or : (a b : Bool) → not (a || b) ≡ (not a && not b)
not_or true b = refl
not_or false b = refl

module _ {E : Type 0} where
  deleted_snoc : (h : List (Edit E)) (e : Edit E) (a : Id) → deleted (h ++ (e ∷ [])) a ≡ (deleted h a || deletes e.change a)
  deleted_snoc h e a = any_append (λ (d : Edit E). deletes d.change a) h (e ∷ []) ∙ ap (λ (b : Bool). deleted h a || b) (or-false (deletes e.change a))

  pub inserted_in : (h : List (Edit E)) (a : Id) → inserted h a ≡ true → (e : Edit E) × (e ∈ h) × (e.id ≡ a) × (is_insertion e.change ≡ true)
  inserted_in h a t = let u = any_true (λ (e : Edit E). is_insertion e.change && same e.id a) h t in
      let v = and_parts (is_insertion u.0.change) (same u.0.id a) u.2 in (u.0, u.1, same_eq u.0.id a v.1, v.0)

  inserted_last : (h : List (Edit E)) (e : Edit E) → is_insertion e.change ≡ true → inserted (h ++ (e ∷ [])) e.id ≡ true
  inserted_last h e t = true_any (λ (d : Edit E). is_insertion d.change && same d.id e.id) (h ++ (e ∷ [])) (in_last h e) (rw (t, same_refl e.id) refl)

  inserted_more : (h : List (Edit E)) (e : Edit E) (a : Id) → inserted h a ≡ true → inserted (h ++ (e ∷ [])) a ≡ true
  inserted_more h e a t = let u = any_true (λ (d : Edit E). is_insertion d.change && same d.id a) h t in
      true_any (λ (d : Edit E). is_insertion d.change && same d.id a) (h ++ (e ∷ [])) (in_left h (e ∷ []) u.1) u.2

  pub record Entries (before : Id → Id → Bool) (h : List (Edit E)) : Type 0 where
    pub distinct : Distinct (ids (tree before h))
    pub inserted : (y : Entry E) → y ∈ read (tree before h) → inserted h y.id ≡ true
    pub shown : (y : Entry E) → y ∈ read (tree before h) → y.shown ≡ not (deleted h y.id)
    -- what is deleted was there before
    pub marked : (a : Id) → deleted h a ≡ true → a ∈ edit_ids h

  -- an entry has the identifier of an edit
  pub entry_edit : {before : Id → Id → Bool} {h : List (Edit E)} → Entries before h → ids (tree before h) ⊆ edit_ids h
  entry_edit {before} {h} S a m = let u = of_map entry_id (read (tree before h)) m in
      let v = inserted_in h u.0.id (S.inserted u.0 u.1) in
      rw⁻¹ (v.2 ∙ u.2) (in_ids h v.1)

  module _ (before : Id → Id → Bool) (h : List (Edit E)) (S : Entries before h) (e : Edit E) (l : Lawful e) (n : Next h e) where
    f : Forest E
    f = tree before h

    new : e.id ∉ ids f
    unfolding f
    new m = n.new (entry_edit S e.id m)

    -- the new entry is not deleted
    unmarked : deleted h e.id ≡ false
    unmarked = false_from_ne_true (deleted h e.id) (λ t. n.new (S.marked e.id t))

    -- what an entry of the larger tree is to be
    Good : Entry E → Type 0
    Good y = (inserted (h ++ (e ∷ [])) y.id ≡ true) × (y.shown ≡ not (deleted (h ++ (e ∷ [])) y.id))

    old : ((a : Id) → deletes e.change a ≡ false) → (y : Entry E) → y ∈ read f → Good y
    unfolding Good f
    old none y m = (
      inserted_more h e y.id (S.inserted y m),
      S.shown y m
          ∙ ap not (sym (deleted_snoc h e y.id ∙ ap (λ (b : Bool). deleted h y.id || b) (none y.id) ∙ or-false (deleted h y.id))),
    )

    module _ (p : Parent) (s : Side) (x : E) (q : e.change ≡ insertion p s x) where
      keeps : (a : Id) → deletes e.change a ≡ false
      keeps a = ap (λ (c : Change E). deletes c a) q

      added : Good (fresh e.id x)
      unfolding Good
      added = (inserted_last h e (ap is_insertion q), sym (ap not (deleted_snoc h e e.id ∙ (λ i. unmarked i || keeps e.id i))))

      good_grew : {ys : List (Entry E)} → Grew (fresh e.id x) (read f) ys → (y : Entry E) → y ∈ ys → Good y
      good_grew g y m = go (of_grew g y m)
        where
          go : (y ∈ read f) ⊎ (y ≡ fresh e.id x) → Good y
          go (inl k) = old keeps y k
          go (inr r) = rw r added

    good : (c : Change E) → e.change ≡ c → (ys : List (Entry E)) → Effect e.id c (read f) ys → (y : Entry E) → y ∈ ys → Good y
    unfolding Good f
    good (insertion parent.Start s x) q ys g y m = good_grew parent.Start s x q g y m
    good (insertion (parent.Entry p) s x) q ys (inl u) y m = old (keeps (parent.Entry p) s x q) y (rw⁻¹ u.0 m)
    good (insertion (parent.Entry p) s x) q ys (inr u) y m = good_grew (parent.Entry p) s x q u.0 y m
    good (deletion t) q ys u y m = let v = of_map (hide t) (read f) (subst (λ (zs : List (Entry E)). y ∈ zs) u m) in rw⁻¹ v.2 (hidden v.0 v.1)
      where
        hidden : (z : Entry E) → z ∈ read f → Good (hide t z)
        hidden z k = (
          inserted_more h e z.id (S.inserted z k),
          ap (λ (b : Bool). b && not (same z.id t)) (S.shown z k)
              ∙ sym (ap not (deleted_snoc h e z.id ∙ ap (λ (c : Change E). deleted h z.id || deletes c z.id) q)
              ∙ not_or (deleted h z.id) (same z.id t)),
        )

    target : (c : Change E) → Refers e.clock c → (a : Id) → deletes c a ≡ true → a ∈ edit_ids h
    target (insertion p s x) r a t = absurd (false≢true t)
    target (deletion u) r a t = rw (same_eq a u t) (n.covered u r)

    entries_more : Entries before (h ++ (e ∷ []))
    unfolding f Good
    entries_more = record {
      distinct = rw (tree_snoc before h e) (effect_distinct e.id e.change (read f) _ F new S.distinct);
      inserted = λ y m. (all y m).0;
      shown = λ y m. (all y m).1;
      marked = λ a t. mark a (or_cases (deleted h a) (deletes e.change a) (sym (deleted_snoc h e a) ∙ t));
    }
      where
        F : Effect e.id e.change (read f) (read (apply before e f))
        F = effect before e.id e.change f S.distinct

        all : (y : Entry E) → y ∈ read (tree before (h ++ (e ∷ []))) → Good y
        all y m = good e.change refl (read (apply before e f)) F y (rw⁻¹ (tree_snoc before h e) m)

        mark : (a : Id) → (deleted h a ≡ true) ⊎ (deletes e.change a ≡ true) → a ∈ edit_ids (h ++ (e ∷ []))
        mark a (inl t) = ids_old h e (S.marked a t)
        mark a (inr t) = ids_old h e (target e.change l.refers a t)

  pub entries : (before : Id → Id → Bool) {h : List (Edit E)} → History h → Entries before h
  entries before empty = record { distinct = tt; inserted = λ y m. elim m [ ]; shown = λ y m. elim m [ ]; marked = λ a t. absurd (false≢true t) }
  entries before (more {h} e H l n) = entries_more before h (entries before H) e l n

  pub distinct_ids : {h : List (Edit E)} → History h → Distinct (edit_ids h)
  distinct_ids empty = tt
  distinct_ids (more {h} e H l n) = distinct_ids_snoc h e (distinct_ids H) n.new

  -- one order: what later edits bring in, a filter by identifiers can leave out again
  module _ (before : Id → Id → Bool) (test : Id → Bool) where
    passes : Entry E → Bool
    passes y = test y.id

    passing : List (Entry E) → List (Entry E)
    passing xs = map as_shown (keep passes xs)

    effect_passing : (a : Id) (c : Change E) (xs ys : List (Entry E)) → test a ≡ false → Effect a c xs ys → passing ys ≡ passing xs
    unfolding passes passing
    effect_passing a (insertion parent.Start s x) xs ys t g = ap (map as_shown) (grew_keep g passes t)
    effect_passing a (insertion (parent.Entry p) s x) xs ys t (inl u) = ap passing u.0
    effect_passing a (insertion (parent.Entry p) s x) xs ys t (inr u) = ap (map as_shown) (grew_keep u.0 passes t)
    effect_passing a (deletion u) xs ys t q = ap passing q
        ∙ ap (map as_shown) (keep_map (hide u) passes xs) ∙ map-map as_shown (hide u) (keep passes xs)

    grown_passing : (f : Forest E) (r : List (Edit E)) → Distinct (ids f) → Distinct (edit_ids r) → ((a : Id) → a ∈ edit_ids r → a ∉ ids f)
        → ((a : Id) → a ∈ edit_ids r → test a ≡ false) → passing (read (grown before f r)) ≡ passing (read f)
    grown_passing f [] d dr out fails = refl
    grown_passing f (e ∷ r) d dr out fails =
        grown_passing (apply before e f) r (effect_distinct e.id e.change (read f) _ F (out e.id (here refl)) d) dr.1 out'
        (λ a m. fails a (there m))
        ∙ effect_passing e.id e.change (read f) _ (fails e.id (here refl)) F
      where
        F : Effect e.id e.change (read f) (read (apply before e f))
        F = effect before e.id e.change f d

        out' : (a : Id) → a ∈ edit_ids r → a ∉ ids (apply before e f)
        out' a m k = go (effect_ids e.id e.change (read f) _ F a k)
          where
            go : (a ∈ ids f) ⊎ (a ≡ e.id) → ⊥
            go (inl i) = out a (there m) i
            go (inr p) = dr.0 (rw⁻¹ p m)

  all_shown : (xs : List (Entry E)) → map as_shown (keep is_shown xs) ≡ keep is_shown xs
  all_shown [] = refl
  all_shown (x ∷ xs) = go x.shown refl (all_shown xs)
    where
      go : (b : Bool) → x.shown ≡ b → map as_shown (keep is_shown xs) ≡ keep is_shown xs
          → map as_shown (cond b (x ∷ keep is_shown xs) (keep is_shown xs)) ≡ cond b (x ∷ keep is_shown xs) (keep is_shown xs)
      go true t ih = λ i. record { id = x.id; element = x.element; shown = sym t i } ∷ ih i
      go false t ih = ih

pub part_in_order : {E : Type 0} {before : Id → Id → Bool} → Order before → {h all : List (Edit E)} → History h → History all → h ⊆ all
    → visible (tree before h) ≡ standing h (read (tree before all))
unfolding passes passing
part_in_order {E} {before} O {h} {all} H A sub =
    sym (all_shown (read (tree before h)))
    ∙ ap (map as_shown) (keep_alike is_shown (stands h) (read (tree before h)) alike)
    ∙ sym (grown_passing before test (tree before h) (rest_of h all) S.distinct (rest_distinct h all (distinct_ids A))
    (λ a m k. rest_new h all a m (entry_edit S a k)) fails)
    ∙ ap (λ (g : Forest E). map as_shown (keep (stands h) (read g))) (sym (tree_from_part H O A sub))
  where
    S : Entries before h
    S = entries before H

    test : Id → Bool
    test a = inserted h a && not (deleted h a)

    alike : (y : Entry E) → y ∈ read (tree before h) → is_shown y ≡ stands h y
    alike y m = S.shown y m ∙ sym (ap (λ (b : Bool). b && not (deleted h y.id)) (S.inserted y m))

    fails : (a : Id) → a ∈ edit_ids (rest_of h all) → test a ≡ false
    fails a m = false_from_ne_true (test a) (λ t. let u = inserted_in h a (and_parts (inserted h a) (not (deleted h a)) t).0 in
        rest_new h all a m (rw⁻¹ u.2 (in_ids h u.1)))
