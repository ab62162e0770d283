-- What is below an entry on a side stands together, next to the entry; and whether an entry has a right child.
use Rattle.std.proofs.Common.{◌≡◌, Bool, true, ◌&&◌, ◌⊎◌, List, [], ◌∷◌, ◌++◌, Some, sym, refl, ap, ◌∙◌, subst, inl, inr, append_assoc, append-nil}
use Rattle.std.proofs.lemmas.Option.{same_Some}
use Rattle.std.proofs.lemmas.Bool.{false≢true, and_parts, or_cases, or_left, or_right}
use Rattle.edits.specs.declared.id.Id.{Id}
use Rattle.edits.specs.declared.edit.Side.{Side}
use Rattle.edits.specs.declared.edit.Side.TheVariants.{Left, Right}
use Rattle.edits.specs.declared.edit.Parent.{Parent}
use Rattle.edits.specs.declared.edit.Parent.TheVariants as parent
use Rattle.edits.specs.Ids.{same}
use Rattle.order.specs.Lists.{◌∈◌, here, there, Before}
use Rattle.order.specs.Edits.{Change, insertion}
use Rattle.order.specs.Forests.{Entry, Forest, nil, node, ids, change}
use Rattle.order.specs.Placing.{first, after, is_node, has_right, has_right_child}
use Rattle.order.proofs.Ids.{same_eq, eq_same}
use Rattle.order.proofs.Lists.{in_left, in_right, in_split, in_snoc, Distinct, distinct_across}
use Rattle.order.proofs.Lists.{before_left, before_right, before_later, before_earlier, before_across, before_once}
use Rattle.order.proofs.Nodes.{ids_node, Place, it, lefts, rights, nexts, place, placed, Apart, apart}
use Rattle.order.proofs.Beside.{first_some, after_it}
use Rattle.order.proofs.Under.{side_of, Under, under_in, under_of, under_stays, under_new, ids_stay, ids_new}

-- identifiers that belong to b on a side, and b itself, as they are read
abbrev block : Side → Id → List Id → List Id
block Left b ks = ks ++ (b ∷ [])
block Right b ks = b ∷ ks

in_block : (s : Side) (b : Id) (ks : List Id) {a : Id} → (a ≡ b) ⊎ (a ∈ ks) → a ∈ block s b ks
in_block Left b ks (inl e) = in_right ks (b ∷ []) (here e)
in_block Left b ks (inr m) = in_left ks (b ∷ []) m
in_block Right b ks (inl e) = here e
in_block Right b ks (inr m) = there m

of_block : (s : Side) (b : Id) (ks : List Id) {a : Id} → a ∈ block s b ks → (a ∈ ks) ⊎ (a ≡ b)
of_block Left b ks m = in_snoc ks b m
of_block Right b ks (here e) = inr e
of_block Right b ks (there m) = inl m

-- a stands on the side s of b
abbrev pub Aside : Side → List Id → Id → Id → Type 0
Aside Left xs b a = Before xs a b
Aside Right xs b a = Before xs b a

block_aside : (s : Side) (b : Id) (us ks vs : List Id) (a : Id) → a ∈ ks → Aside s (us ++ (block s b ks ++ vs)) b a
block_aside Left b us ks vs a m = before_later us ((ks ++ (b ∷ [])) ++ vs) a b
    (before_earlier (ks ++ (b ∷ [])) vs a b (before_across ks (b ∷ []) a b m (here refl)))
block_aside Right b us ks vs a m = before_later us (b ∷ (ks ++ vs)) b a (inl (refl, in_left ks vs m))

-- what is read between two of a block is of it, and not b
block_between : (s : Side) (b : Id) (us ks vs : List Id) → Distinct (us ++ (block s b ks ++ vs)) → (a y c : Id) → (a ≡ b) ⊎ (a ∈ ks) → (c ≡ b) ⊎ (c ∈ ks)
    → Before (us ++ (block s b ks ++ vs)) a y → Before (us ++ (block s b ks ++ vs)) y c → y ∈ ks
block_between s b us ks vs d a y c m k p q = go (in_split us rest (before_right all a y p))
  where
    rest : List Id
    rest = block s b ks ++ vs

    all : List Id
    all = us ++ rest

    not_b : (t : Side) → ((z : Id) → z ∈ ks → Aside t all b z) → (a ≡ b) ⊎ (a ∈ ks) → (c ≡ b) ⊎ (c ∈ ks) → Before all a b → Before all b c → ⊥
    not_b Left f i (inl e) g h = let w = subst (λ (z : Id). Before all b z) e h in before_once all d b b w w
    not_b Left f i (inr j) g h = before_once all d b c h (f c j)
    not_b Right f (inl e) j g h = let w = subst (λ (z : Id). Before all z b) e g in before_once all d b b w w
    not_b Right f (inr i) j g h = before_once all d a b g (f a i)

    one : (y ∈ ks) ⊎ (y ≡ b) → y ∈ ks
    one (inl h) = h
    one (inr e) = absurd (not_b s (block_aside s b us ks vs) m k (subst (λ (z : Id). Before all a z) e p) (subst (λ (z : Id). Before all z c) e q))

    end : (y ∈ block s b ks) ⊎ (y ∈ vs) → y ∈ ks
    end (inl h) = one (of_block s b ks h)
    end (inr h) = absurd (before_once all d y c q (before_later us rest c y (before_across (block s b ks) vs c y (in_block s b ks k) h)))

    go : (y ∈ us) ⊎ (y ∈ rest) → y ∈ ks
    go (inl h) = absurd (before_once all d a y p (before_across us rest y a h (in_left (block s b ks) vs (in_block s b ks m))))
    go (inr h) = end (in_split (block s b ks) vs h)

module _ {E : Type 0} where
  -- what is below an entry is in the part of the node where the entry is
  below_it : (x : Entry E) (l r n : Forest E) → Apart x l r n → (s : Side) (a : Id) → Under s x.id (node x l r n) a → a ∈ ids (side_of s l r)
  below_it x l r n A s a (inl u) = u.1
  below_it x l r n A s a (inr (inl u)) = absurd (A.it_lefts (under_of s x.id l a u))
  below_it x l r n A s a (inr (inr (inl u))) = absurd (A.it_rights (under_of s x.id r a u))
  below_it x l r n A s a (inr (inr (inr u))) = absurd (A.it_nexts (under_of s x.id n a u))

  below_lefts : (x : Entry E) (l r n : Forest E) → Apart x l r n → (s : Side) (b a : Id) → b ∈ ids l → Under s b (node x l r n) a → Under s b l a
  below_lefts x l r n A s b a m (inl u) = absurd (A.it_lefts (rw u.0 m))
  below_lefts x l r n A s b a m (inr (inl u)) = u
  below_lefts x l r n A s b a m (inr (inr (inl u))) = absurd (A.lefts_rights m (under_of s b r a u))
  below_lefts x l r n A s b a m (inr (inr (inr u))) = absurd (A.lefts_nexts m (under_of s b n a u))

  below_rights : (x : Entry E) (l r n : Forest E) → Apart x l r n → (s : Side) (b a : Id) → b ∈ ids r → Under s b (node x l r n) a → Under s b r a
  below_rights x l r n A s b a m (inl u) = absurd (A.it_rights (rw u.0 m))
  below_rights x l r n A s b a m (inr (inl u)) = absurd (A.lefts_rights (under_of s b l a u) m)
  below_rights x l r n A s b a m (inr (inr (inl u))) = u
  below_rights x l r n A s b a m (inr (inr (inr u))) = absurd (A.rights_nexts m (under_of s b n a u))

  below_nexts : (x : Entry E) (l r n : Forest E) → Apart x l r n → (s : Side) (b a : Id) → b ∈ ids n → Under s b (node x l r n) a → Under s b n a
  below_nexts x l r n A s b a m (inl u) = absurd (A.it_nexts (rw u.0 m))
  below_nexts x l r n A s b a m (inr (inl u)) = absurd (A.lefts_nexts (under_of s b l a u) m)
  below_nexts x l r n A s b a m (inr (inr (inl u))) = absurd (A.rights_nexts (under_of s b r a u) m)
  below_nexts x l r n A s b a m (inr (inr (inr u))) = u

  pub under_trans : (s t : Side) (b a c : Id) (f : Forest E) → Distinct (ids f) → Under s b f a → Under t a f c → Under s b f c
  under_trans s t b a c nil d u v = absurd u
  under_trans s t b a c (node x l r n) d u v = go (apart x l r n d) u (under_trans s t b a c l) (under_trans s t b a c r) (under_trans s t b a c n)
    where
      Step : Forest E → Type 0
      Step f = Distinct (ids f) → Under s b f a → Under t a f c → Under s b f c

      own : (q : Side) → Apart x l r n → a ∈ ids (side_of q l r) → c ∈ ids (side_of q l r)
      own Left A m = under_in t a l c (below_lefts x l r n A t a c m v)
      own Right A m = under_in t a r c (below_rights x l r n A t a c m v)

      go : Apart x l r n → Under s b (node x l r n) a → Step l → Step r → Step n → Under s b (node x l r n) c
      go A (inl w) L R N = inl (w.0, own s A w.1)
      go A (inr (inl w)) L R N = inr (inl (L A.in_lefts w (below_lefts x l r n A t a c (under_in s b l a w) v)))
      go A (inr (inr (inl w))) L R N = inr (inr (inl (R A.in_rights w (below_rights x l r n A t a c (under_in s b r a w) v))))
      go A (inr (inr (inr w))) L R N = inr (inr (inr (N A.in_nexts w (below_nexts x l r n A t a c (under_in s b n a w) v))))

  -- where b stands among the identifiers, with all that is below it on the side s
  record Found (s : Side) (b : Id) (f : Forest E) : Type 0 where
    ahead : List Id
    kids : List Id
    behind : List Id
    reads : ids f ≡ ahead ++ (block s b kids ++ behind)
    is_kid : (a : Id) → Under s b f a → a ∈ kids
    of_kid : (a : Id) → a ∈ kids → Under s b f a

  -- found in a part of f
  found_within : (s : Side) (b : Id) (f g : Forest E) (us vs : List Id) → ids f ≡ us ++ (ids g ++ vs) → ((a : Id) → Under s b f a → Under s b g a)
      → ((a : Id) → Under s b g a → Under s b f a) → Found s b g → Found s b f
  found_within s b f g us vs e down up F = record {
    ahead = us ++ F.ahead;
    kids = F.kids;
    behind = F.behind ++ vs;
    reads = e ∙ ap (λ (zs : List Id). us ++ (zs ++ vs)) F.reads ∙ ap (λ (zs : List Id). us ++ zs) (append_assoc F.ahead (mine ++ F.behind) vs)
        ∙ sym (append_assoc us F.ahead ((mine ++ F.behind) ++ vs)) ∙ ap (λ (zs : List Id). (us ++ F.ahead) ++ zs) (append_assoc mine F.behind vs);
    is_kid = λ a u. F.is_kid a (down a u);
    of_kid = λ a m. up a (F.of_kid a m);
  }
    where
      mine : List Id
      mine = block s b F.kids

  found : (s : Side) (b : Id) (f : Forest E) → Distinct (ids f) → b ∈ ids f → Found s b f
  found s b nil d m = elim m [ ]
  found s b (node x l r n) d m = go (apart x l r n d) (place x l r n m) (found s b l) (found s b r) (found s b n)
    where
      own : (t : Side) → Apart x l r n → Found t x.id (node x l r n)
      own Left A = record {
        ahead = [];
        kids = ids l;
        behind = ids r ++ ids n;
        reads = ids_node x l r n ∙ sym (append_assoc (ids l) (x.id ∷ []) (ids r ++ ids n));
        is_kid = below_it x l r n A Left;
        of_kid = λ a k. inl (refl, k);
      }
      own Right A = record {
        ahead = ids l;
        kids = ids r;
        behind = ids n;
        reads = ids_node x l r n;
        is_kid = below_it x l r n A Right;
        of_kid = λ a k. inl (refl, k);
      }

      Step : Forest E → Type 0
      Step f = Distinct (ids f) → b ∈ ids f → Found s b f

      go : Apart x l r n → Place b x l r n → Step l → Step r → Step n → Found s b (node x l r n)
      go A (it e) L R N = rw e (own s A)
      go A (lefts k) L R N = found_within s b (node x l r n) l [] (x.id ∷ (ids r ++ ids n)) (ids_node x l r n)
          (λ a u. below_lefts x l r n A s b a k u) (λ a u. inr (inl u)) (L A.in_lefts k)
      go A (rights k) L R N = found_within s b (node x l r n) r (ids l ++ (x.id ∷ [])) (ids n)
          (ids_node x l r n ∙ sym (append_assoc (ids l) (x.id ∷ []) (ids r ++ ids n)))
          (λ a u. below_rights x l r n A s b a k u) (λ a u. inr (inr (inl u))) (R A.in_rights k)
      go A (nexts k) L R N = found_within s b (node x l r n) n (ids l ++ (x.id ∷ ids r)) []
          (ids_node x l r n ∙ sym (append_assoc (ids l) (x.id ∷ ids r) (ids n))
          ∙ ap (λ (zs : List Id). (ids l ++ (x.id ∷ ids r)) ++ zs) (sym (append-nil (ids n))))
          (λ a u. below_nexts x l r n A s b a k u) (λ a u. inr (inr (inr u))) (N A.in_nexts k)

  pub under_aside : (s : Side) (b : Id) (f : Forest E) → Distinct (ids f) → (a : Id) → Under s b f a → Aside s (ids f) b a
  under_aside s b f d a u = rw F.reads (block_aside s b F.ahead F.kids F.behind a (F.is_kid a u))
    where
      F : Found s b f
      F = found s b f d (under_of s b f a u)

  -- what is read between b and what is below it, or between two of those, is below it
  pub between : (s : Side) (b : Id) (f : Forest E) → Distinct (ids f) → (a y c : Id) → ((a ≡ b) ⊎ Under s b f a) → ((c ≡ b) ⊎ Under s b f c)
      → Before (ids f) a y → Before (ids f) y c → Under s b f y
  between s b f d a y c m k p q = F.of_kid y (block_between s b F.ahead F.kids F.behind (rw⁻¹ F.reads d) a y c (kid m) (kid k)
      (rw⁻¹ F.reads p) (rw⁻¹ F.reads q))
    where
      b_in : (a ≡ b) ⊎ Under s b f a → b ∈ ids f
      b_in (inl e) = rw⁻¹ e (before_left (ids f) a y p)
      b_in (inr u) = under_of s b f a u

      F : Found s b f
      F = found s b f d (b_in m)

      kid : {z : Id} → (z ≡ b) ⊎ Under s b f z → (z ≡ b) ⊎ (z ∈ F.kids)
      kid (inl e) = inl e
      kid {z} (inr u) = inr (F.is_kid z u)

  pub node_has : (f : Forest E) → is_node f ≡ true → (a : Id) × (a ∈ ids f)
  node_has nil e = absurd (false≢true e)
  node_has (node x l r n) e = (x.id, placed x l r n (it refl))

  has_node : (f : Forest E) {a : Id} → a ∈ ids f → is_node f ≡ true
  has_node nil m = elim m [ ]
  has_node (node x l r n) m = refl

  -- an entry has a right child where something is below it on the right
  right_below : (b : Id) (f : Forest E) → has_right b f ≡ true → (a : Id) × Under Right b f a
  right_below b nil e = absurd (false≢true e)
  right_below b (node x l r n) e = elim (or_cases (same x.id b && is_node r) _ e) [
    | inl t ↦ let h = and_parts (same x.id b) (is_node r) t in let k = node_has r h.1 in (k.0, inl (same_eq x.id b h.0, k.1))
    | inr f ↦ elim (or_cases (has_right b l) _ f) [
      | inl t ↦ let k = right_below b l t in (k.0, inr (inl k.1))
      | inr g ↦ elim (or_cases (has_right b r) _ g) [
        | inl t ↦ let k = right_below b r t in (k.0, inr (inr (inl k.1)))
        | inr t ↦ let k = right_below b n t in (k.0, inr (inr (inr k.1)))
      ]
    ]
  ]

  pub below_right : (b : Id) (f : Forest E) (a : Id) → Under Right b f a → has_right b f ≡ true
  below_right b nil a u = absurd u
  below_right b (node x l r n) a (inl u) = rw (eq_same x.id b u.0, has_node r u.1)
  below_right b (node x l r n) a (inr (inl u)) = or_right (same x.id b && is_node r) _ (or_left (has_right b l) _ (below_right b l a u))
  below_right b (node x l r n) a (inr (inr (inl u))) = or_right (same x.id b && is_node r) _ (or_right (has_right b l) _ (or_left (has_right b r) _ (below_right b r a u)))
  below_right b (node x l r n) a (inr (inr (inr u))) = or_right (same x.id b && is_node r) _ (or_right (has_right b l) _ (or_right (has_right b r) _ (below_right b n a u)))

  -- an entry with a right child has a follower, which is below it on the right
  pub followed : (b : Id) (f : Forest E) → Distinct (ids f) → has_right b f ≡ true → (a : Id) × (after b (ids f) ≡ Some a) × Under Right b f a
  followed b f d h = let k = first_some F.kids F.behind (F.is_kid c.0 c.1) in (k.0, follows ∙ k.1, F.of_kid k.0 k.2)
    where
      c : (k : Id) × Under Right b f k
      c = right_below b f h

      F : Found Right b f
      F = found Right b f d (under_of Right b f c.0 c.1)

      follows : after b (ids f) ≡ first (F.kids ++ F.behind)
      follows = ap (after b) F.reads ∙ after_it b F.ahead (F.kids ++ F.behind)
          (λ m. distinct_across F.ahead (b ∷ (F.kids ++ F.behind)) (rw⁻¹ F.reads d) m (here refl))

  pub follower_under : (b : Id) (f : Forest E) → Distinct (ids f) → has_right b f ≡ true → (a : Id) → after b (ids f) ≡ Some a → Under Right b f a
  follower_under b f d h a e = let k = followed b f d h in rw⁻¹ (same_Some _ _ (sym k.1 ∙ e)) k.2

  module _ (before : Id → Id → Bool) where
    pub has_right_stays : (i : Id) (c : Change E) (p : Parent) (f : Forest E) → has_right_child p f ≡ true → has_right_child p (change before i c f) ≡ true
    has_right_stays i c parent.Start f e = let k = node_has f e in has_node (change before i c f) (ids_stay before i c f k.0 k.1)
    has_right_stays i c (parent.Entry b) f e = let k = right_below b f e in
        below_right b (change before i c f) k.0 (under_stays before i c Right b k.0 f k.1)

    pub has_right_new : (i : Id) (x : E) (p : Parent) (f : Forest E) → ((b : Id) → p ≡ parent.Entry b → b ∈ ids f)
        → has_right_child p (change before i (insertion p Right x) f) ≡ true
    has_right_new i x parent.Start f k = has_node (change before i (insertion parent.Start Right x) f) (ids_new before i x parent.Start Right f k)
    has_right_new i x (parent.Entry b) f k =
        below_right b (change before i (insertion (parent.Entry b) Right x) f) i (under_new before i x Right b f (k b refl))
