-- Which entries are below an entry on a side, and what a change of the forest does to that.
use Rattle.std.proofs.Common.{◌≡◌, Bool, true, false, cond, ◌⊎◌, sym, refl, ◌∙◌, inl, inr}
use Rattle.std.proofs.Math.Logic.{⊎_map}
use Rattle.edits.specs.declared.id.Id.{Id}
use Rattle.edits.specs.declared.edit.Side.{Side}
use Rattle.edits.specs.declared.edit.Side.TheVariants.{Left, Right}
use Rattle.edits.specs.declared.edit.Parent.{Parent}
use Rattle.edits.specs.declared.edit.Parent.TheVariants as parent
use Rattle.edits.specs.Ids.{same}
use Rattle.order.specs.Lists.{◌∈◌}
use Rattle.order.specs.Edits.{Change, insertion, deletion}
use Rattle.order.specs.Forests.{Entry, Forest, nil, node, entry_id, ids, fresh, hide, bury, join, adopt, hang, change}
use Rattle.order.proofs.Ids.{same_eq, same_refl}
use Rattle.order.proofs.Nodes.{Place, it, lefts, rights, nexts, place, placed}
use Rattle.order.proofs.Growing.{in_grew, of_grew, grew_map, join_grew}

-- functions on two cases, of which the second has a part that stays
move : {X Y V W P : Type 0} → (X → V) → (Y → W) → X ⊎ (P × Y) → V ⊎ (P × W)
move f g = ⊎_map f (λ y. (y.0, g y.1))

module _ {E : Type 0} where
  -- the children of a node on a side
  abbrev pub side_of : Side → Forest E → Forest E → Forest E
  side_of Left l r = l
  side_of Right l r = r

  -- a is somewhere below the entry b, on its side s
  abbrev pub Under : Side → Id → Forest E → Id → Type 0
  Under s b nil a = ⊥
  Under s b (node x l r n) a = ((x.id ≡ b) × (a ∈ ids (side_of s l r))) ⊎ (Under s b l a ⊎ (Under s b r a ⊎ Under s b n a))

  -- what holds of the children on the left and of those on the right
  on_side : (P : Forest E → Forest E → Type 0) (s : Side) {l r k m : Forest E} → P l k → P r m → P (side_of s l r) (side_of s k m)
  on_side P Left p q = p
  on_side P Right p q = q

  on_a_side : (s : Side) {a : Id} {x : Entry E} {l r n : Forest E} → a ∈ ids (side_of s l r) → Place a x l r n
  on_a_side Left m = lefts m
  on_a_side Right m = rights m

  pub under_in : (s : Side) (b : Id) (f : Forest E) (a : Id) → Under s b f a → a ∈ ids f
  under_in s b nil a u = absurd u
  under_in s b (node x l r n) a (inl u) = placed x l r n (on_a_side s u.1)
  under_in s b (node x l r n) a (inr (inl u)) = placed x l r n (lefts (under_in s b l a u))
  under_in s b (node x l r n) a (inr (inr (inl u))) = placed x l r n (rights (under_in s b r a u))
  under_in s b (node x l r n) a (inr (inr (inr u))) = placed x l r n (nexts (under_in s b n a u))

  pub under_of : (s : Side) (b : Id) (f : Forest E) (a : Id) → Under s b f a → b ∈ ids f
  under_of s b nil a u = absurd u
  under_of s b (node x l r n) a (inl u) = placed x l r n (it (sym u.0))
  under_of s b (node x l r n) a (inr (inl u)) = placed x l r n (lefts (under_of s b l a u))
  under_of s b (node x l r n) a (inr (inr (inl u))) = placed x l r n (rights (under_of s b r a u))
  under_of s b (node x l r n) a (inr (inr (inr u))) = placed x l r n (nexts (under_of s b n a u))

  -- nothing leaves from f to g
  record Grows (f g : Forest E) : Type 0 where
    inside : (a : Id) → a ∈ ids f → a ∈ ids g
    below : (s : Side) (b a : Id) → Under s b f a → Under s b g a

  grows_node : (x y : Entry E) {l r n k m o : Forest E} → x.id ≡ y.id → Grows l k → Grows r m → Grows n o → Grows (node x l r n) (node y k m o)
  grows_node x y {l} {r} {n} {k} {m} {o} e L R N = record { inside = λ a i. placed y k m o (at a (place x l r n i)); below = under }
    where
      at : (a : Id) → Place a x l r n → Place a y k m o
      at a (it q) = it (q ∙ e)
      at a (lefts i) = lefts (L.inside a i)
      at a (rights i) = rights (R.inside a i)
      at a (nexts i) = nexts (N.inside a i)

      under : (s : Side) (b a : Id) → Under s b (node x l r n) a → Under s b (node y k m o) a
      under s b a (inl u) = inl (sym e ∙ u.0, (on_side Grows s L R).inside a u.1)
      under s b a (inr (inl u)) = inr (inl (L.below s b a u))
      under s b a (inr (inr (inl u))) = inr (inr (inl (R.below s b a u)))
      under s b a (inr (inr (inr u))) = inr (inr (inr (N.below s b a u)))

  grows_same : (f : Forest E) → Grows f f
  grows_same f = record { inside = λ a i. i; below = λ s b a u. u }

  grows_then : {f g h : Forest E} → Grows f g → Grows g h → Grows f h
  grows_then F G = record { inside = λ a i. G.inside a (F.inside a i); below = λ s b a u. G.below s b a (F.below s b a u) }

  -- a deletion changes no place, in either direction
  bury_same : (t : Id) (f : Forest E) → Grows f (bury t f) × Grows (bury t f) f
  bury_same t nil = (grows_same nil, grows_same nil)
  bury_same t (node x l r n) = let L = bury_same t l in let R = bury_same t r in let N = bury_same t n in
      (grows_node x (hide t x) refl L.0 R.0 N.0, grows_node (hide t x) x refl L.1 R.1 N.1)

  module _ (before : Id → Id → Bool) where
    grows_join : (e : Entry E) (f : Forest E) → Grows f (join before e f)
    grows_join e nil = record { inside = λ a i. elim i [ ]; below = λ s b a u. absurd u }
    grows_join e (node x l r n) = go (before e.id x.id) (grows_join e n)
      where
        go : (w : Bool) → Grows n (join before e n) → Grows (node x l r n) (cond w (node e nil nil (node x l r n)) (node x l r (join before e n)))
        go true N = record { inside = λ a i. placed e nil nil (node x l r n) (nexts i); below = λ s b a u. inr (inr (inr u)) }
        go false N = grows_node x x refl (grows_same l) (grows_same r) N

    grows_adopt : (w : Bool) (t : Side) (e x : Entry E) (l r n : Forest E) → Grows (node x l r n) (adopt before w t e x l r n)
    grows_adopt false t e x l r n = grows_same (node x l r n)
    grows_adopt true Left e x l r n = grows_node x x refl (grows_join e l) (grows_same r) (grows_same n)
    grows_adopt true Right e x l r n = grows_node x x refl (grows_same l) (grows_join e r) (grows_same n)

    grows_hang : (p : Id) (t : Side) (e : Entry E) (f : Forest E) → Grows f (hang before p t e f)
    grows_hang p t e nil = grows_same nil
    grows_hang p t e (node x l r n) = grows_then
        (grows_node x x refl (grows_hang p t e l) (grows_hang p t e r) (grows_hang p t e n))
        (grows_adopt (same x.id p) t e x (hang before p t e l) (hang before p t e r) (hang before p t e n))

    grows : (i : Id) (c : Change E) (f : Forest E) → Grows f (change before i c f)
    grows i (insertion parent.Start t x) f = grows_join (fresh i x) f
    grows i (insertion (parent.Entry p) t x) f = grows_hang p t (fresh i x) f
    grows i (deletion t) f = (bury_same t f).0

    pub ids_stay : (i : Id) (c : Change E) (f : Forest E) (a : Id) → a ∈ ids f → a ∈ ids (change before i c f)
    ids_stay i c f a m = (grows i c f).inside a m

    pub under_stays : (i : Id) (c : Change E) (s : Side) (b a : Id) (f : Forest E) → Under s b f a → Under s b (change before i c f) a
    under_stays i c s b a f u = (grows i c f).below s b a u

    join_has : (e : Entry E) (f : Forest E) → e.id ∈ ids (join before e f)
    join_has e f = in_grew (grew_map entry_id (join_grew before e f))

    adopt_new : (t : Side) (e x : Entry E) (l r n : Forest E) → Under t x.id (adopt before true t e x l r n) e.id
    adopt_new Left e x l r n = inl (refl, join_has e l)
    adopt_new Right e x l r n = inl (refl, join_has e r)

    -- the leaf is below its parent
    hang_new : (p : Id) (t : Side) (e : Entry E) (f : Forest E) → p ∈ ids f → Under t p (hang before p t e f) e.id
    hang_new p t e nil m = elim m [ ]
    hang_new p t e (node x l r n) m = go (hang before p t e l) (hang before p t e r) (hang before p t e n) (place x l r n m)
        (hang_new p t e l) (hang_new p t e r) (hang_new p t e n)
      where
        go : (k o q : Forest E) → Place p x l r n → (p ∈ ids l → Under t p k e.id) → (p ∈ ids r → Under t p o e.id) → (p ∈ ids n → Under t p q e.id)
            → Under t p (adopt before (same x.id p) t e x k o q) e.id
        go k o q (it h) L R N = rw (h, same_refl x.id) (adopt_new t e x k o q)
        go k o q (lefts i) L R N = (grows_adopt (same x.id p) t e x k o q).below t p e.id (inr (inl (L i)))
        go k o q (rights i) L R N = (grows_adopt (same x.id p) t e x k o q).below t p e.id (inr (inr (inl (R i))))
        go k o q (nexts i) L R N = (grows_adopt (same x.id p) t e x k o q).below t p e.id (inr (inr (inr (N i))))

    -- and below all that its parent is below
    hang_deep : (p : Id) (t : Side) (e : Entry E) (s : Side) (b : Id) (f : Forest E) → Under s b f p → Under s b (hang before p t e f) e.id
    hang_deep p t e s b nil u = absurd u
    hang_deep p t e s b (node x l r n) u =
        (grows_adopt (same x.id p) t e x (hang before p t e l) (hang before p t e r) (hang before p t e n)).below s b e.id
        (go u (hang_deep p t e s b l) (hang_deep p t e s b r) (hang_deep p t e s b n))
      where
        inner : (g : Forest E) → p ∈ ids g → e.id ∈ ids (hang before p t e g)
        inner g m = under_in t p (hang before p t e g) e.id (hang_new p t e g m)

        go : Under s b (node x l r n) p → (Under s b l p → Under s b (hang before p t e l) e.id) → (Under s b r p → Under s b (hang before p t e r) e.id)
            → (Under s b n p → Under s b (hang before p t e n) e.id)
            → Under s b (node x (hang before p t e l) (hang before p t e r) (hang before p t e n)) e.id
        go (inl v) L R N = inl (v.0, on_side (λ g h. p ∈ ids g → e.id ∈ ids h) s (inner l) (inner r) v.1)
        go (inr (inl v)) L R N = inr (inl (L v))
        go (inr (inr (inl v))) L R N = inr (inr (inl (R v)))
        go (inr (inr (inr v))) L R N = inr (inr (inr (N v)))

    pub under_new : (i : Id) (x : E) (t : Side) (p : Id) (f : Forest E) → p ∈ ids f → Under t p (change before i (insertion (parent.Entry p) t x) f) i
    under_new i x t p f m = hang_new p t (fresh i x) f m

    pub under_deep : (i : Id) (x : E) (t : Side) (p : Id) (s : Side) (b : Id) (f : Forest E) → Under s b f p
        → Under s b (change before i (insertion (parent.Entry p) t x) f) i
    under_deep i x t p s b f u = hang_deep p t (fresh i x) s b f u

    -- an insertion whose parent is there puts its entry in
    pub ids_new : (i : Id) (x : E) (p : Parent) (t : Side) (f : Forest E) → ((b : Id) → p ≡ parent.Entry b → b ∈ ids f)
        → i ∈ ids (change before i (insertion p t x) f)
    ids_new i x parent.Start t f k = join_has (fresh i x) f
    ids_new i x (parent.Entry p) t f k = under_in t p (hang before p t (fresh i x) f) i (hang_new p t (fresh i x) f (k p refl))

  -- from f to g nothing comes but i, which hangs on p; T says that p is the entry above f
  record Adds (i p : Id) (T : Type 0) (f g : Forest E) : Type 0 where
    inside : (a : Id) → a ∈ ids g → (a ∈ ids f) ⊎ ((a ≡ i) × (T ⊎ (p ∈ ids f)))
    below : (s : Side) (b a : Id) → Under s b g a → (Under s b f a) ⊎ ((a ≡ i) × ((p ≡ b) ⊎ Under s b f p))

  adds_node : (i p : Id) (T : Type 0) (x : Entry E) {l r n k m o : Forest E} → Adds i p (x.id ≡ p) l k → Adds i p (x.id ≡ p) r m → Adds i p T n o
      → Adds i p T (node x l r n) (node x k m o)
  adds_node i p T x {l} {r} {n} {k} {m} {o} L R N = record { inside = λ a h. at a (place x k m o h); below = under }
    where
      in_it : {a : Id} → Place a x l r n → a ∈ ids (node x l r n)
      in_it h = placed x l r n h

      child : (g : Forest E) → (p ∈ ids g → Place p x l r n) → (x.id ≡ p) ⊎ (p ∈ ids g) → T ⊎ (p ∈ ids (node x l r n))
      child g f (inl e) = inr (in_it (it (sym e)))
      child g f (inr h) = inr (in_it (f h))

      at : (a : Id) → Place a x k m o → (a ∈ ids (node x l r n)) ⊎ ((a ≡ i) × (T ⊎ (p ∈ ids (node x l r n))))
      at a (it q) = inl (in_it (it q))
      at a (lefts h) = move (λ z. in_it (lefts z)) (child l lefts) (L.inside a h)
      at a (rights h) = move (λ z. in_it (rights z)) (child r rights) (R.inside a h)
      at a (nexts h) = move (λ z. in_it (nexts z)) (⊎_map (λ z. z) (λ z. in_it (nexts z))) (N.inside a h)

      under : (s : Side) (b a : Id) → Under s b (node x k m o) a → (Under s b (node x l r n) a) ⊎ ((a ≡ i) × ((p ≡ b) ⊎ Under s b (node x l r n) p))
      under s b a (inl u) = move (λ z. inl (u.0, z)) (⊎_map (λ z. sym z ∙ u.0) (λ z. inl (u.0, z))) ((on_side (Adds i p (x.id ≡ p)) s L R).inside a u.1)
      under s b a (inr (inl u)) = move (λ z. inr (inl z)) (⊎_map (λ z. z) (λ z. inr (inl z))) (L.below s b a u)
      under s b a (inr (inr (inl u))) = move (λ z. inr (inr (inl z))) (⊎_map (λ z. z) (λ z. inr (inr (inl z)))) (R.below s b a u)
      under s b a (inr (inr (inr u))) = move (λ z. inr (inr (inr z))) (⊎_map (λ z. z) (λ z. inr (inr (inr z)))) (N.below s b a u)

  adds_same : (i p : Id) (T : Type 0) (f : Forest E) → Adds i p T f f
  adds_same i p T f = record { inside = λ a h. inl h; below = λ s b a u. inl u }

  adds_then : {i p : Id} {T : Type 0} {f g h : Forest E} → Adds i p T f g → Adds i p T g h → Adds i p T f h
  adds_then {i} {p} {T} {f} {g} {h} F G = record { inside = λ a m. in_f (G.inside a m); below = λ s b a u. under s b (G.below s b a u) }
    where
      last : {P X Y : Type 0} → X ⊎ (P × (Y ⊎ X)) → Y ⊎ X
      last (inl x) = inr x
      last (inr y) = y.1

      in_f : {a : Id} → (a ∈ ids g) ⊎ ((a ≡ i) × (T ⊎ (p ∈ ids g))) → (a ∈ ids f) ⊎ ((a ≡ i) × (T ⊎ (p ∈ ids f)))
      in_f {a} (inl m) = F.inside a m
      in_f (inr (e, inl t)) = inr (e, inl t)
      in_f (inr (e, inr m)) = inr (e, last (F.inside p m))

      under : (s : Side) (b : Id) {a : Id} → (Under s b g a) ⊎ ((a ≡ i) × ((p ≡ b) ⊎ Under s b g p)) → (Under s b f a) ⊎ ((a ≡ i) × ((p ≡ b) ⊎ Under s b f p))
      under s b {a} (inl u) = F.below s b a u
      under s b (inr (e, inl q)) = inr (e, inl q)
      under s b (inr (e, inr u)) = inr (e, last (F.below s b p u))

  -- a leaf has nothing below it
  leaf_below : (e : Entry E) (s : Side) (b a : Id) (g : Forest E) → Under s b (node e nil nil g) a → Under s b g a
  leaf_below e Left b a g (inl u) = elim u.1 [ ]
  leaf_below e Right b a g (inl u) = elim u.1 [ ]
  leaf_below e s b a g (inr (inl u)) = absurd u
  leaf_below e s b a g (inr (inr (inl u))) = absurd u
  leaf_below e s b a g (inr (inr (inr u))) = u

  module _ (before : Id → Id → Bool) where
    join_below : (e : Entry E) (f : Forest E) (s : Side) (b a : Id) → Under s b (join before e f) a → Under s b f a
    join_below e nil s b a u = leaf_below e s b a nil u
    join_below e (node x l r n) s b a u = go (before e.id x.id) u (join_below e n s b a)
      where
        go : (w : Bool) → Under s b (cond w (node e nil nil (node x l r n)) (node x l r (join before e n))) a → (Under s b (join before e n) a → Under s b n a)
            → Under s b (node x l r n) a
        go true v N = leaf_below e s b a (node x l r n) v
        go false v N = ⊎_map (λ z. z) (⊎_map (λ z. z) (⊎_map (λ z. z) N)) v

    adds_join : (e : Entry E) (p : Id) (T : Type 0) → T → (f : Forest E) → Adds e.id p T f (join before e f)
    adds_join e p T t f = record {
      inside = λ a m. ⊎_map (λ z. z) (λ z. (z, inl t)) (of_grew (grew_map entry_id (join_grew before e f)) a m);
      below = λ s b a u. inl (join_below e f s b a u);
    }

    adds_adopt : (w : Bool) (t : Side) (e x : Entry E) (p : Id) (T : Type 0) → same x.id p ≡ w → {l r n k m o : Forest E}
        → Adds e.id p (x.id ≡ p) l k → Adds e.id p (x.id ≡ p) r m → Adds e.id p T n o → Adds e.id p T (node x l r n) (adopt before w t e x k m o)
    adds_adopt false t e x p T q L R N = adds_node e.id p T x L R N
    adds_adopt true Left e x p T q {k} L R N = adds_node e.id p T x (adds_then L (adds_join e p (x.id ≡ p) (same_eq x.id p q) k)) R N
    adds_adopt true Right e x p T q {m} L R N = adds_node e.id p T x L (adds_then R (adds_join e p (x.id ≡ p) (same_eq x.id p q) m)) N

    adds_hang : (p : Id) (t : Side) (e : Entry E) (T : Type 0) (f : Forest E) → Adds e.id p T f (hang before p t e f)
    adds_hang p t e T nil = adds_same e.id p T nil
    adds_hang p t e T (node x l r n) = adds_adopt (same x.id p) t e x p T refl
        (adds_hang p t e (x.id ≡ p) l) (adds_hang p t e (x.id ≡ p) r) (adds_hang p t e T n)

    pub ids_was : (i : Id) (c : Change E) (f : Forest E) (a : Id) → a ∈ ids (change before i c f) → (a ∈ ids f) ⊎ (a ≡ i)
    ids_was i (insertion parent.Start t x) f a m = of_grew (grew_map entry_id (join_grew before (fresh i x) f)) a m
    ids_was i (insertion (parent.Entry p) t x) f a m = ⊎_map (λ z. z) (λ z. z.0) ((adds_hang p t (fresh i x) ⊥ f).inside a m)
    ids_was i (deletion t) f a m = inl ((bury_same t f).1.inside a m)

    -- what is new below b is the leaf, whose parent is b or below it
    pub under_was : (i : Id) (c : Change E) (s : Side) (b a : Id) (f : Forest E) → Under s b (change before i c f) a
        → (Under s b f a) ⊎ ((a ≡ i) × (p : Id) × (t : Side) × (x : E) × (c ≡ insertion (parent.Entry p) t x) × ((p ≡ b) ⊎ Under s b f p))
    under_was i (insertion parent.Start t x) s b a f u = inl (join_below (fresh i x) f s b a u)
    under_was i (insertion (parent.Entry p) t x) s b a f u = ⊎_map (λ z. z) (λ z. (z.0, p, t, x, refl, z.1)) ((adds_hang p t (fresh i x) ⊥ f).below s b a u)
    under_was i (deletion t) s b a f u = inl ((bury_same t f).1.below s b a u)
