-- Two changes that do not name one another can be applied in either order.
use Rattle.std.proofs.Common.{◌≡◌, Bool, true, false, cond, not, ◌&&◌, ◌⊎◌, sym, refl, ap, ◌∙◌, inl, inr}
use Rattle.std.proofs.Math.Bool.{and_assoc, and_comm}
use Rattle.std.proofs.lemmas.Bool.{both_ways, cases_Bool, false_from_ne_true}
use Rattle.edits.specs.declared.id.Id.{Id}
use Rattle.edits.specs.declared.edit.Side.{Side}
use Rattle.edits.specs.declared.edit.Side.TheVariants.{Left, Right}
use Rattle.edits.specs.declared.edit.Parent.TheVariants as parent
use Rattle.edits.specs.Ids.{same}
use Rattle.order.specs.Edits.{Order, Change, insertion, deletion}
use Rattle.order.specs.Forests.{Entry, Forest, nil, node, fresh, hide, bury, join, adopt, hang, change}
use Rattle.order.proofs.Ids.{same_apart}
use Rattle.order.proofs.Nodes.{hide_other}

not_back : {before : Id → Id → Bool} → Order before → (a b : Id) → before a b ≡ true → before b a ≡ false
not_back {before} O a b t = false_from_ne_true (before b a) (λ u. O.irreflexive a (O.transitive a b a t u))

on_left : Bool → Side → Bool
on_left b Left = b
on_left b Right = false

on_right : Bool → Side → Bool
on_right b Left = false
on_right b Right = b

module _ {E : Type 0} {before : Id → Id → Bool} (O : Order before) where
  join_earlier : (a b : Entry E) → before a.id b.id ≡ true → (f : Forest E)
      → join before a (join before b f) ≡ join before b (join before a f)
  join_earlier a b t nil = rw (t, not_back O a.id b.id t) refl
  join_earlier a b t (node x l r n) = go (cases_Bool (before a.id x.id)) (cases_Bool (before b.id x.id)) (join_earlier a b t n)
    where
      go : (before a.id x.id ≡ true) ⊎ (before a.id x.id ≡ false) → (before b.id x.id ≡ true) ⊎ (before b.id x.id ≡ false)
          → join before a (join before b n) ≡ join before b (join before a n)
          → join before a (join before b (node x l r n)) ≡ join before b (join before a (node x l r n))
      go (inl p) (inl q) ih = rw (p, q, t, not_back O a.id b.id t) refl
      go (inl p) (inr q) ih = rw (p, q, p, not_back O a.id b.id t) refl
      go (inr p) (inl q) ih = absurd (both_ways _ p (O.transitive a.id b.id x.id t q))
      go (inr p) (inr q) ih = rw (p, q, p) (ap (node x l r) ih)

  join_join : (a b : Entry E) → (a.id ≡ b.id → ⊥) → (f : Forest E) → join before a (join before b f) ≡ join before b (join before a f)
  join_join a b ne f = go (cases_Bool (before a.id b.id))
    where
      go : (before a.id b.id ≡ true) ⊎ (before a.id b.id ≡ false) → join before a (join before b f) ≡ join before b (join before a f)
      go (inl t) = join_earlier a b t f
      go (inr t) = sym (join_earlier b a (O.total a.id b.id ne t) f)

module _ {E : Type 0} (before : Id → Id → Bool) where
  join_adopt : (a e x : Entry E) (b : Bool) (s : Side) (l r n : Forest E)
      → join before a (adopt before b s e x l r n)
      ≡ cond (before a.id x.id) (node a nil nil (adopt before b s e x l r n)) (adopt before b s e x l r (join before a n))
  join_adopt a e x false s l r n = refl
  join_adopt a e x true Left l r n = refl
  join_adopt a e x true Right l r n = refl

  -- a leaf that is not the parent joins before or after the hanging
  hang_join : (p : Id) (s : Side) (e a : Entry E) → same a.id p ≡ false → (f : Forest E)
      → hang before p s e (join before a f) ≡ join before a (hang before p s e f)
  hang_join p s e a apart nil = rw apart refl
  hang_join p s e a apart (node x l r n) = go (before a.id x.id) (hang_join p s e a apart n) ∙ sym (join_adopt a e x (same x.id p) s _ _ _)
    where
      grown : Forest E → Forest E
      grown m = adopt before (same x.id p) s e x (hang before p s e l) (hang before p s e r) m

      go : (b : Bool) → hang before p s e (join before a n) ≡ join before a (hang before p s e n)
          → hang before p s e (cond b (node a nil nil (node x l r n)) (node x l r (join before a n)))
          ≡ cond b (node a nil nil (grown (hang before p s e n))) (grown (join before a (hang before p s e n)))
      go true ih = rw apart refl
      go false ih = ap grown ih

  -- a leaf joins, or not
  put : Bool → Entry E → Forest E → Forest E
  put false e f = f
  put true e f = join before e f

  adopt_put : (b : Bool) (s : Side) (e x : Entry E) (l r n : Forest E) → adopt before b s e x l r n ≡ node x (put (on_left b s) e l) (put (on_right b s) e r) n
  unfolding put on_left on_right
  adopt_put false Left e x l r n = refl
  adopt_put false Right e x l r n = refl
  adopt_put true Left e x l r n = refl
  adopt_put true Right e x l r n = refl

  hang_put : (p : Id) (s : Side) (e a : Entry E) → same a.id p ≡ false → (b : Bool) (f : Forest E)
      → hang before p s e (put b a f) ≡ put b a (hang before p s e f)
  unfolding put
  hang_put p s e a apart false f = refl
  hang_put p s e a apart true f = hang_join p s e a apart f

  put_put : Order before → (a b : Entry E) → (a.id ≡ b.id → ⊥) → (c d : Bool) (f : Forest E) → put c a (put d b f) ≡ put d b (put c a f)
  unfolding put
  put_put O a b ne false d f = refl
  put_put O a b ne true false f = refl
  put_put O a b ne true true f = join_join O a b ne f

  -- both hung below one node, one of them first
  hang_both : (p q : Id) (s t : Side) (a b : Entry E) → same b.id p ≡ false → (x : Entry E) (l r n : Forest E)
      → hang before p s a (hang before q t b (node x l r n))
      ≡ node x (put (on_left (same x.id p) s) a (put (on_left (same x.id q) t) b (hang before p s a (hang before q t b l))))
      (put (on_right (same x.id p) s) a (put (on_right (same x.id q) t) b (hang before p s a (hang before q t b r))))
      (hang before p s a (hang before q t b n))
  hang_both p q s t a b bp x l r n =
      ap (hang before p s a) (adopt_put (same x.id q) t b x (hang before q t b l) (hang before q t b r) (hang before q t b n))
      ∙ adopt_put (same x.id p) s a x _ _ _
      ∙ (λ i. node x (put (on_left (same x.id p) s) a (hang_put p s a b bp (on_left (same x.id q) t) (hang before q t b l) i))
      (put (on_right (same x.id p) s) a (hang_put p s a b bp (on_right (same x.id q) t) (hang before q t b r) i))
      (hang before p s a (hang before q t b n)))

  hang_hang : Order before → (p q : Id) (s t : Side) (a b : Entry E) → (a.id ≡ b.id → ⊥) → same a.id q ≡ false → same b.id p ≡ false
      → (f : Forest E) → hang before p s a (hang before q t b f) ≡ hang before q t b (hang before p s a f)
  hang_hang O p q s t a b ne aq bp nil = refl
  hang_hang O p q s t a b ne aq bp (node x l r n) =
      hang_both p q s t a b bp x l r n
      ∙ (λ i. node x (put_put O a b ne (on_left (same x.id p) s) (on_left (same x.id q) t) (hang_hang O p q s t a b ne aq bp l i) i)
      (put_put O a b ne (on_right (same x.id p) s) (on_right (same x.id q) t) (hang_hang O p q s t a b ne aq bp r i) i)
      (hang_hang O p q s t a b ne aq bp n i))
      ∙ sym (hang_both q p t s b a aq x l r n)

  -- a tombstone is made before or after a leaf joins that is not it
  bury_join : (t : Id) (e : Entry E) → hide t e ≡ e → (f : Forest E) → bury t (join before e f) ≡ join before e (bury t f)
  bury_join t e stays nil = ap (λ (y : Entry E). node y nil nil nil) stays
  bury_join t e stays (node x l r n) = go (before e.id x.id) (bury_join t e stays n)
    where
      go : (b : Bool) → bury t (join before e n) ≡ join before e (bury t n)
          → bury t (cond b (node e nil nil (node x l r n)) (node x l r (join before e n)))
          ≡ cond b (node e nil nil (bury t (node x l r n))) (node (hide t x) (bury t l) (bury t r) (join before e (bury t n)))
      go true ih = ap (λ (y : Entry E). node y nil nil (bury t (node x l r n))) stays
      go false ih = ap (node (hide t x) (bury t l) (bury t r)) ih

  bury_put : (t : Id) (e : Entry E) → hide t e ≡ e → (b : Bool) (f : Forest E) → bury t (put b e f) ≡ put b e (bury t f)
  unfolding put
  bury_put t e stays false f = refl
  bury_put t e stays true f = bury_join t e stays f

  bury_hang : (t p : Id) (s : Side) (e : Entry E) → hide t e ≡ e → (f : Forest E) → bury t (hang before p s e f) ≡ hang before p s e (bury t f)
  bury_hang t p s e stays nil = refl
  bury_hang t p s e stays (node x l r n) =
      ap (bury t) (adopt_put (same x.id p) s e x (hang before p s e l) (hang before p s e r) (hang before p s e n))
      ∙ (λ i. node (hide t x) (bury_put t e stays (on_left (same x.id p) s) (hang before p s e l) i)
      (bury_put t e stays (on_right (same x.id p) s) (hang before p s e r) i) (bury t (hang before p s e n)))
      ∙ (λ i. node (hide t x) (put (on_left (same x.id p) s) e (bury_hang t p s e stays l i))
      (put (on_right (same x.id p) s) e (bury_hang t p s e stays r i)) (bury_hang t p s e stays n i))
      ∙ sym (adopt_put (same x.id p) s e (hide t x) (hang before p s e (bury t l)) (hang before p s e (bury t r)) (hang before p s e (bury t n)))

-- two tests after another
and_and : (a b c : Bool) → ((a && b) && c) ≡ ((a && c) && b)
and_and a b c = and_assoc a b c ∙ ap (λ (d : Bool). a && d) (and_comm b c) ∙ sym (and_assoc a c b)

module _ {E : Type 0} where
  bury_bury : (t u : Id) (f : Forest E) → bury t (bury u f) ≡ bury u (bury t f)
  bury_bury t u nil = refl
  bury_bury t u (node x l r n) = λ i. node
      (record { id = x.id; element = x.element; shown = and_and x.shown (not (same x.id u)) (not (same x.id t)) i })
      (bury_bury t u l i) (bury_bury t u r i) (bury_bury t u n i)

  -- the change has the identifier as its parent or its target
  abbrev pub Names : Change E → Id → Type 0
  Names (insertion parent.Start s x) a = ⊥
  Names (insertion (parent.Entry p) s x) a = a ≡ p
  Names (deletion t) a = a ≡ t

  pub change_change : {before : Id → Id → Bool} → Order before → (a b : Id) (c d : Change E) → (a ≡ b → ⊥) → (Names c b → ⊥) → (Names d a → ⊥) → (f : Forest E)
      → change before a c (change before b d f) ≡ change before b d (change before a c f)
  change_change O a b (insertion parent.Start s x) (insertion parent.Start t y) ne nc nd f = join_join O (fresh a x) (fresh b y) ne f
  change_change {before} O a b (insertion parent.Start s x) (insertion (parent.Entry q) t y) ne nc nd f =
      sym (hang_join before q t (fresh b y) (fresh a x) (same_apart a q nd) f)
  change_change {before} O a b (insertion parent.Start s x) (deletion t) ne nc nd f =
      sym (bury_join before t (fresh a x) (hide_other t (fresh a x) (same_apart a t nd)) f)
  change_change {before} O a b (insertion (parent.Entry p) s x) (insertion parent.Start t y) ne nc nd f =
      hang_join before p s (fresh a x) (fresh b y) (same_apart b p nc) f
  change_change {before} O a b (insertion (parent.Entry p) s x) (insertion (parent.Entry q) t y) ne nc nd f =
      hang_hang before O p q s t (fresh a x) (fresh b y) ne (same_apart a q nd) (same_apart b p nc) f
  change_change {before} O a b (insertion (parent.Entry p) s x) (deletion t) ne nc nd f =
      sym (bury_hang before t p s (fresh a x) (hide_other t (fresh a x) (same_apart a t nd)) f)
  change_change {before} O a b (deletion t) (insertion parent.Start s y) ne nc nd f =
      bury_join before t (fresh b y) (hide_other t (fresh b y) (same_apart b t nc)) f
  change_change {before} O a b (deletion t) (insertion (parent.Entry q) s y) ne nc nd f =
      bury_hang before t q s (fresh b y) (hide_other t (fresh b y) (same_apart b t nc)) f
  change_change O a b (deletion t) (deletion u) ne nc nd f = bury_bury t u f
