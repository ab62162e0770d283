-- The tree of a set of edits does not depend on the order in which they were applied.
use Rattle.std.proofs.Common.{◌≡◌, Bool, true, false, cond, not, ◌⊎◌, List, [], ◌∷◌, ◌++◌, sym, refl, ap, ◌∙◌, subst, inl, inr, append_assoc, append-nil}
use Rattle.std.proofs.lemmas.Bool.{false≢true, cases_Bool}
use Rattle.edits.specs.declared.id.Id.{Id}
use Rattle.edits.specs.declared.edit.Side.TheVariants.{Left, Right}
use Rattle.edits.specs.declared.edit.Parent.TheVariants as parent
use Rattle.edits.specs.Ids.{same}
use Rattle.order.specs.Lists.{◌∈◌, here, ◌∉◌, ◌⊆◌, keep}
use Rattle.order.specs.Edits.{Clock, Change, insertion, deletion, Edit, Covers, Refers, Order}
use Rattle.order.specs.Forests.{nil, apply, grown, tree}
use Rattle.order.specs.Histories.{edit_id, edit_ids, History, empty, more, SameEdits}
use Rattle.order.proofs.Ids.{compare, same_apart, same_refl}
use Rattle.order.proofs.Lists.{in_left, in_right, in_split, in_last, in_snoc, each_snoc, in_keep, of_keep, keep_snoc, keep_all, is_in, is_in_true, of_is_in, Distinct}
use Rattle.order.proofs.Commuting.{Names, change_change}
use Rattle.order.proofs.Histories.{tree_snoc, grown_append, in_ids, of_ids, ids_sub, not_own, lawful_in, covered_in, in_part}

module _ {E : Type 0} where
  -- a change names only what its edit's clock covers
  named_covered : (clock : Clock) (c : Change E) (a : Id) → Refers clock c → Names c a → Covers clock a
  named_covered clock (insertion parent.Start Left x) a r n = absurd r
  named_covered clock (insertion parent.Start Right x) a r n = absurd n
  named_covered clock (insertion (parent.Entry p) s x) a r n = rw n r
  named_covered clock (deletion t) a r n = rw n r

  other_than : Id → Edit E → Bool
  other_than a d = not (same d.id a)

  -- the edits but that with the identifier a
  without : Id → List (Edit E) → List (Edit E)
  without a h = keep (other_than a) h

  in_without : (a : Id) (h : List (Edit E)) {d : Edit E} → d ∈ h → (d.id ≡ a → ⊥) → d ∈ without a h
  unfolding without other_than
  in_without a h {d} m ne = in_keep (other_than a) h m (ap not (same_apart d.id a ne))

  of_without : (a : Id) (h : List (Edit E)) {d : Edit E} → d ∈ without a h → (d ∈ h) × (d.id ≡ a → ⊥)
  unfolding without other_than
  of_without a h {d} m = let u = of_keep (other_than a) h m in (u.0, λ p. clash p u.1)
    where
      clash : d.id ≡ a → not (same d.id a) ≡ true → ⊥
      clash p t = false≢true (sym (ap not (subst (λ (b : Id). same d.id b ≡ true) p (same_refl d.id))) ∙ t)

  -- an edit that no other covers might as well have come last
  record PutLast (before : Id → Id → Bool) (e : Edit E) (k : List (Edit E)) : Type 0 where
    history : History (without e.id k)
    same_tree : tree before k ≡ apply before e (tree before (without e.id k))

  module _ {before : Id → Id → Bool} (O : Order before) where
    put_last : (e : Edit E) {k : List (Edit E)} → History k → e ∈ k → ((d : Edit E) → d ∈ k → Covers d.clock e.id → ⊥) → PutLast before e k
    unfolding without other_than
    put_last e empty m free = elim m [ ]
    put_last e (more {h = k} d K l n) m free = go (compare d.id e.id) (in_snoc k d m) (put_last e K)
      where
        nothing_gone : d.id ≡ e.id → without e.id k ≡ k
        nothing_gone q = keep_all (other_than e.id) k (λ c i. ap not (same_apart c.id e.id
            (λ p. n.new (rw⁻¹ (p ∙ sym q) (in_ids k i)))))

        here_last : d ≡ e → same d.id e.id ≡ true → PutLast before e (k ++ (d ∷ []))
        here_last p t = record {
          history = rw gone K;
          same_tree = tree_snoc before k d ∙ ap (λ (c : Edit E). apply before c (tree before k)) p
              ∙ ap (λ (j : List (Edit E)). apply before e (tree before j)) (sym gone);
        }
          where
            gone : without e.id (k ++ (d ∷ [])) ≡ k
            gone = keep_snoc (other_than e.id) k d false (ap not t) ∙ append-nil (without e.id k) ∙ nothing_gone (ap edit_id p)

        earlier : e ∈ k → same d.id e.id ≡ false → (d.id ≡ e.id → ⊥) → PutLast before e k → PutLast before e (k ++ (d ∷ []))
        earlier i t ne L = record {
          history = rw stays (more d L.history l (record {
            new = λ u. n.new (ids_sub _ k (λ c j. (of_without e.id k j).0) d.id u);
            covered = λ a c. known a c (of_ids k (n.covered a c));
          }));
          same_tree = tree_snoc before k d ∙ ap (apply before d) L.same_tree ∙ swapped
              ∙ sym (ap (apply before e) (ap (tree before) stays ∙ tree_snoc before (without e.id k) d));
        }
          where
            stays : without e.id (k ++ (d ∷ [])) ≡ without e.id k ++ (d ∷ [])
            stays = keep_snoc (other_than e.id) k d true (ap not t)

            known : (a : Id) → Covers d.clock a → (c : Edit E) × (c ∈ k) × (c.id ≡ a) → a ∈ edit_ids (without e.id k)
            known a c u = rw⁻¹ u.2 (in_ids (without e.id k)
                (in_without e.id k u.1 (λ p. free d (in_last k d) (rw⁻¹ (sym u.2 ∙ p) c))))

            swapped : apply before d (apply before e (tree before (without e.id k))) ≡ apply before e (apply before d (tree before (without e.id k)))
            swapped = change_change O d.id e.id d.change e.change ne
                (λ q. free d (in_last k d) (named_covered d.clock d.change e.id l.refers q))
                (λ q. n.new (covered_in K e i d.id (named_covered e.clock e.change d.id (lawful_in K e i).refers q)))
                (tree before (without e.id k))

        go : ((same d.id e.id ≡ true) × (d.id ≡ e.id)) ⊎ ((same d.id e.id ≡ false) × (d.id ≡ e.id → ⊥)) → (e ∈ k) ⊎ (e ≡ d)
            → (e ∈ k → ((c : Edit E) → c ∈ k → Covers c.clock e.id → ⊥) → PutLast before e k) → PutLast before e (k ++ (d ∷ []))
        go (inl q) (inl i) ih = absurd (n.new (rw q.1 (in_ids k i)))
        go (inl q) (inr i) ih = here_last (sym i) q.0
        go (inr q) (inr i) ih = absurd (q.1 (ap edit_id (sym i)))
        go (inr q) (inl i) ih = earlier i q.0 q.1 (ih i (λ c j. free c (in_left k (d ∷ []) j)))

    pub same_tree : {h : List (Edit E)} → History h → (k : List (Edit E)) → History k → SameEdits h k → tree before h ≡ tree before k
    same_tree empty [] K alike = refl
    same_tree empty (d ∷ k) K alike = elim ((alike d).1 (here refl)) [ ]
    same_tree (more {h} e H l n) k K alike =
        tree_snoc before h e ∙ ap (apply before e) (same_tree H (without e.id k) L.history rest) ∙ sym L.same_tree
      where
        free : (d : Edit E) → d ∈ k → Covers d.clock e.id → ⊥
        free d i = each_snoc (λ (b : Edit E). Covers b.clock e.id → ⊥) h e (λ b j c. n.new (covered_in H b j e.id c)) (not_own e l) d ((alike d).1 i)

        L : PutLast before e k
        L = put_last e K ((alike e).0 (in_last h e)) free

        rest : SameEdits h (without e.id k)
        rest d = (
          (λ i. in_without e.id k ((alike d).0 (in_left h (e ∷ []) i)) (λ p. n.new (rw⁻¹ p (in_ids h i)))),
          λ i. let u = of_without e.id k i in
              each_snoc (λ (b : Edit E). (b.id ≡ e.id → ⊥) → b ∈ h) h e (λ b j ne. j) (λ ne. absurd (ne refl)) d ((alike d).1 u.0) u.1,
        )

  -- a part that is a history itself might as well have come first
  beyond : List (Edit E) → Edit E → Bool
  beyond h d = not (is_in (edit_ids h) d.id)

  -- the edits whose identifiers are not in h
  pub rest_of : List (Edit E) → List (Edit E) → List (Edit E)
  rest_of h all = keep (beyond h) all

  pub rest_new : (h all : List (Edit E)) (a : Id) → a ∈ edit_ids (rest_of h all) → a ∉ edit_ids h
  unfolding rest_of beyond
  rest_new h all a m i = let u = of_ids (rest_of h all) m in
      false≢true (sym (ap not (is_in_true (edit_ids h) u.0.id (rw u.2 i))) ∙ (of_keep (beyond h) all u.1).1)

  pub rest_distinct : (h all : List (Edit E)) → Distinct (edit_ids all) → Distinct (edit_ids (rest_of h all))
  unfolding rest_of
  rest_distinct h [] d = tt
  rest_distinct h (e ∷ all) d = go (beyond h e) (rest_distinct h all d.1)
    where
      go : (b : Bool) → Distinct (edit_ids (keep (beyond h) all)) → Distinct (edit_ids (cond b (e ∷ keep (beyond h) all) (keep (beyond h) all)))
      go true ih = (
        (λ m. let u = of_ids (keep (beyond h) all) m in
            d.0 (rw⁻¹ u.2 (in_ids all (of_keep (beyond h) all u.1).0))),
        ih,
      )
      go false ih = ih

  module _ {h : List (Edit E)} (H : History h) where
    -- an edit of all is in h, or among the rest
    placed : (all : List (Edit E)) (a : Id) → a ∈ edit_ids all → a ∈ edit_ids (h ++ rest_of h all)
    unfolding rest_of beyond
    placed all a m = go (cases_Bool (is_in (edit_ids h) a)) (of_ids all m)
      where
        go : (is_in (edit_ids h) a ≡ true) ⊎ (is_in (edit_ids h) a ≡ false) → (d : Edit E) × (d ∈ all) × (d.id ≡ a) → a ∈ edit_ids (h ++ rest_of h all)
        go (inl t) u = ids_sub h (h ++ rest_of h all) (λ d k. in_left h (rest_of h all) k) a (of_is_in (edit_ids h) a t)
        go (inr t) u = rw⁻¹ u.2 (in_ids (h ++ rest_of h all)
            (in_right h (rest_of h all) (in_keep (beyond h) all u.1 (ap not (subst (λ (b : Id). is_in (edit_ids h) b ≡ false) (sym u.2) t)))))

    pub part_first : {all : List (Edit E)} → History all → History (h ++ rest_of h all)
    unfolding rest_of beyond
    part_first empty = rw (append-nil h) H
    part_first (more {h = all} e A l n) = go (is_in (edit_ids h) e.id) refl (part_first A)
      where
        go : (b : Bool) → is_in (edit_ids h) e.id ≡ b → History (h ++ rest_of h all) → History (h ++ rest_of h (all ++ (e ∷ [])))
        go true t ih = rw (keep_snoc (beyond h) all e false (ap not t) ∙ append-nil (rest_of h all)) ih
        go false t ih = rw⁻¹ (append_assoc h (rest_of h all) (e ∷ []) ∙ ap (λ (r : List (Edit E)). h ++ r) (sym (keep_snoc (beyond h) all e true (ap not t))))
            (more e ih l (record { new = λ m. out (of_ids (h ++ rest_of h all) m); covered = λ a c. placed all a (n.covered a c) }))
          where
            out : (d : Edit E) × (d ∈ (h ++ rest_of h all)) × (d.id ≡ e.id) → ⊥
            out u = in_which (in_split h (rest_of h all) u.1)
              where
                in_which : (u.0 ∈ h) ⊎ (u.0 ∈ rest_of h all) → ⊥
                in_which (inl i) = false≢true (sym t ∙ is_in_true (edit_ids h) e.id (rw⁻¹ u.2 (in_ids h i)))
                in_which (inr i) = n.new (rw⁻¹ u.2 (in_ids all (of_keep (beyond h) all i).0))

    pub part_same : {all : List (Edit E)} → History all → h ⊆ all → SameEdits (h ++ rest_of h all) all
    unfolding rest_of beyond
    part_same {all} A sub d = ((λ m. back (in_split h (rest_of h all) m)), λ m. there_or m (cases_Bool (is_in (edit_ids h) d.id)))
      where
        back : (d ∈ h) ⊎ (d ∈ rest_of h all) → d ∈ all
        back (inl i) = sub d i
        back (inr i) = (of_keep (beyond h) all i).0

        there_or : d ∈ all → (is_in (edit_ids h) d.id ≡ true) ⊎ (is_in (edit_ids h) d.id ≡ false) → d ∈ (h ++ rest_of h all)
        there_or m (inl t) = in_left h (rest_of h all) (in_part A sub d m (of_is_in (edit_ids h) d.id t))
        there_or m (inr t) = in_right h (rest_of h all) (in_keep (beyond h) all m (ap not t))

    -- the tree of all grows from the tree of the part
    pub tree_from_part : {before : Id → Id → Bool} → Order before → {all : List (Edit E)} → History all → h ⊆ all
        → tree before all ≡ grown before (tree before h) (rest_of h all)
    tree_from_part {before} O {all} A sub =
        sym (same_tree O (part_first A) all A (part_same A sub)) ∙ grown_append before nil h (rest_of h all)
