-- Runs are not interleaved: each insertion of a run is below the one before it, on one side, and what is read between
-- two entries below an entry is below it too; whoever inserts below an entry has applied its insertion.
use Rattle.std.proofs.Common.{◌≡◌, ℕ, Bool, true, false, ◌⊎◌, List, [], ◌∷◌, Some, None, Option, sym, refl, ap, ◌∙◌, subst, inl, inr}
use Rattle.edits.specs.declared.id.Id.{Id}
use Rattle.edits.specs.declared.edit.Side.{Side}
use Rattle.edits.specs.declared.edit.Side.TheVariants.{Left, Right}
use Rattle.edits.specs.declared.edit.Parent.{Parent}
use Rattle.edits.specs.declared.edit.Parent.TheVariants.{Entry}
use Rattle.order.specs.Lists.{◌∈◌, here, there, ◌⊆◌, Before}
use Rattle.order.specs.Edits.{Order, Change, insertion, Edit, Covers, Refers, is_insertion}
use Rattle.order.specs.Forests.{Forest, ids, change, apply, grown, tree}
use Rattle.order.specs.Placing.{after, follower, has_right, has_right_child, hung, insertion_after}
use Rattle.order.specs.Histories.{edit_id, History, empty, more}
use Rattle.order.specs.Systems.{Making, making_edit, edits_of, Reached}
use Rattle.order.specs.Theorems.{Forward, Backward, InsertionsOf, TypedRun, Knew, Unbroken}
use Rattle.order.proofs.Lists.{in_left, in_last, each_cons, sub_snoc, in_map, of_map}
use Rattle.order.proofs.Histories.{tree_snoc, in_ids, covered_in, in_part, counted}
use Rattle.order.proofs.Reordering.{rest_of, tree_from_part}
use Rattle.order.proofs.Placing.{follower_in}
use Rattle.order.proofs.Under.{Under, under_stays, under_new, under_deep, under_was}
use Rattle.order.proofs.Between.{under_trans, between, follower_under, has_right_stays, has_right_new}
use Rattle.order.proofs.Entries.{entries, entry_edit}
use Rattle.order.proofs.Systems.{Made, Facts, facts, closed}

module _ {E : Type 0} (before : Id → Id → Bool) where
  -- what a change of a forest does not take away
  abbrev Stays : (Forest E → Type 0) → Type 0
  Stays P = (i : Id) (c : Change E) (f : Forest E) → P f → P (change before i c f)

  grown_keeps : (P : Forest E → Type 0) → Stays P → (es : List (Edit E)) (f : Forest E) → P f → P (grown before f es)
  grown_keeps P stays [] f p = p
  grown_keeps P stays (e ∷ es) f p = grown_keeps P stays es (apply before e f) (stays e.id e.change f p)

  -- it holds in the tree of a history if it holds in that of a part
  part_keeps : Order before → (P : Forest E → Type 0) → Stays P → {h k : List (Edit E)} → History h → History k → h ⊆ k
      → P (tree before h) → P (tree before k)
  part_keeps O P stays {h} {k} H K sub p = rw (tree_from_part H O K sub) (grown_keeps P stays (rest_of h k) (tree before h) p)

module _ {E : Type 0} {before : Id → Id → Bool} (O : Order before) {ms : List (Making E)} {hs : ℕ → List (Edit E)} (F : Facts before ms hs) where
  -- the tree of all that was made
  abbrev whole : Forest E
  whole = tree before (edits_of ms)

  module _ (m : Making E) (k : m ∈ ms) where
    -- what the maker of m had applied, and its tree
    abbrev known : List (Edit E)
    known = (F.made m k).known

    abbrev seen : Forest E
    seen = tree before known

    -- what holds once m is applied there holds in the tree of a history that has m and all of that
    since : (P : Forest E → Type 0) → Stays before P → {j : List (Edit E)} → History j → known ⊆ j → m.edit ∈ j
        → P (apply before m.edit seen) → P (tree before j)
    since P stays {j} J sub i p = part_keeps before O P stays (more m.edit M.history M.lawful M.next) J
        (sub_snoc sub i) (rw (tree_snoc before known m.edit) p)
      where
        M : Made before (edits_of ms) m
        M = F.made m k

    -- m is below b in the tree of all if it is where it was made
    made_under : (s : Side) (b : Id) (c : Change E) → m.edit.change ≡ c → Under s b (change before m.edit.id c seen) m.edit.id
        → Under s b whole m.edit.id
    made_under s b c e u = since (λ f. Under s b f m.edit.id) (λ i d f. under_stays before i d s b m.edit.id f)
        F.all (F.made m k).part (in_map making_edit ms k)
        (subst (λ (d : Change E). Under s b (change before m.edit.id d seen) m.edit.id) (sym e) u)

    module _ (t : is_insertion m.edit.change ≡ true) where
      -- how the insertion m was placed
      element : E
      element = ((F.made m k).placed t).0

      placed_as : m.edit.change ≡ insertion_after m.left element seen
      unfolding element
      placed_as = ((F.made m k).placed t).1

      left_in : (b : Id) → m.left ≡ Entry b → b ∈ ids seen
      left_in = ((F.made m k).placed t).3

      -- it is below its left neighbour, on the right
      under_left : (b : Id) → m.left ≡ Entry b → Under Right b whole m.edit.id
      under_left b e = made_under Right b (insertion_after (Entry b) element seen) (placed_as ∙ ap (λ (l : Parent). insertion_after l element seen) e)
          (go (has_right b seen) (after b (ids seen)) refl refl)
        where
          go : (w : Bool) (next : Option Id) → has_right b seen ≡ w → after b (ids seen) ≡ next
              → Under Right b (change before m.edit.id (hung w (Entry b) next element) seen) m.edit.id
          go false next h n = under_new before m.edit.id element Right b seen (left_in b e)
          go true (Some a) h n = under_deep before m.edit.id element Left a Right b seen
              (follower_under b seen (entries before (F.made m k).history).distinct h a n)
          go true None h n = under_new before m.edit.id element Right b seen (left_in b e)

      -- once it is applied, its left neighbour has a right child
      left_has_right : has_right_child m.left (apply before m.edit seen) ≡ true
      left_has_right = go (has_right_child m.left seen) refl
        where
          go : (w : Bool) → has_right_child m.left seen ≡ w → has_right_child m.left (apply before m.edit seen) ≡ true
          go true h = has_right_stays before m.edit.id m.edit.change m.left seen h
          go false h = subst (λ (c : Change E). has_right_child m.left (change before m.edit.id c seen) ≡ true)
              (sym (placed_as ∙ ap (λ (w : Bool). hung w m.left (follower m.left seen) element) h))
              (has_right_new before m.edit.id element m.left seen left_in)

  -- an insertion with the same left neighbour as m, and m as follower, is below m on the left
  under_next : (m n : Making E) → m ∈ ms → n ∈ ms → is_insertion m.edit.change ≡ true → is_insertion n.edit.change ≡ true
      → n.left ≡ m.left → n.next ≡ Some m.edit.id → Under Left m.edit.id whole n.edit.id
  under_next m n i j t u same_left next = made_under n j Left m.edit.id (insertion (Entry m.edit.id) Left (element n j u))
      (placed_as n j u ∙ (λ w. hung (right_child w) n.left (follows w) (element n j u)))
      (under_new before n.edit.id (element n j u) Left m.edit.id (seen n j) m_in)
    where
      M : Made before (edits_of ms) m
      M = F.made m i

      N : Made before (edits_of ms) n
      N = F.made n j

      follows : follower n.left (seen n j) ≡ Some m.edit.id
      follows = sym (N.placed u).2 ∙ next

      m_in : m.edit.id ∈ ids (seen n j)
      m_in = follower_in n.left (seen n j) m.edit.id follows

      m_known : m.edit ∈ N.known
      m_known = in_part F.all N.part m.edit (in_map making_edit ms i) (entry_edit (entries before N.history) m.edit.id m_in)

      -- the maker of n had applied all that the maker of m had
      all_known : M.known ⊆ N.known
      all_known d k = in_part F.all N.part d (M.part d k) (covered_in N.history m.edit m_known d.id
          (rw M.clock ((counted M.history).within d.id (in_ids M.known k))))

      right_child : has_right_child n.left (seen n j) ≡ true
      right_child = subst (λ (l : Parent). has_right_child l (seen n j) ≡ true) (sym same_left)
          (since m i (λ f. has_right_child m.left f ≡ true) (λ a c f. has_right_stays before a c m.left f)
          N.history all_known m_known (left_has_right m i t))

  -- each of the run is below b on the side s
  abbrev AllUnder : Side → Id → List (Making E) → Type 0
  AllUnder s b run = (a : Making E) → a ∈ run → Under s b whole a.edit.id

  -- the first is below b, and the others are below the first
  one_more : (s : Side) (b : Id) (m : Making E) (run : List (Making E)) → Under s b whole m.edit.id → AllUnder s m.edit.id run
      → AllUnder s b (m ∷ run)
  one_more s b m run u below = each_cons (λ (n : Making E). Under s b whole n.edit.id) m run u
      (λ a k. under_trans s s b m.edit.id a.edit.id whole (entries before F.all).distinct u (below a k))

  forward_under : (m : Making E) (run : List (Making E)) → InsertionsOf ms (m ∷ run) → Forward m run → AllUnder Right m.edit.id run
  forward_under m [] made steps = λ a k. elim k [ ]
  forward_under m (n ∷ run) made steps = let N = made n (there (here refl)) in
      one_more Right m.edit.id n run (under_left n N.0 N.1 m.edit.id steps.0) (forward_under n run (λ a k. made a (there k)) steps.1)

  backward_under : (m : Making E) (run : List (Making E)) → InsertionsOf ms (m ∷ run) → Backward m run → AllUnder Left m.edit.id run
  backward_under m [] made steps = λ a k. elim k [ ]
  backward_under m (n ∷ run) made steps = let M = made m (here refl) in let N = made n (there (here refl)) in
      one_more Left m.edit.id n run (under_next m n M.0 N.0 M.1 N.1 steps.0 steps.1)
      (backward_under n run (λ a k. made a (there k)) steps.2)

  -- what is below b was inserted by a maker who had applied b: its parent is b, or was inserted by such a maker
  below_knew : (s : Side) (b : Id) {h : List (Edit E)} → History h → h ⊆ edits_of ms → (y : Id) → Under s b (tree before h) y → Knew ms y b
  below_knew s b empty sub y u = absurd u
  below_knew s b (more {h} e H l n) sub y u =
      go (under_was before e.id e.change s b y (tree before h) (rw⁻¹ (tree_snoc before h e) u))
      (below_knew s b H (λ d k. sub d (in_left h (e ∷ []) k)))
    where
      made : (m : Making E) × (m ∈ ms) × (m.edit ≡ e)
      made = of_map making_edit ms (sub e (in_last h e))

      m : Making E
      m = made.0

      Earlier : Type 0
      Earlier = (z : Id) → Under s b (tree before h) z → Knew ms z b

      covers : (p : Id) → Covers m.edit.clock p → (p ≡ b) ⊎ Under s b (tree before h) p → Earlier → Covers m.edit.clock b
      covers p c (inl q) ih = rw⁻¹ q c
      covers p c (inr v) ih = let k = ih p v in
          closed F m made.1 k.0.edit (in_map making_edit ms k.1) (rw k.2 c) b k.4

      go : (Under s b (tree before h) y)
          ⊎ ((y ≡ e.id) × (p : Id) × (t : Side) × (x : E) × (e.change ≡ insertion (Entry p) t x) × ((p ≡ b) ⊎ Under s b (tree before h) p))
          → Earlier → Knew ms y b
      go (inl v) ih = ih y v
      go (inr v) ih = (
        m,
        made.1,
        ap edit_id made.2 ∙ sym v.0,
        ap (λ (d : Edit E). is_insertion d.change) made.2 ∙ ap is_insertion v.4,
        covers v.1 (rw made.2 (subst (Refers e.clock) v.4 l.refers)) v.5 ih,
      )

  -- between two entries of a run all of which is below its first, on one side
  unbroken : (s : Side) (m : Making E) (run : List (Making E)) → AllUnder s m.edit.id run → (a c : Making E) → a ∈ (m ∷ run) → c ∈ (m ∷ run)
      → (y : Id) → Before (ids whole) a.edit.id y → Before (ids whole) y c.edit.id → Knew ms y m.edit.id
  unbroken s m run below a c i j y p q = below_knew s m.edit.id F.all (λ d k. k) y
      (between s m.edit.id whole (entries before F.all).distinct a.edit.id y c.edit.id (first_or a i) (first_or c j) p q)
    where
      first_or : (n : Making E) → n ∈ (m ∷ run) → (n.edit.id ≡ m.edit.id) ⊎ Under s m.edit.id whole n.edit.id
      first_or = each_cons (λ (n : Making E). (n.edit.id ≡ m.edit.id) ⊎ Under s m.edit.id whole n.edit.id) m run (inl refl) (λ n k. inr (below n k))

pub no_interleaving : {E : Type 0} {before : Id → Id → Bool} → Order before → {ms : List (Making E)} {hs : ℕ → List (Edit E)} → Reached before ms hs
    → (m n : Making E) (rest : List (Making E)) → TypedRun ms m n rest → Unbroken ms (ids (tree before (edits_of ms))) (m ∷ n ∷ rest) m.edit.id
no_interleaving {E} {before} O {ms} r m n rest run = go run.1
  where
    go : Forward m (n ∷ rest) ⊎ Backward m (n ∷ rest) → Unbroken ms (ids (tree before (edits_of ms))) (m ∷ n ∷ rest) m.edit.id
    go (inl steps) = unbroken O (facts r) Right m (n ∷ rest) (forward_under O (facts r) m (n ∷ rest) run.0 steps)
    go (inr steps) = unbroken O (facts r) Left m (n ∷ rest) (backward_under O (facts r) m (n ∷ rest) run.0 steps)
