-- What holds in every state that replicas reach by making edits and taking in those of others.
use Rattle.std.proofs.Common.{◌≡◌, ℕ, suc, ◌<◌, ◌≤◌, Bool, true, false, ◌↔◌, List, [], ◌∷◌, ◌++◌, length, take, drop, Some, None, Option, sym, refl, ap, ◌∙◌, subst, arith}
use Rattle.std.proofs.lemmas.Bool.{false≢true}
use Rattle.edits.specs.declared.edit.Parent.{Parent}
use Rattle.edits.specs.declared.edit.Side.{Side}
use Rattle.std.proofs.lemmas.List.{map-append, map_push}
use Rattle.edits.specs.declared.id.Id.{Id}
use Rattle.edits.specs.declared.edit.Parent.TheVariants.{Entry}
use Rattle.order.specs.Lists.{◌∈◌, ◌⊆◌, here, keep}
use Rattle.order.specs.Edits.{Change, Edit, Covers, Lawful, is_insertion, Order, insertion, deletion}
use Rattle.order.specs.Forests as Forests
use Rattle.order.specs.Forests.{read, visible, ids, tree, fresh}
use Rattle.order.specs.Placing.{follower, insertion_after, insertion_at, deletion_at, has_right_child, hung}
use Rattle.order.specs.Histories.{edit_ids, count, Next, History, empty, more, SameEdits, SameCounts, standing, as_shown, stands}
use Rattle.order.specs.Systems.{Making, making_edit, edits_of, new_edit, extended, insertion_made, deletion_made, Reached, begin, inserts, deletes, takes_in}
use Rattle.order.proofs.Lists.{in_left, in_last, each_snoc, sub_snoc, at_each, in_right, in_map, of_map, of_keep}
use Rattle.order.proofs.Histories.{in_ids, ids_sub, lawful_in, covered_in, in_part, count_own, count_other, counted, count_part}
use Rattle.order.proofs.Reordering.{same_tree}
use Rattle.order.proofs.Entries.{part_in_order}
use Rattle.order.proofs.Placing.{left_neighbour_in}
use Rattle.order.proofs.Making.{insertion_lawful, deletion_lawful, new_next, inserts_at}

-- the element of an insertion
abbrev element_or : {E : Type 0} → E → Change E → E
element_or d (insertion p s x) = x
element_or d (deletion t) = d

element_after : {E : Type 0} (left : Parent) (x : E) (f : Forests.Forest E) (d : E) → element_or d (insertion_after left x f) ≡ x
element_after left x f d = go (has_right_child left f) (follower left f)
  where
    go : (b : Bool) (o : Option Id) → element_or d (hung b left o x) ≡ x
    go false o = refl
    go true None = refl
    go true (Some a) = refl

module _ {E : Type 0} (before : Id → Id → Bool) where
  -- how an edit was made: what its maker had applied, and, of an insertion, by which rule it was placed
  pub record Made (all : List (Edit E)) (m : Making E) : Type 0 where
    pub known : List (Edit E)
    pub history : History known
    pub part : known ⊆ all
    pub clock : m.edit.clock ≡ count known
    pub lawful : Lawful m.edit
    pub next : Next known m.edit
    pub placed : is_insertion m.edit.change ≡ true
        → (x : E) × (m.edit.change ≡ insertion_after m.left x (tree before known)) × (m.next ≡ follower m.left (tree before known))
        × ((b : Id) → m.left ≡ Entry b → b ∈ ids (tree before known))
        × (fresh m.edit.id x ∈ visible (tree before (known ++ (m.edit ∷ []))))

  pub record Facts (ms : List (Making E)) (hs : ℕ → List (Edit E)) : Type 0 where
    -- all that was made is a history, and each replica has a part of it
    pub all : History (edits_of ms)
    pub each : (i : ℕ) → History (hs i)
    pub part : (i : ℕ) → hs i ⊆ edits_of ms
    -- a replica has all of its own edits
    pub own : (i : ℕ) → count (hs i) i ≡ count (edits_of ms) i
    pub made : (m : Making E) → m ∈ ms → Made (edits_of ms) m

module _ {E : Type 0} where
  pub edits_more : (ms later : List (Making E)) → edits_of ms ⊆ edits_of (ms ++ later)
  edits_more ms later e m = rw (map-append making_edit ms later) (in_left (edits_of ms) (edits_of later) m)

module _ {E : Type 0} {before : Id → Id → Bool} where
  wider : {all : List (Edit E)} (e : Edit E) {m : Making E} → Made before all m → Made before (all ++ (e ∷ [])) m
  wider {all} e M = record {
    known = M.known;
    history = M.history;
    part = λ d k. in_left all (e ∷ []) (M.part d k);
    clock = M.clock;
    lawful = M.lawful;
    next = M.next;
    placed = M.placed;
  }

  module _ {ms : List (Making E)} {hs : ℕ → List (Edit E)} (F : Facts before ms hs) where
    -- a replica has all of its own edits
    pub has_own : (i : ℕ) (a : Id) → a.editor ≡ i → a ∈ edit_ids (edits_of ms) → a ∈ edit_ids (hs i)
    has_own i a p m = let c = (counted F.all).within a m in
        let same : count (hs i) a.editor ≡ count (edits_of ms) a.editor = rw p (F.own i) in
        (counted (F.each i)).full a (c.0, omega arith)

    -- one more edit is made at the replica i, by the rules
    made_one : (i : ℕ) (m : Making E) (c : Change E) → m.edit ≡ new_edit i (hs i) c → Made before (edits_of ms) m
        → Facts before (ms ++ (m ∷ [])) (extended hs i m.edit)
    made_one i m c p M = record {
      all = rw same (more e F.all M.lawful next_all);
      each = at_each (λ j h. History h) hs i _ (more e (F.each i) M.lawful (rw p (new_next (F.each i) i c))) (λ j ne. F.each j);
      part = at_each (λ j h. h ⊆ edits_of (ms ++ (m ∷ []))) hs i _ (sub_snoc (λ d k. edits_more ms (m ∷ []) d (F.part i d k)) (in_map making_edit (ms ++ (m ∷ [])) (in_last ms m)))
          (λ j ne d k. edits_more ms (m ∷ []) d (F.part j d k));
      own = at_each (λ j h. count h j ≡ count (edits_of (ms ++ (m ∷ []))) j) hs i _ own_here own_there;
      made = rw same (each_snoc (Made before (edits_of ms ++ (e ∷ []))) ms m (λ n k. wider e (F.made n k)) (wider e M));
    }
      where
        e : Edit E
        e = m.edit

        same : edits_of (ms ++ (m ∷ [])) ≡ edits_of ms ++ (e ∷ [])
        same = map_push making_edit ms m

        editor : e.id.editor ≡ i
        editor = ap (λ (d : Edit E). d.id.editor) p

        number : e.id.number ≡ suc (count (edits_of ms) e.id.editor)
        number = ap (λ (d : Edit E). d.id.number) p ∙ ap suc (F.own i ∙ ap (count (edits_of ms)) (sym editor))

        next_all : Next (edits_of ms) e
        next_all = record {
          new = λ k. omega (arith, ((counted F.all).within e.id k).1, number);
          covered = λ a v. ids_sub M.known (edits_of ms) M.part a (M.next.covered a v);
        }

        own_here : count (hs i ++ (e ∷ [])) i ≡ count (edits_of (ms ++ (m ∷ []))) i
        own_here = subst (λ (j : ℕ). count (hs i ++ (e ∷ [])) j ≡ count (edits_of (ms ++ (m ∷ []))) j) editor
            (count_own (hs i) e ∙ ap suc (rw editor (F.own i)) ∙ sym (count_own (edits_of ms) e)
            ∙ ap (λ (l : List (Edit E)). count l e.id.editor) (sym same))

        own_there : (j : ℕ) → (j ≡ i → ⊥) → count (hs j) j ≡ count (edits_of (ms ++ (m ∷ []))) j
        own_there j ne = F.own j ∙ sym (ap (λ (l : List (Edit E)). count l j) same ∙ count_other (edits_of ms) e j (λ q. ne (sym q ∙ editor)))

    insertion_is_made : (i k : ℕ) (x : E) → k ≤ length (visible (tree before (hs i))) → Made before (edits_of ms) (insertion_made before i (hs i) k x)
    insertion_is_made i k x le = record {
      known = hs i;
      history = F.each i;
      part = F.part i;
      clock = refl;
      lawful = insertion_lawful before (F.each i) i k x;
      next = new_next (F.each i) i (insertion_at k x (tree before (hs i)));
      placed = λ t. (x, refl, refl, (λ b q. left_neighbour_in (tree before (hs i)) k b q), entry);
    }
      where
        shown : List (Forests.Entry E)
        shown = visible (tree before (hs i))

        entry : fresh (insertion_made before i (hs i) k x).edit.id x ∈ visible (tree before (hs i ++ ((insertion_made before i (hs i) k x).edit ∷ [])))
        entry = rw (inserts_at before (F.each i) i k x le) (in_right (take k shown) (fresh (insertion_made before i (hs i) k x).edit.id x ∷ drop k shown) (here refl))

    deletion_is_made : (i k : ℕ) → k < length (visible (tree before (hs i))) → Made before (edits_of ms) (deletion_made before i (hs i) k)
    deletion_is_made i k lt = record {
      known = hs i;
      history = F.each i;
      part = F.part i;
      clock = refl;
      lawful = deletion_lawful before (F.each i) i k lt;
      next = new_next (F.each i) i (deletion_at k (tree before (hs i)));
      placed = λ t. absurd (false≢true t);
    }

    -- the replica i takes one in
    taken_one : (i : ℕ) (e : Edit E) → e ∈ edits_of ms → Next (hs i) e → Facts before ms (extended hs i e)
    taken_one i e m n = record {
      all = F.all;
      each = at_each (λ j h. History h) hs i _ (more e (F.each i) (lawful_in F.all e m) n) (λ j ne. F.each j);
      part = at_each (λ j h. h ⊆ edits_of ms) hs i _ (sub_snoc (F.part i) m) (λ j ne. F.part j);
      own = at_each (λ j h. count h j ≡ count (edits_of ms) j) hs i _ (count_other (hs i) e i not_own ∙ F.own i) (λ j ne. F.own j);
      made = F.made;
    }
      where
        -- it has its own edits already
        not_own : e.id.editor ≡ i → ⊥
        not_own p = n.new (has_own i e.id p (in_ids (edits_of ms) m))

  pub facts : {ms : List (Making E)} {hs : ℕ → List (Edit E)} → Reached before ms hs → Facts before ms hs
  facts begin = record { all = empty; each = λ i. empty; part = λ i d m. m; own = λ i. refl; made = λ m k. elim k [ ] }
  facts (inserts {hs = hs} i k x r le) = let F = facts r in made_one F i _ (insertion_at k x (tree before (hs i))) refl (insertion_is_made F i k x le)
  facts (deletes {hs = hs} i k r lt) = let F = facts r in made_one F i _ (deletion_at k (tree before (hs i))) refl (deletion_is_made F i k lt)
  facts (takes_in i e r m n) = taken_one (facts r) i e m n

  module _ {ms : List (Making E)} {hs : ℕ → List (Edit E)} (F : Facts before ms hs) where
    -- an edit covers all that an edit covers which it covers
    pub closed : (m : Making E) → m ∈ ms → (d : Edit E) → d ∈ edits_of ms → Covers m.edit.clock d.id
        → (a : Id) → Covers d.clock a → Covers m.edit.clock a
    closed m k d j c a v = rw M.clock ((counted M.history).within a (covered_in M.history d d_known a v))
      where
        M : Made before (edits_of ms) m
        M = F.made m k

        d_known : d ∈ M.known
        d_known = in_part F.all M.part d j (M.next.covered d.id c)

    counts_edits : (i j : ℕ) → SameCounts (hs i) (hs j) → hs i ⊆ hs j
    counts_edits i j alike e m = let c = (counted (F.each i)).within e.id (in_ids (hs i) m) in let same = alike e.id.editor in
        in_part F.all (F.part j) e (F.part i e m) ((counted (F.each j)).full e.id (c.0, omega arith))

    edits_counts : (i j : ℕ) → SameEdits (hs i) (hs j) → SameCounts (hs i) (hs j)
    edits_counts i j alike editor =
        omega (
          arith,
          count_part (counted (F.each i)) (counted (F.each j)) (ids_sub (hs i) (hs j) (λ e. (alike e).0)) editor,
          count_part (counted (F.each j)) (counted (F.each i)) (ids_sub (hs j) (hs i) (λ e. (alike e).1)) editor,
        )

    pub agreement : Order before → (i j : ℕ) → (SameCounts (hs i) (hs j) ↔ SameEdits (hs i) (hs j))
        × (SameEdits (hs i) (hs j) → visible (tree before (hs i)) ≡ visible (tree before (hs j)))
    agreement O i j = (
      ((λ alike e. (counts_edits i j alike e, counts_edits j i (λ n. sym (alike n)) e)), edits_counts i j),
      λ alike. ap visible (same_tree O (F.each i) (hs j) (F.each j) alike),
    )

    -- whatever is made later
    pub one_order : Order before → (later : List (Making E)) → History (edits_of (ms ++ later)) → (i : ℕ)
        → visible (tree before (hs i)) ≡ standing (hs i) (read (tree before (edits_of (ms ++ later))))
    one_order O later A i = part_in_order O (F.each i) A (λ e m. edits_more ms later e (F.part i e m))

    -- every insertion that was made is an entry of the tree of all
    pub becomes_entry : Order before → (m : Making E) → m ∈ ms → (p : Parent) (s : Side) (x : E) → m.edit.change ≡ insertion p s x
        → (y : Forests.Entry E) × (y ∈ read (tree before (edits_of ms))) × (as_shown y ≡ fresh m.edit.id x)
    becomes_entry O m k p s x q = (v.0, (of_keep (stands h) (read (tree before (edits_of ms))) v.1).0, v.2 ∙ ap (fresh m.edit.id) element)
      where
        M : Made before (edits_of ms) m
        M = F.made m k

        h : List (Edit E)
        h = M.known ++ (m.edit ∷ [])

        part : h ⊆ edits_of ms
        part = sub_snoc M.part (in_map making_edit ms k)

        u : (x' : E) × (m.edit.change ≡ insertion_after m.left x' (tree before M.known)) × (m.next ≡ follower m.left (tree before M.known))
            × ((b : Id) → m.left ≡ Entry b → b ∈ ids (tree before M.known)) × (fresh m.edit.id x' ∈ visible (tree before h))
        u = M.placed (ap is_insertion q)

        element : u.0 ≡ x
        element = sym (element_after m.left u.0 (tree before M.known) x) ∙ ap (element_or x) (sym u.1 ∙ q)

        v : (y : Forests.Entry E) × (y ∈ keep (stands h) (read (tree before (edits_of ms)))) × (as_shown y ≡ fresh m.edit.id u.0)
        v = of_map as_shown (keep (stands h) (read (tree before (edits_of ms))))
            (rw⁻¹ (part_in_order O (more m.edit M.history M.lawful M.next) F.all part) u.4)
