-- The tree of entries, its reading order, and what an edit does to it.
use Rattle.std.specs.Prelude.{Bool, true, false, cond, not, ◌&&◌, List, [], ◌∷◌, ◌++◌, map}
use Rattle.edits.specs.declared.id.Id.{Id}
use Rattle.edits.specs.declared.edit.Side.{Side}
use Rattle.edits.specs.declared.edit.Side.TheVariants.{Left, Right}
use Rattle.edits.specs.declared.edit.Parent.TheVariants as parent
use Rattle.edits.specs.Ids.{same}
use Rattle.order.specs.Lists.{keep}
use Rattle.order.specs.Edits.{Change, insertion, deletion, Edit}

-- an inserted element with its insertion's identifier; a tombstone is not shown
pub record Entry (E : Type 0) : Type 0 where
  pub id : Id
  pub element : E
  pub shown : Bool

-- siblings in order: the first with its left children and its right children, then the next siblings
pub data Forest (E : Type 0) : Type 0 where
  nil : Forest E
  node : (entry : Entry E) (lefts rights next : Forest E) → Forest E

module _ {E : Type 0} where
  -- reading order, tombstones counted: the left children, the entry, the right children, then the next siblings
  abbrev pub read : Forest E → List (Entry E)
  read nil = []
  read (node x l r n) = read l ++ (x ∷ (read r ++ read n))

  abbrev pub is_shown : Entry E → Bool
  is_shown x = x.shown

  -- the document: the entries that are shown
  abbrev pub visible : Forest E → List (Entry E)
  visible f = keep is_shown (read f)

  abbrev pub entry_id : Entry E → Id
  entry_id x = x.id

  -- the identifiers in reading order
  abbrev pub ids : Forest E → List Id
  ids f = map entry_id (read f)

  -- an entry just inserted
  abbrev pub fresh : Id → E → Entry E
  fresh a x = record { id = a; element = x; shown = true }

  abbrev pub hide : Id → Entry E → Entry E
  hide t x = record { id = x.id; element = x.element; shown = x.shown && not (same x.id t) }

  -- the entry t becomes a tombstone
  abbrev pub bury : Id → Forest E → Forest E
  bury t nil = nil
  bury t (node x l r n) = node (hide t x) (bury t l) (bury t r) (bury t n)

-- before: the order of siblings
module _ {E : Type 0} (before : Id → Id → Bool) where
  -- a leaf among siblings, before the first that it comes before
  abbrev pub join : Entry E → Forest E → Forest E
  join e nil = node e nil nil nil
  join e (node x l r n) = cond (before e.id x.id) (node e nil nil (node x l r n)) (node x l r (join e n))

  -- a node whose entry is the parent takes the leaf e among its children on that side
  abbrev pub adopt : Bool → Side → Entry E → Entry E → Forest E → Forest E → Forest E → Forest E
  adopt false s e x l r n = node x l r n
  adopt true Left e x l r n = node x (join e l) r n
  adopt true Right e x l r n = node x l (join e r) n

  -- a leaf below the entry p on the side s; nothing changes where p is no entry
  abbrev pub hang : Id → Side → Entry E → Forest E → Forest E
  hang p s e nil = nil
  hang p s e (node x l r n) = adopt (same x.id p) s e x (hang p s e l) (hang p s e r) (hang p s e n)

  -- the change of the edit a; one whose parent or target is no entry has no effect
  abbrev pub change : Id → Change E → Forest E → Forest E
  change a (insertion parent.Start s x) f = join (fresh a x) f
  change a (insertion (parent.Entry p) s x) f = hang p s (fresh a x) f
  change a (deletion t) f = bury t f

  abbrev pub apply : Edit E → Forest E → Forest E
  apply e f = change e.id e.change f

  -- the edits of a list applied one after another
  abbrev pub grown : Forest E → List (Edit E) → Forest E
  grown f [] = f
  grown f (e ∷ h) = grown (apply e f) h

  abbrev pub tree : List (Edit E) → Forest E
  tree h = grown nil h
