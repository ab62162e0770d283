-- The rules of insertion and deletion: where the edit of an index hangs, and what it takes away.
use Rattle.std.specs.Prelude.{ℕ, Bool, true, false, cond, ◌&&◌, ◌||◌, List, [], ◌∷◌, map, Some, None, Option, slice_index_or}
use Rattle.edits.specs.declared.id.Id.{Id}
use Rattle.edits.specs.declared.edit.Side.TheVariants.{Left, Right}
use Rattle.edits.specs.declared.edit.Parent.{Parent}
use Rattle.edits.specs.declared.edit.Parent.TheVariants as parent
use Rattle.edits.specs.Ids.{same}
use Rattle.order.specs.Edits.{Change, insertion, deletion}
use Rattle.order.specs.Forests.{Entry, Forest, nil, node, visible, ids, entry_id}

abbrev pub first : List Id → Option Id
first [] = None
first (x ∷ xs) = Some x

-- what stands right after a
abbrev pub after : Id → List Id → Option Id
after a [] = None
after a (x ∷ xs) = cond (same x a) (first xs) (after a xs)

module _ {E : Type 0} where
  -- the left neighbour of an insertion at the index k: the start at 0, else the entry shown at k - 1
  abbrev pub left_neighbour : ℕ → Forest E → Parent
  left_neighbour k f = slice_index_or (parent.Start ∷ map (λ (x : Entry E). parent.Entry x.id) (visible f)) k parent.Start

  -- what stands right after the left neighbour in reading order, tombstones counted; none at the end
  abbrev pub follower : Parent → Forest E → Option Id
  follower parent.Start f = first (ids f)
  follower (parent.Entry a) f = after a (ids f)

  abbrev pub is_node : Forest E → Bool
  is_node nil = false
  is_node (node x l r n) = true

  -- the entry a has a right child, tombstones counted
  abbrev pub has_right : Id → Forest E → Bool
  has_right a nil = false
  has_right a (node x l r n) = (same x.id a && is_node r) || (has_right a l || (has_right a r || has_right a n))

  -- the children of the start are all on the right
  abbrev pub has_right_child : Parent → Forest E → Bool
  has_right_child parent.Start f = is_node f
  has_right_child (parent.Entry a) f = has_right a f

  -- a left neighbour without a right child becomes the parent, on the right; else its follower does, on the left
  -- (a left neighbour with a right child always has a follower)
  abbrev pub hung : Bool → Parent → Option Id → E → Change E
  hung false left next x = insertion left Right x
  hung true left (Some a) x = insertion (parent.Entry a) Left x
  hung true left None x = insertion left Right x

  -- an insertion after the left neighbour
  abbrev pub insertion_after : Parent → E → Forest E → Change E
  insertion_after left x f = hung (has_right_child left f) left (follower left f) x

  -- an insertion at the index k
  abbrev pub insertion_at : ℕ → E → Forest E → Change E
  insertion_at k x f = insertion_after (left_neighbour k f) x f

  -- a deletion of the entry shown at the index k (0.0, which no edit has, where none is)
  abbrev pub deletion_at : ℕ → Forest E → Change E
  deletion_at k f = deletion (slice_index_or (map entry_id (visible f)) k (record { editor = 0; number = 0 }))
