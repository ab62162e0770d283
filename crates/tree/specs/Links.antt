-- Links of a tree.
use Rattle.std.specs.Prelude.{◌≡◌, ℕ, ◌<◌, true, IsSomeAnd, List, Some, None, Option, slice_get}
use Rattle.std.specs.Option.{option_and_then}
use Rattle.edits.specs.declared.edit.Side.{Side}
use Rattle.edits.specs.declared.edit.Side.TheVariants as side
use Rattle.tree.specs.declared.link.Link.{Link}
use Rattle.tree.specs.declared.link.Link.TheVariants.{First, Left, Right, Next}
use Rattle.edits.specs.declared.edit.Parent.{Parent}
use Rattle.edits.specs.declared.edit.Parent.TheVariants.{Start, Entry}
use Rattle.tree.specs.Entries.{entry_at, names}
use Rattle.tree.specs.declared.node.Node.{Node}

-- the link to the first entry under a parent on a side; the parent is a slot, or none for the start
abbrev pub first_link : Option ℕ → Side → Link
first_link None s = First
first_link (Some slot) side.Left = Left slot
first_link (Some slot) side.Right = Right slot

-- a slot of the parent, or none for the start
abbrev pub IsParentSlot : {E : Type 0} → List (Node E) → Parent → Option ℕ → Type 0
IsParentSlot nodes Start slot = slot ≡ None
IsParentSlot nodes (Entry id) slot = IsSomeAnd slot (λ s. names id (entry_at nodes s) ≡ true)

-- where a link leads; first is the first of the entries under the start
abbrev pub target : {E : Type 0} → Option ℕ → List (Node E) → Link → Option ℕ
target first nodes First = first
target first nodes (Left slot) = option_and_then (λ n. n.left) (slice_get nodes slot)
target first nodes (Right slot) = option_and_then (λ n. n.right) (slice_get nodes slot)
target first nodes (Next slot) = option_and_then (λ n. n.next) (slice_get nodes slot)

-- a link of one of so many nodes
abbrev pub IsLinkOf : ℕ → Link → Type 0
IsLinkOf n First = Unit {0}
IsLinkOf n (Left slot) = slot < n
IsLinkOf n (Right slot) = slot < n
IsLinkOf n (Next slot) = slot < n
