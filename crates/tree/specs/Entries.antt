-- The entries of a tree, in the order of their arrival.
use Rattle.std.specs.Prelude.{ℕ, zero, suc, Bool, true, false, ◌&&◌, List, [], ◌∷◌, map, Some, None, Option, nat_le, slice_get}
use Rattle.edits.specs.declared.id.Id.{Id}
use Rattle.edits.specs.Ids.{same}
use Rattle.tree.specs.declared.node.Entry.{Entry}
use Rattle.tree.specs.declared.node.Node.{Node}

-- a tree has 1 to 65,536 slots
abbrev pub slots_allowed : ℕ → Bool
slots_allowed slots = nat_le 1 slots && nat_le slots 65536

abbrev pub entries_of : {E : Type 0} → List (Node E) → List (Entry E)
entries_of nodes = map (λ n. n.entry) nodes

-- the entry in a slot, if there is one
abbrev pub entry_at : {E : Type 0} → List (Node E) → ℕ → Option (Entry E)
entry_at nodes slot = slice_get (entries_of nodes) slot

-- an entry with the identifier
abbrev pub names : {E : Type 0} → Id → Option (Entry E) → Bool
names id None = false
names id (Some entry) = same entry.id id

-- whether an entry is shown
abbrev pub shows : {E : Type 0} → Option (Node E) → Bool
shows None = false
shows (Some node) = node.entry.shown

-- whether the entry in a slot is shown; no other slot shows one
abbrev pub shown_at : {E : Type 0} → List (Node E) → ℕ → Bool
shown_at nodes slot = shows (slice_get nodes slot)

-- a new entry
abbrev pub shown_entry : {E : Type 0} → Id → E → Entry E
shown_entry id element = record { id = id; element = element; shown = true }

-- the entry in a slot turned into a tombstone
abbrev pub hidden_at : {E : Type 0} → ℕ → List (Entry E) → List (Entry E)
hidden_at slot [] = []
hidden_at zero (e ∷ es) = record { id = e.id; element = e.element; shown = false } ∷ es
hidden_at (suc slot) (e ∷ es) = e ∷ hidden_at slot es
