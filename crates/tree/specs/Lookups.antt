-- The slot of an identifier.
use Rattle.std.specs.Prelude.{ℕ, if◌then◌else◌, List, Some, None, Option}
use Rattle.std.specs.List.{find}
use Rattle.std.specs.Option.{option_map, option_and_then}
use Rattle.edits.specs.declared.id.Id.{Id}
use Rattle.edits.specs.Ids.{same}
use Rattle.tree.specs.declared.index.Place.{Place}
use Rattle.tree.specs.declared.tree.Tree.{Tree}
use Rattle.tree.specs.Entries.{entry_at, names}

-- the slot that the index has for an identifier
abbrev pub listed_slot : List Place → Id → Option ℕ
listed_slot places id = option_map (λ p. p.slot) (find (λ p. same p.id id) places)

-- that slot, if its entry has the identifier
abbrev pub slot_of : {E : Type 0} → Tree E → Id → Option ℕ
slot_of t id = option_and_then (λ slot. if names id (entry_at t.nodes.items slot) then Some slot else None) (listed_slot t.index.places.items id)
