-- The edits that wait, in the order in which they came.
use Rattle.std.specs.Prelude.{ℕ, Bool, cond, ◌&&◌, List, [], ◌∷◌, Some, None, Option, nat_le, count_by, position}
use Rattle.std.specs.List.{list_any}
use Rattle.edits.specs.declared.id.Id.{Id}
use Rattle.edits.specs.declared.clock.Pair.{Pair}
use Rattle.edits.specs.declared.edit.Edit.{Edit}
use Rattle.edits.specs.Clocks.{pairs_of}
use Rattle.edits.specs.Edits.{stamp_of, is_insertion}
use Rattle.edits.specs.Ids.{same, precedes}
use Rattle.replica.specs.Rosters.{includes}

-- a shelf has room for 1 to 64 edits
abbrev pub room_allowed : ℕ → Bool
room_allowed room = nat_le 1 room && nat_le room 64

-- an edit with the identifier waits
abbrev pub waits : {E : Type 0} → Id → List (Edit E) → Bool
waits id edits = list_any (λ e. same (stamp_of e).id id) edits

-- how many of the edits are insertions
abbrev pub insertions : {E : Type 0} → List (Edit E) → ℕ
insertions edits = count_by is_insertion edits

-- an edit is ready when everything that its clock counts was applied
abbrev pub ready : {E : Type 0} → List Pair → Edit E → Bool
ready roster e = includes roster (pairs_of (stamp_of e).clock)

-- the place of the first edit that is ready, if one is
abbrev pub first_ready : {E : Type 0} → List Pair → List (Edit E) → Option ℕ
first_ready roster edits = position (ready roster) edits

-- the lower of two identifiers, if there are two
abbrev pub lower : Option Id → Id → Id
lower None id = id
lower (Some low) id = cond (precedes low id) low id

-- the lowest identifier of the edits and of one more, if there is one
abbrev pub lowest_from : {E : Type 0} → Option Id → List (Edit E) → Option Id
lowest_from low [] = low
lowest_from low (e ∷ es) = lowest_from (Some (lower low (stamp_of e).id)) es
