-- What is printed of a settled merge.
use Rattle.std.specs.Prelude.{ℕ, ◌-◌, if◌then◌else◌, List, [], ◌++◌, is_some, Some, None, Option, codes, decimal, vec_items, nat_lt, slice_index_or}
use Rattle.std.specs.List.{flat_map}
use Rattle.std.specs.Option.{option_and_then}
use Rattle.digits.specs.Hex.{hex_text}
use Rattle.edits.specs.declared.id.Id.{Id}
use Rattle.edits.specs.declared.clock.Pair.{Pair}
use Rattle.edits.specs.Ids.{id_text}
use Rattle.tree.specs.declared.node.Entry.{Entry}
use Rattle.tree.specs.declared.reading.Reading.{Reading}
use Rattle.tree.specs.Entries.{entry_at}
use Rattle.tree.specs.Lookups.{slot_of}
use Rattle.replica.specs.declared.replica.Replica.{Replica}
use Rattle.replica.specs.Taking.{roster_of, entries_in}

-- how many entries are shown, and how many are tombstones
abbrev pub counts_line : ℕ → ℕ → List ℕ
counts_line shown tombstones = codes "shown " ++ (decimal shown ++ (codes " tombstones " ++ (decimal tombstones ++ codes "\n")))

-- the index at which an entry is shown; none for a tombstone and for what is no entry
abbrev pub index_of : {E : Type 0} → Replica E → Reading → Id → Option ℕ
index_of replica reading id = option_and_then (λ slot. slice_index_or (vec_items reading.indexes) slot None) (slot_of replica.tree id)

-- an entry: its identifier, and its element's bytes as digits
abbrev pub entry_line : Id → List ℕ → List ℕ
entry_line id bytes = id_text id ++ (codes " " ++ (hex_text bytes ++ codes "\n"))

-- the line of an entry, if there is one and the lookup of its identifier answers an index
abbrev pub shown_line : {E : Type 0} → (E → List ℕ) → (Id → Option ℕ) → Option (Entry E) → List ℕ
shown_line packed lookup None = []
shown_line packed lookup (Some entry) = if is_some (lookup entry.id) then entry_line entry.id (packed entry.element) else []

-- the lines of the entries in slots, in turn
abbrev pub entry_lines : {E : Type 0} → (E → List ℕ) → Replica E → Reading → List ℕ → List ℕ
entry_lines packed replica reading slots = flat_map (λ slot. shown_line packed (index_of replica reading) (entry_at (vec_items replica.tree.nodes) slot)) slots

-- an editor and its count, if an edit of it was applied
abbrev pub pair_text : Pair → List ℕ
pair_text p = if nat_lt 0 p.count then codes " " ++ (decimal p.editor ++ (codes ":" ++ decimal p.count)) else []

abbrev pub pairs_text : List Pair → List ℕ
pairs_text ps = flat_map pair_text ps

-- the clock
abbrev pub clock_line : List Pair → List ℕ
clock_line ps = codes "clock" ++ (pairs_text ps ++ codes "\n")

-- the table of a replica's entries in the order of a reading: the counts, the lines, and the clock
abbrev pub table_text : {E : Type 0} → (E → List ℕ) → Replica E → Reading → List ℕ
table_text packed replica reading =
    counts_line reading.shown (entries_in replica - reading.shown) ++ (entry_lines packed replica reading (vec_items reading.order) ++ clock_line (roster_of replica))
