-- How an input ends.
use Rattle.std.specs.Prelude.{◌≡◌, ℕ, ◌<◌, ◌≤◌, Bool, ◌&&◌, List, length, None, is_some, string_bytes, Result, String, MatchResult, ◌==◌, nat_lt, slice_index}
use Rattle.std.specs.declared.alloc.Global.{Global}
use Rattle.edits.specs.declared.fault.Fault.{Fault}
use Rattle.edits.specs.declared.fault.Fault.TheVariants.{WrongSize}
use Rattle.formats.specs.Marks.{head_at}
use Rattle.tree.specs.declared.reading.Reading.{Reading}
use Rattle.replica.specs.declared.replica.Replica.{Replica}
use Rattle.replica.specs.Shelves.{lowest_from}
use Rattle.replica.specs.Taking.{shelf_of}
use Rattle.merger.specs.Lines.{table_text}

-- the input begins with a log of cells
abbrev pub holds_cells : List ℕ → Bool
holds_cells input = is_some (head_at input 0) && (nat_lt 2 (length input) && slice_index input 2 == 2)

-- the text is the table of a replica with elements of a kind, with 1,024 slots, in which no edit waits
abbrev pub IsTable : {E : Type 0} → (E → List ℕ) → List ℕ → Type 0
IsTable {E} packed text =
    (replica : Replica E) × (reading : Reading) × (replica.tree.slots ≡ 1024) × (lowest_from None (shelf_of replica) ≡ None) × (text ≡ table_text packed replica reading)

-- An input that is merged is not too long, and is printed as a table; an input that is too long is refused for that.
abbrev pub Ends : {E : Type 0} → (E → List ℕ) → List ℕ → Result (String Global) Fault → Type 0
Ends packed input r =
    MatchResult r
    (λ table. (length input ≤ 65536) × IsTable packed (string_bytes table))
    (λ fault. 65536 < length input → fault ≡ WrongSize)
