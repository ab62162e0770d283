-- The marks before records and logs.
use Rattle.std.specs.Prelude.{ℕ, ◌+◌, Bool, true, false, cond, ◌&&◌, List, length, Some, None, Option, ◌==◌, nat_lt, slice_index}
use Rattle.formats.specs.declared.format.Format.{Format}
use Rattle.formats.specs.declared.format.Format.TheVariants.{Six, Seven}

-- format 7 alone has runs
abbrev pub has_runs : Format → Bool
has_runs Six = false
has_runs Seven = true

-- the marks of an insertion, IN, a deletion, DE, and a run, RU
abbrev pub insertion_mark : ℕ → ℕ → Bool
insertion_mark a b = a == 73 && b == 78

abbrev pub deletion_mark : ℕ → ℕ → Bool
deletion_mark a b = a == 68 && b == 69

abbrev pub run_mark : ℕ → ℕ → Bool
run_mark a b = a == 82 && b == 85

-- the marks of logs, L6 and L7
abbrev pub log_of : ℕ → ℕ → Option Format
log_of a b = cond (a == 76 && b == 54) (Some Six) (cond (a == 76 && b == 55) (Some Seven) None)

-- the format of the log that begins at the offset at; none where fewer than two bytes are there
abbrev pub head_at : List ℕ → ℕ → Option Format
head_at s at = cond (nat_lt (at + 1) (length s)) (log_of (slice_index s at) (slice_index s (at + 1))) None
