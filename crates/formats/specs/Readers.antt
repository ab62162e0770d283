-- Readers.
use Rattle.std.specs.Prelude.{◌≡◌, ℕ, ◌<◌, ◌≤◌, length, Ok, Err, Result, MatchResult}
use Rattle.edits.specs.declared.fault.Fault.{Fault}
use Rattle.formats.specs.declared.reader.Reader.{Reader}
use Rattle.formats.specs.declared.record.Record.{Record}
use Rattle.formats.specs.Records.{Raw}
use Rattle.formats.specs.Kept.{raw, Kept}

-- the reader has moved to the offset at in the same input
abbrev pub MovesTo : Reader → Reader → ℕ → Type 0
MovesTo old new at = (new.input ≡ old.input) × (new.at ≡ at)

-- what was read is what its bytes stand for: a record that keeps to the rules, and then the reader has moved on and
-- stands at its end; or the same fault
abbrev pub Reads : ℕ → Reader → Reader → Result (Raw × ℕ) Fault → Result Record Fault → Type 0
Reads width old new meant result =
    MatchResult result (λ x. (meant ≡ Ok (raw x, new.at)) × Kept width x × (old.at < new.at) × (new.at ≤ length old.input.now)) (λ e. meant ≡ Err e)
