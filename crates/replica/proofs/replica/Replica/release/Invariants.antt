use Rattle.std.proofs.Common.{◌≡◌, ◌+◌, vec_len}
use Rattle.replica.proofs.replica.Replica.release.Given as goal

-- those released and those that wait are as many as waited
abbrev pub invariant-loop-edit : goal.invariant-loop-edit
invariant-loop-edit g l =
    (l.released + vec_len l.self.shelf.edits ≡ vec_len l.initial.self.shelf.edits) × (l.self.tree.slots ≡ l.initial.self.tree.slots)

-- each turn takes an edit off the shelf
abbrev pub decreases-loop-edit : goal.decreases-loop-edit
decreases-loop-edit g l = vec_len l.self.shelf.edits
