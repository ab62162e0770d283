use Rattle.std.proofs.Common.{◌≡◌}
use Rattle.merger.proofs.gathering.take_in_all.Given as goal

-- the slots stay as many
abbrev pub invariant-loop-edit : goal.invariant-loop-edit
invariant-loop-edit g l = l.replica.tree.slots ≡ l.initial.replica.tree.slots
