use Rattle.std.proofs.Common.{◌≡◌, ◌-◌, ◌≤◌, length}
use Rattle.merger.proofs.merge.Merge.gather.Given as goal

-- before the first part nothing has changed, and the slots stay as many
abbrev pub invariant-loop-at : goal.invariant-loop-at
invariant-loop-at g l =
    (l.at ≤ length l.input) × (l.at ≡ 0 → l.self ≡ l.initial.self) × (l.self.replica.tree.slots ≡ l.initial.self.replica.tree.slots)

-- the bytes that are left
abbrev pub decreases-loop-at : goal.decreases-loop-at
decreases-loop-at g l = length l.input - l.at
