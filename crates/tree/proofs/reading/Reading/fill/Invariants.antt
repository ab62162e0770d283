use Rattle.std.proofs.Common.{◌≡◌, ◌+◌, ◌≤◌, length, vec_items, vec_len}
use Rattle.std.specs.List.{count_by}
use Rattle.std.specs.Iterator.{size}
use Rattle.tree.specs.Entries.{shown_at}
use Rattle.tree.proofs.reading.Reading.fill.Given as goal

-- the slots that came are listed, and the shown ones counted; what is listed and what is to come are at most as many as
-- were announced, and every slot has a place for its index
abbrev pub invariant-loop-slot : goal.invariant-loop-slot
invariant-loop-slot g l =
    (goal.iterator-loop-slot g).can_next l.slot-iterator
    × (goal.iterator-loop-slot g).is_finite l.slot-iterator
    × (l.self.most ≡ l.initial.self.most)
    × (vec_items l.self.order ≡ l.yielded)
    × (l.self.shown ≡ count_by (shown_at l.nodes) l.yielded)
    × (l.self.shown ≤ vec_len l.self.order)
    × (vec_len l.self.indexes ≡ length l.nodes)
    × (vec_len l.self.order + size (g.I.Iterator.remaining l.slot-iterator) ≤ length l.nodes)
