-- Clocks.
use Rattle.std.specs.Prelude.{Bool, ◌&&◌, List, length, take, drop, ◌==◌, nat_le}
use Rattle.edits.specs.declared.clock.Pair.{Pair}
use Rattle.edits.specs.declared.clock.Clock.{Clock}
use Rattle.edits.specs.Pairs.{ascending, unused}

-- what a clock lists
abbrev pub pairs_of : Clock → List Pair
pairs_of c = take c.len c.pairs

-- at most 16 editors, ascending, with counts of at least 1; the rest of the array is unused
abbrev pub clock_kept : Clock → Bool
clock_kept c = length c.pairs == 16 && (nat_le c.len 16 && (ascending 0 (pairs_of c) && unused (drop c.len c.pairs)))
