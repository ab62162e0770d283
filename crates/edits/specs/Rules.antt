-- What every edit keeps to.
use Rattle.std.specs.Prelude.{◌-◌, Bool, true, false, ◌&&◌, ◌||◌, List, length, ◌==◌, nat_le, nat_lt}
use Rattle.edits.specs.declared.id.Id.{Id}
use Rattle.edits.specs.declared.clock.Pair.{Pair}
use Rattle.edits.specs.declared.clock.Clock.{Clock}
use Rattle.edits.specs.declared.edit.Side.{Side}
use Rattle.edits.specs.declared.edit.Side.TheVariants.{Left, Right}
use Rattle.edits.specs.declared.edit.Parent.{Parent}
use Rattle.edits.specs.declared.edit.Parent.TheVariants.{Start, Entry}
use Rattle.edits.specs.Pairs.{count_of}
use Rattle.edits.specs.Clocks.{pairs_of, clock_kept}

-- the clock counts the own editor's edits before this one, and with the own editor it names at most 16
abbrev pub own_kept : Id → List Pair → Bool
own_kept id ps = count_of ps id.editor == id.number - 1 && (nat_lt 1 id.number || nat_lt (length ps) 16)

-- an editor and a number, and a clock that fits them
abbrev pub stamp_kept : Id → Clock → Bool
stamp_kept id clock = nat_lt 0 id.editor && (nat_lt 0 id.number && (clock_kept clock && own_kept id (pairs_of clock)))

-- an identifier that the clock covers
abbrev pub covers : List Pair → Id → Bool
covers ps id = nat_lt 0 id.editor && (nat_lt 0 id.number && nat_le id.number (count_of ps id.editor))

-- the start on the right side only, or an entry that the clock covers
abbrev pub parent_kept : List Pair → Parent → Side → Bool
parent_kept ps Start Left = false
parent_kept ps Start Right = true
parent_kept ps (Entry id) side = covers ps id
