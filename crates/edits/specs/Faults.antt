-- The listing of the faults: for each case its number, its layer and its spot, and the line that is printed of it.
use Rattle.std.specs.Prelude.{ℕ, List, ◌++◌, codes, decimal}
use Rattle.edits.specs.Ids.{id_text}
use Rattle.edits.specs.declared.fault.Fault.{Fault}
use Rattle.edits.specs.declared.fault.Fault.TheVariants.{NoMemory, Extent, Mark, Numbering, Pairs, Reference, Element, RunLength, RosterFull, SlotsFull, ShelfFull, OwnEditWaits, NumbersUsedUp, IndexTooLarge, ChannelFull, WrongSize, LogHead, StillWaiting, OutsideLimits}
use Rattle.edits.specs.declared.fault.Layer.{Layer}
use Rattle.edits.specs.declared.fault.Layer.TheVariants.{Format, Replica, Channel, Merge, Caller}
use Rattle.edits.specs.declared.fault.Spot.{Spot}
use Rattle.edits.specs.declared.fault.Spot.TheVariants.{Number, Edit}

abbrev pub number_of : Fault → ℕ
number_of NoMemory = 0
number_of (Extent at) = 1
number_of (Mark at) = 2
number_of (Numbering at) = 3
number_of (Pairs at) = 4
number_of (Reference at) = 5
number_of (Element at) = 6
number_of (RunLength at) = 7
number_of (RosterFull id) = 8
number_of (SlotsFull id) = 9
number_of (ShelfFull id) = 10
number_of OwnEditWaits = 11
number_of NumbersUsedUp = 12
number_of IndexTooLarge = 13
number_of (ChannelFull sent) = 14
number_of WrongSize = 15
number_of (LogHead at) = 16
number_of (StillWaiting id) = 17
number_of OutsideLimits = 18

abbrev pub layer_of : Fault → Layer
layer_of NoMemory = Caller
layer_of (Extent at) = Format
layer_of (Mark at) = Format
layer_of (Numbering at) = Format
layer_of (Pairs at) = Format
layer_of (Reference at) = Format
layer_of (Element at) = Format
layer_of (RunLength at) = Format
layer_of (RosterFull id) = Replica
layer_of (SlotsFull id) = Replica
layer_of (ShelfFull id) = Replica
layer_of OwnEditWaits = Replica
layer_of NumbersUsedUp = Replica
layer_of IndexTooLarge = Replica
layer_of (ChannelFull sent) = Channel
layer_of WrongSize = Caller
layer_of (LogHead at) = Merge
layer_of (StillWaiting id) = Merge
layer_of OutsideLimits = Caller

abbrev pub spot_of : Fault → Spot
spot_of NoMemory = Number 0
spot_of (Extent at) = Number at
spot_of (Mark at) = Number at
spot_of (Numbering at) = Number at
spot_of (Pairs at) = Number at
spot_of (Reference at) = Number at
spot_of (Element at) = Number at
spot_of (RunLength at) = Number at
spot_of (RosterFull id) = Edit id
spot_of (SlotsFull id) = Edit id
spot_of (ShelfFull id) = Edit id
spot_of OwnEditWaits = Number 0
spot_of NumbersUsedUp = Number 0
spot_of IndexTooLarge = Number 0
spot_of (ChannelFull sent) = Number sent
spot_of WrongSize = Number 0
spot_of (LogHead at) = Number at
spot_of (StillWaiting id) = Edit id
spot_of OutsideLimits = Number 0

-- the word that is printed for a layer
abbrev pub word_of : Layer → List ℕ
word_of Format = codes "format"
word_of Replica = codes "replica"
word_of Channel = codes "channel"
word_of Merge = codes "merge"
word_of Caller = codes "caller"

abbrev pub spot_text : Spot → List ℕ
spot_text (Number at) = decimal at
spot_text (Edit id) = id_text id

-- a fault without the end of its line
abbrev pub fault_text : Fault → List ℕ
fault_text f = codes "fault " ++ (decimal (number_of f) ++ (codes " " ++ (word_of (layer_of f) ++ (codes " " ++ spot_text (spot_of f)))))

-- the line of a fault
abbrev pub fault_line : Fault → List ℕ
fault_line f = fault_text f ++ codes "\n"
