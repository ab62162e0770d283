-- The fields of a record: the value, or the exact fault.
use Rattle.std.specs.Prelude.{ℕ, zero, suc, ◌+◌, ◌*◌, cond, ◌&&◌, List, [], ◌∷◌, length, Ok, Err, Result, ◌==◌, nat_le, nat_lt, slice_index}
use Rattle.edits.specs.declared.fault.Fault.{Fault}
use Rattle.edits.specs.declared.fault.Fault.TheVariants.{Extent, Numbering, Pairs, Reference}
use Rattle.edits.specs.declared.id.Id.{Id}
use Rattle.edits.specs.declared.clock.Pair.{Pair}
use Rattle.edits.specs.declared.edit.Side.{Side}
use Rattle.edits.specs.declared.edit.Side.TheVariants.{Left, Right}
use Rattle.edits.specs.declared.edit.Parent.{Parent}
use Rattle.edits.specs.declared.edit.Parent.TheVariants.{Start, Entry}
use Rattle.edits.specs.declared.edit.Placement.{Placement}
use Rattle.edits.specs.declared.edit.Removal.{Removal}
use Rattle.edits.specs.Clocks.{pairs_of}
use Rattle.edits.specs.Rules.{own_kept, covers, parent_kept}

-- go on with the value, or hand the fault up
infixr 20 ◌then◌
abbrev pub ◌then◌ : {A B : Type 0} → Result A Fault → (A → Result B Fault) → Result B Fault
(Ok x) then f = f x
(Err e) then f = Err e

-- a field that is cut off: the spot is the input's end
abbrev pub byte_at : List ℕ → ℕ → Result ℕ Fault
byte_at s at = cond (nat_lt at (length s)) (Ok (slice_index s at)) (Err (Extent (length s)))

-- two bytes, the higher first
abbrev pub two_at : List ℕ → ℕ → Result ℕ Fault
two_at s at = byte_at s at then (λ high. byte_at s (at + 1) then (λ low. Ok (high * 256 + low)))

-- an editor in one byte and a number in two
abbrev pub id_at : List ℕ → ℕ → Result Id Fault
id_at s at = byte_at s at then (λ e. two_at s (at + 1) then (λ n. Ok (record { editor = e; number = n })))

-- the identifier of a head, which has no 0
abbrev pub name_at : List ℕ → ℕ → Result Id Fault
name_at s at =
    byte_at s at then (λ e. cond (nat_lt 0 e)
    (two_at s (at + 1) then (λ n. cond (nat_lt 0 n) (Ok (record { editor = e; number = n })) (Err (Numbering (at + 1)))))
    (Err (Numbering at)))

-- a pair whose editor is above low, and whose count is not 0
abbrev pub pair_at : ℕ → List ℕ → ℕ → Result Pair Fault
pair_at low s at =
    byte_at s at then (λ e. two_at s (at + 1) then (λ c. cond (nat_lt low e && nat_lt 0 c) (Ok (record { editor = e; count = c })) (Err (Pairs at))))

-- n pairs from the offset at on, the editors ascending from above low
abbrev pub pairs_at : ℕ → ℕ → List ℕ → ℕ → Result (List Pair) Fault
pairs_at zero low s at = Ok []
pairs_at (suc n) low s at =
    byte_at s at then (λ e. two_at s (at + 1) then (λ c. cond (nat_lt low e && nat_lt 0 c)
    (pairs_at n e s (at + 3) then (λ ps. Ok (record { editor = e; count = c } ∷ ps)))
    (Err (Pairs at))))

-- the count of pairs, and the pairs
abbrev pub clock_at : List ℕ → ℕ → Result (List Pair) Fault
clock_at s at = byte_at s at then (λ n. cond (nat_le n 16) (pairs_at n 0 s (at + 1)) (Err (Pairs at)))

-- the head of a record: identifier and clock; it ends at at + 4 + 3 * the number of pairs
abbrev pub stamp_at : List ℕ → ℕ → Result (Id × List Pair) Fault
stamp_at s at = name_at s at then (λ id. clock_at s (at + 3) then (λ ps. cond (own_kept id ps) (Ok (id, ps)) (Err (Pairs (at + 3)))))

-- 0 is left, 1 is right
abbrev pub side_of : ℕ → Side
side_of b = cond (b == 0) Left Right

-- a side, which is 0 or 1
abbrev pub side_at : List ℕ → ℕ → Result Side Fault
side_at s at = byte_at s at then (λ b. cond (nat_lt b 2) (Ok (side_of b)) (Err (Reference at)))

-- 0.0 is the start
abbrev pub parent_of : Id → Parent
parent_of id = cond (id.editor == 0 && id.number == 0) Start (Entry id)

-- parent and side of an edit with the clock ps
abbrev pub place_at : List Pair → List ℕ → ℕ → Result (Parent × Side) Fault
place_at ps s at =
    id_at s at then (λ id. byte_at s (at + 3) then (λ b. cond (nat_lt b 2)
    (cond (parent_kept ps (parent_of id) (side_of b)) (Ok (parent_of id, side_of b)) (Err (Reference at)))
    (Err (Reference (at + 3)))))

-- head, parent and side; they end at at + 8 + 3 * the number of pairs
abbrev pub placement_at : List ℕ → ℕ → Result (Id × List Pair × Parent × Side) Fault
placement_at s at = stamp_at s at then (λ h. place_at h.1 s (at + 4 + 3 * length h.1) then (λ p. Ok (h.0, h.1, p.0, p.1)))

abbrev pub placement_parts : Placement → Id × List Pair × Parent × Side
placement_parts x = (x.stamp.id, pairs_of x.stamp.clock, x.parent, x.side)

-- the target of a deletion with the clock ps
abbrev pub target_at : List Pair → List ℕ → ℕ → Result Id Fault
target_at ps s at = id_at s at then (λ id. cond (covers ps id) (Ok id) (Err (Reference at)))

-- head and target; they end at at + 7 + 3 * the number of pairs
abbrev pub removal_at : List ℕ → ℕ → Result (Id × List Pair × Id) Fault
removal_at s at = stamp_at s at then (λ h. target_at h.1 s (at + 4 + 3 * length h.1) then (λ id. Ok (h.0, h.1, id)))

abbrev pub removal_parts : Removal → Id × List Pair × Id
removal_parts x = (x.stamp.id, pairs_of x.stamp.clock, x.target)
