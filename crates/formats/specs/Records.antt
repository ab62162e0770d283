-- A record: what its bytes stand for, or the exact fault.
use Rattle.std.specs.Prelude.{ℕ, zero, suc, ◌+◌, ◌*◌, cond, ◌&&◌, List, length, take, drop, is_some, Ok, Err, Option, Result, nat_le}
use Rattle.edits.specs.declared.fault.Fault.{Fault}
use Rattle.edits.specs.declared.fault.Fault.TheVariants.{Extent, Mark, Numbering, Element, RunLength}
use Rattle.edits.specs.declared.id.Id.{Id}
use Rattle.edits.specs.declared.clock.Pair.{Pair}
use Rattle.edits.specs.declared.edit.Side.{Side}
use Rattle.edits.specs.declared.edit.Parent.{Parent}
use Rattle.formats.specs.declared.format.Format.{Format}
use Rattle.formats.specs.Marks.{has_runs, insertion_mark, deletion_mark, run_mark}
use Rattle.formats.specs.Fields.{◌then◌, byte_at, placement_at, removal_at}

-- a record as plain data: its fields in the order of its bytes, the elements by their offset and their bytes
pub data Raw : Type 0 where
  insertion : Id → List Pair → Parent → Side → ℕ → List ℕ → Raw
  deletion : Id → List Pair → Id → Raw
  run : Id → List Pair → Parent → Side → ℕ → ℕ → List ℕ → Raw

abbrev pub deletion_at : List ℕ → ℕ → Result (Raw × ℕ) Fault
deletion_at s at = removal_at s at then (λ x. Ok (deletion x.0 x.1 x.2, at + 7 + 3 * length x.1))

-- how many elements the run that begins with the edit id has: 2 to 64, and no number passes 65,535
abbrev pub length_at : Id → List ℕ → ℕ → Result ℕ Fault
length_at id s at =
    byte_at s at then (λ m. cond (nat_le 2 m && nat_le m 64) (cond (nat_le (id.number + m) 65536) (Ok m) (Err (Numbering at))) (Err (RunLength at)))

module _ {K : Type 0} (width : ℕ) (unpacked : List ℕ → Option K) where
  -- the bytes of an element
  abbrev pub element_at : List ℕ → ℕ → Result (List ℕ) Fault
  element_at s at =
      cond (nat_le (at + width) (length s))
      (cond (is_some (unpacked (take width (drop at s)))) (Ok (take width (drop at s))) (Err (Element at)))
      (Err (Extent (length s)))

  -- m elements, each tested before the next is read
  abbrev pub all_at : ℕ → List ℕ → ℕ → Result (Unit {0}) Fault
  all_at zero s at = Ok tt
  all_at (suc m) s at = element_at s at then (λ _. all_at m s (at + width))

  abbrev pub insertion_at : List ℕ → ℕ → Result (Raw × ℕ) Fault
  insertion_at s at =
      placement_at s at then (λ x. element_at s (at + 8 + 3 * length x.1) then (λ b.
      Ok (insertion x.0 x.1 x.2 x.3 (at + 8 + 3 * length x.1) b, at + 8 + 3 * length x.1 + width)))

  abbrev pub run_at : List ℕ → ℕ → Result (Raw × ℕ) Fault
  run_at s at =
      placement_at s at then (λ x. length_at x.0 s (at + 8 + 3 * length x.1) then (λ m. all_at m s (at + 9 + 3 * length x.1) then (λ _.
      Ok (run x.0 x.1 x.2 x.3 m (at + 9 + 3 * length x.1) (take (m * width) (drop (at + 9 + 3 * length x.1) s)), at + 9 + 3 * length x.1 + m * width))))

  -- the record with the mark a b, which stands at the offset mark, and whose fields begin at the offset at
  abbrev pub fields_at : Format → ℕ → ℕ → ℕ → List ℕ → ℕ → Result (Raw × ℕ) Fault
  fields_at format a b mark s at =
      cond (insertion_mark a b) (insertion_at s at)
      (cond (deletion_mark a b) (deletion_at s at)
      (cond (has_runs format && run_mark a b) (run_at s at)
      (Err (Mark mark))))

  -- the record whose mark stands at the offset at, and the offset behind it
  abbrev pub record_at : Format → List ℕ → ℕ → Result (Raw × ℕ) Fault
  record_at format s at = byte_at s at then (λ a. byte_at s (at + 1) then (λ b. fields_at format a b at s (at + 2)))
