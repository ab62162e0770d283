-- Places in ascending order, searched and gained.
use Rattle.std.proofs.Common.{◌≡◌, ℕ, ◌+◌, ◌-◌, ◌<◌, ◌≤◌, Bool, true, false, if◌then◌else◌, List, length, get_or, Any, inl, inr, Result, Ok, Err, IfOk, IfErr, subst, arith}
use Rattle.std.specs.List.{insert, HoldsAt}
use Rattle.std.specs.List.Sorted.{IsBinarySearchResult, IsNonDecreasingBy}
use Rattle.std.specs.Ordering.{ordering_index}
use Rattle.std.specs.declared.cmp.Ordering.TheVariants.{Less, Equal, Greater}
use Rattle.std.proofs.lemmas.Bool.{cases_lt}
use Rattle.std.proofs.lemmas.Bool.Decides.{nat_tests}
use Rattle.std.proofs.lemmas.List.{get_or_default}
use Rattle.std.proofs.lemmas.List.Edits.{length-insert, get_or-insert_below, get_or-insert_at, get_or-insert_above}
use Rattle.edits.specs.contracts.id.IdOrd.TheImpl as block
use Rattle.edits.specs.declared.id.Id.{Id}
use Rattle.edits.specs.Ids.{precedes}
use Rattle.tree.specs.declared.index.Place.{Place}
use Rattle.tree.specs.Places.{IsAscending, IsGapFor}

-- an element of the list that has P
pub any_from_at : {X : Type 0} (P : X → Type 0) (xs : List X) (k : ℕ) (d : X) → k < length xs → HoldsAt P xs k → Any P xs
any_from_at P xs k d within holds = (k, get_or xs k d, within, get_or_default xs k _ d within, holds d)

-- the order that is derived is that of the rules
same_from_equal : (a b : Id) → block.ghosts.cmp a b ≡ Equal → a ≡ b
same_from_equal a b e = grind arith

before_from_less : (a b : Id) → block.ghosts.cmp a b ≡ Less → precedes a b ≡ true
before_from_less a b e = grind (arith, nat_tests)

after_from_greater : (a b : Id) → block.ghosts.cmp a b ≡ Greater → precedes b a ≡ true
after_from_greater a b e = grind (arith, nat_tests)

-- what precedes compares no higher with a third
compares_lower : (a b c : Id) → precedes a b ≡ true → ordering_index (block.ghosts.cmp a c) ≤ ordering_index (block.ghosts.cmp b c)
compares_lower a b c before = grind (arith, nat_tests)

module _ (places : List Place) (ascending : IsAscending places) where
  -- the comparisons with an identifier rise along the list, as a binary search asks
  comparisons_rise : (id : Id) → IsNonDecreasingBy (λ p. ordering_index (block.ghosts.cmp p.id id)) places
  comparisons_rise id i j d le within = elim (cases_lt i j) [
    | inl lt ↦ compares_lower _ _ id (ascending i j d lt within)
    | inr ge ↦ let same : i ≡ j = omega arith in rw same (omega arith)
  ]

  -- a binary search ends at the identifier, or at the gap for it
  pub searched : (id : Id) (r : Result ℕ ℕ) → IsBinarySearchResult (λ p. block.ghosts.cmp p.id id) places r
      → record { found : IfOk r (HoldsAt (λ p. p.id ≡ id) places); gap : IfErr r (IsGapFor id places) }
  searched id (Ok at) equal = record { found = λ d. same_from_equal _ _ (equal d); gap = tt }
  searched id (Err at) parted = record {
    found = tt;
    gap = (λ k d low high. before_from_less (get_or places k d).id id ((parted (comparisons_rise id)).0 k d low high), λ k d low high. after_from_greater (get_or places k d).id id ((parted (comparisons_rise id)).1 k d low high));
  }

  -- a place more in the gap for its identifier: each of the new list is an old one below the gap, the new one, or an old one moved up
  pub ascending_insert : (at : ℕ) (p : Place) → at ≤ length places → IsGapFor p.id places at → IsAscending (insert places at p)
  ascending_insert at p in_range gap i j d lt within =
      let new = insert places at p in
      let length_new = length-insert places at p in_range in
      let below : (i : ℕ) → i < at → get_or new i d ≡ get_or places i d = λ i below. get_or-insert_below places at p d i below in_range in
      let here : (i : ℕ) → i ≡ at → get_or new i d ≡ p = λ i here. rw here (get_or-insert_at places at p d in_range) in
      let above : (i : ℕ) → at < i → get_or new i d ≡ get_or places (i - 1) d = λ i above. subst (λ q. get_or new q d ≡ get_or places (i - 1) d) {x = i - 1 + 1} (omega arith) (get_or-insert_above places at p d (i - 1) (omega arith) in_range) in
      grind (arith, below i, here i, above i, below j, here j, above j, ascending i j d, ascending i (j - 1) d, ascending (i - 1) (j - 1) d, gap.0 i d, gap.1 (j - 1) d)

  -- the list that an insertion leaves, whether it was done or refused
  pub ascending_after : (done : Bool) (at : ℕ) (p : Place) → at ≤ length places → IsGapFor p.id places at → IsAscending (if done then insert places at p else places)
  ascending_after true at p in_range gap = ascending_insert at p in_range gap
  ascending_after false at p in_range gap = ascending
