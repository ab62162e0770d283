-- The known stations: small courses of editing whose outcome can be told beforehand, worked out on the functions of a replica.
use Rattle.std.specs.Prelude.{◌≡◌, ℕ, suc, Bool, cond, List, [], ◌∷◌, ◌++◌, map, length, Some, None, Ok, codes, ◌==◌, slice_index}
use Prim.Native.String.{String}
use Rattle.edits.specs.declared.id.Id.{Id}
use Rattle.edits.specs.declared.fault.Fault.TheVariants.{IndexTooLarge}
use Rattle.edits.specs.declared.edit.Side.TheVariants.{Left, Right}
use Rattle.edits.specs.declared.edit.Parent.TheVariants.{Start, Entry}
use Rattle.order.specs.Edits.{Change, insertion, deletion, Edit, Lawful}
use Rattle.order.specs.Forests.{read, visible}
use Rattle.order.specs.Forests as forests
use Rattle.order.specs.Systems.{edits_of}
use Rattle.runs.specs.Replicas.{Replica, new, Answer, taken, Reply, declined, insert, delete, take_in, Intake, take_all}
use Rattle.runs.specs.Worlds.{made_by}

-- a call at a replica: an element is inserted at an index, or the one shown at an index is deleted
pub data Call : Type 0 where
  insert_at : (index element : ℕ) → Call
  delete_at : (index : ℕ) → Call

-- the code of a letter
abbrev pub letter : String → ℕ
letter text = slice_index (codes text) 0

-- a text typed from the index k on, letter after letter; letters are their codes
abbrev pub typed_from : ℕ → List ℕ → List Call
typed_from k [] = []
typed_from k (x ∷ xs) = insert_at k x ∷ typed_from (suc k) xs

abbrev pub typed : ℕ → String → List Call
typed k text = typed_from k (codes text)

-- a text whose letters are all inserted at the index k, so that it stands there backward
abbrev pub typed_backward : ℕ → String → List Call
typed_backward k text = map (insert_at k) (codes text)

-- the edits that an editor makes by calls, oldest first, and the replica then
pub record Course : Type 0 where
  pub replica : Replica ℕ
  pub made : List (Edit ℕ)

-- before: the order of siblings
module _ (before : Id → Id → Bool) where
  abbrev pub call : Call → Replica ℕ → Replica ℕ × Reply ℕ
  call (insert_at k x) r = insert before k x r
  call (delete_at k) r = delete before k r

  -- calls one after another
  abbrev pub work : List Call → Replica ℕ → Course
  work [] r = record { replica = r; made = [] }
  work (c ∷ cs) r =
      let p : Replica ℕ × Reply ℕ = call c r in
      let rest : Course = work cs p.0 in
      record { replica = rest.replica; made = edits_of (made_by p.1) ++ rest.made }

  -- a replica after it took in the edits, one after another
  abbrev pub takes : List (Edit ℕ) → Replica ℕ → Replica ℕ
  takes es r = (take_all before es r).replica

-- a new replica of the editor i, with 9 slots and a shelf of 9
abbrev pub editor : ℕ → Replica ℕ
editor i = new (Some i) 9 9

-- the document of a replica
abbrev pub shows : Replica ℕ → List ℕ
shows r = map (λ (x : forests.Entry ℕ). x.element) (visible r.forest)

-- 1 · 4 is the identifier 1.4
infix 60 ◌·◌
abbrev pub ◌·◌ : ℕ → ℕ → Id
i · n = record { editor = i; number = n }

-- the edits by identifier and change, without their clocks
abbrev pub said : List (Edit ℕ) → List (Id × Change ℕ)
said es = map (λ (e : Edit ℕ). (e.id, e.change)) es

-- how many edits of the editor i their clocks count
abbrev pub counted : ℕ → List (Edit ℕ) → List ℕ
counted i es = map (λ (e : Edit ℕ). e.clock i) es

-- an edit that no replica makes, though it keeps the rules: 2.1 deletes 1.2, which its clock covers and which is a deletion
abbrev pub stray : Edit ℕ
stray = record { id = 2 · 1; clock = λ i. cond (i == 1) 2 0; change = deletion (1 · 2) }

-- by the order of siblings
pub record Stations (before : Id → Id → Bool) : Type 0 where
  -- 1. Editor 1 types A B; editor 2, unaware of it, X Y. Whichever takes in the other's edits, both show A B X Y.
  pub words_stay_whole :
      let one : Course = work before (typed 0 "AB") (editor 1) in
      let two : Course = work before (typed 0 "XY") (editor 2) in
      (shows (takes before two.made one.replica) ≡ codes "ABXY") × (shows (takes before one.made two.replica) ≡ codes "ABXY")
  -- 2. The same typed backward, B then A and Y then X, each at the index 0: A B X Y at both.
  pub words_stay_whole_backward :
      let one : Course = work before (typed_backward 0 "BA") (editor 1) in
      let two : Course = work before (typed_backward 0 "YX") (editor 2) in
      (shows (takes before two.made one.replica) ≡ codes "ABXY") × (shows (takes before one.made two.replica) ≡ codes "ABXY")
  -- 3. After A B, editor 1 deletes at 0 and inserts Z at 0: the insertion is 1.4, a left child of the tombstone 1.1; shown is Z B.
  pub beside_a_first_tombstone :
      let start : Course = work before (typed 0 "AB") (editor 1) in
      let then : Course = work before (delete_at 0 ∷ insert_at 0 (letter "Z") ∷ []) start.replica in
      (said then.made ≡ (1 · 3, deletion (1 · 1)) ∷ (1 · 4, insertion (Entry (1 · 1)) Left (letter "Z")) ∷ [])
      × (shows then.replica ≡ codes "ZB")
  -- 4. After A B C, editor 1 deletes at 1 and inserts D at 1: the insertion is a left child of the tombstone 1.2; shown is A D C.
  pub beside_an_inner_tombstone :
      let start : Course = work before (typed 0 "ABC") (editor 1) in
      let then : Course = work before (delete_at 1 ∷ insert_at 1 (letter "D") ∷ []) start.replica in
      (said then.made ≡ (1 · 4, deletion (1 · 2)) ∷ (1 · 5, insertion (Entry (1 · 2)) Left (letter "D")) ∷ [])
      × (shows then.replica ≡ codes "ADC")
  -- 5. Knowing A B, which editor 1 made, editor 2 types M O at 1 and editor 3, unaware of it, N at 1.
  -- After all edits are taken in, all three show A M O N B.
  pub three_editors_at_one_place :
      let one : Course = work before (typed 0 "AB") (editor 1) in
      let two : Course = work before (typed 1 "MO") (takes before one.made (editor 2)) in
      let three : Course = work before (typed 1 "N") (takes before one.made (editor 3)) in
      (shows (takes before (two.made ++ three.made) one.replica) ≡ codes "AMONB")
      × (shows (takes before three.made two.replica) ≡ codes "AMONB")
      × (shows (takes before two.made three.replica) ≡ codes "AMONB")
  -- 6. Where two elements are shown, an insertion at 2 is accepted, and one at 3 is declined and changes nothing.
  pub no_insertion_past_the_end :
      let two : Replica ℕ = (work before (typed 0 "AB") (editor 1)).replica in
      let third : Course = work before (insert_at 2 (letter "C") ∷ []) two in
      (said third.made ≡ (1 · 3, insertion (Entry (1 · 2)) Right (letter "C")) ∷ [])
      × (shows third.replica ≡ codes "ABC")
      × (insert before 3 (letter "C") two ≡ (two, declined IndexTooLarge))
  -- 7. Edit 2.1, whose clock counts 1.1, comes before it and waits: none is applied and nothing is shown. Then 1.1 comes, and both are applied.
  pub what_comes_early_waits :
      let one : Course = work before (typed 0 "A") (editor 1) in
      let two : Course = work before (typed 1 "B") (takes before one.made (editor 2)) in
      let early : Intake ℕ = take_all before two.made (editor 3) in
      let late : Intake ℕ = take_all before one.made early.replica in
      (said two.made ≡ (2 · 1, insertion (Entry (1 · 1)) Right (letter "B")) ∷ [])
      × (counted 1 two.made ≡ 1 ∷ []) × (counted 2 two.made ≡ 0 ∷ [])
      × (early.answer ≡ Ok 0) × (length early.replica.shelf ≡ 1) × (shows early.replica ≡ [])
      × (late.answer ≡ Ok 2) × (length late.replica.shelf ≡ 0) × (shows late.replica ≡ codes "AB")
  -- 8. 1.2 deletes 1.1, and 2.1 deletes 1.2: a replica without an editor takes them in one after another. All are applied and counted,
  -- but 2.1 is without effect, since 1.2 is no entry: nothing is shown, one entry is held, and the tree is the same before and after 2.1.
  pub no_entry_no_effect :
      let one : Course = work before (typed 0 "A" ++ (delete_at 0 ∷ [])) (editor 1) in
      let first : Intake ℕ = take_all before one.made (new None 9 9) in
      let last : Replica ℕ × Answer = take_in before stray first.replica in
      (said one.made ≡ (1 · 1, insertion Start Right (letter "A")) ∷ (1 · 2, deletion (1 · 1)) ∷ [])
      × Lawful stray
      × (first.answer ≡ Ok 2) × (last.1 ≡ taken 1)
      × (last.0.clock 1 ≡ 2) × (last.0.clock 2 ≡ 1)
      × (shows last.0 ≡ []) × (length (read last.0.forest) ≡ 1)
      × (last.0.forest ≡ first.replica.forest)
