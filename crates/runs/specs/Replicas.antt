-- A replica by what it holds, and its calls as functions: take in, insert, delete, and the release of waiting edits.
use Rattle.std.specs.Prelude.{ℕ, zero, suc, ◌+◌, ◌-◌, ◌≤◌, Bool, true, false, cond, not, ◌&&◌, ◌||◌, List, [], ◌∷◌, ◌++◌, length, Some, None, Ok, Err, Option, Result, nat_eq, nat_le, nat_lt}
use Rattle.edits.specs.declared.id.Id.{Id}
use Rattle.edits.specs.declared.fault.Fault.{Fault}
use Rattle.edits.specs.declared.fault.Fault.TheVariants.{RosterFull, SlotsFull, ShelfFull, OwnEditWaits, NumbersUsedUp, IndexTooLarge}
use Rattle.edits.specs.declared.edit.Parent.TheVariants.{Start}
use Rattle.edits.specs.Ids.{same}
use Rattle.order.specs.Lists.{any, keep, with_at}
use Rattle.order.specs.Edits.{Clock, Change, Edit, is_insertion}
use Rattle.order.specs.Forests.{Forest, nil, read, visible, apply}
use Rattle.order.specs.Placing.{left_neighbour, follower, insertion_at, deletion_at}
use Rattle.order.specs.Systems.{Making}

-- editors are numbered from 1 to 255
abbrev pub Editor : ℕ → Type 0
Editor i = (1 ≤ i) × (i ≤ 255)

-- the greatest number of an edit
abbrev pub greatest_number : ℕ
greatest_number = 65535

-- the most editors of a document
abbrev pub most_editors : ℕ
most_editors = 16

pub record Replica (E : Type 0) : Type 0 where
  -- its own editor; a merge has none
  pub editor : Option ℕ
  -- how many entries it can hold, and how many edits can wait
  pub slots : ℕ
  pub room : ℕ
  pub forest : Forest E
  -- how many edits of each editor are applied
  pub clock : Clock
  -- the edits that wait, in the order in which they came
  pub shelf : List (Edit E)
  -- the own editor and the editors of all accepted edits, ascending
  pub roster : List ℕ

-- of the editors 1 to n the clock a counts no more than b
unfoldable pub within : ℕ → Clock → Clock → Bool
within zero a b = true
within (suc n) a b = nat_le (a (suc n)) (b (suc n)) && within n a b

-- an editor put in its place
abbrev pub placed : ℕ → List ℕ → List ℕ
placed i [] = i ∷ []
placed i (j ∷ js) = cond (nat_lt j i) (j ∷ placed i js) (i ∷ j ∷ js)

abbrev pub own_roster : Option ℕ → List ℕ
own_roster None = []
own_roster (Some i) = i ∷ []

-- what becomes of an edit that is taken in
pub data Verdict : Type 0 where
  knows : Verdict
  refuses : (fault : Fault) → Verdict
  applies : Verdict
  shelves : Verdict

-- the answer to an edit that is taken in; applied: how many edits the call applied
pub data Answer : Type 0 where
  known : Answer
  refused : (fault : Fault) → Answer
  taken : (applied : ℕ) → Answer

-- the answer to insert and delete: the edit, as it was made, and how many edits the call applied
pub data Reply (E : Type 0) : Type 0 where
  declined : (fault : Fault) → Reply E
  edited : (making : Making E) (applied : ℕ) → Reply E

-- an edit taken out of a list, and the others
pub data Pick (E : Type 0) : Type 0 where
  nothing : Pick E
  picked : (edit : Edit E) (others : List (Edit E)) → Pick E

-- the tests of taking in, in turn
abbrev pub judged : Id → Bool → Bool → Bool → Bool → Bool → Verdict
judged id is_known crowded slotless is_ready no_room =
    cond is_known knows
    (cond crowded (refuses (RosterFull id))
    (cond slotless (refuses (SlotsFull id))
    (cond is_ready applies
    (cond no_room (refuses (ShelfFull id)) shelves))))

-- the tests of insert and delete, in turn
abbrev pub barred : Id → Bool → Bool → Bool → Bool → Option Fault
barred id own_waits used_up no_index slotless =
    cond own_waits (Some OwnEditWaits)
    (cond used_up (Some NumbersUsedUp)
    (cond no_index (Some IndexTooLarge)
    (cond slotless (Some (SlotsFull id)) None)))

module _ {E : Type 0} where
  -- a new replica
  abbrev pub new : Option ℕ → ℕ → ℕ → Replica E
  new editor slots room =
      record { editor = editor; slots = slots; room = room; forest = nil; clock = λ i. 0; shelf = []; roster = own_roster editor }

  abbrev pub with_shelf : List (Edit E) → Replica E → Replica E
  with_shelf shelf r = record {
    editor = r.editor;
    slots = r.slots;
    room = r.room;
    forest = r.forest;
    clock = r.clock;
    shelf = shelf;
    roster = r.roster;
  }

  abbrev pub inserts : Edit E → Bool
  inserts e = is_insertion e.change

  abbrev pub waits : Replica E → Id → Bool
  waits r a = any (λ (e : Edit E). same e.id a) r.shelf

  -- applied, or waiting
  abbrev pub is_known : Replica E → Id → Bool
  is_known r a = nat_le a.number (r.clock a.editor) || waits r a

  -- everything that the edit's clock counts is applied
  abbrev pub ready : Replica E → Edit E → Bool
  ready r e = within 255 e.clock r.clock

  abbrev pub listed : Replica E → ℕ → Bool
  listed r i = any (nat_eq i) r.roster

  -- entries and waiting insertions fill the slots
  abbrev pub full : Replica E → Bool
  full r = nat_le r.slots (length (read r.forest) + length (keep inserts r.shelf))

  abbrev pub verdict : Edit E → Replica E → Verdict
  verdict e r = judged e.id (is_known r e.id) (not (listed r e.id.editor) && nat_le most_editors (length r.roster))
      (inserts e && full r) (ready r e) (nat_le r.room (length r.shelf))

  -- the editor of e stands on the roster
  abbrev pub enrolled : Edit E → Replica E → Replica E
  enrolled e r = record {
    editor = r.editor;
    slots = r.slots;
    room = r.room;
    forest = r.forest;
    clock = r.clock;
    shelf = r.shelf;
    roster = cond (listed r e.id.editor) r.roster (placed e.id.editor r.roster);
  }

  abbrev pub behind : Edit E → Pick E → Pick E
  behind d nothing = nothing
  behind d (picked e others) = picked e (d ∷ others)

  -- the first that passes the test
  abbrev pub pick : (Edit E → Bool) → List (Edit E) → Pick E
  pick test [] = nothing
  pick test (e ∷ es) = cond (test e) (picked e es) (behind e (pick test es))

  -- the number of the own editor; 0, which is no editor's, where there is none: insert and delete are calls of a
  -- replica with an editor
  abbrev pub own : Replica E → ℕ
  own r = own_number r.editor
    where
      own_number : Option ℕ → ℕ
      own_number None = 0
      own_number (Some i) = i

  -- an edit of the own editor waits
  abbrev pub own_waits : Replica E → Bool
  own_waits r = any (λ (e : Edit E). nat_eq e.id.editor (own r)) r.shelf

  -- the own editor has used its greatest number
  abbrev pub used_up : Replica E → Bool
  used_up r = nat_le greatest_number (r.clock (own r))

  -- the identifier of the next own edit
  abbrev pub next_id : Replica E → Id
  next_id r = record { editor = own r; number = suc (r.clock (own r)) }

  abbrev pub no_insert : ℕ → Replica E → Option Fault
  no_insert k r = barred (next_id r) (own_waits r) (used_up r) (nat_lt (length (visible r.forest)) k) (full r)

  abbrev pub no_delete : ℕ → Replica E → Option Fault
  no_delete k r = barred (next_id r) (own_waits r) (used_up r) (nat_le (length (visible r.forest)) k) false

  -- the next own edit: it carries the clock from just before it
  abbrev pub own_edit : Replica E → Change E → Edit E
  own_edit r c = record { id = next_id r; clock = r.clock; change = c }

  abbrev pub own_insertion : ℕ → E → Replica E → Making E
  own_insertion k x r = record {
    edit = own_edit r (insertion_at k x r.forest);
    left = left_neighbour k r.forest;
    next = follower (left_neighbour k r.forest) r.forest;
  }

  abbrev pub own_deletion : ℕ → Replica E → Making E
  own_deletion k r = record { edit = own_edit r (deletion_at k r.forest); left = Start; next = None }

-- before: the order of siblings
module _ {E : Type 0} (before : Id → Id → Bool) where
  -- e is applied: its change to the tree, and its count in the clock
  abbrev pub applied : Edit E → Replica E → Replica E
  applied e r = record {
    editor = r.editor;
    slots = r.slots;
    room = r.room;
    forest = apply before e r.forest;
    clock = with_at r.clock e.id.editor e.id.number;
    shelf = r.shelf;
    roster = r.roster;
  }

  abbrev pub go_on : Pick E → Replica E → (Replica E → Replica E) → Replica E
  go_on nothing r rest = r
  go_on (picked e others) r rest = rest (applied e (with_shelf others r))

  -- Ready edits leave the shelf one after another and are applied, n at most. The first that is ready goes first. Any
  -- other might: the tree is that of exactly the applied edits, in whatever order.
  abbrev pub release : ℕ → Replica E → Replica E
  release zero r = r
  release (suc n) r = go_on (pick (ready r) r.shelf) r (release n)

  -- e is applied, and then all that waited for it
  abbrev pub settled : Edit E → Replica E → Replica E
  settled e r = release (length r.shelf) (applied e r)

  -- how many edits were applied with it: the clock's growth
  abbrev pub applied_with : Edit E → Replica E → ℕ
  applied_with e r = suc (length r.shelf - length (settled e r).shelf)

  abbrev pub judge : Verdict → Edit E → Replica E → Replica E × Answer
  judge knows e r = (r, known)
  judge (refuses fault) e r = (r, refused fault)
  judge applies e r = (settled e (enrolled e r), taken (applied_with e (enrolled e r)))
  judge shelves e r = (with_shelf (r.shelf ++ (e ∷ [])) (enrolled e r), taken 0)

  abbrev pub take_in : Edit E → Replica E → Replica E × Answer
  take_in e r = judge (verdict e r) e r

  abbrev pub commit : Option Fault → Making E → Replica E → Replica E × Reply E
  commit (Some fault) m r = (r, declined fault)
  commit None m r = (settled m.edit r, edited m (applied_with m.edit r))

  abbrev pub insert : ℕ → E → Replica E → Replica E × Reply E
  insert k x r = commit (no_insert k r) (own_insertion k x r) r

  abbrev pub delete : ℕ → Replica E → Replica E × Reply E
  delete k r = commit (no_delete k r) (own_deletion k r) r

-- what comes of edits taken in one after another: the replica then, the edits that it accepted, and how many were
-- applied, or the fault of the one that was refused
pub record Intake (E : Type 0) : Type 0 where
  pub replica : Replica E
  pub accepted : List (Edit E)
  pub answer : Result ℕ Fault

abbrev pub plus : ℕ → Result ℕ Fault → Result ℕ Fault
plus n (Ok m) = Ok (n + m)
plus n (Err fault) = Err fault

module _ {E : Type 0} (before : Id → Id → Bool) where
  abbrev pub after_one : Replica E × Answer → Edit E → (Replica E → Intake E) → Intake E
  after_one p e rest = by_answer p.1
    where
      by_answer : Answer → Intake E
      by_answer known = rest p.0
      by_answer (refused fault) = record { replica = p.0; accepted = []; answer = Err fault }
      by_answer (taken n) = let i : Intake E = rest p.0 in record { replica = i.replica; accepted = e ∷ i.accepted; answer = plus n i.answer }

  -- taken in, in turn, until one is refused
  abbrev pub take_all : List (Edit E) → Replica E → Intake E
  take_all [] r = record { replica = r; accepted = []; answer = Ok 0 }
  take_all (e ∷ es) r = after_one (take_in before e r) e (take_all es)
