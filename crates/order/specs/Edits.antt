-- Edits as the theory has them: identifiers, sides and parents are those of the program; a clock is a function.
use Rattle.std.specs.Prelude.{◌≡◌, ℕ, suc, ◌≤◌, Bool, true, false, ◌≢◌}
use Rattle.edits.specs.declared.id.Id.{Id}
use Rattle.edits.specs.declared.edit.Side.{Side}
use Rattle.edits.specs.declared.edit.Side.TheVariants.{Left, Right}
use Rattle.edits.specs.declared.edit.Parent.{Parent}
use Rattle.edits.specs.declared.edit.Parent.TheVariants.{Start, Entry}

-- how many edits of each editor are counted
abbrev pub Clock : Type 0
Clock = ℕ → ℕ

-- what an edit does: E is the type of elements
pub data Change (E : Type 0) : Type 0 where
  insertion : (parent : Parent) (side : Side) (element : E) → Change E
  deletion : (target : Id) → Change E

-- an edit carries its maker's clock from just before it
pub record Edit (E : Type 0) : Type 0 where
  pub id : Id
  pub clock : Clock
  pub change : Change E

-- the edits of an editor are numbered from 1; a clock covers as many of them as it counts
abbrev pub Covers : Clock → Id → Type 0
Covers clock a = (1 ≤ a.number) × (a.number ≤ clock a.editor)

-- the parent is the start, on the right side only, or an identifier that the clock covers; a target is covered too
abbrev pub Refers : {E : Type 0} → Clock → Change E → Type 0
Refers clock (insertion Start Left x) = ⊥
Refers clock (insertion Start Right x) = Unit {0}
Refers clock (insertion (Entry p) side x) = Covers clock p
Refers clock (deletion t) = Covers clock t

-- the rules of edits, but for the limits of numbers and of how many editors a clock names: the clock counts the own
-- editor's edits before this one, and the change refers to what it covers
pub record Lawful {E : Type 0} (e : Edit E) : Type 0 where
  pub own : suc (e.clock e.id.editor) ≡ e.id.number
  pub refers : Refers e.clock e.change

-- a strict total order of identifiers, by which the children of one entry on one side stand
pub record Order (before : Id → Id → Bool) : Type 0 where
  pub irreflexive : (a : Id) → before a a ≢ true
  pub transitive : (a b c : Id) → before a b ≡ true → before b c ≡ true → before a c ≡ true
  pub total : (a b : Id) → (a ≢ b) → before a b ≡ false → before b a ≡ true

abbrev pub is_insertion : {E : Type 0} → Change E → Bool
is_insertion (insertion p s x) = true
is_insertion (deletion t) = false
