-- Lists of edits in the order in which they were applied.
use Rattle.std.specs.Prelude.{◌≡◌, ℕ, ◌+◌, Bool, false, cond, not, ◌&&◌, ◌↔◌, List, [], ◌∷◌, ◌++◌, map, ◌==◌}
use Rattle.edits.specs.declared.id.Id.{Id}
use Rattle.edits.specs.Ids.{same}
use Rattle.order.specs.Lists.{◌∈◌, ◌∉◌, keep, any}
use Rattle.order.specs.Edits.{Clock, Change, insertion, deletion, Edit, Covers, Lawful, is_insertion}
use Rattle.order.specs.Forests.{Entry, fresh}

module _ {E : Type 0} where
  abbrev pub edit_id : Edit E → Id
  edit_id e = e.id

  abbrev pub edit_ids : List (Edit E) → List Id
  edit_ids h = map edit_id h

  -- how many edits of each editor the list has
  abbrev pub count : List (Edit E) → Clock
  count [] editor = 0
  count (e ∷ h) editor = cond (e.id.editor == editor) 1 0 + count h editor

  -- e can be applied after h: it is not there yet, and everything that its clock covers is
  pub record Next (h : List (Edit E)) (e : Edit E) : Type 0 where
    pub new : e.id ∉ edit_ids h
    pub covered : (a : Id) → Covers e.clock a → a ∈ edit_ids h

  -- a history: edits that keep the rules, each applied after all that its clock covers, none twice.
  -- Nothing is asked of who made them: an edit may name what is no entry, and is then without effect.
  pub data History : List (Edit E) → Type 0 where
    empty : History []
    more : {h : List (Edit E)} (e : Edit E) → History h → Lawful e → Next h e → History (h ++ (e ∷ []))

  abbrev pub SameEdits : List (Edit E) → List (Edit E) → Type 0
  SameEdits h k = (e : Edit E) → (e ∈ h) ↔ (e ∈ k)

  abbrev pub SameCounts : List (Edit E) → List (Edit E) → Type 0
  SameCounts h k = (editor : ℕ) → count h editor ≡ count k editor

  -- an edit of the list inserts the entry a
  abbrev pub inserted : List (Edit E) → Id → Bool
  inserted h a = any (λ (e : Edit E). is_insertion e.change && same e.id a) h

  abbrev pub deletes : Change E → Id → Bool
  deletes (insertion p s x) a = false
  deletes (deletion t) a = same a t

  -- an edit of the list deletes the entry a
  abbrev pub deleted : List (Edit E) → Id → Bool
  deleted h a = any (λ (e : Edit E). deletes e.change a) h

  -- the list inserts the entry and does not delete it
  abbrev pub stands : List (Edit E) → Entry E → Bool
  stands h x = inserted h x.id && not (deleted h x.id)

  -- the entry, shown
  abbrev pub as_shown : Entry E → Entry E
  as_shown x = fresh x.id x.element

  -- of these entries those that the list inserts and does not delete, in their order, shown
  abbrev pub standing : List (Edit E) → List (Entry E) → List (Entry E)
  standing h order = map as_shown (keep (stands h) order)
