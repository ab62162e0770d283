-- The lowest identifier of the edits, as `reduce` finds it with the lower of two.
use Rattle.std.proofs.Common.{◌≡◌, List, [], ◌∷◌, map, Some, None, Option, refl, ◌∙◌}
use Rattle.std.proofs.lemmas.Iterator.{YieldsList}
use Rattle.std.proofs.lemmas.Iterator.Consumers.{reduce_from_yields_List}
use Rattle.std.proofs.lemmas.Fn.{fold_same, FoldsTo-push}
use Rattle.std.specs.Iterator.{ReducesItems}
use Rattle.std.specs.Fn.{Called}
use Rattle.std.specs.List.{fold, reduce, FoldsTo}
use denote.Param.Members.{Mut}
use Rattle.edits.specs.declared.id.Id.{Id}
use Rattle.edits.specs.declared.edit.Edit.{Edit}
use Rattle.edits.specs.Edits.{stamp_of}
use Rattle.replica.specs.Shelves.{lower, lowest_from}

-- a function that answers what h computes, and is as it was after each call
module _ {A F : Type 0} {g : Mut F (A × (A × Unit {0})) A} {h : A → A → A} {f : F}
    (computes : (a x r : A) (q : F) → Called g f (a, (x, tt)) r q → (q ≡ f) × (r ≡ h a x)) where
  -- what `reduce` makes of the items with it
  reduced : {S : Type 0} {steps : S → Option A → S → Type 0} {s : S} (r : Option A) {all : List A} → ReducesItems steps g s f r → YieldsList steps (λ x. x) s all → r ≡ reduce h all
  reduced {s = s} None ran = reduce_from_yields_List h s None ran
  reduced {s = s} (Some y) ran =
      let folds = FoldsTo (λ a x r. r ≡ h a x) ran.0 in
      let turns : folds ran.1 y =
      fold_same g folds f (λ xs a x b q j k. let made = computes a x b q k in (FoldsTo-push _ ran.0 xs a x b j made.1, made.0)) ran.1 ran.0 y ran.2 refl ran.4
      in
      reduce_from_yields_List h s (Some y) (ran.0, ran.1, ran.3, turns)

lowest_after : {E : Type 0} (low : Id) (es : List (Edit E)) → Some (fold (λ p z. lower (Some p) z) low (map (λ e. (stamp_of e).id) es)) ≡ lowest_from (Some low) es
lowest_after low [] = refl
lowest_after low (e ∷ es) = lowest_after (lower (Some low) (stamp_of e).id) es

lowest_of : {E : Type 0} (es : List (Edit E)) → reduce (λ p z. lower (Some p) z) (map (λ e. (stamp_of e).id) es) ≡ lowest_from None es
lowest_of [] = refl
lowest_of (e ∷ es) = lowest_after (stamp_of e).id es

-- what `reduce` makes of the identifiers of the edits with a function that answers the lower
pub lowest_reduced : {E F S : Type 0} {steps : S → Option Id → S → Type 0} {g : Mut F (Id × (Id × Unit {0})) Id} {f : F} {s : S} {r : Option Id} (es : List (Edit E))
    → ReducesItems steps g s f r → YieldsList steps (λ x. x) s (map (λ e. (stamp_of e).id) es)
    → ((low id r : Id) (q : F) → Called g f (low, (id, tt)) r q → (q ≡ f) × (r ≡ lower (Some low) id)) → r ≡ lowest_from None es
lowest_reduced es ran yields lowers = reduced lowers _ ran yields ∙ lowest_of es
