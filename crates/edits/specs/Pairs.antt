-- The pairs of a clock.
use Rattle.std.specs.Prelude.{ℕ, suc, Bool, true, cond, ◌&&◌, List, [], ◌∷◌, ◌==◌, nat_lt}
use Rattle.edits.specs.declared.clock.Pair.{Pair}

-- the editors ascend from above low, and no count is 0
abbrev pub ascending : ℕ → List Pair → Bool
ascending low [] = true
ascending low (p ∷ ps) = nat_lt low p.editor && (nat_lt 0 p.count && ascending p.editor ps)

-- every pair is unused
abbrev pub unused : List Pair → Bool
unused [] = true
unused (p ∷ ps) = p.editor == 0 && (p.count == 0 && unused ps)

-- how many edits of an editor are counted
abbrev pub count_of : List Pair → ℕ → ℕ
count_of [] editor = 0
count_of (p ∷ ps) editor = cond (p.editor == editor) p.count (count_of ps editor)

-- how many pairs come before an editor
abbrev pub place_of : ℕ → List Pair → ℕ
place_of editor [] = 0
place_of editor (p ∷ ps) = cond (nat_lt p.editor editor) (suc (place_of editor ps)) 0

-- the pairs with a count for an editor
abbrev pub counting : ℕ → ℕ → List Pair → List Pair
counting editor count [] = record { editor = editor; count = count } ∷ []
counting editor count (p ∷ ps) =
    cond (nat_lt p.editor editor) (p ∷ counting editor count ps)
    (cond (p.editor == editor) (record { editor = editor; count = count } ∷ ps) (record { editor = editor; count = count } ∷ p ∷ ps))
