-- Identifiers.
use Rattle.std.specs.Prelude.{ℕ, Bool, cond, ◌&&◌, List, ◌++◌, codes, decimal, ◌==◌, nat_lt}
use Rattle.edits.specs.declared.id.Id.{Id}

-- the order of identifiers: by editor, then by number
abbrev pub precedes : Id → Id → Bool
precedes a b = cond (a.editor == b.editor) (nat_lt a.number b.number) (nat_lt a.editor b.editor)

abbrev pub same : Id → Id → Bool
same a b = a.editor == b.editor && a.number == b.number

-- an identifier is printed as 2.1
abbrev pub id_text : Id → List ℕ
id_text id = decimal id.editor ++ (codes "." ++ decimal id.number)
