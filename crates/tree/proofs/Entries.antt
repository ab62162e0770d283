-- The entries of a tree when a node is added or changes.
use Rattle.std.proofs.Common.{◌≡◌, ℕ, zero, suc, false, List, [], ◌∷◌, ◌++◌, get_or, set, refl, ap}
use Rattle.std.proofs.Math.Seq.{map-set_same}
use Rattle.std.proofs.lemmas.List.{map-append}
use Rattle.tree.specs.declared.node.Entry.{Entry}
use Rattle.tree.specs.declared.node.Node.{Node}
use Rattle.tree.specs.Entries.{entries_of, hidden_at}

module _ {E : Type 0} where
  -- a node more
  pub entries_gain : (ns : List (Node E)) (n : Node E) → entries_of (ns ++ (n ∷ [])) ≡ entries_of ns ++ (n.entry ∷ [])
  entries_gain ns n = map-append (λ (n : Node E). n.entry) ns (n ∷ [])

  -- a node that keeps its entry
  pub entries_kept : (ns : List (Node E)) (k : ℕ) (m : Node E) → m.entry ≡ (get_or ns k m).entry → entries_of (set ns k m) ≡ entries_of ns
  entries_kept ns k m kept = map-set_same (λ (n : Node E). n.entry) ns k m m kept

  -- a node whose entry is hidden
  pub entries_hidden : (ns : List (Node E)) (k : ℕ) (m : Node E) → m.entry ≡ record (get_or ns k m).entry { shown = false } → entries_of (set ns k m) ≡ hidden_at k (entries_of ns)
  entries_hidden [] k m hides = refl
  entries_hidden (x ∷ ns) zero m hides = ap (λ (e : Entry E). e ∷ entries_of ns) hides
  entries_hidden (x ∷ ns) (suc k) m hides = ap (λ (es : List (Entry E)). x.entry ∷ es) (entries_hidden ns k m hides)
