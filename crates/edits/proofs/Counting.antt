-- What a walk over the pairs of a clock finds: the first pair of an editor, and how many pairs come before it.
use Rattle.std.proofs.Common.{◌≡◌, ℕ, suc, ◌+◌, Bool, true, false, cond, ◌==◌, List, [], ◌∷◌, Option, Some, None, MatchOption, nat_lt, refl, arith}
use Rattle.std.specs.List.{find, prefix_len}
use Rattle.std.specs.Option.{option_map}
use denote.Ref.{Bor}
use Rattle.edits.specs.declared.clock.Pair.{Pair}
use Rattle.edits.specs.Pairs.{count_of, place_of}

-- read where there is none
abbrev pub no_pair : Pair
no_pair = record { editor = 0; count = 0 }

-- what a pair counts, if there is one
abbrev pub counted : Option Pair → ℕ
counted None = 0
counted (Some p) = p.count

pub counted-find : (e : ℕ) (ps : List Pair) → counted (find (λ p. p.editor == e) ps) ≡ count_of ps e
counted-find e [] = refl
counted-find e (p ∷ ps) = by (p.editor == e) (counted-find e ps)
  where
    by : (v : Bool) → counted (find (λ p. p.editor == e) ps) ≡ count_of ps e → counted (cond v (Some p) (find (λ p. p.editor == e) ps)) ≡ cond v p.count (count_of ps e)
    by true h = refl
    by false h = h

pub counted-read : {Q : Bor Pair → Type 0} (o : Option (Bor Pair)) (n : ℕ) → MatchOption o (n ≡ 0) Q → ((x : Bor Pair) → Q x → n ≡ x.now.count) → n ≡ counted (option_map (λ x. x.now) o)
counted-read None n h k = h
counted-read (Some x) n h k = k x h

pub prefix_len-place : (e : ℕ) (ps : List Pair) → prefix_len (λ p. nat_lt p.editor e) ps ≡ place_of e ps
prefix_len-place e [] = refl
prefix_len-place e (p ∷ ps) = by (nat_lt p.editor e) (prefix_len-place e ps)
  where
    by : (v : Bool) → prefix_len (λ p. nat_lt p.editor e) ps ≡ place_of e ps → cond v (1 + prefix_len (λ p. nat_lt p.editor e) ps) 0 ≡ cond v (suc (place_of e ps)) 0
    by true h = omega (arith, h)
    by false h = refl
