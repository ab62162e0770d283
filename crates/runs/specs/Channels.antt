-- What a channel holds, what a format of records is, and what sending does.
use Rattle.std.specs.Prelude.{◌≡◌, ℕ, ◌+◌, ◌<◌, ◌≤◌, Bool, true, false, ◌⊎◌, List, [], ◌∷◌, ◌++◌, length, take, drop, Some, Option, slice_set}
use Rattle.order.specs.Lists.{◌∈◌}

-- a record is a list of bytes: numbers up to 255, where it is one of a format
abbrev pub Bytes : Type 0
Bytes = List ℕ

-- the meaning of a channel
pub record Channel : Type 0 where
  -- all records put, oldest first
  pub put : List Bytes
  -- which of them were handed out
  pub handed : List Bool
  -- how many answers are to come
  pub coming : ℕ
  -- whether a record of a given length can be held
  pub can_hold : ℕ → Bool

-- new, a channel is empty
pub record Empty (h : Channel) : Type 0 where
  pub put : h.put ≡ []
  pub handed : h.handed ≡ []
  pub coming : h.coming ≡ 0

-- The record r is put, which can be held: it joins at the end, not handed out yet, and at least one more answer is to
-- come. No record over 1,024 bytes can be held.
pub record Put (h : Channel) (r : Bytes) (k : Channel) : Type 0 where
  pub held : h.can_hold (length r) ≡ true
  pub few_bytes : length r ≤ 1024
  pub put : k.put ≡ h.put ++ (r ∷ [])
  pub handed : k.handed ≡ h.handed ++ (false ∷ [])
  pub more : h.coming < k.coming

-- The record at the place i is handed out, again or for the first time, and one answer less is to come. With nothing to
-- come, every record has been handed out.
pub record Taken (h : Channel) (i : ℕ) (k : Channel) : Type 0 where
  pub place : i < length h.put
  pub put : k.put ≡ h.put
  pub handed : k.handed ≡ slice_set h.handed i true
  pub fewer : h.coming ≡ k.coming + 1
  pub last : k.coming ≡ 0 → (b : Bool) → b ∈ k.handed → b ≡ true

-- a format by what it does; X is the type of edits that are carried
pub record Format (X : Type 0) : Type 0 where
  -- which edits it can carry: those whose numbers and elements fit its fields
  pub fits : X → Bool
  -- the record of the front of a list, and how many edits it holds
  pub packs : List X → Bytes × ℕ
  -- the edits of a record, or none where it is refused
  pub reads : Bytes → Option (List X)

-- r is a record of the first n of the edits; no record is empty, since a channel need not hold an empty one
pub record Packed {X : Type 0} (reads : Bytes → Option (List X)) (xs : List X) (r : Bytes) (n : ℕ) : Type 0 where
  pub bytes : (b : ℕ) → b ∈ r → b ≤ 255
  pub some_bytes : 1 ≤ length r
  pub few_bytes : length r ≤ 1024
  pub some_edits : 1 ≤ n
  pub at_hand : n ≤ length xs
  pub read_back : reads r ≡ Some (take n xs)

abbrev pub AllFit : {X : Type 0} → Format X → List X → Type 0
AllFit {X} format xs = (x : X) → x ∈ xs → format.fits x ≡ true

-- The law of a format. Of any edits that it can carry it packs at least one, and reading the record gives exactly the
-- edits packed. A record is read as 1 to 64 edits, or refused.
pub record KeepsLaw {X : Type 0} (format : Format X) : Type 0 where
  pub packing : (xs : List X) → 1 ≤ length xs → AllFit format xs → Packed format.reads xs (format.packs xs).0 (format.packs xs).1
  pub reading : (r : Bytes) (xs : List X) → format.reads r ≡ Some xs → (1 ≤ length xs) × (length xs ≤ 64)

-- the front of xs makes the records rs, one after another, and the edits `rest` are left
pub data Cut {X : Type 0} (format : Format X) (xs : List X) : List Bytes → List X → Type 0 where
  uncut : Cut format xs [] xs
  one_cut : {rs : List Bytes} {rest : List X} → Cut format xs rs rest → 1 ≤ length rest
      → Cut format xs (rs ++ ((format.packs rest).0 ∷ [])) (drop (format.packs rest).1 rest)

-- the records rs are put, one after another
pub data Puts (h : Channel) : List Bytes → Channel → Type 0 where
  none_put : Puts h [] h
  one_put : {rs : List Bytes} {r : Bytes} {k l : Channel} → Puts h rs k → Put k r l → Puts h (rs ++ (r ∷ [])) l

-- What sending does: records of the front of xs are put, one after another, until none of the edits is left or the
-- channel cannot hold the next record. The edits `rest` are left.
pub record Sent {X : Type 0} (format : Format X) (h : Channel) (xs : List X) (k : Channel) (rs : List Bytes) (rest : List X) : Type 0 where
  pub cut : Cut format xs rs rest
  pub puts : Puts h rs k
  pub ends : (rest ≡ []) ⊎ (k.can_hold (length (format.packs rest).0) ≡ false)

-- a channel in use: the format of its records, and what it holds
pub record Line (X : Type 0) : Type 0 where
  pub format : Format X
  pub holds : Channel
