-- Bytes that are read, and bytes that are written, in pieces.
use Rattle.std.specs.Prelude.{◌≡◌, ℕ, Bool, List, [], ◌++◌, Option, IsSome}

-- what was read of a source: the bytes that it has given, whether it has reached its end, and how often it failed,
-- at most 2^64 - 1
pub record Reading : Type 0 where
  pub given : List ℕ
  pub ended : Bool
  pub failures : ℕ

-- all of these bytes but the rest were written
pub record WritesFront (old new bytes rest : List ℕ) : Type 0 where
  pub front : List ℕ
  pub written : new ≡ old ++ front
  pub left : bytes ≡ front ++ rest

-- what a sink has taken, and how often it failed, at most 2^64 - 1
pub record Tape : Type 0 where
  pub taken : List ℕ
  pub failures : ℕ

-- the bytes that every writer of this type holds are known (`contents` of std's `Write`)
abbrev pub AreKnown : {W : Type 0} → (W → Option (List ℕ)) → Type 0
AreKnown {W} contents = (w : W) → IsSome (contents w)

-- all of the text was written
pub record Writes (before now : Tape) (text : List ℕ) : Type 0 where
  pub taken : now.taken ≡ before.taken ++ text
  pub fine : now.failures ≡ before.failures

-- a beginning of the text was written
abbrev pub Begins : List ℕ → List ℕ → List ℕ → Type 0
Begins old new text = (rest : List ℕ) × WritesFront old new text rest

-- a beginning of the text was written, and not all of it
abbrev pub BreaksOff : List ℕ → List ℕ → List ℕ → Type 0
BreaksOff old new text = (rest : List ℕ) × WritesFront old new text rest × (rest ≡ [] → ⊥)
