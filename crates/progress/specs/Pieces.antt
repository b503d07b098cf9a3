-- Rounds, as asynchronous time is measured: a run is cut into pieces, and in each piece whoever owes a step takes one.
use Rattle.std.specs.Prelude.{◌≡◌, ◌⊎◌, ℕ, ◌<◌, Bool, true, false, not, ◌&&◌, ◌||◌, ◌==◌, List, [], ◌∷◌, ◌++◌, All}
use Rattle.rmecore.specs.HomeState.{IsFirstInLine}
use Rattle.rmecore.specs.Paid.{is_glance}
use Rattle.rmecore.specs.Place.{Event, Starts, Crashes, Steps, process}
use Rattle.rmecore.specs.World.{World, Run, final}
use Rattle.rmecore.specs.declared.core_call.CoreCall.TheVariants.{Recover, Withdraw}

-- q owes a step: it is in its doorway, or it has the least pair of all that hold a number. Nobody else has to move
abbrev pub Owes : ℕ → World → ℕ → Type 0
Owes n w q = (0 < (w.words q).choosing) ⊎ ((0 < (w.words q).number) × IsFirstInLine n w q)

-- a start, or a step that is no glance
abbrev pub is_move : Event → Bool
is_move (Starts p call) = true
is_move (Crashes p) = false
is_move (Steps p kind word v) = not (is_glance kind)

-- q moves in these events
abbrev pub moves : ℕ → List Event → Bool
moves q [] = false
moves q (e ∷ es) = ((process e == q) && is_move e) || moves q es

-- the pieces, one after another
abbrev pub concatenation : {A : Type 0} → List (List A) → List A
concatenation [] = []
concatenation (piece ∷ pieces) = piece ++ concatenation pieces

-- in each piece, each process that owes a step at the beginning of the piece moves
abbrev pub Full : ℕ → ℕ → World → List (List Event) → Type 0
Full n limit w [] = Unit {0}
Full n limit w (piece ∷ pieces) = ((q : ℕ) → q < n → Owes n w q → moves q piece ≡ true) × Full n limit (final n limit w piece) pieces

-- neither a crash, nor the start of a recovery or a withdraw
abbrev pub IsOrdinary : Event → Type 0
IsOrdinary (Crashes p) = ⊥
IsOrdinary (Starts p Recover) = ⊥
IsOrdinary (Starts p Withdraw) = ⊥
IsOrdinary _ = Unit {0}

-- a piece of ordinary events, in which each of n processes moves, so that it is full
pub record HasFullPiece (n limit : ℕ) (w : World) : Type 0 where
  pub piece : List Event
  pub run : Run n limit w piece
  pub ordinary : All IsOrdinary piece
  pub all_move : (q : ℕ) → q < n → moves q piece ≡ true
