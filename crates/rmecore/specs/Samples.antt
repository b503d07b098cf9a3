-- Three runs written out.
use Rattle.std.specs.Prelude.{List, [], ◌∷◌, ◌++◌, ℕ}
use Rattle.rmecore.specs.Place.{Event, Starts, Crashes, Steps}
use Rattle.rmecore.specs.declared.core_call.CoreCall.TheVariants.{Lock, Unlock, Withdraw}
use Rattle.rmecore.specs.declared.kind.Kind.TheVariants.{Reread as Rereads, Open as Opens, Peek as Peeks, Take as Takes, Shut as Shuts, Look as Looks, Weigh as Weighs, Mark as Marks, Drop as Drops}
use Rattle.rmecore.specs.declared.word.Word.TheVariants.{Choosing as ChoosingOf, Number as NumberOf, Inside as InsideOf}

-- process p rereads its own words, which are c, k and i
abbrev pub rereads : ℕ → ℕ → ℕ → ℕ → List Event
rereads p c k i = Steps p Rereads (ChoosingOf p) c ∷ Steps p Rereads (NumberOf p) k ∷ Steps p Rereads (InsideOf p) i ∷ []

-- both take number 1; 0 enters and crashes inside; 1 waits; 0 enters again and leaves; 1 enters
abbrev pub two : List Event
two =
    (Starts 0 Lock ∷ rereads 0 0 0 0 ++ Steps 0 Opens (ChoosingOf 0) 1 ∷ Steps 0 Peeks (NumberOf 1) 0 ∷ [])
    ++ (Starts 1 Lock ∷ rereads 1 0 0 0 ++ Steps 1 Opens (ChoosingOf 1) 1 ∷ Steps 1 Peeks (NumberOf 0) 0 ∷ Steps 1 Takes (NumberOf 1) 1 ∷ Steps 1 Shuts (ChoosingOf 1) 0 ∷ Steps 1 Looks (ChoosingOf 0) 1 ∷ [])
    ++ (Steps 0 Takes (NumberOf 0) 1 ∷ Steps 0 Shuts (ChoosingOf 0) 0 ∷ Steps 0 Looks (ChoosingOf 1) 0 ∷ Steps 0 Weighs (NumberOf 1) 1 ∷ Steps 0 Marks (InsideOf 0) 1 ∷ Crashes 0 ∷ [])
    ++ (Steps 1 Looks (ChoosingOf 0) 0 ∷ Steps 1 Weighs (NumberOf 0) 1 ∷ [])
    ++ (Starts 0 Lock ∷ rereads 0 0 1 1 ++ Starts 0 Unlock ∷ Steps 0 Drops (NumberOf 0) 0 ∷ [])
    ++ (Steps 1 Weighs (NumberOf 0) 0 ∷ Steps 1 Marks (InsideOf 1) 1 ∷ [])

-- 0 is first in line and withdraws, so 1 enters
abbrev pub giving_up : List Event
giving_up =
    (Starts 0 Lock ∷ rereads 0 0 0 0 ++ Steps 0 Opens (ChoosingOf 0) 1 ∷ Steps 0 Peeks (NumberOf 1) 0 ∷ Steps 0 Takes (NumberOf 0) 1 ∷ Steps 0 Shuts (ChoosingOf 0) 0 ∷ [])
    ++ (Starts 1 Lock ∷ rereads 1 0 0 0 ++ Steps 1 Opens (ChoosingOf 1) 1 ∷ Steps 1 Peeks (NumberOf 0) 1 ∷ Steps 1 Takes (NumberOf 1) 2 ∷ Steps 1 Shuts (ChoosingOf 1) 0 ∷ [])
    ++ (Steps 1 Looks (ChoosingOf 0) 0 ∷ Steps 1 Weighs (NumberOf 0) 1 ∷ Starts 0 Withdraw ∷ Steps 0 Drops (NumberOf 0) 0 ∷ Steps 1 Weighs (NumberOf 0) 0 ∷ Steps 1 Marks (InsideOf 1) 1 ∷ [])

-- 1 waits with the least pair and nobody is inside, but the doorway of 0 has read the word of 1 before: 0 takes a lesser pair
abbrev pub missed_in_a_doorway : List Event
missed_in_a_doorway =
    (Starts 2 Lock ∷ rereads 2 0 0 0 ++ Steps 2 Opens (ChoosingOf 2) 1 ∷ Steps 2 Peeks (NumberOf 0) 0 ∷ Steps 2 Peeks (NumberOf 1) 0 ∷ Steps 2 Takes (NumberOf 2) 1 ∷ Steps 2 Shuts (ChoosingOf 2) 0 ∷ Steps 2 Looks (ChoosingOf 0) 0 ∷ Steps 2 Weighs (NumberOf 0) 0 ∷ [])
    ++ (Starts 0 Lock ∷ rereads 0 0 0 0 ++ Steps 0 Opens (ChoosingOf 0) 1 ∷ Steps 0 Peeks (NumberOf 1) 0 ∷ [])
    ++ (Starts 1 Lock ∷ rereads 1 0 0 0 ++ Steps 1 Opens (ChoosingOf 1) 1 ∷ Steps 1 Peeks (NumberOf 0) 0 ∷ Steps 1 Peeks (NumberOf 2) 1 ∷ Steps 1 Takes (NumberOf 1) 2 ∷ Steps 1 Shuts (ChoosingOf 1) 0 ∷ [])
    ++ (Steps 2 Looks (ChoosingOf 1) 0 ∷ Steps 2 Weighs (NumberOf 1) 2 ∷ Steps 2 Marks (InsideOf 2) 1 ∷ Starts 2 Unlock ∷ Steps 2 Drops (NumberOf 2) 0 ∷ Steps 2 Marks (InsideOf 2) 0 ∷ [])
    ++ (Steps 0 Peeks (NumberOf 2) 0 ∷ Steps 0 Takes (NumberOf 0) 1 ∷ Steps 0 Shuts (ChoosingOf 0) 0 ∷ Steps 0 Looks (ChoosingOf 1) 0 ∷ Steps 0 Weighs (NumberOf 1) 2 ∷ Steps 0 Looks (ChoosingOf 2) 0 ∷ Steps 0 Weighs (NumberOf 2) 0 ∷ Steps 0 Marks (InsideOf 0) 1 ∷ [])
