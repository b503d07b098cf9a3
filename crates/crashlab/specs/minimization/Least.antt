-- A schedule that goes wrong, minimized. Which schedules go wrong is a parameter: those whose verdict on some world is against
-- some number.
use Rattle.std.specs.Prelude.{◌≡◌, ℕ, ◌+◌, ◌<◌, ◌≤◌, List, [], ◌∷◌, ◌++◌, take, drop, length, slice_get, Some}
use Rattle.schedule.specs.declared.lines.line.Line.{Line}
use Rattle.schedule.specs.declared.lines.line.Line.TheVariants.{Start, Step, Crash, CrashAll}
use Rattle.schedule.specs.Schedules.{Scheduled, head_of}
use Rattle.crashlab.specs.minimization.MadeOf.{IsMadeOf}

-- line i replaced by these lines
abbrev pub with_lines_at : ℕ → List Line → Scheduled → Scheduled
with_lines_at i new schedule = record schedule { lines = take i schedule.lines ++ (new ++ drop (i + 1) schedule.lines) }

-- line i asks for more than one step, and this line for one less
pub record IsLowered (lines : List Line) (i : ℕ) (less : Line) : Type 0 where
  pub process : ℕ
  pub count : ℕ
  pub some : 1 ≤ count
  pub was : slice_get lines i ≡ Some (Step process (count + 1))
  pub is : less ≡ Step process count

-- the schedule does not go wrong
abbrev pub Loses : (Scheduled → Type 0) → Scheduled → Type 0
Loses Wrong schedule = Wrong schedule → ⊥

-- line i can't be left out, nor its count be lowered by one, or the schedule goes wrong no more
pub record IsNeeded (Wrong : Scheduled → Type 0) (schedule : Scheduled) (i : ℕ) : Type 0 where
  pub line : Loses Wrong (with_lines_at i [] schedule)
  pub count : (less : Line) → IsLowered schedule.lines i less → Loses Wrong (with_lines_at i (less ∷ []) schedule)

-- each line is needed, with its count
abbrev pub IsMinimal : (Scheduled → Type 0) → Scheduled → Type 0
IsMinimal Wrong schedule = (i : ℕ) → i < length schedule.lines → IsNeeded Wrong schedule i

-- the number of steps that the lines ask for
abbrev pub steps_of : Line → ℕ
steps_of (Start p call) = 0
steps_of (Step p n) = n
steps_of (Crash p) = 0
steps_of CrashAll = 0

-- the number of steps that lines ask for
abbrev pub steps_asked : List Line → ℕ
steps_asked [] = 0
steps_asked (line ∷ lines) = steps_of line + steps_asked lines

-- the same sizes, no more lines and no more steps
pub record IsNoLonger (before now : Scheduled) : Type 0 where
  pub head : head_of now ≡ head_of before
  pub lines : length now.lines ≤ length before.lines
  pub steps : steps_asked now.lines ≤ steps_asked before.lines

-- the result of minimizing a schedule that goes wrong
pub record IsShrunk (Wrong : Scheduled → Type 0) (before now : Scheduled) : Type 0 where
  pub shorter : IsNoLonger before now
  pub made : IsMadeOf before now
  pub wrong : Wrong now
  pub least : IsMinimal Wrong now

-- the schedule with other lines
abbrev pub with_lines : Scheduled → List Line → Scheduled
with_lines schedule lines = record schedule { lines = lines }

-- the number of lines and of steps
abbrev pub size : Scheduled → ℕ
size schedule = length schedule.lines + steps_asked schedule.lines

-- no longer, made of the same moves, and it goes wrong
pub record IsLike (Wrong : Scheduled → Type 0) (before now : Scheduled) : Type 0 where
  pub shorter : IsNoLonger before now
  pub made : IsMadeOf before now
  pub wrong : Wrong now

-- shorter by a line or a step, and made of the same moves
pub record IsShorter (before now : Scheduled) : Type 0 where
  pub no_longer : IsNoLonger before now
  pub made : IsMadeOf before now
  pub smaller : size now < size before

-- shorter, and it goes wrong
pub record IsSmaller (Wrong : Scheduled → Type 0) (before now : Scheduled) : Type 0 where
  pub shorter : IsShorter before now
  pub wrong : Wrong now
