-- Of which moves a schedule is made that another became.
use Rattle.std.specs.Prelude.{◌≡◌, ℕ, zero, suc, ◌<◌, ◌==◌, Bool, true, if◌then◌else◌, ◌⊎◌, List, [], ◌∷◌, ◌++◌, Option, Some, None}
use Rattle.schedule.specs.declared.lines.line.Line.{Line}
use Rattle.schedule.specs.declared.lines.line.Line.TheVariants.{Start, Step, Crash, CrashAll}
use Rattle.schedule.specs.Schedules.{Scheduled}

-- the first list is the second with some elements left out
abbrev pub IsSubsequence : {A : Type 0} → List A → List A → Type 0
IsSubsequence [] ys = Unit {0}
IsSubsequence (x ∷ xs) [] = ⊥
IsSubsequence (x ∷ xs) (y ∷ ys) = (x ≡ y) × IsSubsequence xs ys ⊎ IsSubsequence (x ∷ xs) ys

-- the process of a line, if it is one of a single process
abbrev pub process_in : Line → Option ℕ
process_in (Start p call) = Some p
process_in (Step p n) = Some p
process_in (Crash p) = Some p
process_in CrashAll = None

-- a line of this process or of all is one of process p
abbrev pub is_process : ℕ → Option ℕ → Bool
is_process p (Some q) = p == q
is_process p None = true

-- a line is one of process p: a crash of all is one of each
abbrev pub is_line_of : ℕ → Line → Bool
is_line_of p line = is_process p (process_in line)

-- this many single steps of process p
abbrev pub steps_by : ℕ → ℕ → List Line
steps_by p zero = []
steps_by p (suc n) = Step p 1 ∷ steps_by p n

-- the moves of a line: each of its steps is one
abbrev pub moves_in : Line → List Line
moves_in (Start p call) = Start p call ∷ []
moves_in (Step p n) = steps_by p n
moves_in (Crash p) = Crash p ∷ []
moves_in CrashAll = CrashAll ∷ []

-- the moves of a line, if it is one of process p
abbrev pub moves_by : ℕ → Line → List Line
moves_by p line = if is_line_of p line then moves_in line else []

-- the moves of process p in these lines
abbrev pub moves_of : ℕ → List Line → List Line
moves_of p [] = []
moves_of p (line ∷ lines) = moves_by p line ++ moves_of p lines

-- each process makes moves that it made before, in the same order, and no others
abbrev pub IsMadeOf : Scheduled → Scheduled → Type 0
IsMadeOf before now = (p : ℕ) → p < before.procs → IsSubsequence (moves_of p now.lines) (moves_of p before.lines)

-- this many steps of process p, and then its moves in these lines
abbrev pub moves_left : ℕ → ℕ → List Line → List Line
moves_left p steps lines = steps_by p steps ++ moves_of p lines
