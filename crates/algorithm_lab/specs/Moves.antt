-- The runs of a schedule on the proved lock and on the text of an algorithm: what each move says, and what is left.
use Rattle.std.specs.Prelude.{◌≡◌, ℕ, ◌<◌, nat_lt, if◌then◌else◌, List, [], ◌∷◌, ◌++◌, Option, Some, None, option_map, Result, Ok, Err}
use Rattle.rmecore.specs.Machine.{access, kind_of, word_of, carried_value, answer}
use Rattle.rmecore.specs.Place.{Starts, Crashes, Steps}
use Rattle.rmecore.specs.Refused.{start_refusal, number_of}
use Rattle.rmecore.specs.World.{World, read, after, step_deed}
use Rattle.rmecore.specs.declared.access.Access.{Access}
use Rattle.rmecore.specs.declared.core_call.CoreCall.{CoreCall}
use Rattle.rmecore.specs.declared.core_call.CoreCall.TheVariants as cores
use Rattle.rmecore.specs.declared.core_done.CoreDone.{CoreDone}
use Rattle.rmecore.specs.declared.core_done.CoreDone.TheVariants.{In, InAgain, Spent, Out, Found as Finds, Withdrawn}
use Rattle.rmecore.specs.declared.found.Found.TheVariants.{Idle, Left, Doorway, Waiting, Inside}
use Rattle.rmecore.specs.declared.outer.Outer.{Outer}
use Rattle.rmecore.specs.declared.outer.Outer.TheVariants as outers
use Rattle.rmecore.specs.declared.refusal.Refusal.{Refusal}
use Rattle.rmecore.specs.declared.refusal.Refusal.TheVariants.{NoSuchProcess, NothingToDo}
use Rattle.algorithms.specs.Steps.{word_at}
use Rattle.algorithms.specs.declared.algorithm.AlgorithmCall.{AlgorithmCall}
use Rattle.algorithms.specs.declared.algorithm.AlgorithmCall.TheVariants as calls
use Rattle.algorithm_lab.specs.Monitors.{MonitorState, EventPart, answer_reports, part_of_start, start_on, step_on, crash_on}
use Rattle.algorithm_lab.specs.Refusals.{number_of as number_of_run}
use Rattle.algorithm_lab.specs.declared.run_refusal.RunRefusal.{RunRefusal}
use Rattle.algorithm_lab.specs.declared.run_report.TextReport.{TextReport}
use Rattle.algorithm_lab.specs.declared.run_report.TextReport.TheVariants.{Did}

-- a move of a schedule
pub data ScheduleMove : Type 0 where
  Start : (p : ℕ) → (call : AlgorithmCall) → ScheduleMove
  Step : (p : ℕ) → ScheduleMove
  Crash : (p : ℕ) → ScheduleMove

-- what a move says: its deeds and the answer of the call that it ends, or the number of its refusal
pub data Said : Type 0 where
  Tells : (reports : List TextReport) → Said
  Refuses : (number : Option ℕ) → Said

-- what a move says, and what it leaves. A refused move changes nothing
pub record MoveResult (W : Type 0) : Type 0 where
  pub said : Said
  pub left : W

-- ---- a run of any machine

abbrev pub all_said : {W : Type 0} → (W → ScheduleMove → MoveResult W) → W → List ScheduleMove → List Said
all_said make w [] = []
all_said make w (move ∷ moves) = (make w move).said ∷ all_said make (make w move).left moves

abbrev pub left_by : {W : Type 0} → (W → ScheduleMove → MoveResult W) → W → List ScheduleMove → W
left_by make w [] = w
left_by make w (move ∷ moves) = left_by make (make w move).left moves

-- ---- the lock

abbrev pub core_call : AlgorithmCall → CoreCall
core_call calls.Lock = cores.Lock
core_call calls.Unlock = cores.Unlock
core_call calls.Recover = cores.Recover
core_call calls.Withdraw = cores.Withdraw

-- the place of an answer among those of the text
abbrev pub answer_number : CoreDone → ℕ
answer_number InAgain = 0
answer_number Spent = 1
answer_number In = 2
answer_number Out = 3
answer_number (Finds Doorway) = 4
answer_number (Finds Waiting) = 5
answer_number (Finds Inside) = 6
answer_number (Finds Idle) = 7
answer_number (Finds Left) = 8
answer_number Withdrawn = 9

abbrev pub deed_report : Option Outer → List TextReport
deed_report None = []
deed_report (Some deed) = Did deed ∷ []

abbrev pub refused_outcome : World → Refusal → MoveResult World
refused_outcome w refusal = record { said = Refuses (number_of refusal); left = w }

abbrev pub unless : Option Refusal → World → MoveResult World → MoveResult World
unless None w outcome = outcome
unless (Some refusal) w outcome = refused_outcome w refusal

-- a move of a process that is there
abbrev pub if_there : ℕ → World → ℕ → MoveResult World → MoveResult World
if_there n w p outcome = if nat_lt p n then outcome else refused_outcome w NoSuchProcess

abbrev pub reports_of : World → ℕ → Access → ℕ → List TextReport
reports_of w p a v = deed_report (step_deed p (w.places p) (kind_of a) v) ++ answer_reports p (option_map answer_number (answer (w.places p) (kind_of a) v))

-- a step with its value: the one that is read, or the one that is stored
abbrev pub step_outcome : ℕ → ℕ → World → ℕ → Access → ℕ → MoveResult World
step_outcome n limit w p a v = record { said = Tells (reports_of w p a v); left = after n limit w (Steps p (kind_of a) (word_of a) v) }

-- the next step of a process. Where "Step" leaves a choice of words, the first is taken
abbrev pub step_by : ℕ → ℕ → World → ℕ → Option Access → MoveResult World
step_by n limit w p None = refused_outcome w NothingToDo
step_by n limit w p (Some a) = step_outcome n limit w p a (carried_value a (read w.words (word_of a)))

-- a move of the lock for n processes
abbrev pub lock_move : ℕ → ℕ → World → ScheduleMove → MoveResult World
lock_move n limit w (Start p call) =
    if_there n w p (unless (start_refusal (w.places p) (core_call call)) w (record { said = Tells []; left = after n limit w (Starts p (core_call call)) }))
lock_move n limit w (Step p) = if_there n w p (step_by n limit w p (access limit p (w.places p)))
lock_move n limit w (Crash p) = if_there n w p (record { said = Tells (Did (outers.Crash p) ∷ []); left = after n limit w (Crashes p) })

-- ---- the text

abbrev pub moved_by : MonitorState → Result EventPart RunRefusal → MoveResult MonitorState
moved_by m (Ok part) = record { said = Tells part.reports; left = part.left }
moved_by m (Err e) = record { said = Refuses (number_of_run e); left = m }

-- a move of the algorithm in the laboratory
abbrev pub text_move : MonitorState → ScheduleMove → MoveResult MonitorState
text_move m (Start p call) = moved_by m (part_of_start (start_on m p call))
text_move m (Step p) = moved_by m (step_on m p)
text_move m (Crash p) = moved_by m (crash_on m p)

-- the shared words of the text are the lock words of each process
abbrev pub SameWords : ℕ → World → MonitorState → Type 0
SameWords n w m = (p : ℕ) → p < n
    → (word_at m.world.words (record { declaration = 0; index = p }) ≡ Some (w.words p).choosing)
    × (word_at m.world.words (record { declaration = 1; index = p }) ≡ Some (w.words p).number)
    × (word_at m.world.words (record { declaration = 2; index = p }) ≡ Some (w.words p).inside)
