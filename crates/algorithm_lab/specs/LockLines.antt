-- The lines of a schedule on the lock alone, and what its run and the run of its text have in common.
use Rattle.std.specs.Prelude.{◌≡◌, ℕ, ◌≤◌, nat_lt, if◌then◌else◌, List, [], ◌∷◌, ◌++◌, codes, map, replicate, slice_index_or, Option, Some, None, IsSome, option_map}
use Rattle.std.specs.List.{range_with_len}
use Rattle.rmecore.specs.Machine.{access, kind_of, word_of, carried_value, answer}
use Rattle.rmecore.specs.Place.{Place, Starts, Crashes, Steps}
use Rattle.rmecore.specs.Refused.{start_refusal, number_of}
use Rattle.rmecore.specs.World.{World, read, after, step_deed}
use Rattle.rmecore.specs.declared.access.Access.{Access}
use Rattle.rmecore.specs.declared.core_done.CoreDone.{CoreDone}
use Rattle.rmecore.specs.declared.core_done.CoreDone.TheVariants.{In, InAgain, Spent, Out, Found as Finds, Withdrawn}
use Rattle.rmecore.specs.declared.found.Found.TheVariants.{Idle, Left, Doorway, Waiting, Inside}
use Rattle.rmecore.specs.declared.outer.Outer.TheVariants as outers
use Rattle.rmecore.specs.declared.own.Own.{Own}
use Rattle.rmecore.specs.declared.refusal.Refusal.{Refusal}
use Rattle.rmecore.specs.declared.refusal.Refusal.TheVariants.{NoSuchProcess, NothingToDo, BadShape}
use Rattle.redomail.specs.Layout.{size}
use Rattle.redomail.specs.declared.deed.Deed.TheVariants.{Outer}
use Rattle.rmeworld.specs.Behaviours.{Behaviour}
use Rattle.rmeworld.specs.Replayed.{no_step}
use Rattle.rmeworld.specs.declared.answer.Answer.{Answer}
use Rattle.rmeworld.specs.declared.answer.Answer.TheVariants as answers
use Rattle.rmeworld.specs.declared.image.Image.{Image}
use Rattle.rmeworld.specs.declared.stepped.Stepped.{Stepped}
use Rattle.schedule.specs.Reports.{reports_text as lock_text}
use Rattle.schedule.specs.Words.{spaced_numbers}
use Rattle.schedule.specs.Runs.{Part as LockRun, LockReport, Did as LockDid, Answered as LockAnswered}
use Rattle.schedule.specs.declared.lines.line.Line.{Line}
use Rattle.schedule.specs.declared.lines.line.Line.TheVariants as lines
use Rattle.algorithms.specs.declared.algorithm.Algorithm.{Algorithm}
use Rattle.algorithms.specs.declared.algorithm.AlgorithmCall.{AlgorithmCall}
use Rattle.algorithm_lab.specs.Moves.{core_call, SameWords}
use Rattle.algorithm_lab.specs.Refusals.{number_of as number_of_run}
use Rattle.algorithm_lab.specs.Reports.{reports_text, words_text}
use Rattle.algorithm_lab.specs.Runs.{AlgorithmRun, call_of}
use Rattle.algorithm_lab.specs.declared.run_refusal.RunRefusal.{RunRefusal}
use Rattle.algorithm_lab.specs.declared.run_report.TextReport.{TextReport}
use Rattle.algorithm_lab.specs.declared.run_report.TextReport.TheVariants.{Did, Answered, Exceeded, Broken}

-- a line of the lock alone: a start of one of its calls, one step or more, a crash, or a crash of all
abbrev pub IsOfLock : Line → Type 0
IsOfLock (lines.Start p call) = IsSome (call_of call)
IsOfLock (lines.Step p steps) = 1 ≤ steps
IsOfLock (lines.Crash p) = Unit {0}
IsOfLock lines.CrashAll = Unit {0}

-- ---- answers

-- what a call of the lock answers
abbrev pub answer_of : CoreDone → Answer
answer_of In = answers.Clean
answer_of InAgain = answers.OwnerDied
answer_of Spent = answers.NumbersSpent
answer_of Out = answers.Unlocked
answer_of (Finds found) = answers.Found found
answer_of Withdrawn = answers.Withdrawn

-- the answers of the lock, in the order of the text's
abbrev pub dones : List CoreDone
dones =
    InAgain
    ∷ Spent
    ∷ In
    ∷ Out
    ∷ Finds Doorway
    ∷ Finds Waiting
    ∷ Finds Inside
    ∷ Finds Idle
    ∷ Finds Left
    ∷ Withdrawn
    ∷ []

-- what the lock reports where the text reports this. The text bounds no own steps and claims nothing, so that it reports no breach
abbrev pub lock_reported : TextReport → LockReport
lock_reported (Did outer) = LockDid (Outer outer)
lock_reported (Answered p number) = LockAnswered p (answer_of (slice_index_or dones number Withdrawn))
lock_reported (Exceeded p section) = LockAnswered p (answer_of Withdrawn)
lock_reported (Broken line) = LockAnswered line (answer_of Withdrawn)

-- ---- the lock as a machine that plays schedules

-- a call that is not the lock's is refused; by which number is of no concern here
abbrev pub call_refusal : Place → Option AlgorithmCall → Option Refusal
call_refusal place None = Some BadShape
call_refusal place (Some call) = start_refusal place (core_call call)

abbrev pub lock_world_after_start : ℕ → ℕ → World → ℕ → Option AlgorithmCall → World
lock_world_after_start n limit w p None = w
lock_world_after_start n limit w p (Some call) = after n limit w (Starts p (core_call call))

-- without an access there is nothing to do
abbrev pub step_refusal : Option Access → Option Refusal
step_refusal None = Some NothingToDo
step_refusal (Some a) = None

-- the value that an access reads or writes
abbrev pub value_of : World → Access → ℕ
value_of w a = carried_value a (read w.words (word_of a))

abbrev pub lock_step_report : World → ℕ → Option Access → Stepped
lock_step_report w p None = no_step
lock_step_report w p (Some a) =
    let outer = step_deed p (w.places p) (kind_of a) (value_of w a) in
    let done = answer (w.places p) (kind_of a) (value_of w a) in
    record {
      happened = record { kind = kind_of a; word = word_of a; value = value_of w a; outer = outer; done = done };
      deed = option_map Outer outer;
      answer = option_map answer_of done;
    }

abbrev pub lock_world_after_step : ℕ → ℕ → World → ℕ → Option Access → World
lock_world_after_step n limit w p None = w
lock_world_after_step n limit w p (Some a) = after n limit w (Steps p (kind_of a) (word_of a) (value_of w a))

-- a refusal of a process that is there
abbrev pub if_there : ℕ → ℕ → Option Refusal → Option Refusal
if_there n p refusal = if nat_lt p n then refusal else Some NoSuchProcess

-- what f gives of each of n processes
abbrev pub of_each : {A : Type 0} → ℕ → (ℕ → A) → List A
of_each n f = map f (range_with_len 0 n)

-- the lock words, beside a mailbox for one message in which there is none
abbrev pub image_of : ℕ → ℕ → World → Image
image_of n limit w = record { cap = 1; cells = replicate (size (record { procs = n; cap = 1; width = 1 })) 0; limit = limit; lock = of_each n w.words; version = 2; width = 1 }

-- the lock for n processes: each call is its steps on the lock words, and nothing more. The lock of a whole world also looks
-- whether it is ruined, so it takes more steps in some calls
abbrev pub lock_behaviour : ℕ → ℕ → Behaviour World
lock_behaviour n limit =
    record {
      start_refusal = λ w p call. if_there n p (call_refusal (w.places p) (call_of call));
      started = λ w p call. lock_world_after_start n limit w p (call_of call);
      advance_refusal = λ w p. if_there n p (step_refusal (access limit p (w.places p)));
      stepped = λ w p. lock_step_report w p (access limit p (w.places p));
      advanced = λ w p. lock_world_after_step n limit w p (access limit p (w.places p));
      crash_refusal = λ w p. if_there n p None;
      crash_deed = λ w p. Outer (outers.Crash p);
      crashed = λ w p. after n limit w (Crashes p);
      image_of = image_of n limit;
    }

-- ---- both runs

-- the line that is refused, and the number of its refusal
abbrev pub refusal_with_number : {R : Type 0} → (R → Option ℕ) → ℕ × R → ℕ × Option ℕ
refusal_with_number number refused = (refused.0, number refused.1)

-- the line `words NAME V..`
abbrev pub word_line : List ℕ → List ℕ → List ℕ
word_line name row = codes "words " ++ name ++ spaced_numbers row ++ 10 ∷ []

-- the lines of the lock words, a word of all processes in each
abbrev pub words_lines : ℕ → (ℕ → Own) → List ℕ
words_lines n words =
    word_line (codes "choosing") (of_each n (λ p. (words p).choosing))
    ++ word_line (codes "number") (of_each n (λ p. (words p).number))
    ++ word_line (codes "inside") (of_each n (λ p. (words p).inside))

-- The run of a text and that of the lock: the same deeds and answers, in lines of the same bytes; the same line is refused, by the
-- same number; and the shared words left are the lock words left, so the text's report has their lines.
pub record SameRun (a : Algorithm) (n : ℕ) (text : AlgorithmRun (ℕ × RunRefusal)) (lock : LockRun World (ℕ × Refusal)) : Type 0 where
  pub reports : map lock_reported text.reports ≡ lock.reports
  pub report : reports_text a text.reports ≡ lock_text lock.reports
  pub refused : option_map (refusal_with_number number_of_run) text.refused ≡ option_map (refusal_with_number number_of) lock.refused
  pub words : SameWords n lock.left text.left
  pub last_lines : words_text n text.left.world.limit text.left.world.words 0 a.declarations.items ≡ words_lines n lock.left.words
