-- What an execution of the model reports, and the run of a schedule on a world as such an execution
-- (the specification's Run).
use Rattle.std.specs.Prelude.{◌≡◌, ℕ, ◌-◌, ◌<◌, ◌⊎◌, List, [], ◌∷◌, ◌++◌, All, length, map, take, Option, Some, None}
use Rattle.std.specs.List.{range_with_len}
use Rattle.rmecore.specs.declared.refusal.Refusal.{Refusal}
use Rattle.redomail.specs.declared.layout.Layout.{Layout}
use Rattle.rmeworld.specs.CallWalk.{answer_to}
use Rattle.rmecore.specs.Simulated.{own_at}
use Rattle.redomail.specs.Layout.{words_of}
use Rattle.rmeworld.specs.Reached.{crashed_global_state, IsImageOf}
use Rattle.rmeworld.specs.Replayed.{image_of}
use Rattle.rmeworld.specs.ProcessState.{WorldEvent, Begins, Falls, Moves, who}
use Rattle.rmeworld.specs.World.{GlobalState, at_first, state_after_event, Execution, last_global_state, event_deeds, deeds}
use Rattle.rmeworld.specs.WorldState.{WorldState}
use Rattle.rmeworld.specs.declared.answer.Answer.{Answer}
use Rattle.rmeworld.specs.declared.image.Image.{Image}
use Rattle.schedule.specs.declared.lines.line.Line.{Line}
use Rattle.schedule.specs.declared.lines.line.Line.TheVariants.{Start, Step, Crash, CrashAll}
use Rattle.schedule.specs.Runs.{LockReport, Did, Answered, answer_reports, Part, deeds_of}

-- where a world begins: new, with all words 0, or made of an image, with its words and every process crashed
abbrev pub first_global_state : Option Image → GlobalState
first_global_state None = at_first
first_global_state (Some i) = crashed_global_state (length i.lock) (own_at i.lock) (words_of i.cells)

-- an event reports its deed, and the answer where it ends its call
abbrev pub reported_at : Layout → GlobalState → WorldEvent → List LockReport
reported_at l w e = map Did (event_deeds l w e) ++ answer_reports (who e) (answer_to (w.process_states (who e)) e)

-- what the events report, from this global state on
abbrev pub reports_in : Layout → ℕ → GlobalState → List WorldEvent → List LockReport
reports_in l limit w [] = []
reports_in l limit w (e ∷ es) = reported_at l w e ++ reports_in l limit (state_after_event l limit w e) es

-- a load or a store of p
abbrev pub IsAccessOf : ℕ → WorldEvent → Type 0
IsAccessOf p (Moves q kind word v) = q ≡ p
IsAccessOf p e = ⊥

-- what these events report ends with the answer of p's call
abbrev pub EndsWithAnswer : Layout → ℕ → ℕ → GlobalState → List WorldEvent → Type 0
EndsWithAnswer l limit p w es = (answer : Answer) × ((before : List LockReport) × (reports_in l limit w es ≡ before ++ Answered p answer ∷ []))

-- the events of one line: one start of the call, one crash, a crash of each process in a row, or as many steps of the process
-- as the line says. They are fewer only where the last one answers the call
abbrev pub IsLinePlayed : Layout → ℕ → GlobalState → Line → List WorldEvent → Type 0
IsLinePlayed l limit w (Start p call) es = es ≡ Begins p call ∷ []
IsLinePlayed l limit w (Step p n) es = All (IsAccessOf p) es × ((length es ≡ n) ⊎ ((length es < n) × EndsWithAnswer l limit p w es))
IsLinePlayed l limit w (Crash p) es = es ≡ Falls p ∷ []
IsLinePlayed l limit w CrashAll es = es ≡ map Falls (range_with_len 0 l.procs)

-- the events are those of the lines, line by line
abbrev pub ArePlayed : Layout → ℕ → GlobalState → List Line → List WorldEvent → Type 0
ArePlayed l limit w [] es = es ≡ []
ArePlayed l limit w (line ∷ lines) es =
    (now : List WorldEvent) × ((later : List WorldEvent) × (es ≡ now ++ later) × IsLinePlayed l limit w line now
    × ArePlayed l limit (last_global_state l limit w now) lines later)

-- the lines that are played, where the first has this number: all of them, or those before the one that is refused
abbrev pub lines_played : ℕ → Option (ℕ × Refusal) → List Line → List Line
lines_played first None lines = lines
lines_played first (Some refused) lines = take (refused.0 - first) lines

-- Some execution, from the first state of a new world or of one made of this image, has just the starts, steps and crashes of
-- the lines that are played, reports just what the run reports, has just its deeds, and ends with just the words that the run
-- leaves. The first line after the header has the number 2.
pub record IsExecution (l : Layout) (limit : ℕ) (origin : Option Image) (lines : List Line) (run : Part WorldState (ℕ × Refusal)) : Type 0 where
  pub execution : List WorldEvent
  pub may : Execution l limit (first_global_state origin) execution
  pub events : ArePlayed l limit (first_global_state origin) (lines_played 2 run.refused lines) execution
  pub reports : reports_in l limit (first_global_state origin) execution ≡ run.reports
  pub deeds : deeds l limit (first_global_state origin) execution ≡ deeds_of run.reports
  pub words : IsImageOf l limit (last_global_state l limit (first_global_state origin) execution) (image_of run.left)
