-- What is written of a line that is played, and what it shows of each process.
use Rattle.std.specs.Prelude.{◌≡◌, ℕ, [], ◌++◌, Option, None, Result, OnOk, OnErr, IfOk, IfSome}
use Rattle.rmeworld.specs.Behaviours.{Behaviour}
use Rattle.schedule.specs.declared.lines.line.Line.{Line}
use Rattle.schedule.specs.declared.texts.fault.OutOfMemory.{OutOfMemory}
use Rattle.schedule.specs.Effects.{Effects}
use Rattle.schedule.specs.Runs.{line_on}
use Rattle.diagram.specs.declared.session.line_play.StepWriter.{StepWriter}
use Rattle.diagram.specs.Events.{DiagramEvent, events_of}
use Rattle.diagram.specs.Followed.{run_text, row_of, row_text}
use Rattle.diagram.specs.LastSteps.{last_steps_after, last_steps_with, number_refused}

-- it has the same layout, and writes to the same places
pub record KeepsPlaces (before now : StepWriter) : Type 0 where
  pub layout : now.layout ≡ before.layout
  pub last_steps : now.last_steps.ghost_name ≡ before.last_steps.ghost_name
  pub out : now.out.ghost_name ≡ before.out.ghost_name

-- an event is written, and what it shows is kept
pub record WritesEvent (before : StepWriter) (event : DiagramEvent) (now : StepWriter) : Type 0 where
  pub same : KeepsPlaces before now
  pub text : now.out.now.items ≡ before.out.now.items ++ row_text before.layout (last_steps_with before.last_steps.now (row_of event)).phases None (row_of event)
  pub last_steps : now.last_steps.now ≡ last_steps_with before.last_steps.now (row_of event)

abbrev pub step_effects : Effects StepWriter DiagramEvent OutOfMemory
step_effects = record { hears = WritesEvent; stops = λ before event now stop. KeepsPlaces before now }

-- the steps of a line are written, with the number of a refusal, which changes and writes nothing
pub record WritesLine {S A : Type 0} (b : Behaviour S) (before now : StepWriter) (s left : S) (line : Line) (r : Result (Option ℕ) A) : Type 0 where
  pub same : KeepsPlaces before now
  pub refused : IfOk r (λ number. number ≡ number_refused (line_on b s line).refused)
  pub text : OnOk r (now.out.now.items ≡ before.out.now.items ++ run_text before.layout before.last_steps.now.phases (events_of b s line))
  pub last_steps : OnOk r (now.last_steps.now ≡ last_steps_after before.last_steps.now (events_of b s line))
  pub left_is : OnOk r (left ≡ (line_on b s line).left)
  pub unchanged : IfOk r (λ number. IfSome number (λ k. (now.out.now.items ≡ before.out.now.items) × (now.last_steps.now ≡ before.last_steps.now) × (left ≡ s)))
  pub memory : OnErr r (events_of b s line ≡ [] → ⊥)
