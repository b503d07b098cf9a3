-- The simulation of the built-in lock: a world, and what its processes have shown.
use Rattle.std.specs.Prelude.{ℕ, List, []}
use Rattle.redomail.specs.declared.layout.Layout.{Layout}
use Rattle.rmeworld.specs.Replayed.{world_behaviour}
use Rattle.rmeworld.specs.WorldState.{WorldState, new_world}
use Rattle.schedule.specs.declared.lines.line.Line.{Line}
use Rattle.schedule.specs.declared.texts.head.Head.{Head}
use Rattle.schedule.specs.Runs.{line_on, transitions_of}
use Rattle.schedule.specs.Schedules.{Scheduled, head_of}
use Rattle.diagram.specs.DiagramLayouts.{layout_of}
use Rattle.diagram.specs.Events.{events_of}
use Rattle.diagram.specs.Followed.{run_text}
use Rattle.diagram.specs.LastSteps.{LastStepsState, last_steps_after, no_last_steps, number_refused}
use Rattle.diagram.specs.Semantics.{Semantics, lines_on, steps_to_answer}
use Rattle.diagram.specs.Sessions.{SessionState, at_schedule}
use Rattle.diagram.specs.Standings.{state_text}

pub record LockSimulationState : Type 0 where
  pub world : WorldState
  pub last_steps : LastStepsState

-- the new world of a header
abbrev pub first_lock : Head → LockSimulationState
first_lock head = record { world = new_world (layout_of head) head.limit; last_steps = no_last_steps head.procs }

-- after a line; where it is refused, nothing has changed
abbrev pub lock_with : LockSimulationState → Line → LockSimulationState
lock_with lock line =
    record {
      world = (line_on world_behaviour lock.world line).left;
      last_steps = last_steps_after lock.last_steps (events_of world_behaviour lock.world line);
    }

-- after a schedule
abbrev pub lock_of : Scheduled → LockSimulationState
lock_of schedule = lines_on lock_with (first_lock (head_of schedule)) schedule.lines

-- the steps of a line, as `replay --each` writes them
abbrev pub steps_reported : Layout → LockSimulationState → Line → List ℕ
steps_reported l lock line = run_text l lock.last_steps.phases (events_of world_behaviour lock.world line)

-- the most steps of a line
abbrev pub most_steps : ℕ
most_steps = 1000000

-- ---- the whole

abbrev pub lock_semantics : Semantics LockSimulationState
lock_semantics =
    record {
      first = λ lock head. first_lock head;
      refusal = λ lock line. number_refused (line_on world_behaviour lock.world line).refused;
      after = lock_with;
      steps_text = λ head lock line. steps_reported (layout_of head) lock line;
      state_text = λ head lock. state_text head.procs lock.world.words lock.last_steps;
      steps_to_answer = λ schedule lock p. steps_to_answer (transitions_of world_behaviour) p 0 most_steps (lock_of schedule).world;
    }

-- a session over the built-in lock at a schedule
abbrev pub lock_session : Scheduled → SessionState LockSimulationState
lock_session schedule = at_schedule lock_semantics (first_lock (head_of schedule)) schedule []
