-- What a judge hears of the deeds that the lines of an algorithm note. It rests on the promises of the text: without order
-- nobody is ever ahead of anyone, and without re-entry a crash ends what was begun.
use Rattle.std.specs.Prelude.{ℕ, if◌then◌else◌, List, [], ◌∷◌, ◌++◌, Option, Some, None}
use Rattle.rmecore.specs.declared.outer.Outer.TheVariants as outers
use Rattle.rmecore.specs.declared.phase.Phase.{Phase}
use Rattle.rmecore.specs.declared.phase.Phase.TheVariants as phases
use Rattle.rmecore.specs.AbstractLock.{phase_after_crash}
use Rattle.algorithms.specs.declared.algorithm.Promises.{Promises}
use Rattle.algorithms.specs.declared.line.AlgorithmDeed.{AlgorithmDeed}
use Rattle.algorithms.specs.declared.line.AlgorithmDeed.TheVariants as deeds
use Rattle.algorithms.specs.declared.noted.NotedDeeds.{NotedDeeds}
use Rattle.algorithm_lab.specs.declared.run_report.TextReport.{TextReport}
use Rattle.algorithm_lab.specs.declared.run_report.TextReport.TheVariants.{Did}

-- a doorway that is begun again after a crash is heard the first time alone
abbrev pub doorway_reports : ℕ → Phase → List TextReport
doorway_reports p phases.Door = []
doorway_reports p phases.Ready = []
doorway_reports p phase = Did (outers.Begin p) ∷ []

-- the same of its end
abbrev pub doorway_end_reports : ℕ → Phase → List TextReport
doorway_end_reports p phases.Ready = []
doorway_end_reports p phase = Did (outers.Ready p) ∷ []

-- an entry without an order of doorways: after a crash inside it is a re-entry, else it has a doorway of its own
abbrev pub entered_out_of_order : ℕ → Phase → List TextReport
entered_out_of_order p phases.DeadIn = Did (outers.Reenter p) ∷ []
entered_out_of_order p phase = Did (outers.Begin p) ∷ Did (outers.Ready p) ∷ Did (outers.Enter p) ∷ []

abbrev pub entry_reports : Promises → ℕ → Phase → List TextReport
entry_reports promises p phase = if promises.order then Did (outers.Enter p) ∷ [] else entered_out_of_order p phase

-- what is heard of a deed that p notes in this phase
abbrev pub heard_of : Promises → ℕ → Phase → AlgorithmDeed → List TextReport
heard_of promises p phase deeds.Begin = doorway_reports p phase
heard_of promises p phase deeds.Ready = doorway_end_reports p phase
heard_of promises p phase deeds.Enter = entry_reports promises p phase
heard_of promises p phase deeds.Reenter = Did (outers.Reenter p) ∷ []
heard_of promises p phase deeds.Leave = Did (outers.Leave p) ∷ []
heard_of promises p phase deeds.Quit = Did (outers.Quit p) ∷ []

-- the phase after a begin: one that is ready stays so
abbrev pub phase_begun : Phase → Phase
phase_begun phases.Ready = phases.Ready
phase_begun phase = phases.Door

-- the phase of the process after a deed that it notes
abbrev pub phase_after : AlgorithmDeed → Phase → Phase
phase_after deeds.Begin phase = phase_begun phase
phase_after deeds.Ready phase = phases.Ready
phase_after deeds.Enter phase = phases.Inside
phase_after deeds.Reenter phase = phases.Inside
phase_after deeds.Leave phase = phases.Out
phase_after deeds.Quit phase = phases.Out

-- what is heard of a step, and the phase after it
pub record Heard : Type 0 where
  pub reports : List TextReport
  pub phase : Phase

-- the same where there may be no deed
abbrev pub heard_if : Promises → ℕ → Phase → Option AlgorithmDeed → List TextReport
heard_if promises p phase None = []
heard_if promises p phase (Some deed) = heard_of promises p phase deed

abbrev pub phase_if : Option AlgorithmDeed → Phase → Phase
phase_if None phase = phase
phase_if (Some deed) phase = phase_after deed phase

-- what is heard of the deeds that a step notes, one after the other
abbrev pub deeds_heard : Promises → ℕ → Phase → NotedDeeds → Heard
deeds_heard promises p phase noted =
    let second = phase_if noted.first phase in
    let third = phase_if noted.second second in
    record {
      reports = heard_if promises p phase noted.first ++ (heard_if promises p second noted.second ++ heard_if promises p third noted.third);
      phase = phase_if noted.third third;
    }

-- what a crash ends, where the text does not promise re-entry
abbrev pub given_up : ℕ → Phase → List TextReport
given_up p phases.Door = Did (outers.Quit p) ∷ []
given_up p phases.Ready = Did (outers.Quit p) ∷ []
given_up p phases.Inside = Did (outers.Leave p) ∷ []
given_up p phase = []

abbrev pub ended_by_crash : Promises → ℕ → Phase → List TextReport
ended_by_crash promises p phase = if promises.reentry then [] else given_up p phase

-- a crash without re-entry leaves the process out
abbrev pub phase_given_up : Phase → Phase
phase_given_up phases.DeadIn = phases.DeadIn
phase_given_up phase = phases.Out

-- the phase after a crash
abbrev pub phase_crashed : Promises → Phase → Phase
phase_crashed promises phase = if promises.reentry then phase_after_crash phase else phase_given_up phase

-- what is heard of a crash of p in this phase, and the phase after it
abbrev pub heard_of_crash : Promises → ℕ → Phase → Heard
heard_of_crash promises p phase =
    record { reports = ended_by_crash promises p phase ++ Did (outers.Crash p) ∷ []; phase = phase_crashed promises phase }
