-- What an event does to a report writer.
use Rattle.std.specs.Prelude.{◌≡◌}
use Rattle.redomail.specs.declared.deed.Deed.{Deed}
use Rattle.rmeworld.specs.declared.stepped.Stepped.{Stepped}
use Rattle.schedule.specs.declared.replays.replay_stop.ReplayStop.{ReplayStop}
use Rattle.schedule.specs.declared.replays.report_writer.ReportWriter.{ReportWriter}
use Rattle.schedule.specs.Effects.{Effects}
use Rattle.schedule.specs.ReplayStops.{ReplayStops}
use Rattle.schedule.specs.Reports.{reports_text}
use Rattle.schedule.specs.RunningVerdicts.{RunningJudge, running_judge, Hears}
use Rattle.schedule.specs.Runs.{deeds_of, reports_by}
use Rattle.schedule.specs.Tapes.{Tape, Writes}
use Rattle.schedule.specs.Transitions.{RunEvent}

-- its judge, with the running verdict
abbrev pub judge_of : {W : Type 0} → ReportWriter W → RunningJudge
judge_of writer = running_judge writer.judge.now writer.reporter.now

-- its judge, its reporter and its sink are the same ones
pub record SharesPlaces {W : Type 0} (before now : ReportWriter W) : Type 0 where
  pub judge : now.judge.ghost_name ≡ before.judge.ghost_name
  pub reporter : now.reporter.ghost_name ≡ before.reporter.ghost_name
  pub w : now.w.ghost_name ≡ before.w.ghost_name

-- what an event reports is written, and its deed is given to the judge
pub record ReportsEvent {W : Type 0} (tape : W → Tape) (before : ReportWriter W) (event : RunEvent Stepped Deed) (now : ReportWriter W) : Type 0 where
  pub same : SharesPlaces before now
  pub writes : Writes (tape before.w.now) (tape now.w.now) (reports_text (reports_by event))
  pub hears : Hears (judge_of before) (deeds_of (reports_by event)) (judge_of now)

-- not all that an event reports is written
pub record StopsAt {W : Type 0} (tape : W → Tape) (before : ReportWriter W) (event : RunEvent Stepped Deed) (now : ReportWriter W) (stop : ReplayStop) : Type 0 where
  pub same : SharesPlaces before now
  pub stops : ReplayStops (tape before.w.now) (tape now.w.now) (reports_text (reports_by event)) stop

abbrev pub report_effects : {W : Type 0} → (W → Tape) → Effects (ReportWriter W) (RunEvent Stepped Deed) ReplayStop
report_effects tape = record { hears = ReportsEvent tape; stops = StopsAt tape }
