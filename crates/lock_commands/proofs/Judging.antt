-- How `judge` ends, by what judging a trace answers.
use Rattle.std.proofs.Common.{◌≡◌, Bool, Result, Ok, Err, refl, inl, inr, subst}
use Rattle.schedule.specs.Tapes.{Reading, Tape}
use Rattle.schedule.specs.TraceJudges.{AnswersText, JudgesTrace}
use Rattle.schedule.specs.declared.replays.replay_fault.ReplayFault.{ReplayFault}
use Rattle.schedule.specs.declared.replays.replay_fault.ReplayFault.TheVariants as of_replay
use Rattle.schedule.specs.declared.replays.verdict.Verdict.{Verdict}
use Rattle.command_parts.specs.declared.fault.CommandFault.TheVariants as faults
use Rattle.lock_commands.specs.Ends.{JudgeEnds, TellsVerdict, verdict_text}
use Rattle.command_parts.specs.declared.ending.Ending.{Ending}
use Rattle.command_parts.specs.declared.fault.CommandFault.{CommandFault}
use Rattle.command_parts.specs.Endings.{Prints}
use Rattle.command_parts.specs.Statuses.{fault_of_replay, status_after}

-- the verdict of a trace is written
pub trace_reported : (json : Bool) (old new : Reading) (before now : Tape) (verdict : Verdict) (end : Result Ending CommandFault)
    → JudgesTrace old new (Ok verdict)
    → Prints (status_after verdict) (verdict_text json verdict) before now end → JudgeEnds json old new before now end
trace_reported json old new before now verdict end judged prints =
    let read = judged.0 in
    inr (record {
      text = read.0;
      read = record { given = read.1; ended = read.2; fine = judged.1 };
      reports = subst (λ (answer : Result Verdict ReplayFault). TellsVerdict json answer before now end) read.3 prints;
    })

-- a text that was read is at fault
at_fault : (json : Bool) (old new : Reading) (now : Tape) (fault : ReplayFault) → AnswersText old.given new.given new.ended (Err fault)
    → new.failures ≡ old.failures → JudgeEnds json old new now now (Err (fault_of_replay fault))
at_fault json old new now fault read fine =
    inr (record {
      text = read.0;
      read = record { given = read.1; ended = read.2; fine = fine };
      reports =
          subst (λ (answer : Result Verdict ReplayFault). TellsVerdict json answer now now (Err (fault_of_replay fault))) read.3
          (refl, record { taken = refl; fine = refl });
    })

-- a trace has no verdict
pub trace_fails : (json : Bool) (old new : Reading) (now : Tape) (fault : ReplayFault)
    → JudgesTrace old new (Err fault) → JudgeEnds json old new now now (Err (fault_of_replay fault))
trace_fails json old new now of_replay.Read h =
    inl (record { fault = faults.Read; is = refl; fails = h.1; silent = record { taken = refl; fine = refl } })
trace_fails json old new now of_replay.OutOfMemory h =
    inl (record { fault = faults.OutOfMemory; is = refl; fails = h.1; silent = record { taken = refl; fine = refl } })
trace_fails json old new now of_replay.Write h = at_fault json old new now of_replay.Write h.0 h.1
trace_fails json old new now (of_replay.Text line number) h = at_fault json old new now (of_replay.Text line number) h.0 h.1
trace_fails json old new now (of_replay.Refused line number) h = at_fault json old new now (of_replay.Refused line number) h.0 h.1
