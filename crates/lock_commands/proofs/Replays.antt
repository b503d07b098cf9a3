-- A replay that reaches its verdict has had no failed write.
use Rattle.std.proofs.Common.{◌≡◌, Ok, Err, Some, None, Option, Result, ℕ, inl, inr, ◌∙◌, List, [], ◌++◌, ap, refl, subst, IfOk, IfErr}
use Rattle.rmecore.specs.declared.refusal.Refusal.{Refusal}
use Rattle.schedule.specs.declared.lines.fault.LineFault.{LineFault}
use Rattle.schedule.specs.declared.replays.verdict.Verdict.{Verdict}
use Rattle.schedule.specs.Tapes.{Tape, Reading, Begins, Writes}
use Rattle.schedule.specs.Schedules.{Scheduled, schedule_at}
use Rattle.schedule.specs.Wholes.{OfSchedule, OfText, ReplaysSource, layout_of}
use Rattle.rmeworld.specs.WorldState.{new_refusal}
use Rattle.judge.specs.Table.{State}
use Rattle.rmeworld.specs.declared.image.Image.{Image}
use Rattle.schedule.specs.declared.replays.replay_fault.ReplayFault.{ReplayFault}
use Rattle.schedule.specs.declared.replays.replay_fault.ReplayFault.TheVariants as of_replay
use Rattle.schedule.specs.Replays.{CutShort, Reported}
use Rattle.schedule.specs.Runs.{Part}
use Rattle.command_parts.specs.ReportObjects.{IsUnwritten, report_object}
use Rattle.command_parts.specs.Statuses.{fault_in_memory}
use Rattle.lock_commands.specs.Tellings.{ReplaysObject}

scheduled_whole : (before now : Tape) (schedule : Scheduled) (refusal : Option Refusal) (verdict : Verdict) → OfSchedule before now schedule refusal (Ok verdict) → now.failures ≡ before.failures
scheduled_whole before now schedule (Some refusal) verdict (silent, answer) = silent.fine
scheduled_whole before now schedule None verdict (inl reported) = reported.writes.fine
scheduled_whole before now schedule None verdict (inr (silent, answer)) = silent.fine

text_whole : (before now : Tape) (parsed : Result Scheduled (ℕ × LineFault)) (verdict : Verdict) → OfText before now parsed (Ok verdict) → now.failures ≡ before.failures
text_whole before now (Err fault) verdict (silent, answer) = silent.fine
text_whole before now (Ok schedule) verdict is = scheduled_whole before now schedule (new_refusal (layout_of schedule) schedule.limit) verdict is

pub replayed_whole : (old new : Reading) (before now : Tape) (verdict : Verdict) → ReplaysSource old new before now (Ok verdict) → now.failures ≡ before.failures
replayed_whole old new before now verdict (inl (unread, silent)) = silent.fine
replayed_whole old new before now verdict (inr (text, read, is)) = text_whole before now (schedule_at text) verdict is

-- a replay to a page in memory was cut short: nothing is written
pub object_cut : {S : Type 0} (before blank page : Tape) (start : State) (picture_of : S → Image) (run : Part S (ℕ × Refusal)) (fault : ReplayFault)
    → CutShort blank page start picture_of run fault → ReplaysObject before before start picture_of run (Err (fault_in_memory fault))
object_cut before blank page start picture_of run (of_replay.Refused line number) cut = (record { taken = refl; fine = refl }, cut.1)
object_cut before blank page start picture_of run of_replay.Write cut = record { taken = refl; fine = refl }
object_cut before blank page start picture_of run of_replay.OutOfMemory cut = record { taken = refl; fine = refl }
object_cut before blank page start picture_of run _ cut = absurd cut

-- it has a verdict: the object of its report is written, or it is not
pub object_after : {S : Type 0} (before now blank page : Tape) (start : State) (picture_of : S → Image) (run : Part S (ℕ × Refusal)) (verdict : Verdict)
    (text : List ℕ) (r : Result Verdict ReplayFault) → Reported blank page start picture_of run verdict → blank.taken ≡ [] → text ≡ page.taken
    → IfOk r (λ same. (same ≡ verdict) × Writes before now (report_object text)) → IfErr r (IsUnwritten before now (report_object text))
    → ReplaysObject before now start picture_of run r
object_after before now blank page start picture_of run verdict text (Ok same) reported empty is written unwritten =
    record {
      verdict_is = written.0 ∙ reported.verdict_is;
      text = reported.text;
      of_run = record { accepted = reported.accepted; report = reported.report };
      writes = subst (λ (xs : List ℕ). Writes before now (report_object xs)) (is ∙ reported.writes.taken ∙ ap (λ (xs : List ℕ). xs ++ reported.text) empty) written.1;
    }
object_after before now blank page start picture_of run verdict text (Err of_replay.Write) reported empty is written unwritten =
    record {
      text = reported.text;
      of_run = record { accepted = reported.accepted; report = reported.report };
      begins =
          subst (λ (xs : List ℕ). Begins before.taken now.taken (report_object xs))
          (is ∙ reported.writes.taken ∙ ap (λ (xs : List ℕ). xs ++ reported.text) empty) unwritten.0;
      failed = unwritten.1;
    }
object_after before now blank page start picture_of run verdict text (Err of_replay.OutOfMemory) reported empty is written unwritten = unwritten
object_after before now blank page start picture_of run verdict text (Err _) reported empty is written unwritten = absurd unwritten
