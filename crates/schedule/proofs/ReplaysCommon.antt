-- What proof files of this crate cite from modules that two or more of them share, passed on from here. Declares nothing.
pub use Rattle.std.proofs.lemmas.Bool.{cases_Bool}
pub use Rattle.std.specs.List.{onto_first, join_with_byte}
pub use Rattle.schedule.specs.declared.lines.fault.LineFault.{LineFault}
pub use Rattle.schedule.specs.declared.lines.line.Line.TheVariants.{Start, Step, Crash, CrashAll}
pub use Rattle.schedule.specs.Commands.{line_at}
pub use Rattle.schedule.specs.Deeds.{deed_at, words_of_deed}
pub use Rattle.schedule.specs.Words.{parts_of, line_of, words_of, ◌>>=◌}
pub use Rattle.std.proofs.lemmas.Result.{err_from_is_err_and}
pub use Rattle.schedule.specs.Schedules.{Scheduled, schedule_at, scheduled_with}
unfoldable pub use Rattle.schedule.specs.Texts.{text_at, items_at}
pub use Rattle.schedule.specs.Traces.{trace_head_at}
pub use Rattle.std.proofs.lemmas.List.{nil_from_length, drop_more}
pub use Rattle.rmecore.specs.declared.fault.Fault.{Fault}
pub use Rattle.rmecore.specs.declared.refusal.Refusal.{Refusal}
pub use Rattle.rmecore.specs.Refused.{number_of}
pub use Rattle.rmecore.specs.Simulated.{cause, one_more}
pub use Rattle.redomail.specs.declared.deed.Deed.{Deed}
pub use Rattle.judge.specs.Kept.{Kept}
pub use Rattle.judge.specs.Stands.{Keeps, StandsAfter}
pub use Rattle.judge.specs.Table.{empty_state, State, state_after_deed, after}
pub use Rattle.rmeworld.specs.declared.answer.Answer.{Answer}
pub use Rattle.rmeworld.specs.declared.call.Call.{Call}
pub use Rattle.rmeworld.specs.declared.image.Image.{Image}
pub use Rattle.rmeworld.specs.declared.stepped.Stepped.{Stepped}
pub use Rattle.rmeworld.specs.WorldState.{new_refusal, WorldState, machine_state_at, process_state_at, global_state_of, Takes, new_world, image_world}
pub use Rattle.schedule.specs.declared.replays.running_verdict.RunningVerdict.{RunningVerdict}
pub use Rattle.schedule.specs.declared.lines.line.Line.{Line}
pub use Rattle.schedule.specs.declared.replays.replay_fault.ReplayFault.{ReplayFault}
pub use Rattle.schedule.specs.declared.replays.replay_fault.ReplayFault.TheVariants.{Text, Read, OutOfMemory, Refused, Write}
pub use Rattle.schedule.specs.declared.replays.stage.TraceStage.{TraceStage}
pub use Rattle.schedule.specs.declared.texts.trace.TraceHead.{TraceHead}
pub use Rattle.schedule.specs.declared.replays.verdict.Verdict.{Verdict}
pub use Rattle.schedule.specs.declared.replays.verdict.Verdict.TheVariants.{Fine, Against}
pub use Rattle.schedule.specs.RunningVerdicts.{first_running_verdict, running_judge, with_more, heard_with, Hears, RunningJudge, if_allowed, state_after_deeds}
pub use Rattle.schedule.specs.Tapes.{Tape, Writes, BreaksOff}
pub use Rattle.schedule.specs.ReplayStops.{Ends, IsRefused, ReplayStops, Tells, Stops, refused_at, fault_at, Runs, IsOver}
pub use Rattle.schedule.specs.Reports.{reports_text, owns_text, words_of_verdict, verdict_line, IsEnd, line_of_report, messages_text}
unfoldable pub use Rattle.schedule.specs.Fragments.{crashes_in_a_row}
pub use Rattle.schedule.specs.Runs.{Part, deeds_of, LockReport, Did, reports_of, reports_by, unless, part_after_line, transitions_of, Answered, did, answer_reports}
unfoldable pub use Rattle.schedule.specs.Runs.{steps, line_on, run_on}
pub use Rattle.rmeworld.specs.Behaviours.{Behaviour}
pub use Rattle.schedule.specs.TraceJudges.{Stands, trace_answer, answer_of, judged_of, judge_refusal, refusal_number, JudgesTrace, Fed, TraceJudgeState}
pub use Rattle.schedule.specs.Verdicts.{verdict_on, verdict_at, verdict_from}
pub use Rattle.schedule.specs.Wholes.{Silent, header_fault, layout_of, OfSchedule, OfText}
pub use Rattle.rmeworld.specs.Replayed.{world_behaviour}
