-- The names that two or more proof files of this crate cite, passed on from one place. Declares nothing.
pub use Rattle.std.proofs.Math.ListN.{replicate}
pub use Rattle.std.proofs.lemmas.List.{append-nil, take_more, take_all, drop_more, length-drop, nil_from_length}
pub use Rattle.std.proofs.lemmas.List.Concat.{flat_map-cons, flat_map-append}
pub use Rattle.std.proofs.lemmas.Result.{err_from_is_err_and}
pub use Rattle.std.specs.Prelude.{codes}
pub use Rattle.rmecore.specs.declared.happened.Happened.{Happened}
pub use Rattle.rmecore.specs.declared.refusal.Refusal.{Refusal}
pub use Rattle.redomail.specs.declared.deed.Deed.{Deed}
pub use Rattle.judge.specs.Table.{State}
pub use Rattle.rmeworld.specs.declared.image.Image.{Image}
pub use Rattle.schedule.specs.declared.lines.line.Line.{Line}
pub use Rattle.schedule.specs.declared.lines.line.Line.TheVariants.{Start, Step, Crash, CrashAll}
pub use Rattle.schedule.specs.declared.replays.replay_fault.ReplayFault.{ReplayFault}
pub use Rattle.schedule.specs.declared.replays.verdict.Verdict.{Verdict}
pub use Rattle.schedule.specs.RunningVerdicts.{RunningJudge, Hears, first_running_verdict, running_judge}
pub use Rattle.schedule.specs.Tapes.{WritesFront, Tape, Writes, Begins, BreaksOff}
pub use Rattle.schedule.specs.Transitions.{Took, Fell}
pub use Rattle.schedule.specs.Runs.{Part, deeds_of, did, reports_of, reports_by, transitions_of}
pub use Rattle.rmeworld.specs.Behaviours.{Behaviour}
unfoldable pub use Rattle.schedule.specs.Runs.{steps, line_on, run_on}
pub use Rattle.schedule.specs.Verdicts.{verdict_on}
pub use Rattle.schedule.proofs.Heard.{hears_both, hears_none}
pub use Rattle.schedule.proofs.Playing.{append_none, begins_further, begins_wider, breaks_further, breaks_nothing, breaks_wider, none_after, deeds_append, deeds_reported}
pub use Rattle.diagram.specs.declared.act.RowAct.{RowAct}
pub use Rattle.diagram.specs.declared.act.DiagramRow.{DiagramRow}
pub use Rattle.diagram.specs.declared.drawing.End.{End}
pub use Rattle.diagram.specs.declared.drawing.End.TheVariants.{Judged, Refused}
pub use Rattle.diagram.specs.declared.phase.LifelinePhase.{LifelinePhase}
pub use Rattle.diagram.specs.declared.phase.LifelinePhase.TheVariants.{Rest, Doorway, Waiting, Section, Dead}
pub use Rattle.diagram.specs.declared.stop.DiagramStop.{DiagramStop}
pub use Rattle.diagram.specs.Columns.{spaces, columns, head, heads, bars}
pub use Rattle.diagram.specs.Drawings.{WritesText, row_spelled, rows_spelled, top_in, end_in}
pub use Rattle.diagram.specs.Events.{DiagramEvent, reports_in}
unfoldable pub use Rattle.diagram.specs.Events.{events_of, events_on}
pub use Rattle.diagram.specs.Followed.{WritesEnding, FollowsRun, IsAllFollowed, row_of, row_text, phases_with, phases_after, rows_text, run_text}
pub use Rattle.diagram.specs.MarkedRuns.{MarkedStepsState, marked_row_text, marked_rows_text, marked_run_text, marked_steps_after, marked_steps_with, WritesRows}
pub use Rattle.diagram.specs.Pictures.{around, key, class_of, lifeline_tops}
unfoldable pub use Rattle.diagram.specs.Pictures.{keys, key_name, measured, line_looks, text_looks, step_mark, lifeline}
pub use Rattle.diagram.specs.Rows.{events_in, EndsAs, IsRunEnd, IsJudged, events_shown, silent_step, deed_of}
pub use Rattle.diagram.specs.RowCollections.{CollectsRun}
pub use Rattle.diagram.specs.DiagramLayouts.{LifelineView, layout_of, lifeline_state_shown, lifeline_state_with}
pub use Rattle.diagram.specs.ShownRows.{ShownRowState}
