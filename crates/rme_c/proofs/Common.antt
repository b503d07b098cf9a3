-- The names that two or more proof files of this crate cite, passed on from one place. Declares nothing.
pub use Rattle.std.proofs.lemmas.Bool.{lt-ltb, le-ltb, cases_Bool, cases_eq, le-leb}
pub use Rattle.std.specs.List.{range_with_len}
pub use Rattle.rmecore.specs.declared.access.Access.{Access}
pub use Rattle.rmecore.specs.declared.stage.Stage.{Stage}
pub use Rattle.rmecore.specs.declared.stage.Stage.TheVariants.{Inside, Rest, Dead, ReadingChoosing, ReadingNumber, ReadingInside, Opening, Door, Shutting, Wait, Leaving, Withdrawing, Unmarking}
pub use Rattle.rmecore.specs.Machine.{place_of, after_access, progress, kind_of, carried_value, first, access, word_of, InLock}
pub use Rattle.rmecore.specs.Place.{Place, Reread, above, is_before}
pub use Rattle.rmecore.proofs.Accesses.{all_allowed, orderly, within}
pub use Rattle.rmecore.proofs.MachineSteps.{wait_goes, door_goes}
pub use Rattle.rmecore.proofs.Scans.{above_skip, above_past, first_none, first_some}
pub use Rattle.redomail.specs.declared.layout.Layout.{Layout}
pub use Rattle.redomail.specs.declared.reply.Reply.{Reply}
pub use Rattle.redomail.specs.declared.task.Task.TheVariants.{Check}
pub use Rattle.redomail.specs.Jobs.{left_at, FitsStage}
pub use Rattle.redomail.specs.Layout.{IsLayout, saturate}
pub use Rattle.redomail.specs.Left.{Pending, script_left, job_after_word, pending_task}
pub use Rattle.redomail.specs.Script.{Done, tail, Script, Get, Put, puts, gets}
pub use Rattle.redomail.specs.Tasks.{record_of, store_steps, redo}
pub use Rattle.redomail.proofs.Scripts.{length-store_steps, step-record, step-commit, step-entry, step-last, step-count, step-disarm}
pub use Rattle.rmeworld.specs.declared.answer.Answer.{Answer}
pub use Rattle.rmeworld.specs.declared.script_state.ScriptState.TheVariants.{Free, Doing}
pub use Rattle.rmeworld.specs.declared.purpose.Purpose.{Purpose}
pub use Rattle.rmeworld.specs.declared.purpose.Purpose.TheVariants.{Mending, Checking}
pub use Rattle.rmeworld.specs.Answered.{by_script, by_reply, by_lock, answer_by, blocked_by}
pub use Rattle.rmeworld.specs.Entered.{is_entry, mended_done, checks_done}
pub use Rattle.rmeworld.specs.ScriptStates.{HasStep}
pub use Rattle.rmeworld.specs.ProcessState.{end_place, end_mended, end_barred, mended_entered}
pub use Rattle.rmeworld.specs.MachineState.{next_access, MachineState, stepped_by, job_left, standing, machine_after_step, lock_moved, outcome, access_by, InWords}
pub use Rattle.rmeworld.proofs.Chores.{lock_outcome, with}
pub use Rattle.rme_c.specs.declared.answers.Effect.{Effect}
pub use Rattle.rme_c.specs.declared.script_position.ScriptPosition.{ScriptPosition}
pub use Rattle.rme_c.specs.declared.position.Position.{Position}
pub use Rattle.rme_c.specs.declared.position.Position.TheVariants.{Lock, Within, Lost}
pub use Rattle.rme_c.specs.declared.process.RmeProcess.{RmeProcess}
pub use Rattle.rme_c.specs.Blocks.{own_in}
pub use Rattle.rme_c.specs.ScriptPositions.{padded_value, job_of, purpose_of, script_state_of}
pub use Rattle.rme_c.specs.Positions.{layout_of, machine_state_at, FitsPosition, machine_state_of, position_of, stage_of, script_position_of, by_parts, is_placed, landing, lock_at, script_state_at, FitsAt, standing_at}
pub use Rattle.rme_c.specs.Steps.{IsStep, step_answer, is_blocked, IsLanding, IsFed}
