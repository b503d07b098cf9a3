-- The names that two or more proof files of this crate cite, passed on from one place. Declares nothing.
pub use Rattle.rmecore.specs.declared.access.Access.{Access}
pub use Rattle.rmecore.specs.declared.access.Access.TheVariants.{Load, Store}
pub use Rattle.rmecore.specs.declared.kind.Kind.TheVariants.{Get, Put, Peek, Reread, Open, Take, Shut, Mark, Drop, Look, Weigh, Glance}
pub use Rattle.rmecore.specs.declared.word.Word.TheVariants.{Data, Number, Choosing}
pub use Rattle.rmecore.specs.Machine.{place_of, answer, kind_of, word_of, carried_value, access, is_blocked, after_access, next_access, first, Standing, at_wait}
pub use Rattle.rmecore.specs.Place.{Place, Inside, Wait, Leaving, Rest, Door, above, Opening, Shutting, Unmarking, others, lock_restart, span, is_before}
pub use Rattle.rmecore.proofs.Scans.{first_here, above_first, above_skip, above_past, has-first}
pub use Rattle.redomail.specs.declared.reply.Reply.{Reply}
pub use Rattle.redomail.specs.declared.reply.Reply.TheVariants.{Stored}
pub use Rattle.redomail.specs.declared.task.Task.TheVariants.{Check}
pub use Rattle.redomail.specs.Layout.{IsLayout, saturate, last_at, place_at, size}
pub use Rattle.redomail.specs.Script.{Script, puts}
pub use Rattle.redomail.specs.Tasks.{script, append_decision, store_steps, record_of}
pub use Rattle.redomail.proofs.Scripts.{held-small, length-store_steps, step-record, step-entry, step-disarm, step-commit, step-last, step-count}
pub use Rattle.redomail.proofs.Words.{place_low, place_up, place_small}
pub use Rattle.crash_plans.specs.Plans.{many_more}
pub use Rattle.rmeworld.specs.declared.answer.Answer.TheVariants.{Mail, Unlocked, Clean}
pub use Rattle.rmeworld.specs.declared.purpose.Purpose.TheVariants.{Checking, Working}
pub use Rattle.rmeworld.specs.Answered.{answer_at, by_lock, by_script, blocked_by}
pub use Rattle.rmeworld.specs.Refused.{is_idle, is_waiting}
pub use Rattle.rmeworld.specs.ProcessState.{Doing, ProcessState, next_process_state, mended_entered}
pub use Rattle.rmeworld.specs.MachineState.{MachineState, access_by, machine_after_step, standing, IsAllowed, lock_moved}
pub use Rattle.table_runs.specs.declared.entry.TakenStep.{TakenStep}
pub use Rattle.table_runs.specs.declared.setup.Setup.{Setup}
pub use Rattle.table_runs.specs.SeatView.{IsSeatView, process_state_now, SeatView, moved_process_state, next_entry, Adds, CarriesPending, glance_step}
pub use Rattle.table_runs.specs.WorkingMembers.{Seated, IsRunBy, TakesStep, next_of, outcome_of}
pub use Rattle.table_runs.specs.Runs.{access_event, events_of_run, IsRun, process_state_past, process_state_of, InTable}
pub use Rattle.table_runs.specs.Under.{Begun, under_place}
pub use Rattle.table_runs.proofs.Leads.{process_state_moves, load_as, looks_of, stays_seat_view, alone_after, seat_view_as}
pub use Rattle.table_runs.proofs.Running.{next_same, may_advance, run_by_step, size_is}
pub use Rattle.table_runs.proofs.Taken.{more, goes_on, ran_answered, length_snoc, takes_sizes, takes_process_state, none_of}
pub use Rattle.robust.specs.FastAppend.{at_append, append_begun, HasLeft, steps_of, stored_so_far}
pub use Rattle.robust.specs.FastPath.{free_process_state, IsSame, Unanswered, EndsIn, FastPathReaches, checked_process_state, IsClear, Way, waits_at, checking_process_state}
pub use Rattle.robust.specs.PendingEvents.{has_crashed, step_of, AwaitsNothing}
