-- The names that two or more proof files of this crate cite, passed on from one place. Declares nothing.
pub use Rattle.std.specs.Prelude.{vec_len, vec_capacity, slice_index}
pub use Rattle.rmecore.specs.declared.access.Access.{Access}
pub use Rattle.rmecore.specs.declared.word.Word.TheVariants.{Data}
pub use Rattle.rmecore.specs.Place.{Place, Inside, Wait, Leaving, Rest}
pub use Rattle.rmecore.specs.Simulated.{one_more}
pub use Rattle.redomail.specs.declared.layout.Layout.{Layout}
pub use Rattle.redomail.specs.Layout.{words_of, place_at, size, row}
pub use Rattle.redomail.specs.Shape.{entries}
pub use Rattle.rmeworld.specs.declared.answer.Answer.{Answer}
pub use Rattle.rmeworld.specs.declared.answer.Answer.TheVariants.{Mail, Unlocked, Clean, NumbersSpent, OwnerDied, NotRecoverable}
pub use Rattle.rmeworld.specs.declared.call.Call.{Call}
pub use Rattle.rmeworld.specs.declared.call.Call.TheVariants.{Append, Lock, Unlock, Consistent, Withdraw}
pub use Rattle.rmeworld.specs.ProcessState.{Begins, Free, ProcessState, next_process_state}
pub use Rattle.rmeworld.specs.MachineState.{MachineState, machine_after_step, IsAllowed}
pub use Rattle.table_runs.specs.declared.entry.TakenStep.{TakenStep}
pub use Rattle.table_runs.specs.declared.setup.Setup.{Setup}
pub use Rattle.crash_plans.specs.Plans.{Askings, many_more, NeverCrashes}
pub use Rattle.crash_plans.proofs.Counted.{asked_on, fell_on}
pub use Rattle.table_runs.specs.Calls.{Going, Turning, Ran, Served, Still}
pub use Rattle.table_runs.specs.Faults.{refusal_now, free_to_start, AnsweredIn}
pub use Rattle.table_runs.specs.StepBounds.{Lasts}
pub use Rattle.table_runs.specs.SeatView.{IsSeatView, process_state_now, SeatView, moved_process_state, Looks}
pub use Rattle.table_runs.specs.ReadMessages.{cells_of, row_words, entry_words, Glances}
pub use Rattle.table_runs.specs.WorkingMembers.{Seated, began, IsRunBy, TakesStep, after_further_start, next_of}
pub use Rattle.table_runs.specs.Under.{IsUnder, Begun, IsAnswerOf, Leaves}
pub use Rattle.table_runs.specs.Whole.{WholeEnds, IsFront, WholeFails, IsInner}
pub use Rattle.table_runs.proofs.Called.{served_of, on_err, served_as, crashes_of, cut_ran}
pub use Rattle.table_runs.proofs.Chained.{lock_setup, lock_asked, lock_cut, lock_idle, none_more}
pub use Rattle.table_runs.proofs.Counted.{err_any, ok_any, called_counts, lock_counts, few_cut, few_ran, turned_few, turned_few_cut, turned_few_out, few_begun}
pub use Rattle.table_runs.proofs.Glanced.{later_stands, setup_same, glances-append, drop_more, drop_none, words_more, reports, count_within, reads_all, both_ok, place_is, glances_snoc, stood, read_more, entry_read}
pub use Rattle.table_runs.proofs.Outside.{cut_out, busy_out, waiting_out}
pub use Rattle.table_runs.proofs.Taken.{more, goes_on, ran_answered, ran_blocked, none_of, asked_more, fits_answer, goes_with, still_blocked}
pub use Rattle.table_runs.proofs.Turned.{length-fell, turned, turned_served, turned_cut, turning_first, turned_out}
pub use Rattle.table_runs.proofs.WholeCalls.{ok_some, whole_fails, cut_fails, whole_asked, whole_cut, whole_replied, goes_idle, err_some, cut_from, ran_from, whole_of, cut_of, cut_more, lock_is, cut_first, cut_then, two_done, front_one, front_all, unlocked_is, one_then, front_cons, mends_is}
pub use Rattle.robust.specs.FastAppend.{append_begun}
pub use Rattle.robust.specs.FastPath.{free_process_state, IsSame, Unanswered, EndsIn}
