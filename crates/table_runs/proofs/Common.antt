-- The names that two or more proof files of this crate cite, passed on from one place. Declares nothing.
pub use Rattle.std.proofs.lemmas.Bool.{and_parts, ltb-true, eqb-false, true≢false, or_cases, cases_eq, cases_Bool, cases_lt}
pub use Rattle.std.proofs.lemmas.List.{drop-append-le, drop_all, length-drop, set-get_or, get_or_past, length-map, length-replicate, get_or-replicate}
pub use Rattle.std.proofs.lemmas.List.Elements.{All-nil, All-cons, All-append, All-head, All-tail, filter-append, All-weaker}
pub use Rattle.std.specs.Prelude.{slice_index, slice_set, slice_index_or}
pub use mathlib.Core.Logic.{dite}
pub use native.Mathlib.Decide.{ℕ_discrete}
pub use Rattle.atomic_table.specs.Table.{keeps, Allows, Splits, Joins, opening}
pub use Rattle.rmecore.specs.declared.kind.Kind.{Kind}
pub use Rattle.rmecore.specs.declared.kind.Kind.TheVariants.{Look, Weigh, Open, Peek, Take, Shut, Mark, Drop, Glance}
pub use Rattle.rmecore.specs.declared.own.Own.{Own}
pub use Rattle.rmecore.specs.declared.word.Word.{Word}
pub use Rattle.rmecore.specs.declared.word.Word.TheVariants.{Choosing, Number, Data}
pub use Rattle.rmecore.specs.Machine.{answer, is_blocked, kind_of, word_of, carried_value, again, recovery_answer}
pub use Rattle.rmecore.specs.Needs.{put}
pub use Rattle.rmecore.specs.Paid.{is_glance, ReadsBegun}
pub use Rattle.rmecore.specs.Place.{Place, Rest, Dead, Wait, Inside, Reread, Opening, Door, Shutting, Leaving, Withdrawing, Unmarking, is_before, next, without, span, others, lock_restart, recovery_restart, restart, shut, place_after_unmark, Event, place_after_start, only, Steps}
pub use Rattle.rmecore.specs.Simulated.{one_more, zeros, own_at}
pub use Rattle.rmecore.specs.StepsLeft.{lock_left, IsFair}
pub use Rattle.rmecore.specs.World.{is_store, World, after, Run, final, write, Reads}
pub use Rattle.rmecore.proofs.Invariant.{put_same, put_other, Tied}
pub use Rattle.rmecore.proofs.Runs.{guard, kept}
pub use Rattle.redomail.specs.declared.layout.Layout.{Layout}
pub use Rattle.redomail.specs.declared.message.Message.{Message}
pub use Rattle.redomail.specs.declared.reply.Reply.{Reply}
pub use Rattle.redomail.specs.declared.reply.Reply.TheVariants.{Stored, Already, Mended}
pub use Rattle.redomail.specs.declared.task.Task.{Task}
pub use Rattle.redomail.specs.Layout.{IsLayout, last_at, saturate, Words, board_at, size, words_of, row}
unfoldable pub use Rattle.redomail.specs.Layout.{place_at}
pub use Rattle.redomail.specs.Mailbox.{message, IsAmong}
pub use Rattle.redomail.specs.Script.{Script, Get, Put, Done, puts, gets, in_row, tail}
pub use Rattle.redomail.specs.Shape.{entry, entries, Shape}
pub use Rattle.redomail.specs.Tasks.{append, repair, redo, consistent, apply_steps, store_steps, record_of, script}
pub use Rattle.judge.specs.Halves.{all_after}
pub use Rattle.judge.specs.Table.{State, empty_state}
pub use Rattle.judge.proofs.Halves.{state_led}
pub use Rattle.rmeworld.specs.declared.answer.Answer.{Answer}
pub use Rattle.rmeworld.specs.declared.answer.Answer.TheVariants.{NumbersSpent, NotRecoverable, Mail, OwnerDied, Unlocked}
pub use Rattle.rmeworld.specs.declared.call.Call.{Call}
pub use Rattle.rmeworld.specs.declared.call.Call.TheVariants.{Lock, Unlock, Consistent, Recover, Append, Close, Withdraw}
pub use Rattle.rmeworld.specs.declared.purpose.Purpose.{Purpose}
pub use Rattle.rmeworld.specs.declared.purpose.Purpose.TheVariants.{Checking, Ruining, Mending, Working}
pub use Rattle.rmeworld.specs.Answered.{by_lock, by_reply, by_script, answer_at, blocked_by, answer_by}
pub use Rattle.rmeworld.specs.CallWalk.{next_or_same, and_answer, answers_in, blocked_in, last_process_state, WalksCall, call_begin, Walks}
pub use Rattle.rmeworld.specs.Entered.{is_entry}
pub use Rattle.rmeworld.specs.OwnSteps.{most_steps, own_steps}
pub use Rattle.rmeworld.specs.Refused.{is_idle, is_waiting, start_refusal, is_inside}
pub use Rattle.rmeworld.specs.ProcessState.{ScriptState, Free, Doing, ProcessState, begun_from, inside_only, Begins, next_process_state, WorldEvent, at_rest, Moves, at_lock, only_process_state, process_after_script, mended_entered, Falls, Glances, moved_by, who, working, dead_process, script_state_entered}
pub use Rattle.rmeworld.specs.MachineState.{IsSize, MachineState, access_by, next_access, outcome, process_state_after, IsAllowed, progress_by, machine_after_step}
pub use Rattle.rmeworld.specs.World.{GlobalState, at_first, Execution, last_global_state, put_cell, reading, state_after_event, event_deeds, deeds, own_world_events, words_after, cells_after, Can, reading_of}
pub use Rattle.rmeworld.proofs.Holders.{holders_put, execution_front, execution_back}
pub use Rattle.rmeworld.proofs.LawfulNow.{every_execution_leaves_an_image, Someone, Nobody, find_in}
pub use Rattle.rmeworld.proofs.Projection.{entry_inside, projected}
pub use Rattle.rmeworld.proofs.Reaching.{all_after-append, sound_ends, Arrived, origin, arrives}
pub use Rattle.rmeworld.proofs.Replies.{answers, deeds-append}
pub use Rattle.table_runs.specs.declared.entry.SeatKnowledge.{SeatKnowledge}
pub use Rattle.table_runs.specs.declared.entry.Step.{Step}
pub use Rattle.table_runs.specs.declared.entry.TakenStep.{TakenStep}
pub use Rattle.table_runs.specs.declared.entry.View.{View}
pub use Rattle.table_runs.specs.declared.entry_kind.Entry.{Entry}
pub use Rattle.table_runs.specs.declared.lock_fault.LockFault.{LockFault}
pub use Rattle.table_runs.specs.declared.setup.Setup.{Setup}
pub use Rattle.table_runs.specs.Board.{is_data, or_earlier, last_put, value_or, LastIsOwn}
pub use Rattle.crash_plans.specs.Plans.{Askings, many_more, NeverCrashes, Fell}
pub use Rattle.table_runs.specs.Calls.{Served, and_call, starts, FirstStart, AreMoves, FirstCrash, answers_of, blocked_of, TakesSteps, blocks, Ran, CutOff, Crashes, StartsWith, FirstStarts, answers_from, blocked_from, ServedAll, CrashesIn, Turning, process_state_before, is_blocked_at, Going, Still}
pub use Rattle.table_runs.specs.Faults.{CutBy, CutIn, AnsweredBy, call_series, LockBy, LockEnds, free_to_start, refusal_now, answer_of}
pub use Rattle.table_runs.specs.GatheredRuns.{OneArena, has_member, image_at, IsGlance, IsWholeView, IsGatheredRun, Gathers, Knows, Absorbs, AnswersAll, Looked, Stays}
pub use Rattle.table_runs.specs.Headline.{deeds_of, judged_by, shown_by, process_state_at, AppendIsShown}
pub use Rattle.table_runs.specs.StepBounds.{Within, exit_of, Lasts, LastsBy}
pub use Rattle.table_runs.specs.SeatView.{SeatView, IsSeatView, process_state_now, EndsWith, Adds, Calls, single_seat, view_of, glance_step, glance_entry, Looks, pending_events, next_entry, moved_process_state, CarriesPending, rest_known, own_of}
pub use Rattle.table_runs.specs.ReadMessages.{cells_of, row_words, entry_words, AreGlances, up_to_count, ReadsFrom, AreMessagesShown, RunsShow, EntriesStandInRuns}
pub use Rattle.table_runs.specs.Ruins.{last_call, last_of, MayStart, AreInWorkerOrder, ReadsRuin, HasReadRuin, settles}
pub use Rattle.table_runs.specs.Rule.{count_from, joined_knowledge, IsViewOf, Did, MayLoad, stepper, entry_of, opening_known, longer, spent_known, SeatAnswersFor, AllFit, IsMember, IsRunOfTable, TableRuleHolds, MayTake, MayStore, MayStepPastEnd, without_first, first_alone}
pub use Rattle.table_runs.specs.WorkingMembers.{Seated, began, fell, after_further_start, IsRunBy, next_of, outcome_of, TakesStep}
pub use Rattle.table_runs.specs.Runs.{before, access_event, world_events, events_of_run, entries_of, IsRun, end_of, process_state_past, process_state_of, has, index, InTable, AllowsEvents, word_count, IsBeyond, Shows, stores, crash_first}
pub use Rattle.table_runs.specs.Tabled.{KeepsTable, CountsAtMost, words_begun, process_state_begun, table_steps, blocked_since, LockCounts, CallsKeepTheTable}
pub use Rattle.table_runs.specs.Under.{AllReplies, IsMendingReply, Begun, Appends, under_place, IsWord, UnderScript, IsUnder, IsAnswerOf, Leaves, IsHolder, UnderBy}
pub use Rattle.table_runs.specs.Whole.{IsTask, WholeEnds, AppendFails, IsWholeOutcome, IsFront, AreCallsOf, calls_inside, IsInner, Inner, WholeBy, whole_task, append_request, WholeGoes, WholeFails}
pub use Rattle.table_runs.specs.WholeSteps.{mended_by, SumCounts, InsideCounts, both, table_sum, StoredAppendSteps, most_inside, most_whole}
