-- Imports that two or more proof files of this crate share. Declares nothing.
pub use Rattle.std.proofs.lemmas.Bool.{cases_Bool, cases_eq, and_parts, cond_both, cases_lt, false≢true, eqb-false}
pub use Rattle.std.proofs.lemmas.Grind.{common_steps}
pub use Rattle.std.proofs.lemmas.List.{get_or_past, length-map, get_or_default, set_past, get_or-replicate, length-replicate}
pub use Rattle.std.proofs.lemmas.List.Elements.{All-nil, All-cons, All-append, Contains-append_right, All-head, All-tail, All-push, All-contains, Contains-append_left, Contains-push}
pub use Rattle.rmecore.specs.declared.access.Access.{Access}
pub use Rattle.rmecore.specs.declared.access.Access.TheVariants.{Load, Store}
pub use Rattle.rmecore.specs.declared.core_call.CoreCall.{CoreCall}
pub use Rattle.rmecore.specs.declared.core_done.CoreDone.{CoreDone}
pub use Rattle.rmecore.specs.declared.core_done.CoreDone.TheVariants.{In, InAgain, Spent, Out, Found, Withdrawn}
pub use Rattle.rmecore.specs.declared.kind.Kind.{Kind}
pub use Rattle.rmecore.specs.declared.kind.Kind.TheVariants.{Open, Get as Gets, Put as Puts, Reread as Rereads, Peek, Take, Shut, Look, Weigh, Mark, Drop, Glance}
pub use Rattle.rmecore.specs.declared.outer.Outer.{Outer}
pub use Rattle.rmecore.specs.declared.outer.Outer.TheVariants.{Begin, Ready, Enter, Crash, Reenter, Leave, Quit}
pub use Rattle.rmecore.specs.declared.own.Own.{Own}
pub use Rattle.rmecore.specs.declared.phase.Phase.{Phase}
pub use Rattle.rmecore.specs.declared.phase.Phase.TheVariants.{Inside as Within, DeadIn}
pub use Rattle.rmecore.specs.declared.progress.Progress.{Progress}
pub use Rattle.rmecore.specs.declared.refusal.Refusal.{Refusal}
pub use Rattle.rmecore.specs.declared.tally.Tally.{Tally}
pub use Rattle.rmecore.specs.declared.word.Word.{Word}
pub use Rattle.rmecore.specs.declared.word.Word.TheVariants.{Data, Choosing, Number}
pub use Rattle.rmecore.specs.AbstractLock.{Abstract, Legal, nobody, is_inside, doer, needs, abstract_after}
pub use Rattle.rmecore.specs.Lawful.{dead_phase, phase_by, start_of, IsLawful, IsRow}
pub use Rattle.rmecore.specs.Machine.{Standing, first, at_scan, kind_of, word_of, answer, reread_answer, shut_answer, unmark_answer, is_blocked, progress, after_access, next_access as lock_access, carried_value, access, IsLeast as IsLeastOfLock}
pub use Rattle.rmecore.specs.Needs.{put, AllHold}
pub use Rattle.rmecore.specs.OwnSteps.{reentry_steps, spent_steps, found_steps, entry_steps}
pub use Rattle.rmecore.specs.Paid.{is_glance, ReadsBegun}
pub use Rattle.rmecore.specs.Place.{Place, above, Door, Wait, next, Rest, Reread, Shutting, Leaving, Withdrawing, Unmarking, Opening, Inside, has, without, others, is_before, restart, shut, place_after_unmark, Dead, only, Event, Starts, Crashes, Steps, process, place_after_event}
pub use Rattle.rmecore.specs.Refused.{is_idle}
pub use Rattle.rmecore.specs.Simulated.{tally_at, own_at, zeros, new_tally, tally_after_step}
pub use Rattle.rmecore.specs.Sole.{IsInSection, Sole, IsLeave, all_done}
pub use Rattle.rmecore.specs.Tallied.{IsExact, IsRereading}
pub use Rattle.rmecore.specs.World.{is_store, step_deed, and_then, World, words_after_event, Run, deed, final, write}
pub use Rattle.rmecore.proofs.Allowing.{Allows, allows_from}
pub use Rattle.rmecore.proofs.CoreSteps.{refill}
pub use Rattle.rmecore.proofs.Invariant.{put_same, put_other, Tied, Fits, Pair, phase_at, phase_of}
pub use Rattle.rmecore.proofs.Rows.{after_deed}
pub use Rattle.rmecore.proofs.Runs.{guard, legal}
pub use Rattle.rmecore.proofs.Soles.{neither, phase_other, sole_done, in_after, sole_nobody}
pub use Rattle.rmecore.proofs.Turns.{turn, not_data}
pub use Rattle.redomail.specs.declared.deed.Deed.{Deed}
pub use Rattle.redomail.specs.declared.deed.Deed.TheVariants.{Outer as OuterDeed, Commit, Show, Ruin}
pub use Rattle.redomail.specs.declared.layout.Layout.{Layout}
pub use Rattle.redomail.specs.declared.message.Message.{Message}
pub use Rattle.redomail.specs.declared.record.Record.{Record}
pub use Rattle.redomail.specs.declared.reply.Reply.{Reply}
pub use Rattle.redomail.specs.declared.reply.Reply.TheVariants.{Mended, Ruined, Stored, Already, OutOfOrder, Full, Closed}
pub use Rattle.redomail.specs.declared.stage.JobStage.TheVariants.{Write}
pub use Rattle.redomail.specs.declared.task.Task.{Task}
pub use Rattle.redomail.specs.Deeds.{deeds_of_put}
pub use Rattle.redomail.specs.Laws.{NewWords}
pub use Rattle.redomail.specs.Layout.{Words, IsLayout, size, words_of, row, last_at, saturate, board_at}
unfoldable pub use Rattle.redomail.specs.Layout.{place_at}
pub use Rattle.redomail.specs.Leads.{MailLeads, AreOwn}
pub use Rattle.redomail.specs.Left.{Pending, script_left, pending_task, job_after_word}
pub use Rattle.redomail.specs.Mailbox.{Mailbox, message, IsAmong, is_pending, nothing_shown}
pub use Rattle.redomail.specs.Safe.{Safe}
pub use Rattle.redomail.specs.Script.{Script, Get, Put, Done, tail, puts, gets, in_row}
pub use Rattle.redomail.specs.Shape.{Shape, RecordRule, mailbox_of, bit, entry, entries, recorded_message, IsNumbered, count_of}
pub use Rattle.redomail.specs.Stages.{stage_after}
pub use Rattle.redomail.specs.Tasks.{script, consistent, apply_steps, store_steps, record_of, append_decision, append, redo, repair, close}
pub use Rattle.redomail.proofs.Owns.{puts_are_own}
pub use Rattle.redomail.proofs.Passes.{shape_passes_on, may_leave}
pub use Rattle.redomail.proofs.Scripts.{length-store_steps, held-small}
pub use Rattle.judge.specs.declared.start.Start.{Start}
pub use Rattle.judge.specs.Halves.{outers, all_after}
pub use Rattle.judge.specs.Legal.{Leads, judged_all, IsLegal}
pub use Rattle.judge.specs.Starts.{state_of, phase_in}
pub use Rattle.judge.specs.Table.{empty_state, State, after}
pub use Rattle.judge.proofs.Halves.{AllHold-append, judged-allowed, state_led}
pub use Rattle.judge.proofs.Histories.{judged_all-append}
pub use Rattle.rmeworld.specs.declared.answer.Answer.{Answer}
pub use Rattle.rmeworld.specs.declared.answer.Answer.TheVariants.{Clean, OwnerDied, NumbersSpent, NotRecoverable, Unlocked, Mail}
pub use Rattle.rmeworld.specs.declared.call.Call.{Call}
pub use Rattle.rmeworld.specs.declared.call.Call.TheVariants.{Lock, Unlock, Consistent, Recover, Append, Close, Withdraw}
pub use Rattle.rmeworld.specs.declared.script_state.ScriptState.{ScriptState as Chore}
pub use Rattle.rmeworld.specs.declared.script_state.ScriptState.TheVariants.{Free as IsFree, Doing as Does}
pub use Rattle.rmeworld.specs.declared.image.Image.{Image}
pub use Rattle.rmeworld.specs.declared.stepped.Stepped.{Stepped}
pub use Rattle.rmeworld.specs.declared.purpose.Purpose.{Purpose}
pub use Rattle.rmeworld.specs.declared.purpose.Purpose.TheVariants.{Ruining, Mending, Working, Checking}
pub use Rattle.rmeworld.specs.WorldSteps.{Advances, IsLoad, ScanGoesOn, silent_outcome}
pub use Rattle.rmeworld.specs.Answered.{answer_at, answer_by, by_lock, done_by, by_script, blocked_by}
pub use Rattle.rmeworld.specs.CallWalk.{next_or_same, Walks, blocked_in, and_answer, answers_in, last_process_state, WalksCall, call_begin, CallsTakeTheirSteps}
pub use Rattle.rmeworld.specs.Entered.{is_entry, checks_done, mended_done}
pub use Rattle.rmeworld.specs.ScriptStates.{script_state_of, HasStep, HoldsJob}
pub use Rattle.rmeworld.specs.HomeState.{core_of}
pub use Rattle.rmeworld.specs.Holders.{puts_data, AllPutBy, NoEndOf, OnlyHoldersPut}
pub use Rattle.rmeworld.specs.ImageRules.{layout_of, IsLawfulImage, IsRecorded, KeepsRules}
pub use Rattle.rmeworld.specs.ImageStart.{IsStartOf, IsInAlone}
pub use Rattle.rmeworld.specs.Law.{Sits, IsLater, ScriptStateTells, AppendTells, PurposeTells, Sound, EveryExecutionIsSound}
pub use Rattle.rmeworld.specs.OwnSteps.{and_more, either, core_steps, task_steps, own_steps, most_steps, mending_steps}
pub use Rattle.rmeworld.specs.Paid.{Costs, checked_steps, script_steps, PaysCore, Exits, PaysPart, PaysBy, PaysAt, entry_of}
pub use Rattle.rmeworld.specs.Reached.{IsWorld, crashed_global_state, IsOrigin, IsImageOf, EveryExecutionLeavesAnImage, IsLegalHistory, IsReached}
pub use Rattle.rmeworld.specs.Refused.{first_cause, start_refusal, is_idle_by}
pub use Rattle.rmeworld.specs.Replayed.{value_of, world_event, or_else, mail_by, words_by, cells_by, the_deed, stepped_if, silent_step, advanced_if, world_after_start, advance_refusal, world_after_step, crash_refusal, crash_deed, list_of, advanced_by, image_of, words_set, prospect_of}
pub use Rattle.rmeworld.specs.Sent.{IsAsked, EveryDeedWasAsked, mail_after, ReplyTells, RepliesTell, StoredIsShown, IsSent, EveryMessageWasSent, EveryCloseWasAsked, EveryRuinWasAsked}
pub use Rattle.rmeworld.specs.ProcessState.{outer_by, ScriptState, Free, Doing, ProcessState, dead_process, WorldEvent, Begins, Falls, Moves, Glances, who, process_after_script, script_state_entered, at_lock, inside_only, begun_from, moved_by, next_process_state, lock_deed, only_process_state, mended_entered, working, at_rest, end_place, end_mended}
pub use Rattle.rmeworld.specs.MachineState.{MachineState, standing, outcome, IsLeast, IsSize, resting, IsAllowed, process_state_of, lock_moved, job_left, machine_after_step, stepped_by, access_by, next_access, after_at, process_state_after, StoresOwn, machine_after_start as machine_state_started, machine_after_crash, InWords, IsOwnWord}
pub use Rattle.rmeworld.specs.Tallied.{HasTaken, IsTallied, AllTallied}
pub use Rattle.rmecore.specs.Named.{lock_part}
pub use Rattle.rmeworld.specs.UnderWay.{part_call, purpose_call, call_by, call_at, task_call}
pub use Rattle.rmeworld.specs.World.{reading, event_deeds, GlobalState, at_first, ReadsWord, put_cell, cells_after, Execution, state_after_event, last_global_state, outer_deeds, mail_deeds, deeds, Can, put_deeds, words_after, own_world_events, reading_of}
pub use Rattle.rmeworld.specs.WorldState.{WorldState, machine_state_at, process_state_at, global_state_of, Takes, world_event_of, ChoosesLeast, new_world, new_refusal, image_world, absent_machine, HasConfiguration, crashed_from, IsConfigured, at_rest_from}
