-- The names that two or more proof files of this crate cite, passed on from one place. Declares nothing.
pub use Rattle.std.proofs.lemmas.Bool.{cases_eq, cases_Bool, cases_lt, true≢false}
pub use Rattle.std.proofs.lemmas.List.Elements.{All-nil, All-cons, All-head, All-tail, All-append, All-weaker, All-contains, All-push, filter-append}
pub use Rattle.std.specs.Arc.{arc_value}
pub use Rattle.std.specs.Vec.Iter.{into_iter_items, into_iter_len}
pub use Rattle.atomic_table.specs.Seated.{TableId}
pub use Rattle.rmecore.specs.declared.kind.Kind.{Kind}
pub use Rattle.rmecore.specs.declared.word.Word.{Word}
pub use Rattle.rmecore.specs.declared.word.Word.TheVariants.{Data, Choosing}
pub use Rattle.rmecore.specs.Place.{Place, Dead, Inside, next, place_after_start}
pub use Rattle.crash_plans.specs.Plans.{Askings}
pub use Rattle.redomail.specs.declared.layout.Layout.{Layout}
pub use Rattle.redomail.specs.declared.message.Message.{Message}
pub use Rattle.redomail.specs.declared.reply.Reply.{Reply}
pub use Rattle.redomail.specs.declared.reply.Reply.TheVariants.{Stored, Already, Mended}
pub use Rattle.redomail.specs.declared.task.Task.{Task}
pub use Rattle.redomail.specs.Content.{IsContent}
pub use Rattle.redomail.specs.Layout.{Words, IsLayout, words_of, size}
pub use Rattle.redomail.specs.Mailbox.{IsAmong, message, is_by}
pub use Rattle.redomail.specs.Shape.{entries, count_of, IsNumbered, RecordRule, entry}
pub use Rattle.rmeworld.specs.declared.answer.Answer.{Answer}
pub use Rattle.rmeworld.specs.declared.answer.Answer.TheVariants.{Mail, Unlocked, NumbersSpent, Found}
pub use Rattle.rmeworld.specs.declared.call.Call.{Call}
pub use Rattle.rmeworld.specs.declared.call.Call.TheVariants.{Append, Lock, Unlock, Consistent, Recover, Close, Withdraw}
pub use Rattle.rmeworld.specs.declared.image.Image.{Image}
pub use Rattle.rmeworld.specs.Answered.{answer_at, by_lock, by_reply, by_script, answer_by}
pub use Rattle.rmeworld.specs.ImageRules.{layout_of, IsLawfulImage}
pub use Rattle.rmeworld.specs.OwnSteps.{most_steps}
pub use Rattle.rmeworld.specs.Refused.{is_idle, is_idle_by}
pub use Rattle.rmeworld.specs.Sent.{EveryMessageWasSent, IsSent, mail_after, ReplyTells, RepliesTell, EveryCloseWasAsked, EveryRuinWasAsked, IsLeftUnmended}
pub use Rattle.rmeworld.specs.ProcessState.{WorldEvent, Begins, Falls, ScriptState, Free, Doing, ProcessState, Moves, at_rest, at_lock, process_after_script, only_process_state, moved_by, inside_only, begun_from, next_process_state, who}
pub use Rattle.rmeworld.specs.World.{GlobalState, at_first, last_global_state, Execution, state_after_event, reading}
pub use Rattle.rmeworld.proofs.ImageRules.{lawful_content}
pub use Rattle.table_runs.specs.declared.entry.TakenStep.{TakenStep}
pub use Rattle.table_runs.specs.declared.entry_kind.Entry.{Entry}
pub use Rattle.table_runs.specs.declared.lock_fault.LockFault.{LockFault}
pub use Rattle.table_runs.specs.declared.lock_fault.LockFault.TheVariants.{Crashed, NotYet, AlreadyIn}
pub use Rattle.table_runs.specs.declared.setup.Setup.{Setup}
pub use Rattle.table_runs.specs.Board.{last_put, value_or, LastIsOwn}
pub use Rattle.table_runs.specs.Calls.{process_state_before, AreMoves, ServedAll, answers_from, and_call, starts, Served}
pub use Rattle.table_runs.specs.Faults.{refusal_now, free_to_start, answer_of, CutBy}
pub use Rattle.table_runs.specs.GatheredRuns.{Gathers, IsGlance, IsGatheredRun, has_member, image_at, OneArena, procs_of, IsMissing, Absorbs, Knows, Stays}
pub use Rattle.table_runs.specs.Headline.{deeds_of, shown_by, judged_by, process_state_at, StepEndsAppend, EveryRunIsSound}
pub use Rattle.table_runs.specs.SeatView.{IsSeatView, process_state_now, SeatView, Calls, own_of, rest_known, single_seat}
pub use Rattle.table_runs.specs.ReadMessages.{cells_of, RunsShow, LoadsTell}
pub use Rattle.table_runs.specs.Ruins.{AreInWorkerOrder, NobodyRuins, HasReadRuin, last_call, last_of, settles, MayStart}
pub use Rattle.table_runs.specs.Rule.{count_from, stepper}
pub use Rattle.table_runs.specs.WorkingMembers.{Seated, fell, began}
pub use Rattle.table_runs.specs.Runs.{before, access_event, world_events, events_of_run, entries_of, IsRun, end_of, process_state_past, process_state_of, crash_first, AllowsEvents, has, word_count}
pub use Rattle.table_runs.specs.AppendReplies.{ReportedIn}
pub use Rattle.table_runs.specs.Under.{Appends, AllReplies, IsMendingReply}
pub use Rattle.table_runs.specs.Whole.{WholeEnds, calls_inside, answers_inside, AppendFails, append_request, IsWholeOutcome, IsFront, AreCallsOf, WholeFails}
pub use Rattle.table_runs.proofs.Counted.{few_out, err_any, ok_any, called_counts}
pub use Rattle.table_runs.proofs.Gathered.{all_left, all_right, knows_some, absorbs_on, knows_first, one_table, stays_on, looked_stays, found_first, knows_all, still_all, image_is, gathers, may_glance, all_some, looked, first_removed}
pub use Rattle.table_runs.proofs.LawfulEnd.{length-counted, cells_counted, lawful_end}
pub use Rattle.table_runs.proofs.Leads.{gone-append, has_one}
pub use Rattle.table_runs.proofs.Opens.{size_small, mapped_more}
pub use Rattle.table_runs.proofs.Runs.{by_kind, own-append, spelled-append, global_state-append, legal_front, process_state_in_run}
pub use Rattle.table_runs.proofs.Shown.{shown_on}
pub use Rattle.table_runs.proofs.Together.{all_both, member_at, Keeps, Holds, all_hold, each_holds}
pub use Rattle.table_runs.specs.declared.lab.worker_end.WorkerEnd.TheVariants.{AllSent, Fault, Refused}
pub use Rattle.table_runs.specs.declared.lab.lab_fault.LabFault.TheVariants.{Member}
pub use Rattle.table_runs.specs.declared.lab.spec.Spec.{Spec}
pub use Rattle.table_runs.specs.Endings.{fault_by}
pub use Rattle.table_runs.specs.Lab.{AreAllSent, words_sent, messages_sent, messages_by, message_sent, IsBadSpec}
pub use Rattle.table_runs.proofs.PartLists.{moved_on}
pub use Rattle.robust.specs.declared.lab.worker.Done.{Done}
pub use Rattle.robust.specs.LabFaults.{RefusedAt, IsFirstWorkerFault, EndsSo, EndsLab, HaveSentBelow, NumbersWereSpent}
pub use Rattle.robust.specs.LabRuns.{AreShownByRun, IsLabRun}
pub use Rattle.robust.specs.NewMembers.{fresh_member, fresh_members}
pub use Rattle.robust.specs.WorkerSends.{OfStart, IsSending, AreSending, HasSent, HasShown, SendsOnly, IsNew}
pub use Rattle.robust.specs.Worked.{sizes_of, HasWorked, seat_done, seat_promised}
pub use Rattle.robust.specs.MemberLaws.{seat_of, seats_of}
