-- Imports that two or more proof files of this crate share. Declares nothing.
pub use Rattle.std.proofs.Math.ListN.{length-set, get_or-append}
pub use Rattle.std.proofs.lemmas.Bool.{cases_Bool, cond_both, eqb-false, cases_eq, cases_lt, or_right, cond-true, cond-false, false≢true}
pub use Rattle.std.proofs.lemmas.Slice.Eq.{bytes_eq-Decides}
pub use Rattle.rmecore.specs.Needs.{put, AllHold}
pub use Rattle.redomail.specs.declared.deed.Deed.{Deed}
pub use Rattle.redomail.specs.declared.layout.Layout.{Layout}
pub use Rattle.redomail.specs.declared.message.Message.{Message}
pub use Rattle.redomail.specs.declared.record.Record.{Record}
pub use Rattle.redomail.specs.declared.reply.Reply.{Reply}
pub use Rattle.redomail.specs.declared.task.Task.{Task}
pub use Rattle.redomail.specs.Content.{HeadsHold, AreCountsFrom, AreLastsFrom, IsNumberedIn, IsListedIn, IsNext}
pub use Rattle.redomail.specs.Deeds.{deeds_of_put}
pub use Rattle.redomail.specs.Jobs.{left_at, value_width, buffer_width, words_read, steps_done, board_index, FitsStage}
pub use Rattle.redomail.specs.Layout.{row, Words, saturate, last_at, board_at, IsLayout, words_of, size}
unfoldable pub use Rattle.redomail.specs.Layout.{place_at}
pub use Rattle.redomail.specs.Leads.{MailLeads, AreOwn}
pub use Rattle.redomail.specs.Left.{script_left}
pub use Rattle.redomail.specs.Mailbox.{message, IsAmong, Mailbox, mailbox_after, is_by, is_pending}
pub use Rattle.redomail.specs.Runs.{MayBegin, added_by, final, words_after_puts, StepKept, ScriptRun, stepped_to, run_steps, start, IsTaskUnderWay, steps, answer, steps_of}
pub use Rattle.redomail.specs.Safe.{Safe, Added, Seen}
pub use Rattle.redomail.specs.Script.{Done, Put, puts, Script, gets, in_row, tail, Get, head}
pub use Rattle.redomail.specs.Shape.{entry, entries, count_of, IsNumbered, Shape, bit, recorded_message, RecordRule, ListRule, Unshown, Shown, pending_in}
pub use Rattle.redomail.specs.Tasks.{apply_steps, store_steps, record_of, redo, append_decision, append, close, repair, script}
