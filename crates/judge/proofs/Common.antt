-- Imports that two or more proof files of this crate share. Declares nothing.
pub use Rattle.std.proofs.lemmas.Bool.{cases_eq, cond-true, cond-false, cases_Bool, or_cases, false_from_ne_true, false≢true, and_parts, not-true, cases_lt, eqb-false, cond_both}
pub use Rattle.std.proofs.lemmas.List.{take_more, get_or-map, get_or_append_left, get_or_push, get_or_past, get_or-replicate, take-append-le, length-map, get_or_default}
pub use Rattle.std.proofs.lemmas.List.Folds.{list_any_at, list_any_more}
pub use Rattle.std.proofs.lemmas.Nat.Bits.{bit_at_clear_same, bit_at_clear_other, bit_at_or, bit_at_cat_low, bit_at_cat_high, bit_at_lowest, bit_at-zero, bit_at-pow_other}
pub use Rattle.std.specs.Int.{bit_at}
pub use Rattle.rmecore.specs.declared.fault.Fault.{Fault}
pub use Rattle.rmecore.specs.declared.fault.Fault.TheVariants.{OutOfPlace, TwoInside, NotReentered, Overtaken, NotInside, MailOrder, AfterClose}
pub use Rattle.rmecore.specs.declared.outer.Outer.{Outer}
pub use Rattle.rmecore.specs.declared.outer.Outer.TheVariants.{Begin, Ready, Enter, Crash, Reenter, Leave, Quit}
pub use Rattle.rmecore.specs.declared.phase.Phase.{Phase}
pub use Rattle.rmecore.specs.declared.phase.Phase.TheVariants.{Out, Door, Inside}
pub use Rattle.rmecore.specs.AbstractLock.{Abstract, Legal, abstract_after, is_out, is_door, is_ready, is_inside, is_dead_in, phase_after_crash, doer as lock_doer, nobody}
pub use Rattle.rmecore.specs.Needs.{AllHold, least_below, put, first_fault, none_below}
pub use Rattle.rmecore.proofs.Invariant.{put_same}
pub use Rattle.redomail.specs.declared.deed.Deed.{Deed}
pub use Rattle.redomail.specs.declared.message.Message.{Message}
pub use Rattle.redomail.specs.Mailbox.{Mailbox, doer, row, is_by, is_pending, message, nothing_shown}
pub use Rattle.judge.specs.Halves.{LockAllows, MailAllows, Agree, outers, all_after}
pub use Rattle.judge.specs.Kept.{Kept, Lists, HasBits, row_word, IsSound, HasRows}
pub use Rattle.judge.specs.Legal.{and_then, judged_all, Leads}
pub use Rattle.judge.specs.Plain.{NoneBefore, IsEntryOf, IsExitOf, IsEntry, HasDeedAt, IsDeedAt, NoneBetween, NoTwoInside, DeadReenters, is_show, is_show_of, StandsBefore, MailInOrder, GoneBefore, IsEndOf, IsGoneOf, GoneBetween, FirstComeFirstServed}
pub use Rattle.judge.specs.Stands.{Keeps}
pub use Rattle.judge.specs.Starts.{IsNextMessage, AreNumbered, is_named, IsStart, LockHolds, phase_in, state_of}
pub use Rattle.judge.specs.Table.{count_below, count_inside, count_dead_in, entry_needs, exclusion_row, empty_state_of, lock_after, State, lock_needs, mail_needs, needs, after, empty_state, unless, state_after_deed}
