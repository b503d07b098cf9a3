-- Imports that two or more proof files of this crate share. Declares nothing.
pub use Rattle.std.proofs.lemmas.Bool.{cases_Bool, and_parts, or_cases, false_from_ne_true, cases_eq, cases_lt, and_from, or_left, or_right}
pub use Rattle.rmecore.specs.declared.core_call.CoreCall.{CoreCall}
pub use Rattle.rmecore.specs.declared.core_call.CoreCall.TheVariants.{Lock, Unlock, Withdraw, Recover}
pub use Rattle.rmecore.specs.declared.kind.Kind.{Kind}
pub use Rattle.rmecore.specs.declared.kind.Kind.TheVariants.{Take, Shut, Reread as Rereads, Open, Peek, Look, Weigh, Mark, Drop, Glance}
pub use Rattle.rmecore.specs.declared.outer.Outer.{Outer}
pub use Rattle.rmecore.specs.declared.outer.Outer.TheVariants.{Enter}
pub use Rattle.rmecore.specs.declared.own.Own.{Own}
pub use Rattle.rmecore.specs.declared.word.Word.{Word}
pub use Rattle.rmecore.specs.declared.word.Word.TheVariants.{Choosing, Number, Inside as InsideOf, Data}
pub use Rattle.rmecore.specs.HomeState.{entries, IsLess, IsFirstInLine}
pub use Rattle.rmecore.specs.Lawful.{IsLawful, all_dead}
pub use Rattle.rmecore.specs.Machine.{is_blocked}
pub use Rattle.rmecore.specs.Needs.{put}
pub use Rattle.rmecore.specs.Paid.{is_glance}
pub use Rattle.rmecore.specs.Place.{Place, Rest, Dead, Reread, Opening, Door, Shutting, Wait, Inside, Leaving, Withdrawing, Unmarking, has, only, next, Event, Starts, Crashes, Steps, without, others, is_before, restart, place_after_start, shut, place_after_unmark, process, place_after_event, span}
pub use Rattle.rmecore.specs.World.{World, at_rest, is_store, write, May, after, Run, final, Reads, words_after_event, deeds, deed, and_then, step_deed}
pub use Rattle.progress.specs.Disturbances.{is_disturbance, is_effective, count, disturbances, work, NeverWithdraws}
pub use Rattle.progress.specs.Pieces.{Owes, is_move, moves, concatenation, Full}
pub use Rattle.progress.specs.WaitingBounds.{most_work, WorkIsBounded, WaitingIsBounded}
