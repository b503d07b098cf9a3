-- Imports that two or more proof files of this crate share. Declares nothing.
pub use Rattle.std.proofs.Math.Seq.{take-append_seam}
pub use Rattle.std.proofs.lemmas.Bool.{cases_Bool, and_parts, or_cases, false_from_ne_true, cond_both, cases_eq, cases_lt, and_from, or_left, or_right, and_right}
pub use Rattle.std.proofs.lemmas.List.{get_or_default, get_or_past, get_or-replicate, length-replicate}
pub use Rattle.rmecore.specs.declared.access.Access.{Access}
pub use Rattle.rmecore.specs.declared.access.Access.TheVariants.{Store, Load}
pub use Rattle.rmecore.specs.declared.core_call.CoreCall.{CoreCall}
pub use Rattle.rmecore.specs.declared.core_call.CoreCall.TheVariants.{Lock, Unlock, Withdraw, Recover}
pub use Rattle.rmecore.specs.declared.core_done.CoreDone.{CoreDone}
pub use Rattle.rmecore.specs.declared.kind.Kind.{Kind}
pub use Rattle.rmecore.specs.declared.kind.Kind.TheVariants.{Take, Shut, Reread as Rereads, Open, Peek, Look, Weigh, Mark, Drop, Glance}
pub use Rattle.rmecore.specs.declared.outer.Outer.{Outer}
pub use Rattle.rmecore.specs.declared.outer.Outer.TheVariants.{Begin, Enter, Crash, Reenter, Leave, Quit}
pub use Rattle.rmecore.specs.declared.own.Own.{Own}
pub use Rattle.rmecore.specs.declared.phase.Phase.{Phase}
pub use Rattle.rmecore.specs.declared.phase.Phase.TheVariants.{Out, Door as AtDoor, Ready, Inside as Within, DeadIn}
pub use Rattle.rmecore.specs.declared.tally.Tally.{Tally}
pub use Rattle.rmecore.specs.declared.word.Word.{Word}
pub use Rattle.rmecore.specs.declared.word.Word.TheVariants.{Choosing, Number, Inside as InsideOf, Data}
pub use Rattle.rmecore.specs.AbstractLock.{Abstract, is_out, is_door, is_ready, is_inside, is_dead_in, needs, nobody, phase_after_crash, abstract_after, Legal, doer}
pub use Rattle.rmecore.specs.HomeState.{IsUninterrupted, IsHome, IsWaiting, IsInLine, entries, IsLess, EnterInLine, answer_of, IsAnswered, CanComeHome, CanStillEnter, IsFirstInLine, IsAheadOfDoorways, TakesLaterNumber, IsStepOf, IsOfDoorway, CanEnter}
pub use Rattle.rmecore.specs.Lawful.{IsRow, IsLawful, all_dead, dead_phase, phase_by, is_ahead, start_of}
pub use Rattle.rmecore.specs.Machine.{first, place_of, access, kind_of, word_of, carried_value, Standing, next_access, owner, InLock, IsLeast, IsAllowed, StoresOwn, absent_process, after_access, words_performed, progress, is_blocked, answer, at_door, at_wait, reread_answer, shut_answer, unmark_answer}
pub use Rattle.rmecore.specs.Needs.{AllHold, least_below, none_below, put}
pub use Rattle.rmecore.specs.OwnSteps.{most_steps, own_steps}
pub use Rattle.rmecore.specs.Paid.{is_glance, Distinct, Pays, ReadsBegun}
pub use Rattle.rmecore.specs.Place.{Place, Rest, Dead, Reread, Opening, Door, Shutting, Wait, Inside, Leaving, Withdrawing, Unmarking, has, above, only, next, Event, Starts, Crashes, Steps, without, others, is_before, restart, place_after_start, shut, place_after_unmark, process, place_after_event, span}
pub use Rattle.rmecore.specs.Refused.{is_idle}
pub use Rattle.rmecore.specs.Simulated.{Simulated, zeros, own_at, standing_at, place_at, world_of, HasConfiguration, IsConfigured, Takes, new_tally, tally_at, tally_after_step}
pub use Rattle.rmecore.specs.Sole.{all_done, IsInSection, IsEnter, IsLeave, Sole}
pub use Rattle.rmecore.specs.Tallied.{IsExact, HasTaken, IsTallied, AllTallied, IsRereading}
pub use Rattle.rmecore.specs.World.{World, at_rest, is_store, read, write, May, after, Run, final, IsReached, Reads, words_after_event, deeds, own_events, place_after, deed, and_then, step_deed, reentry}
