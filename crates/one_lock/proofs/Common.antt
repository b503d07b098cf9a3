-- The names that two or more proof files of this crate cite, passed on from one place. Declares nothing.
pub use Rattle.redomail.specs.declared.layout.Layout.{Layout}
pub use Rattle.rmeworld.specs.ProcessState.{WorldEvent, Begins, Falls, Moves, Glances}
pub use Rattle.rmeworld.specs.WorldState.{WorldState, global_state_of, Takes, new_world, world_event_of}
pub use Rattle.table_runs.specs.declared.setup.Setup.{Setup}
pub use Rattle.one_lock.specs.Answers.{world_after_opening, Opens, IsBlocked, Reports, Mirrors, IsReportedStep, TrailGrows, HasTakenSteps, Suffice, turns_after_one, IsAnsweredCall, AskedCall, asked_call, opening_of, ReturnsAnswer, IsReply, EndsAtLock, reply_by, entry_by}
pub use Rattle.one_lock.specs.Member.{Seat, Trail, KeepsProcess, new_seat, new_seats, AreAll, steps_taken, falls_by, AskedEach, CountsOn}
pub use Rattle.one_lock.specs.Trails.{Accepts, IsEventOf, IsOwnTrail, crashed_if, started_if, opened_machine, moved_machine, answer_with, is_blocked_with, first_of, later_opening, opening_after, machine_after, blocked_along, event_if, events_along, longer_trail}
pub use Rattle.one_lock.specs.Execution.{HasExecution, AreSizes, steps_of}
pub use Rattle.one_lock.specs.Whole.{Mends, TaskReplies, WorksInside, FollowsLock, IsMailboxCall, Whole}
