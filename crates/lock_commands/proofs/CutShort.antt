-- Why a session on the lock cannot begin with a schedule.
use Rattle.std.proofs.Common.{◌≡◌, ◌⊎◌, [], sym, subst, refl, inl, inr}
use Rattle.judge.specs.Kept.{Kept}
use Rattle.judge.specs.Stands.{Keeps, StandsAfter}
use Rattle.judge.specs.Table.{State, empty_state}
use Rattle.rmeworld.specs.Replayed.{image_of, world_behaviour}
use Rattle.rmeworld.specs.WorldState.{WorldState, new_world}
use Rattle.schedule.proofs.Judging.{stands_first}
use Rattle.schedule.specs.Runs.{run_on}
use Rattle.rmeworld.specs.declared.image.Image.{Image}
use Rattle.schedule.specs.declared.replays.replay_fault.ReplayFault.{ReplayFault}
use Rattle.schedule.specs.declared.replays.replay_fault.ReplayFault.TheVariants as faults
use Rattle.schedule.specs.Replays.{CutShort}
use Rattle.schedule.specs.Schedules.{Scheduled}
use Rattle.schedule.specs.Tapes.{Tape}
use Rattle.schedule.specs.Wholes.{layout_of, world_run}
use Rattle.command_parts.specs.declared.fault.CommandFault.TheVariants.{OutOfMemory}
use Rattle.lock_commands.specs.Settings.{CantPlay, IsRefusedLine}
use Rattle.command_parts.specs.Statuses.{fault_on_page}
use Rattle.command_parts.specs.declared.fault.CommandFault.{CommandFault}

-- why a replay to a page has no verdict: a line is refused, or memory has run out
pub page_fault : (before now : Tape) (start : State) (f : WorldState → Image) (schedule : Scheduled) (fault : ReplayFault)
    → CutShort before now start f (world_run schedule) fault
    → (fault_on_page fault ≡ OutOfMemory) ⊎ IsRefusedLine schedule (fault_on_page fault)
page_fault before now start f schedule (faults.Refused line number) (written, (refusal, is, numbered)) = inr (line, refusal, number, is, numbered, refl)
page_fault before now start f schedule faults.Write h = inl refl
page_fault before now start f schedule faults.OutOfMemory h = inl refl
page_fault before now start f schedule _ h = absurd h

-- a replay that is cut short, as a fault of the command
as_fault : (schedule : Scheduled) (fault : CommandFault) → (fault ≡ OutOfMemory) ⊎ IsRefusedLine schedule fault → (fault ≡ OutOfMemory) ⊎ CantPlay schedule fault
as_fault schedule fault (inl memory) = inl memory
as_fault schedule fault (inr refused) = inr (inr refused)

pub cut_short : (before now : Tape) (schedule : Scheduled) (judge : Kept) (world : WorldState) (fault : ReplayFault) (result : CommandFault)
    → world ≡ new_world (layout_of schedule) schedule.limit → StandsAfter (empty_state schedule.procs schedule.cap) [] judge
    → ((start : State) → Keeps judge start → CutShort before now start image_of (run_on world_behaviour 2 world schedule.lines) fault)
    → result ≡ fault_on_page fault → (result ≡ OutOfMemory) ⊎ CantPlay schedule result
cut_short before now schedule judge world fault result made stands is same =
    let start : State = empty_state schedule.procs schedule.cap in
    let cut : CutShort before now start image_of (world_run schedule) fault =
    subst (λ (w : WorldState). CutShort before now start image_of (run_on world_behaviour 2 w schedule.lines) fault) made (is start (stands_first start judge stands)) in
    subst (λ (f : CommandFault). (f ≡ OutOfMemory) ⊎ CantPlay schedule f) (sym same)
    (as_fault schedule (fault_on_page fault) (page_fault before now start image_of schedule fault cut))
