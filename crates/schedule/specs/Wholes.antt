-- What replaying a text does: the schedule that it spells is played on a new world of its sizes, before a new judge
-- (the specification's Replay clause).
use Rattle.std.specs.Prelude.{◌≡◌, ℕ, ◌+◌, ◌-◌, ◌^◌, ◌⊎◌, min, true, List, ◌++◌, Option, Some, None, Result, Ok, Err}
use Rattle.rmecore.specs.declared.refusal.Refusal.{Refusal}
use Rattle.rmecore.specs.Refused.{number_of}
use Rattle.redomail.specs.declared.layout.Layout.{Layout}
use Rattle.judge.specs.Table.{empty_state}
use Rattle.rmeworld.specs.WorldState.{WorldState, new_world, new_refusal}
use Rattle.rmeworld.specs.Replayed.{image_of, world_behaviour}
use Rattle.schedule.specs.declared.lines.fault.LineFault.{LineFault}
use Rattle.schedule.specs.declared.replays.verdict.Verdict.{Verdict}
use Rattle.schedule.specs.declared.replays.replay_fault.ReplayFault.{ReplayFault}
use Rattle.schedule.specs.declared.replays.replay_fault.ReplayFault.TheVariants.{Text, Refused, Read, OutOfMemory}
use Rattle.schedule.specs.Numbers.{number_of as number_of_line}
use Rattle.schedule.specs.Schedules.{Scheduled, schedule_at}
use Rattle.schedule.specs.Runs.{Part, run_on}
use Rattle.schedule.specs.Tapes.{Tape, Reading}
use Rattle.schedule.specs.Replays.{Replays}

-- the sizes of a schedule's world, without the limit
abbrev pub layout_of : Scheduled → Layout
layout_of schedule = record { procs = schedule.procs; cap = schedule.cap; width = schedule.width }

-- the run of a schedule on a new world
abbrev pub world_run : Scheduled → Part WorldState (ℕ × Refusal)
world_run schedule = run_on world_behaviour 2 (new_world (layout_of schedule) schedule.limit) schedule.lines

-- nothing was written
pub record Silent (before now : Tape) : Type 0 where
  pub taken : now.taken ≡ before.taken
  pub fine : now.failures ≡ before.failures

-- the answer where no world has the header's sizes
abbrev pub header_fault : Option ℕ → ReplayFault
header_fault None = OutOfMemory
header_fault (Some number) = Refused 1 number

-- sizes that no world has are refused at line 1; else the report is that of the schedule's run, and its verdict is fine.
-- For a world memory may run out before anything is played
abbrev pub OfSchedule : Tape → Tape → Scheduled → Option Refusal → Result Verdict ReplayFault → Type 0
OfSchedule before now schedule (Some refusal) answer = Silent before now × (answer ≡ Err (header_fault (number_of refusal)))
OfSchedule before now schedule None answer =
    Replays before now (empty_state schedule.procs schedule.cap) image_of (world_run schedule) answer ⊎ (Silent before now × (answer ≡ Err OutOfMemory))

-- a text that is no schedule has a fault, and nothing is written
abbrev pub OfText : Tape → Tape → Result Scheduled (ℕ × LineFault) → Result Verdict ReplayFault → Type 0
OfText before now (Err fault) answer = Silent before now × (answer ≡ Err (Text fault.0 (number_of_line fault.1)))
OfText before now (Ok schedule) answer = OfSchedule before now schedule (new_refusal (layout_of schedule) schedule.limit) answer

-- the source was not read to its end, and nothing was written
abbrev pub Unread : Reading → Reading → Result Verdict ReplayFault → Type 0
Unread old new answer = (new.ended ≡ old.ended)
    × (((answer ≡ Err Read) × (new.failures ≡ min (old.failures + 1) (2 ^ 64 - 1))) ⊎ ((answer ≡ Err OutOfMemory) × (new.failures ≡ old.failures)))

-- the whole text was read
pub record WasRead (old new : Reading) (text : List ℕ) : Type 0 where
  pub given : new.given ≡ old.given ++ text
  pub ended : new.ended ≡ true
  pub fine : new.failures ≡ old.failures

-- what `replay` reads, writes and answers
abbrev pub ReplaysSource : Reading → Reading → Tape → Tape → Result Verdict ReplayFault → Type 0
ReplaysSource old new before now answer =
    (Unread old new answer × Silent before now) ⊎ ((text : List ℕ) × WasRead old new text × OfText before now (schedule_at text) answer)

-- the same where it is known that the source gives this text
abbrev pub ReplaysText : List ℕ → Reading → Reading → Tape → Tape → Result Verdict ReplayFault → Type 0
ReplaysText text old new before now answer = (Unread old new answer × Silent before now) ⊎ OfText before now (schedule_at text) answer

-- the same between a reader and a writer, by what the writer held before and holds now
abbrev pub ReplaysBetween : List ℕ → List ℕ → List ℕ → Result Verdict ReplayFault → Type 0
ReplaysBetween text before now answer =
    ((answer ≡ Err Read) ⊎ (answer ≡ Err OutOfMemory)) × (now ≡ before)
    ⊎ ((failures : ℕ) × OfText (record { taken = before; failures = 0 }) (record { taken = now; failures = failures }) (schedule_at text) answer)
