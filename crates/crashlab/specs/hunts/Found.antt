-- What a move of a hunt ends in (the hunt's drawing rule of docs/dev/surface.md).
use Rattle.crashlab.specs.declared.variants.judge_feed.MoveOutcome.{MoveOutcome}
use Rattle.crashlab.specs.declared.variants.judge_feed.MoveOutcome.TheVariants.{On, Caught}
use Rattle.crashlab.specs.declared.variants.variant.Variant.{Variant}
use Rattle.std.specs.Prelude.{◌≡◌, ℕ, Bool, true, false, List, [], ◌∷◌, ◌++◌, map, Option, Some, None}
use Rattle.judge.specs.Kept.{Kept}
use Rattle.schedule.specs.declared.lines.line.Line.{Line}
use Rattle.schedule.specs.declared.lines.line.Line.TheVariants as line
use Rattle.rmeworld.specs.declared.call.Call.{Call}
use Rattle.rmeworld.specs.declared.call.Call.TheVariants as call
use Rattle.crashlab.specs.declared.hunts.moves.NextCall.{NextCall}
use Rattle.crashlab.specs.declared.hunts.moves.NextCall.TheVariants.{Lock, Consistent, Append, Unlock}
use Rattle.crashlab.specs.declared.hunts.moves.DrawnMove.{DrawnMove}
use Rattle.crashlab.specs.declared.hunts.moves.DrawnMove.TheVariants.{Start, Step, Crash, CrashAll}
use Rattle.schedule.specs.Schedules.{Scheduled}
use Rattle.rmeworld.specs.Law.{EveryExecutionIsLegal}
use Rattle.crashlab.specs.declared.variants.variant.Variant.TheVariants.{Right}
use Rattle.crashlab.specs.hunts.Hunts.{IsFound, EndsAtRefusal, IsPlayed}
use Rattle.crashlab.specs.variants.VariantWorlds.{VariantState}

-- a schedule that is found, up to the deed that is refused; none is found of Right, by the lock theorem
pub record IsCaught (variant : Variant) (schedule : Scheduled) : Type 0 where
  pub found : IsFound variant schedule
  pub ends : EndsAtRefusal variant schedule
  pub wrong : EveryExecutionIsLegal → variant ≡ Right → ⊥

-- the round goes on, or its schedule is found
abbrev pub EndsMove : Variant → Scheduled → VariantState → Kept → MoveOutcome → Type 0
EndsMove variant schedule world judge On = IsPlayed variant schedule world judge
EndsMove variant schedule world judge Caught = IsCaught variant schedule

-- the schedule with one more line
abbrev pub with_line : Scheduled → Line → Scheduled
with_line schedule line = record schedule { lines = schedule.lines ++ line ∷ [] }

-- a call that a hunt starts
abbrev pub call_by : NextCall → Call
call_by Lock = call.Lock
call_by Consistent = call.Consistent
call_by (Append seq) = call.Append seq (seq ∷ [])
call_by Unlock = call.Unlock

-- a move as a line
abbrev pub line_by : DrawnMove → Line
line_by (Start p next_call) = line.Start p (call_by next_call)
line_by (Step p) = line.Step p 1
line_by (Crash p) = line.Crash p
line_by CrashAll = line.CrashAll

-- moves as a schedule of a hunt's world
abbrev pub drawn_moves_of : List DrawnMove → Scheduled
drawn_moves_of moves = record { procs = 3; limit = 1000000; cap = 64; width = 1; lines = map line_by moves }

-- the process of a move of one process
abbrev pub mover : DrawnMove → Option ℕ
mover (Start p next_call) = Some p
mover (Step p) = Some p
mover (Crash p) = Some p
mover CrashAll = None

-- the move is a crash of one process
abbrev pub is_crash : DrawnMove → Bool
is_crash (Crash p) = true
is_crash _ = false
