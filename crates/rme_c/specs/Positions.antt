-- The position that the numbers of a process in C encode.
use Rattle.std.specs.Prelude.{ℕ, ◌+◌, ◌*◌, ◌<◌, ◌≤◌, Bool, true, false, not, ◌&&◌, ◌==◌, nat_lt, nat_le, if◌then◌else◌, List, Option, Some, None}
use Rattle.rmecore.specs.declared.stage.Stage.{Stage}
use Rattle.rmecore.specs.declared.stage.Stage.TheVariants as stage
use Rattle.rmecore.specs.Machine.{Standing, place_of}
use Rattle.rmecore.specs.Place.{Place, Dead, Inside}
use Rattle.rmecore.specs.PlaceWords.{call_by}
use Rattle.redomail.specs.declared.layout.Layout.{Layout}
use Rattle.rmeworld.specs.declared.script_state.ScriptState.{ScriptState}
use Rattle.rmeworld.specs.declared.script_state.ScriptState.TheVariants as script_state
use Rattle.rmeworld.specs.MachineState.{MachineState}
use Rattle.rme_c.specs.declared.script_position.ScriptPosition.{ScriptPosition}
use Rattle.rme_c.specs.declared.script_position.ScriptPosition.TheVariants as script_position
use Rattle.rme_c.specs.declared.position.Position.{Position}
use Rattle.rme_c.specs.declared.position.Position.TheVariants as position
use Rattle.rme_c.specs.declared.process.RmePosition.{RmePosition}
use Rattle.rme_c.specs.declared.process.RmeProcess.{RmeProcess}
use Rattle.rme_c.specs.ScriptPositions.{FitsScriptPosition, script_state_of}

-- the stage of the lock's part with these numbers
abbrev pub stage_of : RmePosition → Option Stage
stage_of q =
    if q.at == 0 then Some stage.Rest
    else if q.at == 1 then Some stage.Dead
    else if q.at == 2 then Some (stage.ReadingChoosing (call_by q.third))
    else if q.at == 3 then Some (stage.ReadingNumber (call_by q.third) q.second)
    else if q.at == 4 then Some (stage.ReadingInside (call_by q.third) q.second q.first)
    else if q.at == 5 then Some stage.Opening
    else if q.at == 256 then Some (stage.Door q.third q.first)
    else if q.at == 7 then Some (stage.Shutting (call_by q.third) q.first)
    else if q.at == 257 then Some (stage.Wait q.first q.third false)
    else if nat_lt 257 q.at then Some (stage.Wait q.first q.third true)
    else if q.at == 10 then Some stage.Inside
    else if q.at == 11 then Some stage.Leaving
    else if q.at == 12 then Some stage.Withdrawing
    else if q.at == 13 then Some (stage.Unmarking (call_by q.third))
    else None

-- the sizes are within those of a mailbox
abbrev pub is_layout : Layout → Bool
is_layout l = nat_le l.procs 64 && (nat_le l.cap 65536 && (nat_le 1 l.width && nat_le l.width 8))

-- a script state that needs no sizes
abbrev pub short_script_position : RmePosition → Option ScriptPosition
short_script_position q =
    if q.at == 16 then Some script_position.Checking
    else if q.at == 17 then Some script_position.Ruining
    else if q.at == 18 then Some script_position.Closing
    else if q.at == 19 then Some script_position.Close
    else None

-- a script state of a mending
abbrev pub mending_script_position : Layout → RmePosition → Option ScriptPosition
mending_script_position l q =
    if q.at == 20 then Some script_position.Asking
    else if q.at == 21 then Some script_position.Armed
    else if q.at == 22 then Some script_position.At
    else if q.at == 23 then Some (script_position.Seq q.first)
    else if q.at == 24 then (if nat_lt q.third l.width then Some (script_position.Value q.first q.second q.third) else None)
    else if q.at == 25 then (if nat_lt q.third (8 + 2 * l.width) then Some (script_position.Redo q.first q.second q.third) else None)
    else None

-- a script state of an append or of the board
abbrev pub working_script_position : Layout → RmePosition → Option ScriptPosition
working_script_position l q =
    if q.at == 26 then Some (script_position.Closed q.second)
    else if q.at == 27 then Some (script_position.Count q.second q.third)
    else if q.at == 28 then Some (script_position.Last q.second q.third q.first)
    else if q.at == 29 then (if nat_lt q.third (8 + 2 * l.width) then Some (script_position.Store q.first q.second q.third) else None)
    else if q.at == 30 then (if nat_lt q.first 4 then Some (script_position.Getting q.first) else None)
    else if q.at == 31 then (if nat_lt q.first 4 then Some (script_position.Putting q.first q.second) else None)
    else None

-- the first of the two that is there
abbrev pub first_of : Option ScriptPosition → Option ScriptPosition → Option ScriptPosition
first_of None c = c
first_of (Some c) _ = Some c

-- the script state with these numbers
abbrev pub script_position_of : Layout → RmePosition → Option ScriptPosition
script_position_of l q = first_of (short_script_position q) (if is_layout l then first_of (mending_script_position l q) (working_script_position l q) else None)

-- the position, from the stage or the script state
abbrev pub by_parts : Option Stage → Option ScriptPosition → Position
by_parts (Some t) c = position.Lock t
by_parts None (Some c) = position.Within c
by_parts None None = position.Lost

-- the sizes of the mailbox of the process's world
abbrev pub layout_of : RmeProcess → Layout
layout_of p = record { procs = p.procs; cap = p.cap; width = p.width }

-- the index is that of a process
abbrev pub is_placed : RmeProcess → Bool
is_placed p = nat_lt p.index p.procs && nat_le p.procs 64

-- the stage of the lock's part, if the process is in that part
abbrev pub stage_now : RmeProcess → Option Stage
stage_now p = if is_placed p then stage_of p.position else None

-- the position of the process
abbrev pub position_of : RmeProcess → Position
position_of p = if is_placed p then by_parts (stage_of p.position) (script_position_of (layout_of p) p.position) else position.Lost

-- what a position needs of the sizes of the mailbox
abbrev pub FitsAt : Layout → Position → Type 0
FitsAt l (position.Within c) = FitsScriptPosition l c
FitsAt l _ = Unit {0}

-- the process is one of its world's, and its sizes fit the position
abbrev pub FitsPosition : RmeProcess → Position → Type 0
FitsPosition p position.Lost = Unit {0}
FitsPosition p (position.Lock t) = (p.index < p.procs) × (p.procs ≤ 64)
FitsPosition p (position.Within c) = (p.index < p.procs) × ((p.procs ≤ 64) × FitsScriptPosition (layout_of p) c)

-- the position after a step of the lock's part: after an entry by a lock it is the ruin check
abbrev pub landing : Bool → Stage → Position
landing true t = position.Within script_position.Checking
landing false t = position.Lock t

-- the state of the lock's machine at this stage
abbrev pub standing_at : RmeProcess → Stage → Standing
standing_at p t = record { procs = p.procs; limit = p.limit; index = p.index; place = place_of p.procs p.index t }

-- the place of the lock's part at this position
abbrev pub lock_at : ℕ → ℕ → Position → Place
lock_at n p position.Lost = Dead
lock_at n p (position.Lock t) = place_of n p t
lock_at n p (position.Within c) = Inside

-- the script state at this position
abbrev pub script_state_at : Layout → ℕ → List ℕ → Position → ScriptState
script_state_at l p words (position.Within c) = script_state_of l p words c
script_state_at l p words _ = script_state.Free

-- the machine state of `rmeworld` with these numbers, at this position
abbrev pub machine_state_at : RmeProcess → Position → MachineState
machine_state_at p x =
    record {
      layout = layout_of p;
      limit = p.limit;
      index = p.index;
      lock = lock_at p.procs p.index x;
      mended = p.unmended == 0;
      barred = not (p.barred == 0);
      script_state = script_state_at (layout_of p) p.index p.value x;
    }

-- the machine state of `rmeworld` with these numbers
abbrev pub machine_state_of : RmeProcess → MachineState
machine_state_of p = machine_state_at p (position_of p)
