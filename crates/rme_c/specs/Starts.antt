-- Which sizes a world has (Limits of docs/theory/model.md), which call C has written, and why a start is refused.
use Rattle.std.specs.Prelude.{ℕ, Bool, ◌==◌, ◌&&◌, nat_lt, nat_le, if◌then◌else◌, [], ◌∷◌, Option, Some, None, take, slice_index}
use Rattle.rmecore.specs.declared.refusal.Refusal.{Refusal}
use Rattle.rmecore.specs.declared.refusal.Refusal.TheVariants.{BadProcs, BadLimit, NoSuchProcess, BadCap, BadWidth, BadIndex}
use Rattle.redomail.specs.declared.layout.Layout.{Layout}
use Rattle.rmeworld.specs.declared.call.Call.{Call}
use Rattle.rmeworld.specs.declared.call.Call.TheVariants.{Lock, Unlock, Consistent, Recover, Append, Close, Get, Put, Withdraw}
use Rattle.rmeworld.specs.Refused.{first_cause, start_refusal}
use Rattle.rmeworld.specs.MachineState.{MachineState, process_state_of}
use Rattle.rme_c.specs.declared.process.RmeCall.{RmeCall}

-- the number is from `least` to `most`
abbrev pub within : ℕ → ℕ → ℕ → Bool
within least most n = nat_le least n && nat_le n most

-- why no world has these sizes and this process, if so
abbrev pub size_cause : Layout → ℕ → ℕ → Option Refusal
size_cause l limit p =
    first_cause (
    (within 1 64 l.procs, BadProcs)
    ∷ (within 1 4611686018427387904 limit, BadLimit)
    ∷ (nat_lt p l.procs, NoSuchProcess)
    ∷ (within 1 65536 l.cap, BadCap)
    ∷ (within 1 8 l.width, BadWidth)
    ∷ []
    )

-- the call with these numbers
abbrev pub call_by : ℕ → RmeCall → Option Call
call_by width c =
    if c.code == 1 then Some Lock
    else if c.code == 2 then Some Unlock
    else if c.code == 3 then Some Consistent
    else if c.code == 4 then Some Recover
    else if c.code == 5 then Some (Append c.number (take width c.value))
    else if c.code == 6 then Some Close
    else if c.code == 7 then Some (Get c.number)
    else if c.code == 8 then Some (Put c.number (slice_index c.value 0))
    else if c.code == 9 then Some Withdraw
    else None

-- why a call is refused: no call has its code, or the process may not start it
abbrev pub call_cause : MachineState → Option Call → Option Refusal
call_cause s None = Some BadIndex
call_cause s (Some call) = start_refusal s.layout (process_state_of s) call

-- the first cause, if there is one
abbrev pub first_of_causes : Option Refusal → Option Refusal → Option Refusal
first_of_causes (Some r) _ = Some r
first_of_causes None cause = cause

-- why a start of this call is refused
abbrev pub refusal_of : MachineState → Option Call → Option Refusal
refusal_of s call = first_of_causes (size_cause s.layout s.limit s.index) (call_cause s call)

-- why a start is refused
abbrev pub start_cause : MachineState → RmeCall → Option Refusal
start_cause s c = refusal_of s (call_by s.layout.width c)
