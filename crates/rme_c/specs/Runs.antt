-- A run: accesses that follow one another as long as each load reads 0. C makes them in order, up to the first word that is not
-- 0, and feeds them at once: that many zeros, and then the last word that it has read.
use Rattle.std.specs.Prelude.{◌≡◌, ℕ, zero, suc, ◌+◌, ◌-◌, ◌<◌, ◌≤◌, ◌==◌, ◌||◌, nat_lt, nat_le, Bool, is_none, if◌then◌else◌, List, [], ◌∷◌, ◌++◌, length, Option, Some, None, IfSome, ◌⊎◌}
use Rattle.redomail.specs.Layout.{saturate}
use Rattle.rmecore.specs.Place.{above, Place, Reread, Opening, Door, Wait, Leaving}
use Rattle.rmecore.specs.declared.core_call.CoreCall.TheVariants.{Lock}
use Rattle.rmecore.specs.declared.access.Access.{Access}
use Rattle.rmecore.specs.declared.access.Access.TheVariants.{Load, Store}
use Rattle.rmecore.specs.declared.kind.Kind.TheVariants.{Reread as Rereads, Open as Opens, Peek as Peeks, Take as Takes, Shut as Shuts, Look as Looks, Weigh as Weighs, Mark as Marks, Drop as Drops, Get as Gets}
use Rattle.rmecore.specs.declared.word.Word.TheVariants.{Choosing, Number, Inside, Data}
use Rattle.rmeworld.specs.declared.call.Call.{Call}
use Rattle.rmeworld.specs.MachineState.{MachineState, machine_after_start, machine_after_step, next_access, outcome}
use Rattle.rmeworld.specs.declared.script_state.ScriptState.{ScriptState}
use Rattle.rmeworld.specs.declared.script_state.ScriptState.TheVariants.{Free, Doing}
use Rattle.rme_c.specs.declared.position.Position.{Position}
use Rattle.rme_c.specs.declared.process.RmeAccess.{RmeAccess}
use Rattle.rme_c.specs.declared.process.RmeCall.{RmeCall}
use Rattle.rme_c.specs.declared.process.RmeProcess.{RmeProcess}
use Rattle.rme_c.specs.declared.runs.AccessRun.{AccessRun}
use Rattle.rme_c.specs.declared.runs.AccessRun.TheVariants as run
use Rattle.rme_c.specs.Codes.{code_after_step, next_for_c, refusal_code}
use Rattle.rme_c.specs.Positions.{machine_state_at, machine_state_of}
use Rattle.rme_c.specs.Starts.{call_by, refusal_of, start_cause}

-- the machine of a process, and the own steps of its last call
pub record Counted : Type 0 where
  pub machine : MachineState
  pub steps : ℕ

abbrev pub counted_of : RmeProcess → Counted
counted_of p = record { machine = machine_state_of p; steps = p.steps }

-- at this position, after this many steps
abbrev pub counted_at : RmeProcess → ℕ → Position → Counted
counted_at p steps x = record { machine = machine_state_at p x; steps = steps }

-- after `rme_feed` with this value
abbrev pub fed_once : Counted → ℕ → Counted
fed_once c v = record { machine = machine_after_step c.machine v; steps = if is_none (next_access c.machine) then c.steps else saturate (c.steps + 1) }

-- after this many feeds of 0
abbrev pub fed_zeros : ℕ → Counted → Counted
fed_zeros zero c = c
fed_zeros (suc k) c = fed_once (fed_zeros k c) 0

-- these accesses are the machine's next ones, as long as each load reads 0
abbrev pub AreNextAccesses : MachineState → List Access → Type 0
AreNextAccesses s [] = Unit {0}
AreNextAccesses s (a ∷ rest) = (next_access s ≡ Some a) × AreNextAccesses (machine_after_step s 0) rest

-- the numbers of these processes
abbrev pub peeks : List ℕ → List Access
peeks [] = []
peeks (j ∷ js) = Load Peeks (Number j) ∷ peeks js

-- choosing and then the number of each of these processes
abbrev pub waits : List ℕ → List Access
waits [] = []
waits (j ∷ js) = Load Looks (Choosing j) ∷ Load Weighs (Number j) ∷ waits js

-- the accesses of a run of process p of n
abbrev pub accesses_of : ℕ → ℕ → AccessRun → List Access
accesses_of n p run.Locks =
    Load Rereads (Choosing p) ∷ Load Rereads (Number p) ∷ Load Rereads (Inside p)
    ∷ Store Opens (Choosing p) 1 ∷ (peeks (above n p 0) ++ (Store Takes (Number p) 1
    ∷ Store Shuts (Choosing p) 0 ∷ (waits (above n p 0) ++ (Store Marks (Inside p) 1 ∷ Load Gets (Data 0) ∷ []))))
accesses_of n p run.Opens = Store Opens (Choosing p) 1 ∷ peeks (above n p 0)
accesses_of n p (run.Peeks j) = peeks (above n p j)
accesses_of n p (run.Takes number) = Store Takes (Number p) number ∷ Store Shuts (Choosing p) 0 ∷ waits (above n p 0)
accesses_of n p (run.Looks j) = waits (above n p j)
accesses_of n p run.Marks = Store Marks (Inside p) 1 ∷ Load Gets (Data 0) ∷ []
accesses_of n p run.Leaves = Store Drops (Number p) 0 ∷ Store Marks (Inside p) 0 ∷ []

-- the code of a run, from 256 on
abbrev pub run_code : AccessRun → ℕ
run_code run.Locks = 384
run_code run.Opens = 385
run_code (run.Takes number) = 386
run_code run.Marks = 387
run_code run.Leaves = 388
run_code (run.Peeks j) = 256 + j
run_code (run.Looks j) = 320 + j

-- the run of a code. The number that a doorway takes is the value beside it
abbrev pub run_by : ℕ → ℕ → AccessRun
run_by code v =
    if nat_lt code 320 then run.Peeks (code - 256)
    else if nat_lt code 384 then run.Looks (code - 320)
    else if code == 384 then run.Locks
    else if code == 385 then run.Opens
    else if code == 386 then run.Takes v
    else if code == 387 then run.Marks
    else run.Leaves

-- a run that begins with another process: one of 64
abbrev pub BeginsBelow : AccessRun → Type 0
BeginsBelow (run.Peeks j) = j < 64
BeginsBelow (run.Looks j) = j < 64
BeginsBelow _ = Unit {0}

-- the accesses of this run come next, and it has one at least
pub record IsNextRun (s : MachineState) (n p : ℕ) (r : AccessRun) : Type 0 where
  pub some : 0 < length (accesses_of n p r)
  pub each : AreNextAccesses s (accesses_of n p r)

-- the run that comes next at a place of the lock's part, if one does
abbrev pub run_at : ℕ → Place → Option AccessRun
run_at limit (Reread Lock []) = if nat_lt 0 limit then Some run.Locks else None
run_at limit Opening = Some run.Opens
run_at limit (Door (j ∷ js) m) = Some (run.Peeks j)
run_at limit (Door [] m) = if nat_lt m limit then Some (run.Takes (m + 1)) else None
run_at limit (Wait k (j ∷ js) None) = Some (run.Looks j)
run_at limit (Wait k [] None) = Some run.Marks
run_at limit Leaving = Some run.Leaves
run_at limit _ = None

-- no run comes next while a script is under way
abbrev pub run_by_parts : ℕ → Place → ScriptState → Option AccessRun
run_by_parts limit place Free = run_at limit place
run_by_parts limit place (Doing purpose job) = None

-- the run that comes next, if one does
abbrev pub next_run : MachineState → Option AccessRun
next_run s = run_by_parts s.limit s.lock s.script_state

-- `rme_feed` has answered with this code that the call goes on
abbrev pub goes_on : ℕ → Bool
goes_on code = (code == 0) || nat_le 64 code

-- the code of a run, or this code where no run comes next
abbrev pub run_or : ℕ → Option AccessRun → ℕ
run_or code None = code
run_or code (Some r) = run_code r

-- the run that is answered in place of this code: the call goes on, and the run comes next
abbrev pub run_for : ℕ → MachineState → Option AccessRun
run_for code s = if goes_on code then next_run s else None

-- the code that `rme_feed_run` answers: that of `rme_feed`, or of the run that is answered in its place
abbrev pub feed_code : ℕ → MachineState → ℕ
feed_code code s = run_or code (run_for code s)

-- the code that `rme_start_run` answers: that of the refusal, or of the run that comes next
abbrev pub start_code : ℕ → MachineState → ℕ
start_code refusal s = if refusal == 0 then run_or 0 (next_run s) else refusal

-- `rme_feed` has answered that the call goes on
abbrev pub CallGoesOn : ℕ → Type 0
CallGoesOn code = (code ≡ 0) ⊎ (64 ≤ code)

-- a call was started or refused: the code is that of the refusal, of the run that comes next, or 0 with its first access shown
pub record IsStartedRun (p : RmeProcess) (c : RmeCall) (q : RmeProcess) (b a : RmeAccess) (r : ℕ) : Type 0 where
  pub code : r ≡ start_code (refusal_code (start_cause (machine_state_of p) c)) (machine_state_of q)
  pub status : r < 256 → r ≡ refusal_code (start_cause (machine_state_of p) c)
  pub allowed : 256 ≤ r → refusal_code (start_cause (machine_state_of p) c) ≡ 0
  pub started : refusal_code (start_cause (machine_state_of p) c) ≡ 0 → IfSome (call_by p.width c) (λ d. machine_state_of q ≡ machine_after_start (machine_state_of p) d)
  pub steps : refusal_code (start_cause (machine_state_of p) c) ≡ 0 → q.steps ≡ 0
  pub run : 256 ≤ r → IsNextRun (machine_state_of q) q.procs q.index (run_by r a.value)
  pub next : r ≡ 0 → a ≡ next_for_c p.procs None (next_access (machine_state_of q))
  pub refused : 0 < r → r < 256 → (q ≡ p) × (a ≡ b)

-- from this machine on, after the zeros of a run, the process was fed this value: its new state, the code of the feed or of the
-- run that comes next, and `next`
pub record IsFedRun (c : Counted) (v : ℕ) (q : RmeProcess) (a : RmeAccess) (r : ℕ) : Type 0 where
  pub exact : counted_of q ≡ fed_once c v
  pub code : r < 256 → r ≡ code_after_step c.machine v
  pub goes : 256 ≤ r → CallGoesOn (code_after_step c.machine v)
  pub run : 256 ≤ r → IsNextRun (machine_state_of q) q.procs q.index (run_by r a.value)
  pub next : r < 64 → a ≡ next_for_c c.machine.layout.procs (outcome c.machine (next_access c.machine) v).answer (next_access (machine_state_of q))

-- right after the start of this call
abbrev pub after_start : MachineState → Call → Counted
after_start s call = record { machine = machine_after_start s call; steps = 0 }

-- this call may start, this run is what it does first, and the process has made all of it, which is this many feeds of 0 and one
-- more: its new state, the code of the last feed, and `next`
pub record IsWholeCall (s : MachineState) (call : Call) (r : AccessRun) (zeros : ℕ) (q : RmeProcess) (a : RmeAccess) (code : ℕ) : Type 0 where
  pub allowed : refusal_of s (Some call) ≡ None
  pub run : IsNextRun (machine_after_start s call) s.layout.procs s.index r
  pub all : zeros + 1 ≡ length (accesses_of s.layout.procs s.index r)
  pub fed : IsFedRun (fed_zeros zeros (after_start s call)) 0 q a code
