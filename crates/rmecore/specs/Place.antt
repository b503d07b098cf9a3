-- "Place" and "Step" for one process: Lamport's Bakery (choosing and number; the least pair enters) with a third word,
-- inside. The place follows from the process's own events alone. The doorway reads one number at a time.
use Rattle.std.specs.Prelude.{ℕ, zero, suc, ◌+◌, ◌-◌, max, Bool, false, ◌&&◌, ◌||◌, ◌==◌, nat_lt, nat_le, if◌then◌else◌, List, [], ◌∷◌, Option, Some, None}
use Rattle.rmecore.specs.declared.core_call.CoreCall.{CoreCall}
use Rattle.rmecore.specs.declared.core_call.CoreCall.TheVariants.{Lock, Recover, Unlock, Withdraw}
use Rattle.rmecore.specs.declared.kind.Kind.{Kind}
use Rattle.rmecore.specs.declared.kind.Kind.TheVariants.{Reread as Rereads, Open as Opens, Peek as Peeks, Take as Takes, Shut as Shuts, Look as Looks, Weigh as Weighs, Mark as Marks, Drop as Drops, Glance as Glances}
use Rattle.rmecore.specs.declared.word.Word.{Word}
use Rattle.rmecore.specs.declared.word.Word.TheVariants.{Choosing as ChoosingOf, Number as NumberOf, Inside as InsideOf}

-- an event: a start, a crash (which loses one process's private memory: Golab and Ramaraju), or one load or store of one
-- word with its value
pub data Event : Type 0 where
  Starts : (p : ℕ) → (call : CoreCall) → Event
  Crashes : (p : ℕ) → Event
  Steps : (p : ℕ) → (kind : Kind) → (word : Word) → (value : ℕ) → Event

-- Place of docs/theory/model.md. Sets of processes are lists without order
pub data Place : Type 0 where
  Rest Dead : Place
  -- after a start: the own words read so far
  Reread : (call : CoreCall) → (seen : List ℕ) → Place
  Opening : Place
  -- the processes not read yet, and the greatest number read
  Door : (unread : List ℕ) → (greatest : ℕ) → Place
  Shutting : (call : CoreCall) → (number : ℕ) → Place
  -- the own number, the processes not passed yet, and the one of them whose choosing was read as 0
  Wait : (number : ℕ) → (unpassed : List ℕ) → (looked : Option ℕ) → Place
  Inside Leaving Withdrawing : Place
  Unmarking : (call : CoreCall) → Place

-- j is in the set
abbrev pub has : List ℕ → ℕ → Bool
has [] i = false
has (j ∷ js) i = (i == j) || has js i

-- the set without j
abbrev pub without : ℕ → List ℕ → List ℕ
without j [] = []
without j (i ∷ is) = if i == j then without j is else i ∷ without j is

-- the processes i to i + k - 1 without p
abbrev pub span : ℕ → ℕ → ℕ → List ℕ
span p i zero = []
span p i (suc k) = if i == p then span p (i + 1) k else i ∷ span p (i + 1) k

-- the processes from i to n - 1 without p
abbrev pub above : ℕ → ℕ → ℕ → List ℕ
above n p i = span p i (n - i)

-- all processes below n without p
abbrev pub others : ℕ → ℕ → List ℕ
others n p = above n p 0

-- pairs (number, process) are ordered by number, then by process (Lamport)
abbrev pub is_before : ℕ → ℕ → ℕ → ℕ → Bool
is_before k p v j = nat_lt k v || ((k == v) && nat_lt p j)

-- the place, if the test holds
abbrev pub only : Bool → Place → Option Place
only b place = if b then Some place else None

-- "Restart table" over choosing, number and inside: what a lock does next, and what a recovery does. Choosing and inside are
-- never both set, so that case is arbitrary.
abbrev pub lock_restart : ℕ → ℕ → ℕ → ℕ → ℕ → Place
lock_restart n p (suc c) zero i = Door (others n p) 0
lock_restart n p (suc c) (suc k) i = Shutting Lock (suc k)
lock_restart n p zero zero zero = Opening
lock_restart n p zero zero (suc i) = Unmarking Lock
lock_restart n p zero (suc k) zero = Wait (suc k) (others n p) None
lock_restart n p zero (suc k) (suc i) = Inside

-- "Restart table": what a recovery does
abbrev pub recovery_restart : ℕ → ℕ → ℕ → Place
recovery_restart (suc c) zero i = Rest
recovery_restart (suc c) (suc k) i = Shutting Recover (suc k)
recovery_restart zero zero zero = Rest
recovery_restart zero zero (suc i) = Unmarking Recover
recovery_restart zero (suc k) zero = Rest
recovery_restart zero (suc k) (suc i) = Inside

-- "Restart table", by the call
abbrev pub restart : ℕ → ℕ → CoreCall → ℕ → ℕ → ℕ → Place
restart n p Lock c k i = lock_restart n p c k i
restart n p _ c k i = recovery_restart c k i

-- the place after choosing := 0
abbrev pub shut : ℕ → ℕ → CoreCall → ℕ → Place
shut n p Lock k = Wait k (others n p) None
shut n p _ k = Rest

-- the place after inside := 0
abbrev pub place_after_unmark : CoreCall → Place
place_after_unmark Lock = Opening
place_after_unmark _ = Rest

-- "Step": the place after one step of process p, with the value that it read or wrote. In a run the greatest number is never
-- above limit, and choosing and inside are never both set. The definition is total all the same, so that it can be followed
-- from the events of p alone.
abbrev pub next : ℕ → ℕ → ℕ → Place → Kind → Word → ℕ → Option Place
next n limit p (Reread call []) Rereads (ChoosingOf q) v = only (q == p) (Reread call (v ∷ []))
next n limit p (Reread call (c ∷ [])) Rereads (NumberOf q) v = only (q == p) (Reread call (c ∷ v ∷ []))
next n limit p (Reread call (c ∷ k ∷ [])) Rereads (InsideOf q) v = only (q == p) (restart n p call c k v)
next n limit p Opening Opens (ChoosingOf q) v = only ((q == p) && (v == 1)) (Door (others n p) 0)
next n limit p (Door unread m) Peeks (NumberOf j) v = only (has unread j) (Door (without j unread) (max m v))
next n limit p (Door [] m) Takes (NumberOf q) v = only ((q == p) && (nat_lt m limit && (v == m + 1))) (Shutting Lock v)
next n limit p (Door [] m) Shuts (ChoosingOf q) v = only ((q == p) && (nat_le limit m && (v == 0))) Rest
next n limit p (Shutting call k) Shuts (ChoosingOf q) v = only ((q == p) && (v == 0)) (shut n p call k)
next n limit p (Wait k unpassed None) Looks (ChoosingOf j) v =
    only (has unpassed j) (if v == 0 then Wait k unpassed (Some j) else Wait k unpassed None)
next n limit p (Wait k unpassed (Some i)) Weighs (NumberOf j) v =
    only (j == i) (if (v == 0) || is_before k p v j then Wait k (without j unpassed) None else Wait k unpassed (Some i))
next n limit p (Wait k [] None) Marks (InsideOf q) v = only ((q == p) && (v == 1)) Inside
next n limit p Leaving Drops (NumberOf q) v = only ((q == p) && (v == 0)) (Unmarking Unlock)
next n limit p Withdrawing Drops (NumberOf q) v = only ((q == p) && (v == 0)) Rest
next n limit p (Unmarking call) Marks (InsideOf q) v = only ((q == p) && (v == 0)) (place_after_unmark call)
next n limit p place Glances (ChoosingOf q) v = Some place
next n limit p place Glances (NumberOf q) v = Some place
next n limit p place Glances (InsideOf q) v = Some place
next _ _ _ _ _ _ _ = None

-- the place after the start of a call
abbrev pub place_after_start : Place → CoreCall → Option Place
place_after_start Rest Lock = Some (Reread Lock [])
place_after_start Rest Recover = Some (Reread Recover [])
place_after_start Dead Lock = Some (Reread Lock [])
place_after_start Dead Recover = Some (Reread Recover [])
place_after_start Inside Unlock = Some Leaving
place_after_start (Wait k unpassed looked) Withdraw = Some Withdrawing
place_after_start _ _ = None

-- the process of an event
abbrev pub process : Event → ℕ
process (Starts p call) = p
process (Crashes p) = p
process (Steps p kind word v) = p

-- the place after an event of its process. After a crash it is always the same
abbrev pub place_after_event : ℕ → ℕ → Place → Event → Option Place
place_after_event n limit place (Starts p call) = place_after_start place call
place_after_event n limit place (Crashes p) = Some Dead
place_after_event n limit place (Steps p kind word v) = next n limit p place kind word v
