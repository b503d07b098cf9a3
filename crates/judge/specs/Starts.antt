-- "Start": what a judge can start from, and the state that it describes.
use Rattle.std.specs.Prelude.{◌≡◌, ℕ, ◌+◌, ◌<◌, ◌≤◌, Bool, true, false, ◌==◌, List, [], take, length, count_by, slice_index_or, slice_get, All, IfSome, is_none}
use Rattle.std.specs.List.{list_any}
use Rattle.rmecore.specs.AbstractLock.{is_ready, is_inside, is_dead_in}
use Rattle.rmecore.specs.declared.phase.Phase.{Phase}
use Rattle.rmecore.specs.declared.phase.Phase.TheVariants.{Out}
use Rattle.redomail.specs.Mailbox.{is_by}
use Rattle.redomail.specs.declared.message.Message.{Message}
use Rattle.judge.specs.Table.{State}
use Rattle.judge.specs.declared.start.Start.{Start}

-- a process's phase. An index past the list is out
abbrev pub phase_in : List Phase → ℕ → Phase
phase_in phases p = slice_index_or phases p Out

-- q is in the list. Order and repeated names don't matter
abbrev pub is_named : List ℕ → ℕ → Bool
is_named names q = list_any (λ name. name == q) names

-- q is ahead of p
abbrev pub is_ahead : Start → ℕ → ℕ → Bool
is_ahead start p q = is_named (slice_index_or start.ahead p []) q

-- the state of a start
abbrev pub state_of : Start → State
state_of start = record {
  procs = start.procs;
  cap = start.cap;
  most_inside = 1;
  lock = record { phase = phase_in start.phases; ahead = is_ahead start };
  mail = record { shown = start.shown; pending = start.pending; closed = start.closed; ruined = start.ruined };
}

-- a message of a process below procs, with its sender's next number after those shown
abbrev pub IsNextMessage : ℕ → List Message → Message → Type 0
IsNextMessage procs shown m = (m.sender < procs) × (m.seq ≡ count_by (is_by m.sender) shown + 1)

-- each message shown has its sender's next number
abbrev pub AreNumbered : ℕ → List Message → Type 0
AreNumbered procs shown = (i : ℕ) → IfSome (slice_get shown i) (IsNextMessage procs (take i shown))

-- "Limits": 1 to 64 processes, and 1 to 65,536 messages
pub record IsWithin (procs cap : ℕ) : Type 0 where
  pub procs_least : 1 ≤ procs
  pub procs_most : procs ≤ 64
  pub cap_least : 1 ≤ cap
  pub cap_most : cap ≤ 65536

-- a phase and a set for each process, none inside, at most one dead in, and only ready ones in the sets
pub record LockHolds (start : Start) : Type 0 where
  pub phases : length start.phases ≡ start.procs
  pub ahead : length start.ahead ≡ start.procs
  pub nobody_in : list_any is_inside start.phases ≡ false
  pub one_dead : count_by is_dead_in start.phases ≤ 1
  pub all_ready : All (All (λ q. is_ready (phase_in start.phases q) ≡ true)) start.ahead

-- Commit and Show can have made what is shown and pending, and nothing is pending if it is closed
pub record MailHolds (start : Start) : Type 0 where
  pub shown : AreNumbered start.procs start.shown
  pub room : length start.shown ≤ start.cap
  pub pending : IfSome start.pending (λ m. IsNextMessage start.procs start.shown m × (length start.shown < start.cap))
  pub open_yet : start.closed ≡ true → is_none start.pending ≡ true

-- a start that `from_start` accepts
pub record IsStart (start : Start) : Type 0 where
  pub within : IsWithin start.procs start.cap
  pub lock : LockHolds start
  pub mail : MailHolds start
