-- "The judge table", the abstract lock and the mailbox list together: a deed's needs in order, each with its fault, and its
-- effect.
use Rattle.std.specs.Prelude.{ℕ, zero, suc, ◌+◌, Bool, nat_lt, if◌then◌else◌, List, [], ◌∷◌, ◌++◌, Option, Some, None, Result, Ok, Err}
use Rattle.rmecore.specs.Needs.{first_fault, none_below, least_below}
use Rattle.rmecore.specs.AbstractLock.{Abstract, nobody, is_ready, is_inside, is_dead_in, row as lock_row, abstract_after as lock_done}
use Rattle.rmecore.specs.declared.fault.Fault.{Fault}
use Rattle.rmecore.specs.declared.fault.Fault.TheVariants.{OutOfPlace, TwoInside, NotReentered, Overtaken}
use Rattle.rmecore.specs.declared.outer.Outer.{Outer}
use Rattle.rmecore.specs.declared.outer.Outer.TheVariants.{Enter}
use Rattle.redomail.specs.Mailbox.{Mailbox, nothing_shown, doer, row as mail_row, mailbox_after as mail_done}
use Rattle.redomail.specs.declared.deed.Deed.{Deed}
use Rattle.redomail.specs.declared.deed.Deed.TheVariants as deed

-- the state of the judge table: the sizes, the most processes inside at once, the abstract lock and the mailbox list
pub record State : Type 0 where
  pub procs : ℕ
  pub cap : ℕ
  pub most_inside : ℕ
  pub lock : Abstract
  pub mail : Mailbox

-- all processes out, nothing shown, and at most k inside at once
abbrev pub empty_state_of : ℕ → ℕ → ℕ → State
empty_state_of k procs cap = record { procs = procs; cap = cap; most_inside = k; lock = nobody; mail = nothing_shown }

-- the same of mutual exclusion
abbrev pub empty_state : ℕ → ℕ → State
empty_state procs cap = empty_state_of 1 procs cap

-- how many numbers below n pass the test
abbrev pub count_below : ℕ → (ℕ → Bool) → ℕ
count_below zero test = 0
count_below (suc n) test = (if test zero then 1 else 0) + count_below n (λ k. test (suc k))

-- how many processes are inside, and how many crashed there and have not come back
abbrev pub count_inside : ℕ → Abstract → ℕ
count_inside n a = count_below n (λ q. is_inside (a.phase q))

abbrev pub count_dead_in : ℕ → Abstract → ℕ
count_dead_in n a = count_below n (λ q. is_dead_in (a.phase q))

-- the needs of an Enter where at most k may be inside at once, those that crashed there counted
-- (k-exclusion: Fischer, Lynch, Burns and Borodin)
abbrev pub entry_needs : ℕ → ℕ → Abstract → ℕ → List (Bool × Fault)
entry_needs k n a p =
    (is_ready (a.phase p), OutOfPlace)
    ∷ (nat_lt (count_inside n a) k, TwoInside)
    ∷ (nat_lt (count_inside n a + count_dead_in n a) k, NotReentered)
    ∷ (none_below n (a.ahead p), Overtaken p (least_below n (a.ahead p)))
    ∷ []

-- a deed's row among n processes of which at most k may be inside: for one it is the row of the abstract lock
abbrev pub exclusion_row : ℕ → ℕ → Abstract → Outer → List (Bool × Fault)
exclusion_row (suc zero) n a d = lock_row n a d
exclusion_row k n a (Enter p) = entry_needs k n a p
exclusion_row k n a d = lock_row n a d

-- the lock's needs of a deed
abbrev pub lock_needs : State → Deed → List (Bool × Fault)
lock_needs s (deed.Outer d) = exclusion_row s.most_inside s.procs s.lock d
lock_needs s _ = []

-- the mailbox's needs of a deed
abbrev pub mail_needs : State → Deed → List (Bool × Fault)
mail_needs s d = mail_row s.cap (is_inside (s.lock.phase (doer d))) s.mail d

-- the needs of a deed: a process below procs, the lock's needs, the mailbox's needs
abbrev pub needs : State → Deed → List (Bool × Fault)
needs s d = (nat_lt (doer d) s.procs, OutOfPlace) ∷ lock_needs s d ++ mail_needs s d

-- the lock after a deed. Deeds of the mailbox don't change it
abbrev pub lock_after : Abstract → Deed → Abstract
lock_after a (deed.Outer d) = lock_done a d
lock_after a _ = a

-- the effect of a deed
abbrev pub after : State → Deed → State
after s d = record s { lock = lock_after s.lock d; mail = mail_done s.mail d }

-- the state, unless there is a fault
abbrev pub unless : Option Fault → State → Result State Fault
unless None s = Ok s
unless (Some fault) s = Err fault

-- the state after a deed, or its fault
abbrev pub state_after_deed : State → Deed → Result State Fault
state_after_deed s d = unless (first_fault (needs s d)) (after s d)
