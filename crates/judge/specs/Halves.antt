-- "Legal history": the abstract lock and the mailbox list both allow its deeds.
use Rattle.std.specs.Prelude.{◌≡◌, ℕ, ◌<◌, true, nat_lt, List, [], ◌∷◌}
use Rattle.rmecore.specs.Needs.{AllHold}
use Rattle.rmecore.specs.declared.fault.Fault.TheVariants.{OutOfPlace}
use Rattle.rmecore.specs.AbstractLock.{Abstract, is_inside, doer as lock_doer, abstract_after}
use Rattle.rmecore.specs.declared.outer.Outer.{Outer}
use Rattle.redomail.specs.Mailbox.{Mailbox, doer, row, mailbox_after}
use Rattle.redomail.specs.declared.deed.Deed.{Deed}
use Rattle.redomail.specs.declared.deed.Deed.TheVariants as deed
use Rattle.judge.specs.Table.{State, exclusion_row, lock_after, after}

-- the deeds of the lock among these
abbrev pub outers : List Deed → List Outer
outers [] = []
outers (deed.Outer d ∷ ds) = d ∷ outers ds
outers (_ ∷ ds) = outers ds

-- Each of these deeds is by one of n processes, and the abstract lock allows it where at most k may be inside. For one it's
-- `Legal`.
abbrev pub LockAllows : ℕ → ℕ → Abstract → List Outer → Type 0
LockAllows k n a [] = Unit {0}
LockAllows k n a (d ∷ ds) =
    AllHold ((nat_lt (lock_doer d) n, OutOfPlace) ∷ exclusion_row k n a d) × LockAllows k n (abstract_after a d) ds

-- Each of these deeds is by one of n processes, and the mailbox list with cap places allows it. The phases decide whether
-- its process is inside. Leave has a need of the mailbox too: nothing is pending.
abbrev pub MailAllows : ℕ → ℕ → Abstract → Mailbox → List Deed → Type 0
MailAllows n cap a m [] = Unit {0}
MailAllows n cap a m (d ∷ ds) =
    (nat_lt (doer d) n ≡ true)
    × AllHold (row cap (is_inside (a.phase (doer d))) m d)
    × MailAllows n cap (lock_after a d) (mailbox_after m d) ds

-- the state after these deeds
abbrev pub all_after : State → List Deed → State
all_after s [] = s
all_after s (d ∷ ds) = all_after (after s d) ds

-- two abstract locks have the same phases and sets for the processes below n
pub record Agree (n : ℕ) (a b : Abstract) : Type 0 where
  pub phases : (p : ℕ) → p < n → a.phase p ≡ b.phase p
  pub ahead : (p q : ℕ) → p < n → q < n → a.ahead p q ≡ b.ahead p q
