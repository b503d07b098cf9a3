-- The potential of a process: the most effective events that it can still take before p enters, reckoned alone. A lap from
-- home to where it can only be blocked after p has 3n+3 events. Who is ahead of p has one more entry and exit first.
use Rattle.std.proofs.Common.{◌≡◌, ℕ, zero, suc, ◌+◌, ◌-◌, ◌*◌, ◌<◌, ◌≤◌, Bool, true, false, not, ◌&&◌, ◌==◌, nat_lt, if◌then◌else◌, length, Some, None, refl, arith}
use Rattle.progress.proofs.Common.{Lock, Own, Place, Rest, Dead, Reread, Opening, Door, Shutting, Wait, Inside, Leaving, Withdrawing, Unmarking, has, is_before}

-- what is left of a scan. ahead: the process is ahead of p
abbrev pub scan : ℕ → ℕ → Bool → ℕ
scan n left true = left + (3 * n + 7)
scan n left false = left - 1

-- after the three rereads of a lock, by the words choosing, number and inside
abbrev pub relocking : ℕ → Bool → ℕ → ℕ → ℕ → ℕ
relocking n ahead (suc c) zero i = 3 * n - 2
relocking n ahead (suc c) (suc k) i = 1 + scan n (2 * n - 2) ahead
relocking n ahead zero zero zero = 3 * n - 1
relocking n ahead zero zero (suc i) = 3 * n
relocking n ahead zero (suc k) zero = scan n (2 * n - 2) ahead
relocking n ahead zero (suc k) (suc i) = 3 * n + 6

-- after the three rereads of a recovery
abbrev pub recovering : ℕ → Bool → ℕ → ℕ → ℕ → ℕ
recovering n ahead (suc c) zero i = 3 * n + 2
recovering n ahead (suc c) (suc k) i = 5 + scan n (2 * n - 2) ahead
recovering n ahead zero zero zero = 3 * n + 3
recovering n ahead zero zero (suc i) = 3 * n + 4
recovering n ahead zero (suc k) zero = 4 + scan n (2 * n - 2) ahead
recovering n ahead zero (suc k) (suc i) = 3 * n + 6

-- the potential of another process than p, which holds number k
abbrev pub left : ℕ → ℕ → ℕ → Bool → Own → Place → ℕ
left n k p ahead x Rest = 4 + relocking n ahead x.choosing x.number x.inside
left n k p ahead x Dead = 4 + relocking n ahead x.choosing x.number x.inside
left n k p ahead x (Reread Lock seen) = (3 - length seen) + relocking n ahead x.choosing x.number x.inside
left n k p ahead x (Reread _ seen) = (3 - length seen) + recovering n ahead x.choosing x.number x.inside
left n k p ahead x Opening = 3 * n - 1
-- a doorway that missed p takes a number that may be before p's
left n k p ahead x (Door unread m) = length unread + 2 + scan n (2 * n - 2) (not (has unread p) && nat_lt m k)
left n k p ahead x (Shutting Lock j) = 1 + scan n (2 * n - 2) ahead
left n k p ahead x (Shutting _ j) = 5 + scan n (2 * n - 2) ahead
left n k p ahead x (Wait j unpassed None) = scan n (2 * length unpassed) ahead
left n k p ahead x (Wait j unpassed (Some i)) = scan n (2 * length unpassed - 1) ahead
left n k p ahead x Inside = 3 * n + 6
left n k p ahead x Leaving = 3 * n + 5
left n k p ahead x Withdrawing = 3 * n + 4
left n k p ahead x (Unmarking Lock) = 3 * n
left n k p ahead x (Unmarking _) = 3 * n + 4

abbrev pub marked : ℕ → ℕ
marked zero = 0
marked (suc c) = 1

-- the potential of p itself: its steps up to its entry and with it
abbrev pub own_left : ℕ → Own → Place → ℕ
own_left n x Rest = 4 + marked x.choosing + (2 * n - 1)
own_left n x Dead = 4 + marked x.choosing + (2 * n - 1)
own_left n x (Reread Lock seen) = (3 - length seen) + marked x.choosing + (2 * n - 1)
own_left n x (Reread _ seen) = (7 - length seen) + marked x.choosing + (2 * n - 1)
own_left n x (Shutting Lock j) = 1 + (2 * n - 1)
own_left n x (Shutting _ j) = 5 + (2 * n - 1)
own_left n x (Wait j unpassed None) = 2 * length unpassed + 1
own_left n x (Wait j unpassed (Some i)) = 2 * length unpassed - 1 + 1
own_left n x _ = 1

-- the potential of process r
abbrev pub share : ℕ → ℕ → ℕ → ℕ → Own → Place → ℕ
share n k p r x s = if r == p then own_left n x s else left n k p (is_before x.number r k p) x s

abbrev pub one : Bool → ℕ
one true = 1
one false = 0

-- a disturbance raises the potential by this at most
abbrev pub raised : ℕ → Bool → ℕ
raised n true = 3 * n + 4
raised n false = 0

-- the potential after an event
abbrev pub Falls : ℕ → ℕ → ℕ → Bool → Bool → Type 0
Falls n old new effective disturbing = new + one effective ≤ old + raised n disturbing

-- the arithmetic of scans

pub scan_le : (n a b : ℕ) (ahead : Bool) → a ≤ b → scan n a ahead ≤ scan n b ahead
scan_le n a b true h = omega arith
scan_le n a b false h = omega arith

pub scan_most : (n a : ℕ) (ahead : Bool) → scan n a ahead ≤ a + (3 * n + 7)
scan_most n a true = omega arith
scan_most n a false = omega arith

pub scan_least : (n a : ℕ) (ahead : Bool) → a ≤ scan n a ahead + 1
scan_least n a true = omega arith
scan_least n a false = omega arith

-- who is not ahead has something left before its last step
pub scan_step : (n a b : ℕ) (ahead : Bool) → a < b → (ahead ≡ false → 0 < a) → scan n a ahead + 1 ≤ scan n b ahead
scan_step n a b true h some = omega arith
scan_step n a b false h some = let more = some refl in omega arith

pub scan_sooner : (n a : ℕ) (b c : Bool) → (b ≡ true → c ≡ true) → scan n a b ≤ scan n a c
scan_sooner n a true true h = omega arith
scan_sooner n a true false h = let bad = h refl in cc
scan_sooner n a false c h = let least = scan_least n a c in omega arith

-- the rereads, by the words

pub relocking_door : (n : ℕ) (ahead : Bool) (c k i : ℕ) → 0 < c → k ≡ 0 → relocking n ahead c k i ≡ 3 * n - 2
relocking_door n ahead zero k i h e = absurd (omega arith)
relocking_door n ahead (suc c) zero i h e = refl
relocking_door n ahead (suc c) (suc k) i h e = absurd (omega arith)

pub relocking_waits : (n : ℕ) (ahead : Bool) (c k i : ℕ) → c ≡ 0 → 0 < k → i ≡ 0 → relocking n ahead c k i ≡ scan n (2 * n - 2) ahead
relocking_waits n ahead zero (suc k) zero e h f = refl
relocking_waits n ahead (suc c) k i e h f = absurd (omega arith)
relocking_waits n ahead zero zero i e h f = absurd (omega arith)
relocking_waits n ahead zero (suc k) (suc i) e h f = absurd (omega arith)

pub relocking_holds : (n : ℕ) (ahead : Bool) (c k i : ℕ) → 0 < k → i ≡ 0 → relocking n ahead c k i ≤ 1 + scan n (2 * n - 2) ahead
relocking_holds n ahead c zero i h f = absurd (omega arith)
relocking_holds n ahead zero (suc k) zero h f = omega arith
relocking_holds n ahead (suc c) (suc k) zero h f = omega arith
relocking_holds n ahead c (suc k) (suc i) h f = absurd (omega arith)

pub relocking_inside : (n : ℕ) (ahead : Bool) (c k i : ℕ) → c ≡ 0 → 0 < k → 0 < i → relocking n ahead c k i ≡ 3 * n + 6
relocking_inside n ahead zero (suc k) (suc i) e h f = refl
relocking_inside n ahead (suc c) k i e h f = absurd (omega arith)
relocking_inside n ahead zero zero i e h f = absurd (omega arith)
relocking_inside n ahead zero (suc k) zero e h f = absurd (omega arith)

pub relocking_out : (n : ℕ) (ahead : Bool) (c k i : ℕ) → c ≡ 0 → k ≡ 0 → relocking n ahead c k i ≤ 3 * n
relocking_out n ahead zero zero zero e f = omega arith
relocking_out n ahead zero zero (suc i) e f = omega arith
relocking_out n ahead (suc c) k i e f = absurd (omega arith)
relocking_out n ahead zero (suc k) i e f = absurd (omega arith)

pub relocking_home : (n : ℕ) (ahead : Bool) (c k i : ℕ) → c ≡ 0 → k ≡ 0 → i ≡ 0 → relocking n ahead c k i ≡ 3 * n - 1
relocking_home n ahead zero zero zero e f g = refl
relocking_home n ahead (suc c) k i e f g = absurd (omega arith)
relocking_home n ahead zero (suc k) i e f g = absurd (omega arith)
relocking_home n ahead zero zero (suc i) e f g = absurd (omega arith)

-- a recovery costs at most four events more, and it is no shorter than a lock
pub recovering_more : (n : ℕ) (ahead : Bool) (c k i : ℕ) → (recovering n ahead c k i ≤ 4 + relocking n ahead c k i) × (relocking n ahead c k i ≤ recovering n ahead c k i)
recovering_more n ahead (suc c) zero i = (omega arith, omega arith)
recovering_more n ahead (suc c) (suc k) i = (omega arith, omega arith)
recovering_more n ahead zero zero zero = (omega arith, omega arith)
recovering_more n ahead zero zero (suc i) = (omega arith, omega arith)
recovering_more n ahead zero (suc k) zero = (omega arith, omega arith)
recovering_more n ahead zero (suc k) (suc i) = (omega arith, omega arith)

-- the most that is left
pub relocking_most : (n : ℕ) (ahead : Bool) (c k i : ℕ) → 0 < n → relocking n ahead c k i ≤ 5 * n + 6
relocking_most n ahead (suc c) zero i h = omega arith
relocking_most n ahead (suc c) (suc k) i h = let most = scan_most n (2 * n - 2) ahead in omega arith
relocking_most n ahead zero zero zero h = omega arith
relocking_most n ahead zero zero (suc i) h = omega arith
relocking_most n ahead zero (suc k) zero h = let most = scan_most n (2 * n - 2) ahead in omega arith
relocking_most n ahead zero (suc k) (suc i) h = omega arith
