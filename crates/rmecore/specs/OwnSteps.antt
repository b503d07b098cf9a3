-- "Own steps of a call": the steps of a call among n processes, blocked ones not counted. The answer and the caller's words
-- (choosing, number, inside) at its start decide the number. None: this call never ends with this answer from these words.
-- Choosing and inside are never both set, so that case is arbitrary.
use Rattle.std.specs.Prelude.{ℕ, zero, suc, ◌+◌, ◌*◌, Option, Some, None}
use Rattle.rmecore.specs.declared.core_done.CoreDone.{CoreDone}
use Rattle.rmecore.specs.declared.core_done.CoreDone.TheVariants.{In, InAgain, Spent, Out, Found as Finds, Withdrawn}
use Rattle.rmecore.specs.declared.found.Found.{Found}
use Rattle.rmecore.specs.declared.found.Found.TheVariants.{Idle, Left, Doorway, Waiting, Inside}

-- a lock that enters by waiting in line
abbrev pub entry_steps : (n choosing number inside : ℕ) → Option ℕ
entry_steps n zero zero zero = Some (3 * n + 4)
entry_steps n (suc c) zero i = Some (3 * n + 3)
entry_steps n (suc c) (suc k) i = Some (2 * n + 3)
entry_steps n zero (suc k) zero = Some (2 * n + 2)
entry_steps n zero (suc k) (suc i) = None
entry_steps n zero zero (suc i) = Some (3 * n + 5)

-- a lock that enters again after a crash inside
abbrev pub reentry_steps : (choosing number inside : ℕ) → Option ℕ
reentry_steps zero (suc k) (suc i) = Some 3
reentry_steps (suc c) number inside = None
reentry_steps zero zero inside = None
reentry_steps zero (suc k) zero = None

-- a lock that reads the limit in its doorway
abbrev pub spent_steps : (n choosing number inside : ℕ) → Option ℕ
spent_steps n zero zero zero = Some (n + 4)
spent_steps n (suc c) zero i = Some (n + 3)
spent_steps n (suc c) (suc k) i = None
spent_steps n zero (suc k) i = None
spent_steps n zero zero (suc i) = Some (n + 5)

-- a recovery: three rereads, and one step more if both choosing and a number are set, or only the mark is
abbrev pub found_steps : Found → (choosing number inside : ℕ) → Option ℕ
found_steps Idle zero zero zero = Some 3
found_steps Left zero zero (suc i) = Some 4
found_steps Doorway (suc c) zero i = Some 3
found_steps Waiting (suc c) (suc k) i = Some 4
found_steps Waiting zero (suc k) zero = Some 3
found_steps Inside zero (suc k) (suc i) = Some 3
found_steps _ _ _ _ = None

-- the table
abbrev pub own_steps : (n choosing number inside : ℕ) → CoreDone → Option ℕ
own_steps n c k i In = entry_steps n c k i
own_steps n c k i InAgain = reentry_steps c k i
own_steps n c k i Spent = spent_steps n c k i
own_steps n c k i Out = Some 2
own_steps n c k i (Finds found) = found_steps found c k i
own_steps n c k i Withdrawn = Some 1

-- an upper bound of the table
abbrev pub most_steps : ℕ → ℕ
most_steps n = 3 * n + 5
