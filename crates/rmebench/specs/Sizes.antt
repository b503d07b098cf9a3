-- The work that words ask for, and its sizes.
use Rattle.std.specs.Prelude.{◌≡◌, ℕ, ◌≤◌, List, codes}
use Rattle.rmebench.specs.declared.order.Order.{Order}
use Rattle.rmebench.specs.declared.order.Order.TheVariants.{Lock, Append}

-- each thread has a member, and the mailbox has room for each message
abbrev pub IsFit : Order → Type 0
IsFit (Lock procs threads rounds) = (1 ≤ threads) × (threads ≤ procs) × (procs ≤ 64)
IsFit (Append procs width rounds) = (1 ≤ procs) × (procs ≤ 64) × (1 ≤ width) × (width ≤ 8) × (rounds ≤ 65536)

-- the work with this name and these three numbers
abbrev pub Asks : List ℕ → ℕ → ℕ → ℕ → Order → Type 0
Asks name first second third (Lock procs threads rounds) = (name ≡ codes "lock") × (procs ≡ first) × (threads ≡ second) × (rounds ≡ third)
Asks name first second third (Append procs width rounds) = (name ≡ codes "append") × (procs ≡ first) × (width ≡ second) × (rounds ≡ third)
