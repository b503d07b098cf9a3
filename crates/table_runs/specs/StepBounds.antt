-- How long a call can go on: a bound on the steps that are left of it, blocked ones not counted, at each process state.
use Rattle.std.specs.Prelude.{ℕ, zero, suc, ◌+◌, ◌≤◌}
use Rattle.rmecore.specs.Place.{Place}
use Rattle.rmecore.specs.StepsLeft.{lock_left, IsFair}
use Rattle.redomail.specs.Script.{Script, Get, Put, Done}
use Rattle.redomail.specs.declared.reply.Reply.{Reply}
use Rattle.rmeworld.specs.declared.purpose.Purpose.{Purpose}
use Rattle.rmeworld.specs.declared.purpose.Purpose.TheVariants.{Checking, Ruining, Mending, Working}
use Rattle.rmeworld.specs.ProcessState.{ScriptState, Free, Doing, ProcessState}

-- a script ends within k steps, whatever it reads
abbrev pub Within : ℕ → Script Reply → Type 0
Within k (Done reply) = Unit {0}
Within zero (Get i rest) = ⊥
Within zero (Put i v rest) = ⊥
Within (suc k) (Get i rest) = (x : ℕ) → Within k (rest x)
Within (suc k) (Put i v rest) = Within k rest

-- the steps of the exit after a script
abbrev pub exit_of : Purpose → ℕ
exit_of Checking = 2
exit_of Ruining = 2
exit_of Mending = 0
exit_of (Working task) = 0

-- the script isn't done
abbrev pub HasStepLeft : Script Reply → Type 0
HasStepLeft (Done reply) = ⊥
HasStepLeft (Get i rest) = Unit {0}
HasStepLeft (Put i v rest) = Unit {0}

-- at most k steps are left at this place, with this script under way
abbrev pub LastsBy : ℕ → ℕ → Place → ScriptState → Type 0
LastsBy n k place Free = IsFair place × (lock_left n place ≤ k)
LastsBy n k place (Doing purpose left) = (m : ℕ) × Within m left × (m + exit_of purpose ≤ k) × HasStepLeft left

-- at most k steps are left in this process state, blocked ones not counted
abbrev pub Lasts : ℕ → ℕ → ProcessState → Type 0
Lasts n k process_state = LastsBy n k process_state.lock process_state.script_state
