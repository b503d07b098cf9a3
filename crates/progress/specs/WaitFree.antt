-- Wait-free parts of the calls: a process that takes steps leaves them after a bounded number of its own steps, whatever the
-- others do.
use Rattle.std.specs.Prelude.{ℕ, suc, ◌<◌, ◌&&◌, not, ◌==◌, if◌then◌else◌, List, [], ◌∷◌, Option, Some}
use Rattle.rmecore.specs.Paid.{is_glance}
use Rattle.rmecore.specs.Named.{own_call, lock_part}
use Rattle.rmecore.specs.Place.{Event, Steps, Place, Reread, Wait}
use Rattle.rmecore.specs.World.{World, Run}
use Rattle.rmecore.specs.declared.core_call.CoreCall.{CoreCall}
use Rattle.rmecore.specs.declared.core_call.CoreCall.TheVariants.{Lock, Recover, Unlock}
use Rattle.progress.specs.Bypass.{Throughout}

-- how many steps of p there are in a list of events, glances not counted
abbrev pub steps_of : ℕ → List Event → ℕ
steps_of p [] = 0
steps_of p (Steps q kind word v ∷ es) = if (q == p) && not (is_glance kind) then suc (steps_of p es) else steps_of p es
steps_of p (e ∷ es) = steps_of p es

-- the lock's part of this call ("Named")
abbrev pub IsLockPart : Option CoreCall → Type 0
IsLockPart (Some Lock) = Unit {0}
IsLockPart _ = ⊥

abbrev pub IsUnlockPart : Option CoreCall → Type 0
IsUnlockPart (Some Unlock) = Unit {0}
IsUnlockPart _ = ⊥

abbrev pub IsRecoverPart : Option CoreCall → Type 0
IsRecoverPart (Some Recover) = Unit {0}
IsRecoverPart _ = ⊥

-- before the end of the doorway of a lock: its rereads, the clearing of a mark left by half an exit, the doorway and its shut
abbrev pub IsBeforeLine : Place → Type 0
IsBeforeLine (Wait number unpassed looked) = ⊥
IsBeforeLine place = IsLockPart (lock_part place)

-- the rereads of a lock
abbrev pub IsRereadOfLock : Place → Type 0
IsRereadOfLock (Reread Lock seen) = Unit {0}
IsRereadOfLock _ = ⊥

-- an exit under way
abbrev pub IsLeaving : Place → Type 0
IsLeaving place = IsUnlockPart (lock_part place)

-- a recovery under way
abbrev pub IsRecovering : Place → Type 0
IsRecovering place = IsRecoverPart (own_call place)

-- p, which begins this part of a call, leaves it by its own step with this number at the latest
abbrev pub LeavesWithin : ℕ → (Place → Type 0) → ℕ → ℕ → World → ℕ → Type 0
LeavesWithin most Part n limit w p = (events : List Event) → Run n limit w events → Throughout (λ v. Part (v.places p)) n limit w events → steps_of p events < most
