-- How long a lock can go on: a bound on the steps that are left of it, blocked ones not counted, at each place.
use Rattle.std.specs.Prelude.{ℕ, ◌+◌, ◌*◌, ◌≡◌, true, [], ◌∷◌, length, Some, None}
use Rattle.rmecore.specs.Place.{Place, Rest, Dead, Reread, Opening, Door, Shutting, Wait, Inside, Leaving, Withdrawing, Unmarking, has}
use Rattle.rmecore.specs.declared.core_call.CoreCall.TheVariants.{Lock}

-- The most steps that are left of a lock among n processes, by its place (Place of docs/theory/model.md). An entry has three
-- more: the ruin check, and the two steps of the exit from a ruined lock.
abbrev pub lock_left : ℕ → Place → ℕ
lock_left n Rest = 0
lock_left n Dead = 0
lock_left n Inside = 3
lock_left n (Wait k unpassed None) = 2 * length unpassed + 4
lock_left n (Wait k unpassed (Some j)) = 2 * length unpassed + 3
lock_left n (Shutting call k) = 2 * n + 5
lock_left n (Door unread m) = length unread + 2 * n + 6
lock_left n Opening = 3 * n + 7
lock_left n (Unmarking Lock) = 3 * n + 8
lock_left n (Unmarking call) = 1
lock_left n Leaving = 2
lock_left n Withdrawing = 1
lock_left n (Reread call []) = 3 * n + 11
lock_left n (Reread call (c ∷ [])) = 3 * n + 10
lock_left n (Reread call (c ∷ k ∷ rest)) = 3 * n + 9

-- the process that was looked at is one of those not yet passed
abbrev pub IsFair : Place → Type 0
IsFair (Wait k unpassed (Some j)) = has unpassed j ≡ true
IsFair place = Unit {0}
