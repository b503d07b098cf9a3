-- What a place names besides itself ("Place": the call under way and the own number).
use Rattle.std.specs.Prelude.{ℕ, [], ◌∷◌, Option, Some, None}
use Rattle.rmecore.specs.Place.{Place, Reread, Opening, Door, Shutting, Wait, Leaving, Withdrawing, Unmarking}
use Rattle.rmecore.specs.declared.core_call.CoreCall.{CoreCall}
use Rattle.rmecore.specs.declared.core_call.CoreCall.TheVariants as core

-- the own number
abbrev pub own_number : Place → Option ℕ
own_number (Reread call (c ∷ k ∷ [])) = Some k
own_number (Shutting call k) = Some k
own_number (Wait k unpassed looked) = Some k
own_number _ = None

-- the call under way
abbrev pub own_call : Place → Option CoreCall
own_call (Reread call seen) = Some call
own_call (Shutting call k) = Some call
own_call (Unmarking call) = Some call
own_call _ = None

-- the call of the lock's part at a place. Unlock is the exit
abbrev pub lock_part : Place → Option CoreCall
lock_part (Reread core.Lock seen) = Some core.Lock
lock_part (Reread _ seen) = Some core.Recover
lock_part Opening = Some core.Lock
lock_part (Door unread m) = Some core.Lock
lock_part (Shutting core.Lock k) = Some core.Lock
lock_part (Shutting _ k) = Some core.Recover
lock_part (Wait k unpassed looked) = Some core.Lock
lock_part (Unmarking core.Lock) = Some core.Lock
lock_part (Unmarking core.Unlock) = Some core.Unlock
lock_part (Unmarking _) = Some core.Recover
lock_part Leaving = Some core.Unlock
lock_part Withdrawing = Some core.Withdraw
lock_part _ = None
