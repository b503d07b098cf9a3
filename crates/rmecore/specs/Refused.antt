-- Which calls are refused, and why. The first cause that holds is named.
use Rattle.std.specs.Prelude.{ℕ, Bool, true, false, Option, Some, None}
use Rattle.rmecore.specs.Place.{Place, Rest, Dead, Inside, Wait}
use Rattle.rmecore.specs.declared.refusal.Refusal.{Refusal}
use Rattle.rmecore.specs.declared.refusal.Refusal.TheVariants.{BadProcs, BadLimit, NoSuchProcess, CallUnderWay, NotOwner, AlreadyIn, NothingToDo, BadCap, BadImage, NotInconsistent, BadShape, Unmended, BadIndex, NotWaiting, BadWidth, OutOfMemory}
use Rattle.rmecore.specs.declared.core_call.CoreCall.{CoreCall}
use Rattle.rmecore.specs.declared.core_call.CoreCall.TheVariants.{Unlock, Withdraw}

-- the number of a refusal. Out of memory has none
abbrev pub number_of : Refusal → Option ℕ
number_of BadProcs = Some 1
number_of BadLimit = Some 2
number_of NoSuchProcess = Some 3
number_of CallUnderWay = Some 4
number_of NotOwner = Some 5
number_of AlreadyIn = Some 6
number_of NothingToDo = Some 7
number_of BadCap = Some 8
number_of (BadImage rule) = Some 9
number_of NotInconsistent = Some 10
number_of BadShape = Some 11
number_of Unmended = Some 12
number_of BadIndex = Some 13
number_of NotWaiting = Some 14
number_of BadWidth = Some 15
number_of OutOfMemory = None

-- no call is under way
abbrev pub is_idle : Place → Bool
is_idle Rest = true
is_idle Dead = true
is_idle Inside = true
is_idle _ = false

-- why a process at this place may not start the call. A call is under way at every place except rest, dead and inside
abbrev pub start_refusal : Place → CoreCall → Option Refusal
start_refusal (Wait k unpassed looked) Withdraw = None
start_refusal place Withdraw = Some NotWaiting
start_refusal Rest Unlock = Some NotOwner
start_refusal Dead Unlock = Some NotOwner
start_refusal Inside Unlock = None
start_refusal place Unlock = Some CallUnderWay
start_refusal Rest call = None
start_refusal Dead call = None
start_refusal Inside call = Some AlreadyIn
start_refusal place call = Some CallUnderWay
