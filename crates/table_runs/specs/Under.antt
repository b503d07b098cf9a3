-- Which call is under way, from the process state alone, and which answers that call can have.
use Rattle.std.specs.Prelude.{◌≡◌, ℕ, Bool, true, false, ◌≢◌, Option, Some}
use Rattle.rmecore.specs.Place.{Place, Rest, Inside}
use Rattle.rmecore.specs.Named.{own_call, lock_part}
use Rattle.rmecore.specs.declared.core_call.CoreCall.{CoreCall}
use Rattle.rmecore.specs.declared.core_call.CoreCall.TheVariants as core
use Rattle.redomail.specs.declared.reply.Reply.{Reply}
use Rattle.redomail.specs.declared.reply.Reply.TheVariants.{Stored, Already, OutOfOrder, Full, Closed, Mended, Ruined, Word}
use Rattle.redomail.specs.Script.{Script, Get as Asks, Put as Writes, Done}
use Rattle.rmeworld.specs.declared.call.Call.{Call}
use Rattle.rmeworld.specs.declared.call.Call.TheVariants.{Lock, Unlock, Consistent, Recover, Append, Close, Get, Put, Withdraw}
use Rattle.rmeworld.specs.declared.answer.Answer.{Answer}
use Rattle.rmeworld.specs.declared.answer.Answer.TheVariants.{Clean, OwnerDied, NumbersSpent, NotRecoverable, Unlocked, Found, Mail, Withdrawn}
use Rattle.rmeworld.specs.declared.purpose.Purpose.{Purpose}
use Rattle.rmeworld.specs.declared.purpose.Purpose.TheVariants.{Checking, Ruining, Mending, Working}
use Rattle.rmeworld.specs.Refused.{is_idle}
use Rattle.rmeworld.specs.ProcessState.{ScriptState, Free, Doing, ProcessState}
use Rattle.table_runs.specs.StepBounds.{Lasts}

-- The lock's part, and the call that the place names, belong to the call ("Named"). A lock that found the lock ruined is on
-- its way out. An exit goes on without a call of its own, and a recovery never does
abbrev pub is_part_of : Call → Bool → Option CoreCall → Option CoreCall → Bool
is_part_of Lock false (Some core.Lock) own = true
is_part_of Lock true (Some core.Unlock) own = true
is_part_of Recover false (Some core.Recover) (Some core.Recover) = true
is_part_of Unlock false (Some core.Unlock) own = true
is_part_of Withdraw false (Some core.Withdraw) own = true
is_part_of _ _ _ _ = false

-- a place of the lock's part of a call
abbrev pub under_place : Call → Bool → Place → Bool
under_place call c s = is_part_of call c (lock_part s) (own_call s)

-- P holds of each reply of a script
abbrev pub AllReplies : (Reply → Type 0) → Script Reply → Type 0
AllReplies P (Done reply) = P reply
AllReplies P (Asks i rest) = (x : ℕ) → AllReplies P (rest x)
AllReplies P (Writes i v rest) = AllReplies P rest

-- a reply of a mending, or of the ruin check
abbrev pub IsMendingReply : Reply → Type 0
IsMendingReply (Mended repaired) = Unit {0}
IsMendingReply (Ruined ruined) = Unit {0}
IsMendingReply _ = ⊥

-- a reply with a word of the board
abbrev pub IsWord : Reply → Type 0
IsWord (Word v) = Unit {0}
IsWord _ = ⊥

-- the replies of an append with this number. Number 1 is never out of order
abbrev pub Appends : ℕ → Reply → Type 0
Appends seq Stored = Unit {0}
Appends seq Already = Unit {0}
Appends seq OutOfOrder = seq ≢ 1
Appends seq Full = Unit {0}
Appends seq Closed = Unit {0}
Appends seq _ = ⊥

-- a script that belongs to the call
abbrev pub UnderScript : Call → Bool → Purpose → Script Reply → Type 0
UnderScript Lock c Checking left = Unit {0}
UnderScript Unlock c Ruining left = c ≡ false
UnderScript Consistent c Mending left = AllReplies IsMendingReply left
UnderScript (Append seq value) c (Working task) left = AllReplies (Appends seq) left
UnderScript Close c (Working task) left = Unit {0}
UnderScript (Get i) c (Working task) left = AllReplies IsWord left
UnderScript (Put i v) c (Working task) left = Unit {0}
UnderScript _ _ _ _ = ⊥

-- the call is under way at this place, with this script
abbrev pub UnderBy : Call → Place → Bool → ScriptState → Type 0
UnderBy call s c Free = under_place call c s ≡ true
UnderBy call s c (Doing purpose left) = UnderScript call c purpose left

-- the call is under way in this process state
abbrev pub IsUnder : Call → ProcessState → Type 0
IsUnder call process_state = UnderBy call process_state.lock process_state.barred process_state.script_state

-- the answers that a call can have
abbrev pub IsAnswerOf : Call → Answer → Type 0
IsAnswerOf Lock Clean = Unit {0}
IsAnswerOf Lock OwnerDied = Unit {0}
IsAnswerOf Lock NumbersSpent = Unit {0}
IsAnswerOf Lock NotRecoverable = Unit {0}
IsAnswerOf Recover (Found found) = Unit {0}
IsAnswerOf Unlock Unlocked = Unit {0}
IsAnswerOf Withdraw Withdrawn = Unit {0}
IsAnswerOf Consistent NotRecoverable = Unit {0}
IsAnswerOf Consistent (Mail (Mended repaired)) = Unit {0}
IsAnswerOf (Append seq value) (Mail reply) = Appends seq reply
IsAnswerOf Close (Mail reply) = Unit {0}
IsAnswerOf (Get i) (Mail (Word v)) = Unit {0}
IsAnswerOf (Put i v) (Mail reply) = Unit {0}
IsAnswerOf _ _ = ⊥

-- a holder with no call under way
abbrev pub IsHolder : ProcessState → Type 0
IsHolder t = (t.lock ≡ Inside) × (t.script_state ≡ Free)

-- The process state after the answer of a call. A holder is inside. After a lock or a mending it has nothing to mend, unless
-- the owner died. After an unlock, or a lock that found the lock ruined, the process is at rest.
abbrev pub Leaves : Call → Answer → ProcessState → Type 0
Leaves Lock Clean t = IsHolder t × (t.mended ≡ true)
Leaves Lock OwnerDied t = IsHolder t × (t.mended ≡ false)
Leaves Lock NumbersSpent t = t.lock ≡ Rest
Leaves Lock NotRecoverable t = t.lock ≡ Rest
Leaves Unlock Unlocked t = t.lock ≡ Rest
Leaves Consistent NotRecoverable t = IsHolder t
Leaves Consistent (Mail reply) t = IsHolder t × (t.mended ≡ true)
Leaves (Append seq value) (Mail reply) t = IsHolder t
Leaves Close (Mail reply) t = IsHolder t
Leaves _ _ t = Unit {0}

-- the call is under way, has a next step, and few steps are left
abbrev pub Begun : Call → ℕ → ProcessState → Type 0
Begun call n t = IsUnder call t × (is_idle t ≡ false) × Lasts n 256 t
