-- A whole mailbox call of a member: its lock, the mending where the owner died, the task and the unlock. Each is given an
-- answer, and each begins with the trail at which the one before it ended.
use Rattle.std.specs.Prelude.{◌≡◌, ℕ, ◌⊎◌, Bool, false, Option, None, Result, Ok, Err}
use Rattle.redomail.specs.declared.reply.Reply.{Reply}
use Rattle.rmeworld.specs.declared.answer.Answer.{Answer}
use Rattle.rmeworld.specs.declared.call.Call.{Call}
use Rattle.rmeworld.specs.declared.call.Call.TheVariants.{Lock, Unlock, Consistent}
use Rattle.table_runs.specs.declared.entry_kind.Entry.{Entry}
use Rattle.table_runs.specs.declared.lock_fault.LockFault.{LockFault}
use Rattle.table_runs.specs.declared.lock_fault.LockFault.TheVariants.{Crashed, OutOfMemory}
use Rattle.table_runs.specs.declared.setup.Setup.{Setup}
use Rattle.one_lock.specs.declared.member_state.MemberState.{MemberState}
use Rattle.one_lock.specs.declared.member_state.MemberState.TheVariants.{Mended, Unmended}
use Rattle.one_lock.specs.Answers.{IsAnsweredCall, asked_call, entry_by, mended_by, reply_by}
use Rattle.one_lock.specs.Member.{Seat, Trail, stands_entered, stands_mended}

-- p mends, if it has to
abbrev pub Mends : Option Setup → ℕ → MemberState → Trail → Trail → Result Bool LockFault → Type 0
Mends named p Unmended from to mended = (answer : Option Answer) × IsAnsweredCall (asked_call named p Unmended Consistent None) from to answer × (mended ≡ mended_by answer)
Mends named p standing from to mended = (to ≡ from) × (mended ≡ Ok false)

-- the task of p is given this reply; there is none where the mending found the lock ruined
abbrev pub TaskReplies : Option Setup → ℕ → Call → Result Bool LockFault → Trail → Trail → Result Reply LockFault → Type 0
TaskReplies named p task (Ok repaired) from to (Ok reply) = (answer : Option Answer) × IsAnsweredCall (asked_call named p Mended task None) from to answer × (reply ≡ reply_by answer)
TaskReplies named p task (Ok repaired) from to (Err e) = ⊥
TaskReplies named p task (Err fault) from to reply = (to ≡ from) × (reply ≡ Err fault)

-- what p does inside: it mends, has its task done, and leaves
pub record WorksInside (named : Option Setup) (p : ℕ) (task : Call) (standing : MemberState) (from to : Trail) (reply : Result Reply LockFault) : Type 0 where
  pub mended : Result Bool LockFault
  pub mended_at : Trail
  pub mends : Mends named p standing from mended_at mended
  pub replied_at : Trail
  pub replies : TaskReplies named p task mended mended_at replied_at reply
  pub left : Option Answer
  pub leaves : IsAnsweredCall (asked_call named p (stands_mended mended) Unlock None) replied_at to left

-- what follows the lock: where it did not enter, nothing
abbrev pub FollowsLock : Option Setup → ℕ → Call → Result Entry LockFault → Trail → Trail → Result Reply LockFault → Type 0
FollowsLock named p task (Ok entry) from to reply = WorksInside named p task (stands_entered (Ok entry)) from to reply
FollowsLock named p task (Err fault) from to reply = (to ≡ from) × (reply ≡ Err fault)

-- the whole call of a member, which may be blocked as often as it has turns
pub record IsMailboxCall (named : Option Setup) (old : Seat) (task : Call) (turns : Option ℕ) (to : Trail) (reply : Result Reply LockFault) : Type 0 where
  pub locked : Option Answer
  pub locked_at : Trail
  pub locks : IsAnsweredCall (asked_call named old.process old.standing Lock turns) old.trail locked_at locked
  pub follows : FollowsLock named old.process task (entry_by locked) locked_at to reply

-- the result of such a call; or it was cut off
abbrev pub Whole : Option Setup → Seat → Call → Option ℕ → Seat → Result Reply LockFault → Type 0
Whole named old task turns new result = (result ≡ Err Crashed) ⊎ ((result ≡ Err OutOfMemory) ⊎ IsMailboxCall named old task turns new.trail result)
