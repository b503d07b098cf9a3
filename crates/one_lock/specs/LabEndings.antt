-- How the workers of a laboratory ended, by process from 0 on, and the fault that the lab answers.
use Rattle.std.specs.Prelude.{◌≡◌, ◌≢◌, ◌<◌, ◌≤◌, ◌⊎◌, ℕ, List, All, Contains, take, slice_get, Option, Some, None, Err}
use Rattle.table_runs.specs.declared.lab.lab_fault.LabFault.{LabFault}
use Rattle.table_runs.specs.declared.lab.lab_fault.LabFault.TheVariants.{BadSpec, OutOfMemory as WantsMemory, Member, Reply}
use Rattle.table_runs.specs.declared.lab.worker_end.WorkerEnd.{WorkerEnd}
use Rattle.table_runs.specs.declared.lab.worker_end.WorkerEnd.TheVariants.{AllSent, Fault, Refused}
use Rattle.redomail.specs.declared.reply.Reply.{Reply as ReplyOf}
use Rattle.redomail.specs.declared.reply.Reply.TheVariants.{Stored, Already}
use Rattle.rmeworld.specs.declared.call.Call.TheVariants.{Lock, Append, Consistent}
use Rattle.rmeworld.specs.declared.answer.Answer.{Answer}
use Rattle.rmeworld.specs.declared.answer.Answer.TheVariants.{NumbersSpent as SpentAnswer}
use Rattle.table_runs.specs.declared.lock_fault.LockFault.TheVariants.{NumbersSpent, NotRecoverable, OutOfMemory}
use Rattle.table_runs.specs.declared.setup.Setup.{Setup}
use Rattle.table_runs.specs.declared.lab.spec.Spec.{Spec}
use Rattle.one_lock.specs.declared.member_state.MemberState.{MemberState}
use Rattle.one_lock.specs.declared.member_state.MemberState.TheVariants.{Unmended}
use Rattle.one_lock.specs.Answers.{IsAnsweredCall, asked_call, IsReply, entry_by, mended_by}
use Rattle.table_runs.specs.Endings.{fault_by}
use Rattle.one_lock.specs.Member.{Trail}
use Rattle.table_runs.specs.Lab.{setup_of, words_sent}

-- each worker has sent all its messages
abbrev pub HaveAllSent : List WorkerEnd → Type 0
HaveAllSent endings = All (λ ending. ending ≡ AllSent) endings

-- a worker ended out of memory
abbrev pub WantedMemory : List WorkerEnd → Type 0
WantedMemory endings = Contains endings (Fault OutOfMemory)

-- This is the fault of worker p, the one with the least number of those that ended early: those before it have sent all.
pub record IsOfLeast (endings : List WorkerEnd) (fault : LabFault) : Type 0 where
  pub p : ℕ
  pub ending : WorkerEnd
  pub at : slice_get endings p ≡ Some ending
  pub before : HaveAllSent (take p endings)
  pub fact : fault_by p ending ≡ Some fault

-- A lock of p without a limit of turns was answered NumbersSpent: its last step read the limit in its doorway, in a world
-- with the sizes that are named.
pub record WasSpent (named : Option Setup) (p : ℕ) : Type 0 where
  pub standing : MemberState
  pub from : Trail
  pub to : Trail
  pub answered : IsAnsweredCall (asked_call named p standing Lock None) from to (Some SpentAnswer)

-- the answer of a lock of p, without a limit of turns, or of a mending of p shows that the lock is ruined
abbrev pub IsRuin : Option Setup → ℕ → Trail → Trail → Option Answer → Type 0
IsRuin named p from to answer =
    ((standing : MemberState) × IsAnsweredCall (asked_call named p standing Lock None) from to answer × (entry_by answer ≡ Err NotRecoverable))
    ⊎ (IsAnsweredCall (asked_call named p Unmended Consistent None) from to answer × (mended_by answer ≡ Err NotRecoverable))

-- p has found the lock ruined, in a world with the sizes that are named
pub record WasRuined (named : Option Setup) (p : ℕ) : Type 0 where
  pub from : Trail
  pub to : Trail
  pub answer : Option Answer
  pub fact : IsRuin named p from to answer

-- The append of worker p's message with this number was given this reply, in a world with the sizes that are named.
abbrev pub IsReplyTo : Option Setup → ℕ → ℕ → ℕ → ReplyOf → Type 0
IsReplyTo named width p seq reply = IsReply named p (Append seq (words_sent p seq width)) reply

-- worker p's message with this number was given a reply after which it is shown
pub record WasSent (named : Option Setup) (width p seq : ℕ) : Type 0 where
  pub reply : ReplyOf
  pub answered : IsReplyTo named width p seq reply
  pub shows : (reply ≡ Stored) ⊎ (reply ≡ Already)

-- a message of worker p was given this reply, after which it isn't shown
pub record WasRefused (named : Option Setup) (width p : ℕ) (reply : ReplyOf) : Type 0 where
  pub seq : ℕ
  pub answered : IsReplyTo named width p seq reply
  pub not_stored : reply ≢ Stored
  pub not_there : reply ≢ Already

-- each message of worker p with a number from 1 to k was sent
abbrev pub WereSent : Option Setup → ℕ → ℕ → ℕ → Type 0
WereSent named width p k = (seq : ℕ) → 1 ≤ seq → seq ≤ k → WasSent named width p seq

-- How worker p may end: all its messages were sent; or a lock of it was answered NumbersSpent; or a lock or a mending of it
-- found the lock ruined; or it was out of memory; or one of its messages was given a reply after which it isn't shown.
abbrev pub MayEnd : Option Setup → Spec → ℕ → WorkerEnd → Type 0
MayEnd named s p AllSent = WereSent named s.width p s.messages
MayEnd named s p (Fault purpose) = ((purpose ≡ NumbersSpent) × WasSpent named p) ⊎ ((purpose ≡ NotRecoverable) × WasRuined named p) ⊎ (purpose ≡ OutOfMemory)
MayEnd named s p (Refused reply) = WasRefused named s.width p reply

-- each message of each worker with a number below p was sent
abbrev pub HaveSentBelow : Spec → ℕ → Type 0
HaveSentBelow s p = (q : ℕ) → q < p → WereSent (Some (setup_of s)) s.width q s.messages

-- what may end a lab with these sizes early: the fault of the worker with the least number of those that ended early
abbrev pub MayEndLab : Spec → LabFault → Type 0
MayEndLab s BadSpec = ⊥
MayEndLab s WantsMemory = Unit {0}
MayEndLab s (Member p purpose) = (p < s.procs) × (((purpose ≡ NumbersSpent) × WasSpent (Some (setup_of s)) p) ⊎ ((purpose ≡ NotRecoverable) × WasRuined (Some (setup_of s)) p)) × HaveSentBelow s p
MayEndLab s (Reply p reply) = (p < s.procs) × WasRefused (Some (setup_of s)) s.width p reply × HaveSentBelow s p
