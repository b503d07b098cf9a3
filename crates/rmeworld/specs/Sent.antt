-- Where the mailbox's contents come from. Each message shown is one that its sender began to append, with this number and
-- value. If the mailbox is closed, some process began to close it. If the lock is ruined, a holder that had not mended began
-- to unlock. And what an append that stores nothing says of the mailbox.
use Rattle.std.specs.Prelude.{◌≡◌, ◌≢◌, ℕ, ◌-◌, true, false, List, [], ◌∷◌, ◌++◌, length, Some, All, Contains, ◌⊎◌}
use Rattle.rmecore.specs.declared.kind.Kind.{Kind}
use Rattle.rmecore.specs.declared.word.Word.{Word}
use Rattle.redomail.specs.Layout.{IsLayout}
use Rattle.redomail.specs.Mailbox.{Mailbox, IsAmong, message}
use Rattle.redomail.specs.Script.{Script}
use Rattle.redomail.specs.declared.deed.Deed.{Deed}
use Rattle.redomail.specs.declared.deed.Deed.TheVariants as deed
use Rattle.redomail.specs.declared.layout.Layout.{Layout}
use Rattle.redomail.specs.declared.message.Message.{Message}
use Rattle.redomail.specs.declared.reply.Reply.{Reply}
use Rattle.redomail.specs.declared.reply.Reply.TheVariants.{Stored, OutOfOrder, Full, Closed}
use Rattle.redomail.specs.declared.task.Task.TheVariants as task
use Rattle.judge.specs.Halves.{all_after}
use Rattle.judge.specs.Table.{empty_state}
use Rattle.rmeworld.specs.Answered.{answer_at}
use Rattle.rmeworld.specs.ProcessState.{ProcessState, Doing, WorldEvent, Begins, Moves}
use Rattle.rmeworld.specs.World.{at_first, Execution, last_global_state, deeds}
use Rattle.rmeworld.specs.declared.answer.Answer.TheVariants.{Mail}
use Rattle.rmeworld.specs.declared.call.Call.TheVariants.{Unlock, Append, Close}
use Rattle.rmeworld.specs.declared.purpose.Purpose.TheVariants.{Working}

-- the judge's mailbox after the deeds of an execution
abbrev pub mail_after : Layout → ℕ → List WorldEvent → Mailbox
mail_after l limit execution = (all_after (empty_state l.procs l.cap) (deeds l limit at_first execution)).mail

-- its sender began to append this message, with this number and value
abbrev pub IsSent : List WorldEvent → Message → Type 0
IsSent execution m = Contains execution (Begins m.sender (Append m.seq m.value))

-- p began to unlock as a holder that had entered again and had not mended
pub record IsLeftUnmended (l : Layout) (limit : ℕ) (execution : List WorldEvent) (p : ℕ) : Type 0 where
  pub front : List WorldEvent
  pub back : List WorldEvent
  pub split : execution ≡ front ++ Begins p Unlock ∷ back
  pub unmended : ((last_global_state l limit at_first front).process_states p).mended ≡ false

-- the start of the call that a deed of the mailbox belongs to
abbrev pub IsAsked : Layout → ℕ → List WorldEvent → Deed → Type 0
IsAsked l limit execution (deed.Commit p seq v) = Contains execution (Begins p (Append seq v))
IsAsked l limit execution (deed.Close p) = Contains execution (Begins p Close)
IsAsked l limit execution (deed.Ruin p) = IsLeftUnmended l limit execution p
IsAsked l limit execution _ = Unit {0}

-- each deed of the mailbox belongs to the start of such a call
abbrev pub EveryDeedWasAsked : Type 0
EveryDeedWasAsked =
    (l : Layout) (limit : ℕ) (execution : List WorldEvent) → IsLayout l → Execution l limit at_first execution → All (IsAsked l limit execution) (deeds l limit at_first execution)

-- each message shown is one that its sender began to append
abbrev pub EveryMessageWasSent : Type 0
EveryMessageWasSent =
    (l : Layout) (limit : ℕ) (execution : List WorldEvent) → IsLayout l → Execution l limit at_first execution → All (IsSent execution) (mail_after l limit execution).shown

-- if the mailbox is closed, some process began to close it
abbrev pub EveryCloseWasAsked : Type 0
EveryCloseWasAsked =
    (l : Layout) (limit : ℕ) (execution : List WorldEvent) → IsLayout l → Execution l limit at_first execution → (mail_after l limit execution).closed ≡ true
    → (p : ℕ) × Contains execution (Begins p Close)

-- if the lock is ruined (data word 0), some holder began to unlock before it had mended
abbrev pub EveryRuinWasAsked : Type 0
EveryRuinWasAsked =
    (l : Layout) (limit : ℕ) (execution : List WorldEvent) → IsLayout l → Execution l limit at_first execution → (last_global_state l limit at_first execution).cells 0 ≢ 0
    → (p : ℕ) × IsLeftUnmended l limit execution p

-- What the reply of p's append with this number says of the mailbox at that step. Full: it is full, and the number is not
-- among p's. Closed: it is closed, and the number is not among p's. OutOfOrder: the number is 0, or the one before it is not
-- among p's. For Stored and Already see the lock theorem.
abbrev pub ReplyTells : Layout → ℕ → ℕ → Reply → Mailbox → Type 0
ReplyTells l p seq Full m = (length m.shown ≡ l.cap) × (IsAmong p seq m.shown → ⊥)
ReplyTells l p seq Closed m = (m.closed ≡ true) × (IsAmong p seq m.shown → ⊥)
ReplyTells l p seq OutOfOrder m = (seq ≡ 0) ⊎ (IsAmong p (seq - 1) m.shown → ⊥)
ReplyTells l p seq _ m = Unit {0}

-- this step, from this process state, ends an append with this number and reply
pub record EndsAppend (process_state : ProcessState) (kind : Kind) (v seq : ℕ) (reply : Reply) : Type 0 where
  pub value : List ℕ
  pub left : Script Reply
  pub append : process_state.script_state ≡ Doing (Working (task.Append seq value)) left
  pub answer : answer_at process_state kind v ≡ Some (Mail reply)

-- the reply of an append is right about the mailbox at its last step
abbrev pub RepliesTell : Type 0
RepliesTell =
    (l : Layout) (limit : ℕ) (front : List WorldEvent) (p : ℕ) (kind : Kind) (word : Word) (v : ℕ) (back : List WorldEvent) (seq : ℕ) (reply : Reply) → IsLayout l
    → Execution l limit at_first (front ++ Moves p kind word v ∷ back) → EndsAppend ((last_global_state l limit at_first front).process_states p) kind v seq reply
    → ReplyTells l p seq reply (mail_after l limit (front ++ Moves p kind word v ∷ []))

-- an append that is answered Stored has its message shown from then on, with its value
abbrev pub StoredIsShown : Type 0
StoredIsShown =
    (l : Layout) (limit : ℕ) (front : List WorldEvent) (p : ℕ) (kind : Kind) (word : Word) (v : ℕ) (back : List WorldEvent) (seq : ℕ) → IsLayout l
    → Execution l limit at_first (front ++ Moves p kind word v ∷ back) → (ends : EndsAppend ((last_global_state l limit at_first front).process_states p) kind v seq Stored)
    → Contains (mail_after l limit (front ++ Moves p kind word v ∷ back)).shown (message p seq ends.value)
