-- The codes of accesses, answers and refusals for C.
use Rattle.std.specs.Prelude.{ℕ, ◌+◌, ◌*◌, Bool, Option, Some, None, true, false, unwrap_or}
use Rattle.rmecore.specs.declared.access.Access.{Access}
use Rattle.rmecore.specs.declared.access.Access.TheVariants.{Load, Store}
use Rattle.rmecore.specs.declared.word.Word.{Word}
use Rattle.rmecore.specs.declared.word.Word.TheVariants as word
use Rattle.rmecore.specs.declared.found.Found.{Found}
use Rattle.rmecore.specs.declared.found.Found.TheVariants as found
use Rattle.rmecore.specs.declared.refusal.Refusal.{Refusal}
use Rattle.rmecore.specs.Refused.{number_of}
use Rattle.redomail.specs.declared.reply.Reply.{Reply}
use Rattle.redomail.specs.declared.reply.Reply.TheVariants as reply
use Rattle.redomail.specs.Layout.{saturate}
use Rattle.rmeworld.specs.declared.answer.Answer.{Answer}
use Rattle.rmeworld.specs.declared.answer.Answer.TheVariants as answer
use Rattle.rmeworld.specs.declared.outcome.Outcome.{Outcome}
use Rattle.rmeworld.specs.MachineState.{MachineState, next_access, outcome, machine_after_step}
use Rattle.rme_c.specs.declared.process.RmeAccess.{RmeAccess}

-- the index of a word in the block of n processes: three lock words for each, then the data words
abbrev pub place : ℕ → Word → ℕ
place n (word.Choosing p) = 3 * p
place n (word.Number p) = 3 * p + 1
place n (word.Inside p) = 3 * p + 2
place n (word.Data i) = saturate (3 * n + i)

-- a load, or a store of a value
abbrev pub access_for_c : ℕ → Access → RmeAccess
access_for_c n (Load kind word) = record { store = 0; place = place n word; value = 0 }
access_for_c n (Store kind word v) = record { store = 1; place = place n word; value = v }

-- the code of what a recovery finds
abbrev pub found_code : Found → ℕ
found_code found.Idle = 23
found_code found.Left = 24
found_code found.Doorway = 25
found_code found.Waiting = 26
found_code found.Inside = 27

-- the code of a reply
abbrev pub reply_code : Reply → ℕ
reply_code reply.Stored = 28
reply_code reply.Already = 29
reply_code reply.OutOfOrder = 30
reply_code reply.Full = 31
reply_code reply.Closed = 32
reply_code reply.ClosedNow = 33
reply_code reply.AlreadyClosed = 34
reply_code (reply.Mended true) = 35
reply_code (reply.Mended false) = 36
reply_code (reply.Word v) = 37
reply_code reply.Done = 38
reply_code (reply.Ruined b) = 39

-- the code of an answer
abbrev pub answer_code : Answer → ℕ
answer_code answer.Clean = 17
answer_code answer.OwnerDied = 18
answer_code answer.NumbersSpent = 19
answer_code answer.NotRecoverable = 20
answer_code answer.Unlocked = 21
answer_code answer.Withdrawn = 22
answer_code (answer.Found f) = found_code f
answer_code (answer.Mail r) = reply_code r

-- the board word that was read
abbrev pub answer_word : Answer → ℕ
answer_word (answer.Mail (reply.Word v)) = v
answer_word _ = 0

-- 0: nothing is refused; otherwise the number of the refusal, which is 16 for out of memory
abbrev pub refusal_code : Option Refusal → ℕ
refusal_code None = 0
refusal_code (Some r) = unwrap_or (number_of r) 16

-- the code of a call that goes on: 64 and the index of the lock word that it loads next, otherwise 0
abbrev pub goes_as : Option Access → ℕ
goes_as None = 0
goes_as (Some (Load kind (word.Choosing p))) = 64 + 3 * p
goes_as (Some (Load kind (word.Number p))) = 64 + (3 * p + 1)
goes_as (Some (Load kind (word.Inside p))) = 64 + (3 * p + 2)
goes_as (Some (Load kind (word.Data i))) = 0
goes_as (Some (Store kind word v)) = 0

-- the code of a step with its next access: an answer, 16 if it was blocked, how its call goes on, or 7 if there was no step
abbrev pub reported_as : Option Answer → Bool → Option Access → ℕ
reported_as (Some a) blocked next = answer_code a
reported_as None true next = 16
reported_as None false next = goes_as next

-- the code of a step, if there is one
abbrev pub reports_by : Option Access → Outcome → Option Access → ℕ
reports_by None o next = 7
reports_by (Some a) o next = reported_as o.answer o.progress.blocked next

-- the code that `rme_feed` answers
abbrev pub code_after_step : MachineState → ℕ → ℕ
code_after_step s v = reports_by (next_access s) (outcome s (next_access s) v) (next_access (machine_after_step s v))

-- what `next` is after a step: the next access, or the board word that was read
abbrev pub next_for_c : ℕ → Option Answer → Option Access → RmeAccess
next_for_c n (Some a) next = record { store = 0; place = 0; value = answer_word a }
next_for_c n None (Some a) = access_for_c n a
next_for_c n None None = record { store = 0; place = 0; value = 0 }
