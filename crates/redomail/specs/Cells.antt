-- A script run over a list of data words, with stops between its steps.
use Rattle.std.specs.Prelude.{◌≡◌, ℕ, zero, suc, ◌+◌, ◌<◌, List, length, slice_index, slice_set}
use Rattle.redomail.specs.declared.deed.Deed.{Deed}
use Rattle.redomail.specs.declared.message.Message.{Message}
use Rattle.redomail.specs.Mailbox.{Mailbox}
use Rattle.redomail.specs.Leads.{MailLeads}
use Rattle.redomail.specs.declared.layout.Layout.{Layout}
use Rattle.redomail.specs.declared.task.Task.{Task}
use Rattle.redomail.specs.declared.reply.Reply.{Reply}
use Rattle.redomail.specs.Layout.{words_of, size, saturate}
use Rattle.redomail.specs.Script.{Script, Get, Put, Done}
use Rattle.redomail.specs.Tasks.{script}
use Rattle.redomail.specs.Shape.{Shape}
use Rattle.redomail.specs.Replies.{ReplyMeans, Disarms}
use Rattle.redomail.specs.Safe.{Added}
use Rattle.redomail.specs.Runs.{MayBegin, added_by}

-- one step of a script over its words, and several steps
abbrev pub step_over : {A : Type 0} → Script A → List ℕ → Script A × List ℕ
step_over (Get i next) xs = (next (slice_index xs i), xs)
step_over (Put i v rest) xs = (rest, slice_set xs i v)
step_over (Done a) xs = (Done a, xs)

abbrev pub steps_over : {A : Type 0} → ℕ → Script A → List ℕ → Script A × List ℕ
steps_over zero e xs = (e, xs)
steps_over (suc k) e xs = step_over (steps_over k e xs).0 (steps_over k e xs).1

-- the reply and the words at the script's end
abbrev pub outcome : {A : Type 0} → Script A → List ℕ → A × List ℕ
outcome (Get i next) xs = outcome (next (slice_index xs i)) xs
outcome (Put i v rest) xs = outcome rest (slice_set xs i v)
outcome (Done a) xs = (a, xs)

-- the number of steps to the script's end
abbrev pub steps_left : {A : Type 0} → Script A → List ℕ → ℕ
steps_left (Get i next) xs = suc (steps_left (next (slice_index xs i)) xs)
steps_left (Put i v rest) xs = suc (steps_left rest (slice_set xs i v))
steps_left (Done a) xs = 0

-- the words after some of the script's steps
abbrev pub IsOnWay : {A : Type 0} → Script A → List ℕ → List ℕ → Type 0
IsOnWay e old new = (k : ℕ) × (new ≡ (steps_over k e old).1)

-- A call stopped after k of the script's steps, each of which was one call. The words are those after these steps.
abbrev pub StopsAfter : {A : Type 0} → Script A → List ℕ → List ℕ → ℕ → ℕ → Type 0
StopsAfter e old new before now = (k : ℕ) × (k < steps_left e old) × (new ≡ (steps_over k e old).1) × (now ≡ saturate (before + k + 1))

-- The script is this task of p, and p may begin it on these words.
pub record Ready (l : Layout) (p : ℕ) (e : Script Reply) (xs : List ℕ) (t : Task) (s : Mailbox) : Type 0 where
  pub begins : e ≡ script l p t
  pub size : length xs ≡ size l
  pub may : MayBegin l p t (words_of xs) s

-- The words have the shape of a mailbox that legal deeds lead to. It shows the messages from before, or these and m.
pub record MailboxKept (l : Layout) (p : ℕ) (m : Message) (s : Mailbox) (xs : List ℕ) : Type 0 where
  pub state : Mailbox
  pub deeds : List Deed
  pub legal : MailLeads l.cap s deeds state
  pub size : length xs ≡ size l
  pub shape : Shape l p (words_of xs) state
  pub shown : Added m s state

-- "Mailbox clause" for any call of a task, whichever mailbox the words had at its beginning.
abbrev pub TaskKept : Script Reply → List ℕ → List ℕ → Type 0
TaskKept e old new =
    (l : Layout) (p : ℕ) (t : Task) (s : Mailbox) → Ready l p e old t s → MailboxKept l p (added_by l t p (words_of old)) s new

-- A task that replied: the reply is true of the mailbox, and a task of the mailbox leaves no record armed.
pub record Answered (l : Layout) (p : ℕ) (m : Message) (s : Mailbox) (reply : Reply) (xs : List ℕ) : Type 0 where
  pub state : Mailbox
  pub deeds : List Deed
  pub legal : MailLeads l.cap s deeds state
  pub shape : Shape l p (words_of xs) state
  pub disarmed : Disarms reply (words_of xs)
  pub tells : ReplyMeans l p m s reply state

-- the meaning of any task's reply, whichever mailbox the words had at its beginning
abbrev pub TaskAnswered : Script Reply → List ℕ → Reply → List ℕ → Type 0
TaskAnswered e old reply new =
    (l : Layout) (p : ℕ) (t : Task) (s : Mailbox) → Ready l p e old t s → Answered l p (added_by l t p (words_of old)) s reply new
