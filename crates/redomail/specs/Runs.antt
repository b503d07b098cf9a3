-- A script's run over the words, the deeds of its puts, and the condition under which a task may begin.
use Rattle.std.specs.Prelude.{◌≡◌, ℕ, zero, suc, ◌+◌, ◌<◌, true, false, List, [], ◌∷◌, ◌++◌, length, ◌*◌}
use Rattle.redomail.specs.declared.deed.Deed.{Deed}
use Rattle.redomail.specs.declared.message.Message.{Message}
use Rattle.redomail.specs.Mailbox.{Mailbox, message}
use Rattle.rmecore.specs.Needs.{put}
use Rattle.redomail.specs.Leads.{MailLeads}
use Rattle.redomail.specs.declared.layout.Layout.{Layout}
use Rattle.redomail.specs.declared.task.Task.{Task}
use Rattle.redomail.specs.declared.task.Task.TheVariants as task
use Rattle.redomail.specs.declared.reply.Reply.{Reply}
use Rattle.redomail.specs.declared.reply.Reply.TheVariants.{Stored, ClosedNow, Mended}
use Rattle.redomail.specs.Layout.{Words, IsLayout}
use Rattle.redomail.specs.Deeds.{deeds_of_put}
use Rattle.redomail.specs.Script.{Script, Get, Put, Done}
use Rattle.redomail.specs.Safe.{Added, DeedsLeadTo, Safe}
use Rattle.redomail.specs.Shape.{Shape, recorded_message}

-- A script in progress: the rest of it, the words, and the deeds of its puts so far.
pub record ScriptRun (A : Type 0) : Type 0 where
  pub left : Script A
  pub words : Words
  pub deeds : List Deed

-- one step, and k steps
abbrev pub stepped_to : {A : Type 0} → Layout → ℕ → Script A → Words → List Deed → ScriptRun A
stepped_to l p (Get i next) w ds = record { left = next (w i); words = w; deeds = ds }
stepped_to l p (Put i v rest) w ds =
    record { left = rest; words = put w i v; deeds = ds ++ deeds_of_put l p w i v }
stepped_to l p (Done a) w ds = record { left = Done a; words = w; deeds = ds }

abbrev pub run_step : {A : Type 0} → Layout → ℕ → ScriptRun A → ScriptRun A
run_step l p x = stepped_to l p x.left x.words x.deeds

abbrev pub run_steps : {A : Type 0} → Layout → ℕ → ℕ → ScriptRun A → ScriptRun A
run_steps l p zero x = x
run_steps l p (suc k) x = run_step l p (run_steps l p k x)

-- the beginning of a script's run
abbrev pub start : {A : Type 0} → Script A → Words → ScriptRun A
start left w = record { left = left; words = w; deeds = [] }

-- the word passed to a script: after a get the word that was read, after a put any
abbrev pub IsGiven : {A : Type 0} → Script A → Words → ℕ → Type 0
IsGiven (Get i next) w x = x ≡ w i
IsGiven _ w x = Unit {0}

-- "Mailbox clause" for one step with word x, from script e to the rest: if e was safe, the step's deeds are allowed, and
-- after them the rest is safe over the new words.
abbrev pub StepKept : Script Reply → ℕ → Script Reply → Type 0
StepKept e x rest =
    (l : Layout) (p : ℕ) (m : Message) (old : Mailbox) (w : Words) (now : Mailbox) → Safe l p m old e w now → IsGiven e w x
    → let y = stepped_to l p e w [] in DeedsLeadTo l now y.deeds (Safe l p m old rest y.words)

-- the words at a script's end
abbrev pub final : {A : Type 0} → Script A → Words → Words
final (Get i next) w = final (next (w i)) w
final (Put i v rest) w = final rest (put w i v)
final (Done a) w = w

-- the number of a script's steps
abbrev pub steps : {A : Type 0} → Script A → Words → ℕ
steps (Get i next) w = suc (steps (next (w i)) w)
steps (Put i v rest) w = suc (steps rest (put w i v))
steps (Done a) w = 0

-- the message that a task may add: its own, or the record's
abbrev pub added_by : Layout → Task → ℕ → Words → Message
added_by l (task.Append seq value) p w = message p seq value
added_by l _ p w = recorded_message l p w

-- the value of an append has the layout's width
abbrev pub FitsTask : Layout → Task → Type 0
FitsTask l (task.Append seq value) = length value ≡ l.width
FitsTask l _ = Unit {0}

-- "Mailbox clause": when the process inside may begin a task
abbrev pub Allowed : Layout → Task → Words → Mailbox → Type 0
Allowed l (task.Append seq value) w s = (s.ruined ≡ false) × (w 3 ≡ 0) × (length value ≡ l.width)
Allowed l task.Close w s = (s.ruined ≡ false) × (w 3 ≡ 0)
Allowed l task.Repair w s = s.ruined ≡ false
Allowed l (task.BoardGet i) w s = i < 4
Allowed l (task.BoardPut i v) w s = i < 4
Allowed l task.Ruin w s = Unit {0}
Allowed l task.Check w s = Unit {0}

-- The process p may begin this task on words of this mailbox.
pub record MayBegin (l : Layout) (p : ℕ) (t : Task) (w : Words) (s : Mailbox) : Type 0 where
  pub layout : IsLayout l
  pub process : p < l.procs
  pub shape : Shape l p w s
  pub allowed : Allowed l t w s

-- After some steps of a task: the deeds of its puts are allowed and lead to the mailbox of the words. It shows the messages
-- from before, or these and m.
pub record IsTaskUnderWay (l : Layout) (p : ℕ) (m : Message) (s : Mailbox) (x : ScriptRun Reply) : Type 0 where
  pub state : Mailbox
  pub legal : MailLeads l.cap s x.deeds state
  pub shape : Shape l p x.words state
  pub shown : Added m s state

-- the words after these puts
abbrev pub words_after_puts : List (ℕ × ℕ) → Words → Words
words_after_puts [] w = w
words_after_puts (x ∷ xs) w = words_after_puts xs (put w x.0 x.1)

-- the reply at a script's end
abbrev pub answer : {A : Type 0} → Script A → Words → A
answer (Get i next) w = answer (next (w i)) w
answer (Put i v rest) w = answer rest (put w i v)
answer (Done a) w = a

-- "Tasks": the number of steps of a task with this reply
abbrev pub steps_of : Layout → Task → Reply → ℕ
steps_of l (task.Append seq value) Stored = 11 + 2 * l.width
steps_of l (task.Append seq value) _ = 3
steps_of l task.Close ClosedNow = 2
steps_of l task.Repair (Mended true) = 8 + 2 * l.width
steps_of l _ _ = 1
