-- "The lock theorem" for a whole world: its deeds are legal, its data words keep their shape, and its answers are true.
use Rattle.std.specs.Prelude.{◌≡◌, ℕ, ◌<◌, List, [], ◌∷◌}
use Rattle.redomail.specs.declared.message.Message.{Message}
use Rattle.redomail.specs.declared.layout.Layout.{Layout}
use Rattle.redomail.specs.declared.task.Task.TheVariants as task
use Rattle.redomail.specs.declared.reply.Reply.{Reply}
use Rattle.redomail.specs.declared.reply.Reply.TheVariants.{Stored, Already}
use Rattle.redomail.specs.Layout.{Words, IsLayout}
use Rattle.redomail.specs.Mailbox.{IsAmong}
use Rattle.redomail.specs.Script.{Script, Done, tail}
use Rattle.redomail.specs.Shape.{Shape}
use Rattle.rmecore.specs.Sole.{IsInSection}
use Rattle.rmecore.specs.Lawful.{IsLawful, start_of}
use Rattle.rmecore.specs.declared.own.Own.{Own}
use Rattle.judge.specs.Table.{State, empty_state}
use Rattle.judge.specs.Legal.{Leads, IsLegal}
use Rattle.rmeworld.specs.declared.purpose.Purpose.{Purpose}
use Rattle.rmeworld.specs.declared.purpose.Purpose.TheVariants.{Working}
use Rattle.rmeworld.specs.ProcessState.{ScriptState, Free, Doing, WorldEvent, Moves}
use Rattle.rmeworld.specs.World.{GlobalState, at_first, state_after_event, last_global_state, Execution, event_deeds, deeds}

-- The data words have the shape for the process inside. If no process is inside, they have it for every process.
abbrev pub HasShape : Layout → Words → State → Type 0
HasShape l cells s = (q : ℕ) → ((r : ℕ) → r < l.procs → IsInSection (s.lock.phase r) → r ≡ q) → Shape l q cells s.mail

-- The data words together with the lock: they have the shape. If no process is inside, no record is armed or the lock is
-- ruined.
pub record Sits (l : Layout) (cells : Words) (s : State) : Type 0 where
  pub shape : HasShape l cells s
  pub rest : ((r : ℕ) → r < l.procs → IsInSection (s.lock.phase r) → ⊥) → cells 0 ≡ 0 → cells 3 ≡ 0

-- the meaning of an append's answer: its number is among its sender's messages shown
abbrev pub AppendTells : ℕ → ℕ → Script Reply → List Message → Type 0
AppendTells p seq (Done Stored) shown = IsAmong p seq shown
AppendTells p seq (Done Already) shown = IsAmong p seq shown
AppendTells p seq _ shown = Unit {0}

abbrev pub PurposeTells : ℕ → Purpose → Script Reply → List Message → Type 0
PurposeTells p (Working (task.Append seq value)) left shown = AppendTells p seq left shown
PurposeTells p _ left shown = Unit {0}

abbrev pub ScriptStateTells : ℕ → ScriptState → ℕ → List Message → Type 0
ScriptStateTells p (Doing purpose left) v shown = PurposeTells p purpose (tail left v) shown
ScriptStateTells p Free v shown = Unit {0}

-- the same, for an event that is the last step of an append
abbrev pub EventEndsAppend : GlobalState → WorldEvent → List Message → Type 0
EventEndsAppend w (Moves p kind word v) shown = ScriptStateTells p (w.process_states p).script_state v shown
EventEndsAppend w _ shown = Unit {0}

-- An execution from a global state with this judge's state. At every point the data words agree with the lock, and each
-- event's deeds are legal.
abbrev pub Sound : Layout → ℕ → GlobalState → State → List WorldEvent → Type 0
Sound l limit w s [] = Sits l w.cells s
Sound l limit w s (e ∷ es) =
    Sits l w.cells s × ((t : State) × Leads s (event_deeds l w e) t × EventEndsAppend w e t.mail.shown × Sound l limit (state_after_event l limit w e) t es)

-- every execution from the first global state is sound, and all its deeds are legal
abbrev pub EveryExecutionIsSound : Type 0
EveryExecutionIsSound =
    (l : Layout) (limit : ℕ) (execution : List WorldEvent) → IsLayout l → Execution l limit at_first execution
    → Sound l limit at_first (empty_state l.procs l.cap) execution

abbrev pub EveryExecutionIsLegal : Type 0
EveryExecutionIsLegal =
    (l : Layout) (limit : ℕ) (execution : List WorldEvent) → IsLayout l → Execution l limit at_first execution
    → IsLegal l.procs l.cap (deeds l limit at_first execution)

-- and the lock words stay lawful
abbrev pub EveryExecutionEndsLawful : Type 0
EveryExecutionEndsLawful =
    (l : Layout) (limit : ℕ) (execution : List WorldEvent) → Execution l limit at_first execution
    → IsLawful l.procs limit (last_global_state l limit at_first execution).words

-- Words that are possible after a crash of every process, with the judge's state that they describe.
pub record IsLater (l : Layout) (limit : ℕ) (words : ℕ → Own) (cells : Words) (s : State) : Type 0 where
  pub lawful : IsLawful l.procs limit words
  pub lock : s.lock ≡ start_of words
  pub procs : s.procs ≡ l.procs
  pub cap : s.cap ≡ l.cap
  pub most_inside : s.most_inside ≡ 1
  pub sits : Sits l cells s
