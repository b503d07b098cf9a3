-- What the lock theorem says of a run: its deeds are legal and have the plain properties, the words at its end are a lawful
-- image, and an append that was answered Stored or Already is shown.
use Rattle.std.specs.Prelude.{◌≡◌, ℕ, false, ◌⊎◌, List, [], ◌∷◌, ◌++◌, Some}
use Rattle.rmecore.specs.Lawful.{IsLawful}
use Rattle.rmecore.specs.Paid.{is_glance}
use Rattle.redomail.specs.Layout.{IsLayout}
use Rattle.redomail.specs.Mailbox.{IsAmong}
use Rattle.redomail.specs.Script.{Script}
use Rattle.redomail.specs.declared.deed.Deed.{Deed}
use Rattle.redomail.specs.declared.message.Message.{Message}
use Rattle.redomail.specs.declared.reply.Reply.{Reply}
use Rattle.redomail.specs.declared.reply.Reply.TheVariants.{Stored, Already}
use Rattle.redomail.specs.declared.task.Task.TheVariants as task
use Rattle.judge.specs.Halves.{all_after}
use Rattle.judge.specs.Legal.{IsLegal}
use Rattle.judge.specs.Plain.{IsPlain}
use Rattle.judge.specs.Table.{State, empty_state}
use Rattle.rmeworld.specs.declared.answer.Answer.TheVariants.{Mail}
use Rattle.rmeworld.specs.declared.purpose.Purpose.TheVariants.{Working}
use Rattle.rmeworld.specs.Answered.{answer_at}
use Rattle.rmeworld.specs.Law.{Sits}
use Rattle.rmeworld.specs.ProcessState.{ProcessState, Doing}
use Rattle.rmeworld.specs.World.{at_first, deeds}
use Rattle.table_runs.specs.declared.setup.Setup.{Setup}
use Rattle.table_runs.specs.declared.entry.TakenStep.{TakenStep}
use Rattle.table_runs.specs.Runs.{IsRun, events_of_run, end_of, process_state_of}
use Rattle.table_runs.specs.Calls.{process_state_before}

-- the deeds of a run
abbrev pub deeds_of : Setup → List TakenStep → List Deed
deeds_of s es = deeds s.layout s.limit at_first (events_of_run es)

-- the judge's state after them: Abstract lock of docs/theory/judge.md and Mailbox list of mailbox.md
abbrev pub judged_by : Setup → List TakenStep → State
judged_by s es = all_after (empty_state s.layout.procs s.layout.cap) (deeds_of s es)

-- the messages that a run has shown
abbrev pub shown_by : Setup → List TakenStep → List Message
shown_by s es = (judged_by s es).mail.shown

-- the process state right before the step of the entry e, after the entries es
abbrev pub process_state_at : Setup → List TakenStep → TakenStep → ProcessState
process_state_at s es e = process_state_before s (process_state_of s e.by es) e

-- the step of e ends an append with this number, with this reply
pub record StepEndsAppend (s : Setup) (es : List TakenStep) (e : TakenStep) (seq : ℕ) (reply : Reply) : Type 0 where
  pub value : List ℕ
  pub left : Script Reply
  pub step : is_glance e.step.kind ≡ false
  pub append : (process_state_at s es e).script_state ≡ Doing (Working (task.Append seq value)) left
  pub answer : answer_at (process_state_at s es e) e.step.kind e.value ≡ Some (Mail reply)

-- an append that is answered Stored or Already has its number among its sender's shown messages at that point
abbrev pub AppendIsShown : Setup → List TakenStep → Type 0
AppendIsShown s es =
    (front : List TakenStep) (e : TakenStep) (back : List TakenStep) (seq : ℕ) (reply : Reply) → es ≡ (front ++ e ∷ []) ++ back → StepEndsAppend s front e seq reply
    → (reply ≡ Stored) ⊎ (reply ≡ Already) → IsAmong e.by seq (shown_by s (front ++ e ∷ []))

-- `plain`: no two are inside; nobody enters before one that crashed inside has entered again; first come, first served; each
-- sender's messages once and in order. `legal`: the judge allows the deeds one after another. The words at the end are such as
-- a crash of all processes leaves.
pub record IsSoundRun (s : Setup) (es : List TakenStep) : Type 0 where
  pub legal : IsLegal s.layout.procs s.layout.cap (deeds_of s es)
  pub plain : IsPlain (deeds_of s es)
  pub lock_words : IsLawful s.layout.procs s.limit (end_of s es).words
  pub data_words : Sits s.layout (end_of s es).cells (judged_by s es)
  pub answered : AppendIsShown s es

-- the lock theorem of docs/theory/theorem.md: every run is sound
abbrev pub EveryRunIsSound : Type 0
EveryRunIsSound = (s : Setup) (es : List TakenStep) → IsLayout s.layout → IsRun s es → IsSoundRun s es
