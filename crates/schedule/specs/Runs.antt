-- The run of a schedule on a machine of the lock: what it reports, the state that it leaves, and the line that is refused
-- (the ordered run of the specification's Report).
use Rattle.std.specs.Prelude.{◌≡◌, ℕ, false, not, ◌&&◌, List, [], ◌∷◌, ◌++◌, Option, Some, None, is_some}
use Rattle.rmecore.specs.declared.refusal.Refusal.{Refusal}
use Rattle.rmecore.specs.declared.refusal.Refusal.TheVariants.{OutOfMemory}
use Rattle.redomail.specs.declared.deed.Deed.{Deed}
use Rattle.rmeworld.specs.Behaviours.{Behaviour}
use Rattle.rmeworld.specs.declared.answer.Answer.{Answer}
use Rattle.rmeworld.specs.declared.stepped.Stepped.{Stepped}
use Rattle.schedule.specs.declared.lines.line.Line.{Line}
use Rattle.schedule.specs.Transitions.{RunEvent, Took, Fell, Transitions}
use Rattle.schedule.specs.Fragments.{Fragment, unless as unless_by, fragment_after_line as followed_by, steps as steps_by, line_by, run_by}

-- what a run reports, in order: deeds, and the answers of calls
pub data LockReport : Type 0 where
  Did : Deed → LockReport
  Answered : ℕ → Answer → LockReport

-- the report of a deed, if there is one
abbrev pub did : Option Deed → List LockReport
did None = []
did (Some deed) = Did deed ∷ []

-- the report of an answer of p, if there is one
abbrev pub answer_reports : ℕ → Option Answer → List LockReport
answer_reports p None = []
answer_reports p (Some answer) = Answered p answer ∷ []

-- a step of p reports its deed, then its answer
abbrev pub reports_of : ℕ → Option Deed → Option Answer → List LockReport
reports_of p deed answer = did deed ++ answer_reports p answer

-- the deeds in what is reported
abbrev pub deeds_of : List LockReport → List Deed
deeds_of [] = []
deeds_of (Did deed ∷ reports) = deed ∷ deeds_of reports
deeds_of (Answered p answer ∷ reports) = deeds_of reports

-- what an event reports
abbrev pub reports_by : RunEvent Stepped Deed → List LockReport
reports_by (Took p step) = reports_of p step.deed step.answer
reports_by (Fell p deed) = Did deed ∷ []

-- a part of a run: what it reports, the state that it leaves, and its refusal
abbrev pub Part : Type 0 → Type 0 → Type 0
Part S R = Fragment LockReport S R

-- a part that reports and leaves this, or a refusal that leaves the state as it was
abbrev pub unless : {S : Type 0} → Option Refusal → S → List LockReport → S → Part S Refusal
unless o s reports left = unless_by o s reports left

-- line k, and then the rest of the run, unless the line is refused
abbrev pub part_after_line : {S : Type 0} → ℕ → Part S Refusal → Option Refusal → Part S (ℕ × Refusal) → Part S (ℕ × Refusal)
part_after_line k part o rest = followed_by k part o rest

module _ {S : Type 0} (b : Behaviour S) where
  -- a machine with this behaviour as one on which a schedule is played. A step is silent if it reports nothing
  abbrev pub transitions_of : Transitions S Stepped Deed Refusal
  transitions_of =
      record {
        start_refusal = b.start_refusal;
        started = b.started;
        step_refusal = b.advance_refusal;
        step = b.stepped;
        stepped = b.advanced;
        crash_refusal = b.crash_refusal;
        crash = b.crash_deed;
        crashed = b.crashed;
        ends = λ step. is_some step.answer;
        is_silent = λ step. not (is_some step.deed) && not (is_some step.answer);
        refuses_late = false;
        out_of_memory = OutOfMemory;
      }

  -- at most n steps of p, until its call is answered
  unfoldable pub steps : ℕ → ℕ → S → List LockReport × S
  steps p n s = steps_by transitions_of reports_by p n s

  -- one line. Steps are refused only where the first one is
  unfoldable pub line_on : S → Line → Part S Refusal
  line_on s line = line_by transitions_of reports_by steps s line

  -- the lines from number k on
  unfoldable pub run_on : ℕ → S → List Line → Part S (ℕ × Refusal)
  run_on k s lines = run_by line_on k s lines

  -- a line is the same as these lines: it reports and leaves what they do, and neither is refused
  pub record IsSameAsLines (s : S) (line : Line) (lines : List Line) : Type 0 where
    pub reports : (line_on s line).reports ≡ (run_on 2 s lines).reports
    pub left : (line_on s line).left ≡ (run_on 2 s lines).left
    pub accepted : (line_on s line).refused ≡ None
    pub all_accepted : (run_on 2 s lines).refused ≡ None
