-- Where the local lines of a process lead it: to its next access, or to the end of its call.
use Rattle.std.specs.Prelude.{◌≡◌, ℕ, zero, suc, ◌+◌, nat_eq, Bool, true, false, if◌then◌else◌, List, length, slice_get, Option, Some, None, Result, Ok, Err, ok_or}
use Rattle.algorithms.specs.LocalRuns.{local_line_done}
use Rattle.algorithms.specs.declared.constants.Constants.{Constants}
use Rattle.algorithms.specs.declared.line.AlgorithmLine.{AlgorithmLine}
use Rattle.algorithms.specs.declared.line.LineKind.{LineKind}
use Rattle.algorithms.specs.declared.line.LineKind.TheVariants.{Access, Local, Done}
use Rattle.algorithms.specs.declared.line.LocalLine.{LocalLine}
use Rattle.algorithms.specs.declared.line.LocalLine.TheVariants.{Next}
use Rattle.algorithms.specs.declared.local.LineStep.{LineStep}
use Rattle.algorithms.specs.declared.local.LineStep.TheVariants as line
use Rattle.algorithms.specs.declared.local.LocalState.{LocalState}
use Rattle.algorithms.specs.declared.local.RoundEnd.{RoundEnd}
use Rattle.algorithms.specs.declared.local.RoundEnd.TheVariants as ends
use Rattle.algorithms.specs.declared.refusal.AlgorithmRefusal.{AlgorithmRefusal}
use Rattle.algorithms.specs.declared.refusal.AlgorithmRefusal.TheVariants.{OutOfRange, Malformed}

infixl 10 ◌>>=◌
abbrev pub ◌>>=◌ : {A B : Type 0} → Result A AlgorithmRefusal → (A → Result B AlgorithmRefusal) → Result B AlgorithmRefusal
(Ok x) >>= f = f x
(Err e) >>= f = Err e

-- what one line does to a process between two accesses: it goes on, goes back to the next round of a loop, or stops before an
-- access or with an answer at the end of its call
pub data LocalStep : Type 0 where
  GoesOn : LocalState → LocalStep
  GoesBack : LocalState → LocalStep
  Stops : Option ℕ → LocalStep

-- a process that stops: before an access, or with an answer at the end of its call
pub record Arrival : Type 0 where
  pub answer : Option ℕ
  pub state : LocalState

abbrev pub landing : Option ℕ → LocalState → Arrival
landing answer s = record { answer = answer; state = s }

-- whether a line that has led to this place begins the next round of its loop: the loop's way back (a back edge of the flow graph,
-- Aho, Lam, Sethi, Ullman 2006)
abbrev pub is_way_back : LocalLine → ℕ → Bool
is_way_back (Next name members body) at = nat_eq body at
is_way_back other at = false

abbrev pub step_to : LocalLine → LocalState → LocalStep
step_to line next = if is_way_back line next.at then GoesBack next else GoesOn next

-- the line at a place
abbrev pub line_at : List AlgorithmLine → ℕ → Result AlgorithmLine AlgorithmRefusal
line_at lines at = ok_or (slice_get lines at) (Malformed at)

-- what a line of this form does to a process between two accesses
abbrev pub local_step_of : Constants → LineKind → LocalState → Result LocalStep AlgorithmRefusal
local_step_of c (Access access) s = Ok (Stops None)
local_step_of c (Done answer) s = Ok (Stops (Some answer))
local_step_of c (Local local) s = do
  next ← ok_or (local_line_done c (s.at + 1) local s) (OutOfRange s.at)
  Ok (step_to local next)

abbrev pub local_step_at : List AlgorithmLine → Constants → LocalState → Result LocalStep AlgorithmRefusal
local_step_at lines c s = do
  l ← line_at lines s.at
  local_step_of c l.form s

-- a line that is done in place: the process has gone on, or stops as it was
abbrev pub IsDone : Result LocalStep AlgorithmRefusal → LineStep → LocalState → LocalState → Type 0
IsDone r line.GoesOn before now = r ≡ Ok (GoesOn now)
IsDone r line.GoesBack before now = r ≡ Ok (GoesBack now)
IsDone r (line.Stops answer) before now = (r ≡ Ok (Stops answer)) × (now ≡ before)

-- ---- one round

-- how the local lines of one round end: the process has arrived, or the line at a place has begun the next round of its loop
pub data RoundOutcome : Type 0 where
  Arrives : Arrival → RoundOutcome
  Repeats : ℕ → LocalState → RoundOutcome

-- a process that stops has come to where it is. One that goes on comes to where it comes from the next line
abbrev pub outcome_after : (LocalState → Result RoundOutcome AlgorithmRefusal) → LocalState → LocalStep → Result RoundOutcome AlgorithmRefusal
outcome_after rest s (GoesOn next) = rest next
outcome_after rest s (GoesBack next) = Ok (Repeats s.at next)
outcome_after rest s (Stops answer) = Ok (Arrives (landing answer s))

-- how a round ends by at most n local lines. Lines that lead on in no circle are done once each
abbrev pub round_outcome : List AlgorithmLine → Constants → ℕ → LocalState → Result RoundOutcome AlgorithmRefusal
round_outcome lines c zero s = Err (Malformed s.at)
round_outcome lines c (suc n) s = do
  step ← local_step_at lines c s
  outcome_after (round_outcome lines c n) s step

-- a round that has ended in place
abbrev pub IsRoundEnd : Result RoundOutcome AlgorithmRefusal → RoundEnd → LocalState → Type 0
IsRoundEnd r (ends.Stops answer) now = r ≡ Ok (Arrives (landing answer now))
IsRoundEnd r (ends.Repeats at) now = r ≡ Ok (Repeats at now)

-- ---- all rounds

-- how many further rounds of loops may come between two accesses
abbrev pub most_local_rounds : ℕ
most_local_rounds = 1000000

abbrev pub after_round : (ℕ → LocalState → Result Arrival AlgorithmRefusal) → RoundOutcome → Result Arrival AlgorithmRefusal
after_round rest (Arrives l) = Ok l
after_round rest (Repeats at next) = rest at next

-- where a process comes to from the beginning of a further round, by at most that many rounds. One too many is refused at the end of
-- its loop
unfoldable pub further_rounds : List AlgorithmLine → Constants → ℕ → ℕ → LocalState → Result Arrival AlgorithmRefusal
further_rounds lines c zero at s = Err (OutOfRange at)
further_rounds lines c (suc rounds) at s = do
  outcome ← round_outcome lines c (length lines) s
  after_round (further_rounds lines c rounds) outcome

-- where a process comes to by its local lines, of which a round has no more than there are, and by at most that many further rounds
abbrev pub arrives : List AlgorithmLine → Constants → ℕ → LocalState → Result Arrival AlgorithmRefusal
arrives lines c rounds s = do
  outcome ← round_outcome lines c (length lines) s
  after_round (further_rounds lines c rounds) outcome
