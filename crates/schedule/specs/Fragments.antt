-- The run of a schedule on a machine: what its events report, the state that it leaves, and the line that is refused
-- (the ordered run of the specification's Report).
use Rattle.std.specs.Prelude.{ℕ, zero, suc, ◌+◌, Bool, true, false, List, [], ◌∷◌, ◌++◌, Option, Some, None, is_some, if◌then◌else◌}
use Rattle.schedule.specs.Transitions.{RunEvent, Took, Fell, Transitions}
use Rattle.schedule.specs.declared.lines.line.Line.{Line}
use Rattle.schedule.specs.declared.lines.line.Line.TheVariants.{Start, Step, Crash, CrashAll}

-- a part of a run: what it reports, the state that it leaves, and its refusal
pub record Fragment (X S R : Type 0) : Type 0 where
  pub reports : List X
  pub left : S
  pub refused : Option R

-- a part that reports and leaves this, or a refusal that leaves the state as it was
abbrev pub unless : {X S R : Type 0} → Option R → S → List X → S → Fragment X S R
unless None s reports left = record { reports = reports; left = left; refused = None }
unless (Some refusal) s reports left = record { reports = []; left = s; refused = Some refusal }

-- line k, and then the rest of the run, unless the line is refused
abbrev pub fragment_after_line : {X S R : Type 0} → ℕ → Fragment X S R → Option R → Fragment X S (ℕ × R) → Fragment X S (ℕ × R)
fragment_after_line k part None rest = record { reports = part.reports ++ rest.reports; left = rest.left; refused = rest.refused }
fragment_after_line k part (Some refusal) rest = record { reports = part.reports; left = part.left; refused = Some (k, refusal) }

-- the refusal of steps after the first one of a line, by that of one of them
abbrev pub late : {R : Type 0} → Bool → Option R → Option R
late true refusal = refusal
late false refusal = None

-- the refusal of a line of steps, by those of its first step and of one of them
abbrev pub first_or_late : {R : Type 0} → Bool → Option R → Option R → Option R
first_or_late true first refusal = refusal
first_or_late false first refusal = first

-- an event as its own report
abbrev pub itself : {X : Type 0} → X → List X
itself event = event ∷ []

module _ {S T C R X : Type 0} (m : Transitions S T C R) (report : RunEvent T C → List X) where
  -- at most n steps of p, until its call is answered or one is refused
  abbrev pub steps : ℕ → ℕ → S → List X × S
  steps p zero s = ([], s)
  steps p (suc n) s =
      if is_some (m.step_refusal s p) then ([], s)
      else (let step : T = m.step s p in
      let more : List X × S = if m.ends step then ([], m.stepped s p) else steps p n (m.stepped s p) in
      (report (Took p step) ++ more.0, more.1))

  -- crashes of p, p + 1, .., at most n, as long as there is such a process: only the crash of one that is not there is refused
  unfoldable pub crashes_in_a_row : ℕ → ℕ → S → List X × S
  crashes_in_a_row p zero s = ([], s)
  crashes_in_a_row p (suc n) s =
      if is_some (m.crash_refusal s p) then ([], s)
      else (let more : List X × S = crashes_in_a_row (p + 1) n (m.crashed s p) in
      (report (Fell p (m.crash s p)) ++ more.0, more.1))

module _ {S T C R : Type 0} (m : Transitions S T C R) where
  -- the refusal of one of at most n steps of p, until its call is answered
  abbrev pub refusal_in : ℕ → ℕ → S → Option R
  refusal_in p zero s = None
  refusal_in p (suc n) s = if is_some (m.step_refusal s p) then m.step_refusal s p else (if m.ends (m.step s p) then None else refusal_in p n (m.stepped s p))

module _ {S T C R X : Type 0} (m : Transitions S T C R) (report : RunEvent T C → List X) where
  -- steps after the first one of a line
  abbrev pub later_steps : ℕ → ℕ → S → Fragment X S R
  later_steps p n s = record { reports = (steps m report p n s).0; left = (steps m report p n s).1; refused = late m.refuses_late (refusal_in m p n s) }

  -- a line of steps, by what these steps report and leave
  abbrev pub steps_line_by : ℕ → ℕ → S → List X × S → Fragment X S R
  steps_line_by p n s all = record { reports = all.0; left = all.1; refused = first_or_late m.refuses_late (m.step_refusal s p) (refusal_in m p n s) }

  abbrev pub steps_line : ℕ → ℕ → S → Fragment X S R
  steps_line p n s = steps_line_by p n s (steps m report p n s)

  -- a crash of p
  abbrev pub crash_line : ℕ → S → Fragment X S R
  crash_line p s = unless (m.crash_refusal s p) s (report (Fell p (m.crash s p))) (m.crashed s p)

  -- crashes of p and of the processes after it, at most n
  abbrev pub later_crashes : ℕ → ℕ → S → Fragment X S R
  later_crashes p n s = record { reports = (crashes_in_a_row m report p n s).0; left = (crashes_in_a_row m report p n s).1; refused = None }

  -- a crash of every process. No world has more than 64
  abbrev pub crash_all_line : S → Fragment X S R
  crash_all_line s = later_crashes 0 64 s

  -- one line, by what steps report and leave
  abbrev pub line_by : (ℕ → ℕ → S → List X × S) → S → Line → Fragment X S R
  line_by all s (Start p call) = unless (m.start_refusal s p call) s [] (m.started s p call)
  line_by all s (Step p n) = steps_line_by p n s (all p n s)
  line_by all s (Crash p) = crash_line p s
  line_by all s CrashAll = crash_all_line s

  abbrev pub line_on : S → Line → Fragment X S R
  line_on s line = line_by (steps m report) s line

module _ {S R X : Type 0} (one : S → Line → Fragment X S R) where
  -- the lines from number k on, by what one line reports and leaves
  abbrev pub run_by : ℕ → S → List Line → Fragment X S (ℕ × R)
  run_by k s [] = record { reports = []; left = s; refused = None }
  run_by k s (line ∷ lines) =
      let part : Fragment X S R = one s line in
      fragment_after_line k part part.refused (run_by (k + 1) part.left lines)

module _ {S T C R X : Type 0} (m : Transitions S T C R) (report : RunEvent T C → List X) where
  abbrev pub run_on : ℕ → S → List Line → Fragment X S (ℕ × R)
  run_on k s lines = run_by (line_on m report) k s lines
