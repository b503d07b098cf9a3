-- The events of a run, line by line, and what they report.
use Rattle.std.proofs.Common.{◌≡◌, ℕ, zero, suc, ◌+◌, true, is_some, List, [], ◌∷◌, ◌++◌, Option, Some, None, refl, sym, ap, ◌∙◌}
use Rattle.diagram.proofs.Common.{flat_map-cons, flat_map-append, Refusal, Line, Start, Step, Crash, CrashAll, Behaviour, steps, line_on, run_on, reports_by, transitions_of, DiagramEvent, Fell, reports_in, events_of, events_on}
use Rattle.schedule.proofs.Fragments.{line_reported, run_reported}
use Rattle.schedule.specs.Fragments.{Fragment, fragment_after_line, unless, itself, line_on as line_by, run_on as run_by}
use Rattle.schedule.specs.Runs.{LockReport}
use Rattle.schedule.specs.Transitions.{RunEvent as EventOf, Transitions}

pub reported_cons : (e : DiagramEvent) (es : List DiagramEvent) → reports_in (e ∷ es) ≡ reports_by e ++ reports_in es
reported_cons e es = flat_map-cons reports_by e es

pub reported_append : (es fs : List DiagramEvent) → reports_in (es ++ fs) ≡ reports_in es ++ reports_in fs
reported_append es fs = flat_map-append reports_by es fs

-- the numbers of lines change nothing that a run reports
module _ {S T C R X : Type 0} (m : Transitions S T C R) (report : EventOf T C → List X) where
  numbered : (j k : ℕ) (part : Fragment X S R) (o : Option R) (one other : Fragment X S (ℕ × R)) → one.reports ≡ other.reports → (fragment_after_line j part o one).reports ≡ (fragment_after_line k part o other).reports
  numbered j k part None one other same = ap (λ (xs : List X). part.reports ++ xs) same
  numbered j k part (Some e) one other same = refl

  pub numbers : (j k : ℕ) (s : S) (lines : List Line) → (run_by m report j s lines).reports ≡ (run_by m report k s lines).reports
  numbers j k s [] = refl
  numbers j k s (line ∷ lines) =
      let part = line_by m report s line in
      numbered j k part part.refused (run_by m report (j + 1) part.left lines) (run_by m report (k + 1) part.left lines) (numbers (j + 1) (k + 1) part.left lines)

  pub reports_go_on : (s : S) (line : Line) (rest : List Line) → (line_by m report s line).refused ≡ None
      → (run_by m report 2 s (line ∷ rest)).reports ≡ (line_by m report s line).reports ++ (run_by m report 2 (line_by m report s line).left rest).reports
  reports_go_on s line rest accepted =
      let part = line_by m report s line in
      ap (λ (o : Option R). (fragment_after_line 2 part o (run_by m report 3 part.left rest)).reports) accepted ∙ ap (λ (xs : List X). part.reports ++ xs) (numbers 3 2 part.left rest)

module _ {S : Type 0} (b : Behaviour S) where
  -- ---- what they report

  -- a line, with its events and with what they report
  pub same_left : (s : S) (line : Line) → (line_on b s line).left ≡ (line_by (transitions_of b) itself s line).left
  unfolding line_on steps
  same_left s line = ap (λ (part : Fragment LockReport S Refusal). part.left) (line_reported (transitions_of b) reports_by s line)

  pub same_refused : (s : S) (line : Line) → (line_on b s line).refused ≡ (line_by (transitions_of b) itself s line).refused
  unfolding line_on steps
  same_refused s line = ap (λ (part : Fragment LockReport S Refusal). part.refused) (line_reported (transitions_of b) reports_by s line)

  pub run_tells : (s : S) (lines : List Line) → reports_in (events_on b s lines) ≡ (run_on b 2 s lines).reports
  unfolding events_on run_on line_on steps
  run_tells s lines = sym (ap (λ (run : Fragment LockReport S (ℕ × Refusal)). run.reports) (run_reported (transitions_of b) reports_by 2 s lines))

  pub run_left : (k : ℕ) (s : S) (lines : List Line) → (run_on b k s lines).left ≡ (run_by (transitions_of b) itself k s lines).left
  unfolding run_on line_on steps
  run_left k s lines = ap (λ (run : Fragment LockReport S (ℕ × Refusal)). run.left) (run_reported (transitions_of b) reports_by k s lines)

  pub run_refused : (k : ℕ) (s : S) (lines : List Line) → (run_on b k s lines).refused ≡ (run_by (transitions_of b) itself k s lines).refused
  unfolding run_on line_on steps
  run_refused k s lines = ap (λ (run : Fragment LockReport S (ℕ × Refusal)). run.refused) (run_reported (transitions_of b) reports_by k s lines)

  -- ---- a line

  -- a line that is refused has no event and leaves the state as it was
  pub line_refused : (s : S) (line : Line) (e : Refusal) → (line_by (transitions_of b) itself s line).refused ≡ Some e → (events_of b s line ≡ []) × ((line_by (transitions_of b) itself s line).left ≡ s)
  unfolding events_of
  line_refused s (Start p call) e stops = by (b.start_refusal s p call) stops
    where
      by : (o : Option Refusal) → (unless {X = DiagramEvent} o s [] (b.started s p call)).refused ≡ Some e → ((unless {X = DiagramEvent} o s [] (b.started s p call)).reports ≡ []) × ((unless {X = DiagramEvent} o s [] (b.started s p call)).left ≡ s)
      by None stops = absurd cc
      by (Some refused) stops = (refl, refl)
  line_refused s (Step p zero) e stops = (refl, refl)
  line_refused s (Step p (suc n)) e stops = let is : is_some (b.advance_refusal s p) ≡ true = ap is_some stops in rw is (refl, refl)
  line_refused s (Crash p) e stops = by (b.crash_refusal s p) stops
    where
      one : List DiagramEvent
      one = Fell p (b.crash_deed s p) ∷ []

      by : (o : Option Refusal) → (unless o s one (b.crashed s p)).refused ≡ Some e → ((unless o s one (b.crashed s p)).reports ≡ []) × ((unless o s one (b.crashed s p)).left ≡ s)
      by None stops = absurd cc
      by (Some refused) stops = (refl, refl)
  line_refused s CrashAll e stops = absurd cc

  -- ---- one line after another

  pub lines_none : (k : ℕ) (s : S) → (events_on b s [] ≡ []) × ((run_on b k s []).refused ≡ None) × ((run_on b k s []).left ≡ s)
  unfolding events_on run_on
  lines_none k s = (refl, refl, refl)

  run_ends : (k : ℕ) (s : S) (line : Line) (rest : List Line) (e : Refusal) → (line_on b s line).refused ≡ Some e → (run_on b k s (line ∷ rest)).refused ≡ Some (k, e)
  unfolding run_on
  run_ends k s line rest e refused = rw refused refl

  events_end : (s : S) (line : Line) (rest : List Line) (e : Refusal) → (line_by (transitions_of b) itself s line).refused ≡ Some e → events_on b s (line ∷ rest) ≡ events_of b s line
  unfolding events_on events_of
  events_end s line rest e refused =
      let part = line_by (transitions_of b) itself s line in
      ap (λ (o : Option Refusal). (fragment_after_line 2 part o (run_by (transitions_of b) itself 3 part.left rest)).reports) refused

  pub line_ends : (k : ℕ) (s : S) (line : Line) (lines rest : List Line) (e : Refusal) → lines ≡ line ∷ rest → (line_on b s line).refused ≡ Some e
      → (events_on b s lines ≡ events_of b s line) × ((run_on b k s lines).refused ≡ Some (k, e))
  line_ends k s line lines rest e is refused =
      rw is (events_end s line rest e (sym (same_refused s line) ∙ refused), run_ends k s line rest e refused)

  run_goes_on : (k : ℕ) (s : S) (line : Line) (rest : List Line) → (line_on b s line).refused ≡ None
      → ((run_on b k s (line ∷ rest)).refused ≡ (run_on b (k + 1) (line_on b s line).left rest).refused) × ((run_on b k s (line ∷ rest)).left ≡ (run_on b (k + 1) (line_on b s line).left rest).left)
  unfolding run_on
  run_goes_on k s line rest accepted = rw accepted (refl, refl)

  events_go_on : (s : S) (line : Line) (rest : List Line) → (line_by (transitions_of b) itself s line).refused ≡ None
      → events_on b s (line ∷ rest) ≡ events_of b s line ++ events_on b (line_by (transitions_of b) itself s line).left rest
  unfolding events_on events_of
  events_go_on s line rest accepted = reports_go_on (transitions_of b) itself s line rest accepted

  pub line_goes_on : (k : ℕ) (s t : S) (line : Line) (lines rest : List Line) → lines ≡ line ∷ rest → (line_on b s line).refused ≡ None → t ≡ (line_on b s line).left
      → (events_on b s lines ≡ events_of b s line ++ events_on b t rest) × ((run_on b k s lines).refused ≡ (run_on b (k + 1) t rest).refused)
      × ((run_on b k s lines).left ≡ (run_on b (k + 1) t rest).left)
  line_goes_on k s t line lines rest is accepted left =
      let run = run_goes_on k s line rest accepted in
      rw (is, left) (
        events_go_on s line rest (sym (same_refused s line) ∙ accepted) ∙ ap (λ (u : S). events_of b s line ++ events_on b u rest) (sym (same_left s line)),
        run.0,
        run.1,
      )
