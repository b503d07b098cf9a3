-- What a hunt finds goes wrong.
use Rattle.std.proofs.Common.{◌≡◌, ℕ, zero, suc, ◌+◌, ◌<◌, ◌≤◌, nat_lt, lt-ltb, le-ltb, Bool, true, false, List, [], ◌∷◌, ◌++◌, map, Option, Some, None, is_some, Result, Ok, Err, refl, sym, ap, ◌∙◌, subst, arith}
use Rattle.std.specs.List.{AllByRecursion, range_with_len}
use Rattle.rmecore.specs.declared.fault.Fault.{Fault}
use Rattle.rmecore.specs.Simulated.{one_more}
use Rattle.redomail.specs.declared.deed.Deed.{Deed}
use Rattle.judge.specs.Table.{State, empty_state, state_after_deed}
use Rattle.judge.specs.Legal.{and_then, judged_all}
use Rattle.rmeworld.specs.declared.answer.Answer.{Answer}
use Rattle.rmeworld.specs.declared.call.Call.{Call}
use Rattle.rmeworld.specs.Replayed.{list_of}
use Rattle.rmeworld.specs.WorldState.{new_refusal}
use Rattle.schedule.specs.declared.lines.line.Line.{Line}
use Rattle.schedule.specs.declared.lines.line.Line.TheVariants.{Start, Step, Crash, CrashAll}
use Rattle.schedule.specs.declared.replays.verdict.Verdict.TheVariants.{Against}
use Rattle.schedule.specs.Commands.{IsLine}
use Rattle.schedule.specs.Fragments.{crashes_in_a_row}
use Rattle.schedule.specs.Runs.{LockReport, Did, deeds_of, did, reports_by, reports_of, transitions_of, steps, line_on, run_on}
use Rattle.rmeworld.specs.Behaviours.{Behaviour}
use Rattle.schedule.specs.Schedules.{Scheduled, IsScheduled}
use Rattle.schedule.specs.Verdicts.{number_of_fault, verdict_at, verdict_from, verdict_on}
use Rattle.schedule.specs.Wholes.{layout_of}
use Rattle.schedule.proofs.Playing.{deeds_append, deeds_reported}
use Rattle.crashlab.specs.declared.variants.variant.Variant.{Variant}
use Rattle.crashlab.specs.hunts.Hunts.{first_world, is_answered, after_steps, after_crashes, after_line, deeds_of_steps, deeds_of_line, deeds_of_lines, Unless, MaySteps, MayLine, MayLines, IsFound}
use Rattle.crashlab.specs.variants.VariantWorlds.{VariantState, new_world, variant_step_report, variant_after_step, variant_after_crash, crash_deed, variant_behaviour}
use Rattle.crashlab.specs.minimization.Shrunk.{variant_run, at_header, GoesWrong}

-- ---- on any machine

module _ {S : Type 0} (b : Behaviour S) where
  last_step : (p n : ℕ) (s : S) → b.advance_refusal s p ≡ None → is_some (b.stepped s p).answer ≡ true
      → steps b p (suc n) s ≡ (reports_of p (b.stepped s p).deed (b.stepped s p).answer ++ [], b.advanced s p)
  unfolding steps
  last_step p n s taken closed = rw (taken, closed) refl

  one_step : (p n : ℕ) (s : S) → b.advance_refusal s p ≡ None → is_some (b.stepped s p).answer ≡ false
      → steps b p (suc n) s ≡ (reports_of p (b.stepped s p).deed (b.stepped s p).answer ++ (steps b p n (b.advanced s p)).0, (steps b p n (b.advanced s p)).1)
  unfolding steps
  one_step p n s taken going = rw (taken, going) refl

  start_line : (s : S) (p : ℕ) (call : Call) → b.start_refusal s p call ≡ None → line_on b s (Start p call) ≡ record { reports = []; left = b.started s p call; refused = None }
  unfolding line_on
  start_line s p call may = rw may refl

  step_line : (s : S) (p n : ℕ) → line_on b s (Step p n) ≡ record { reports = (steps b p n s).0; left = (steps b p n s).1; refused = b.advance_refusal s p }
  unfolding line_on
  step_line s p n = refl

  crash_line : (s : S) (p : ℕ) → b.crash_refusal s p ≡ None → line_on b s (Crash p) ≡ record { reports = Did (b.crash_deed s p) ∷ []; left = b.crashed s p; refused = None }
  unfolding line_on
  crash_line s p may = rw may refl

  crash_all_line : (s : S) → line_on b s CrashAll
      ≡ record { reports = (crashes_in_a_row (transitions_of b) reports_by 0 64 s).0; left = (crashes_in_a_row (transitions_of b) reports_by 0 64 s).1; refused = None }
  unfolding line_on
  crash_all_line s = refl

  first_line : (k : ℕ) (s : S) (line : Line) (lines : List Line) → (line_on b s line).refused ≡ None
      → run_on b k s (line ∷ lines) ≡ record {
        reports = (line_on b s line).reports ++ (run_on b (k + 1) (line_on b s line).left lines).reports;
        left = (run_on b (k + 1) (line_on b s line).left lines).left;
        refused = (run_on b (k + 1) (line_on b s line).left lines).refused;
      }
  unfolding run_on
  first_line k s line lines may = rw may refl

-- ---- on a variant's world: the run of a found schedule is the one that the hunt's definitions give

deeds_did : (deed : Option Deed) → deeds_of (did deed) ≡ list_of deed
deeds_did None = refl
deeds_did (Some deed) = refl

deeds_first : (p : ℕ) (deed : Option Deed) (answer : Option Answer) (rest : List LockReport) → deeds_of (reports_of p deed answer ++ rest) ≡ list_of deed ++ deeds_of rest
deeds_first p deed answer rest = deeds_append (reports_of p deed answer) rest ∙ ap (λ ds. ds ++ deeds_of rest) (deeds_reported p deed answer ∙ deeds_did deed)

record IsSteps (p n : ℕ) (s : VariantState) : Type 0 where
  deeds : deeds_of (steps variant_behaviour p n s).0 ≡ deeds_of_steps s p n
  left : (steps variant_behaviour p n s).1 ≡ after_steps s p n

-- one more step, where the steps after it are so
steps_more : (p n : ℕ) (s : VariantState) (answered : Bool) → is_answered s p ≡ answered → MaySteps s p (suc n) → (answered ≡ false → IsSteps p n (variant_after_step s p)) → IsSteps p (suc n) s
steps_more p n s true closed may rest =
    let e = last_step variant_behaviour p n s may.0 closed in
    record {
      deeds = ap (λ x. deeds_of x.0) e ∙ deeds_first p (variant_step_report s p).deed (variant_step_report s p).answer [] ∙ rw closed refl;
      left = ap (λ x. x.1) e ∙ rw closed refl;
    }
steps_more p n s false going may rest =
    let e = one_step variant_behaviour p n s may.0 going in
    let after_it = rest refl in
    record {
      deeds = ap (λ x. deeds_of x.0) e ∙ deeds_first p (variant_step_report s p).deed (variant_step_report s p).answer _ ∙ ap (λ ds. list_of (variant_step_report s p).deed ++ ds) after_it.deeds ∙ rw going refl;
      left = ap (λ x. x.1) e ∙ after_it.left ∙ rw going refl;
    }

unless_not : (b : Bool) (P : Type 0) → b ≡ false → Unless b P → P
unless_not true P e may = absurd (cc)
unless_not false P e may = may

steps_are : (p n : ℕ) (s : VariantState) → MaySteps s p n → IsSteps p n s
unfolding steps
steps_are p zero s may = record { deeds = refl; left = refl }
steps_are p (suc n) s may = steps_more p n s (is_answered s p) refl may (λ going. steps_are p n (variant_after_step s p) (unless_not (is_answered s p) (MaySteps (variant_after_step s p) p n) going may.1))

-- the crashes of p and of the processes after it, of which there are n
crashes_are : (n p k : ℕ) (s : VariantState) → n + p ≡ s.layout.procs → n ≤ k
    → (deeds_of (crashes_in_a_row (transitions_of variant_behaviour) reports_by p k s).0 ≡ map crash_deed (range_with_len p n))
    × ((crashes_in_a_row (transitions_of variant_behaviour) reports_by p k s).1 ≡ after_crashes s p n)
unfolding crashes_in_a_row
crashes_are zero p zero s count few = (refl, refl)
crashes_are zero p (suc k) s count few = let gone : nat_lt p s.layout.procs ≡ false = le-ltb p s.layout.procs (omega (arith, count)) in rw gone (refl, refl)
crashes_are (suc n) p zero s count few = absurd (omega (arith, few))
crashes_are (suc n) p (suc k) s count few =
    let there : nat_lt p s.layout.procs ≡ true = lt-ltb p s.layout.procs (omega (arith, count)) in
    let rest = crashes_are n (p + 1) k (variant_after_crash s p) (omega (arith, count)) (omega (arith, few)) in
    rw there (ap (λ ds. crash_deed p ∷ ds) rest.0, rest.1)

record IsPart (s : VariantState) (line : Line) : Type 0 where
  accepted : (line_on variant_behaviour s line).refused ≡ None
  deeds : deeds_of (line_on variant_behaviour s line).reports ≡ deeds_of_line s line
  left : (line_on variant_behaviour s line).left ≡ after_line s line

line_is : (width : ℕ) (s : VariantState) (line : Line) → IsLine width line → MayLine s line → IsPart s line
line_is width s (Start p call) is may =
    let e = start_line variant_behaviour s p call may in
    record { accepted = ap (λ x. x.refused) e; deeds = ap (λ x. deeds_of x.reports) e; left = ap (λ x. x.left) e }
line_is width s (Step p zero) is may = absurd (omega (arith, is.1))
line_is width s (Step p (suc n)) is may =
    let e = step_line variant_behaviour s p (suc n) in
    let taken = steps_are p (suc n) s may in
    record { accepted = ap (λ x. x.refused) e ∙ may.0; deeds = ap (λ x. deeds_of x.reports) e ∙ taken.deeds; left = ap (λ x. x.left) e ∙ taken.left }
line_is width s (Crash p) is may =
    let e = crash_line variant_behaviour s p may in
    record { accepted = ap (λ x. x.refused) e; deeds = ap (λ x. deeds_of x.reports) e; left = ap (λ x. x.left) e }
line_is width s CrashAll is may =
    let e = crash_all_line variant_behaviour s in
    let all = crashes_are s.layout.procs 0 64 s (omega arith) may in
    record { accepted = ap (λ x. x.refused) e; deeds = ap (λ x. deeds_of x.reports) e ∙ all.0; left = ap (λ x. x.left) e ∙ all.1 }

record IsRun (k : ℕ) (s : VariantState) (lines : List Line) : Type 0 where
  accepted : (run_on variant_behaviour k s lines).refused ≡ None
  deeds : deeds_of (run_on variant_behaviour k s lines).reports ≡ deeds_of_lines s lines

run_is : (width k : ℕ) (s : VariantState) (lines : List Line) → AllByRecursion (IsLine width) lines → MayLines s lines → IsRun k s lines
unfolding run_on
run_is width k s [] all may = record { accepted = refl; deeds = refl }
run_is width k s (line ∷ lines) all may =
    let part = line_is width s line all.0 may.0 in
    let rest = run_is width (k + 1) (after_line s line) lines all.1 may.1 in
    let here = subst (λ w. IsRun (k + 1) w lines) (sym part.left) rest in
    let e = first_line variant_behaviour k s line lines part.accepted in
    let reports = (line_on variant_behaviour s line).reports in
    let after = run_on variant_behaviour (k + 1) (line_on variant_behaviour s line).left lines in
    record {
      accepted = ap (λ x. x.refused) e ∙ here.accepted;
      deeds = ap (λ x. deeds_of x.reports) e ∙ deeds_append reports after.reports ∙ ap (λ ds. ds ++ deeds_of after.reports) part.deeds
          ∙ ap (λ ds. deeds_of_line s line ++ ds) (here.deeds ∙ ap (λ w. deeds_of_lines w lines) part.left);
    }

-- where the judge refuses a deed the verdict is against
against : (k : ℕ) (s : State) (ds : List Deed) (fault : Fault) → judged_all s ds ≡ Err fault → (at : ℕ) × (verdict_from k s ds ≡ Against at fault)
against k s [] fault e = absurd (cc)
against k s (d ∷ ds) fault e = by (state_after_deed s d) e (λ u. against (one_more k) u ds fault)
  where
    by : (r : Result State Fault) → and_then r (λ u. judged_all u ds) ≡ Err fault → ((u : State) → judged_all u ds ≡ Err fault → (at : ℕ) × (verdict_from (one_more k) u ds ≡ Against at fault))
        → (at : ℕ) × (verdict_at k r (λ u. verdict_from (one_more k) u ds) ≡ Against at fault)
    by (Ok u) rest later = later u rest
    by (Err other) rest later = (k, cc)

pub found_wrong : (variant : Variant) (schedule : Scheduled) → IsScheduled schedule → (found : IsFound variant schedule) → GoesWrong variant (number_of_fault found.fault) schedule
unfolding variant_run
found_wrong variant schedule valid found =
    let size = found.size in
    let world : new_world variant (layout_of schedule) schedule.limit ≡ first_world variant =
    (λ i. new_world variant (record { procs = size.procs i; cap = size.cap i; width = size.width i }) (size.limit i)) in
    let sized : new_refusal (layout_of schedule) schedule.limit ≡ None = (λ i. new_refusal (record { procs = size.procs i; cap = size.cap i; width = size.width i }) (size.limit i)) in
    let run = run_is schedule.width 2 (new_world variant (layout_of schedule) schedule.limit) schedule.lines valid.lines (subst (λ w. MayLines w schedule.lines) (sym world) found.runs) in
    let deeds : deeds_of (variant_run variant schedule).reports ≡ found.before ++ found.last ∷ [] = run.deeds ∙ ap (λ w. deeds_of_lines w schedule.lines) world ∙ found.deeds in
    let refused = against 1 (empty_state 3 64) (found.before ++ found.last ∷ []) found.fault found.refused in
    record {
      accepted = ap (λ o. at_header o (variant_run variant schedule).refused) sized ∙ run.accepted;
      at = refused.0;
      fault = found.fault;
      verdict = (λ i. verdict_on (empty_state (size.procs i) (size.cap i)) (deeds i)) ∙ refused.1;
      number_is = refl;
    }
