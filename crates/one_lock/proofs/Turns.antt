-- The report of a step of the world under the mutex.
use Rattle.std.proofs.Common.{◌≡◌, ◌≢◌, ◌↔◌, ℕ, Option, None, IsTrue, Result, Ok, Err, OnOk, IfOk, sym, ◌∙◌, subst}
use Rattle.one_lock.proofs.Common.{WorldState, Setup, world_after_opening, Opens, IsBlocked, Reports, HasExecution, AreSizes}
use Rattle.rmecore.specs.Simulated.{tally_at}
use Rattle.rmecore.specs.declared.refusal.Refusal.{Refusal}
use Rattle.rmeworld.specs.Replayed.{world_step_report, world_after_step, advance_refusal}
use Rattle.one_lock.specs.declared.opening.Opening.{Opening}
use Rattle.one_lock.specs.declared.turn.StepReport.{StepReport}

reports : (named : Option Setup) (p : ℕ) (o : Opening) (turn : StepReport) (s new after : WorldState) (n : ℕ) → HasExecution s n → AreSizes named s.layout s.limit → Opens p o s → new ≡ world_after_opening o p s → advance_refusal new p ≡ None → after ≡ world_after_step new p → turn.happened ≡ (world_step_report new p).happened → turn.answer ≡ (world_step_report new p).answer
    → (IsTrue turn.blocked ↔ ((tally_at after.tallies p).blocked ≢ (tally_at new.tallies p).blocked)) → Reports named p o turn
reports named p o turn s new after n fact are opens is accepted moved happened answer blocked =
    record {
      world = s;
      steps = n;
      fact = fact;
      sizes = are;
      opens = opens;
      accepted = (λ i. advance_refusal (sym is i) p) ∙ accepted;
      happened = (λ i. (world_step_report (sym is i) p).happened) ∙ sym happened;
      given = (λ i. (world_step_report (sym is i) p).answer) ∙ sym answer;
      held = subst (λ (x : WorldState). IsTrue turn.blocked ↔ IsBlocked p x) is (subst (λ (x : WorldState). IsTrue turn.blocked ↔ ((tally_at x.tallies p).blocked ≢ (tally_at new.tallies p).blocked)) moved blocked);
    }

-- a step of the world under the mutex, with its crash and start
pub step_reports : (named : Option Setup) (p : ℕ) (o : Opening) (s new after : WorldState) (n : ℕ) (r : Result StepReport Refusal) → HasExecution s n → AreSizes named s.layout s.limit → Opens p o s → new ≡ world_after_opening o p s → OnOk r (advance_refusal new p ≡ None) → OnOk r (after ≡ world_after_step new p)
    → IfOk r (λ (turn : StepReport). turn.happened ≡ (world_step_report new p).happened) → IfOk r (λ (turn : StepReport). turn.answer ≡ (world_step_report new p).answer) → IfOk r (λ (turn : StepReport). IsTrue turn.blocked ↔ ((tally_at after.tallies p).blocked ≢ (tally_at new.tallies p).blocked))
    → IfOk r (Reports named p o)
step_reports named p o s new after n (Ok turn) fact are opens is accepted moved happened answer blocked = reports named p o turn s new after n fact are opens is accepted moved happened answer blocked
step_reports named p o s new after n (Err e) fact are opens is accepted moved happened answer blocked = tt
