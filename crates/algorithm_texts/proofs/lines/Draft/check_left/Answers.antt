use Rattle.std.proofs.Common.{inr}
use Rattle.std.proofs.lemmas.Bool.{both_ways}
use Rattle.algorithm_texts.specs.Drafts.{draft_view}
use Rattle.algorithm_texts.specs.Rounds.{ReturnsMarked}
use Rattle.algorithm_texts.proofs.RunChecks.{within_at}
use Rattle.algorithm_texts.proofs.RunFaults.{from_first}
use Rattle.algorithm_texts.proofs.RunMarks.{all_within, below_next}
use Rattle.algorithm_texts.proofs.lines.Draft.check_left.Goals as goal

pub loop-place-preserved : goal.loop-place-preserved
loop-place-preserved c =
    below_next (λ at. ReturnsMarked (draft_view c.args.self.now) c.args.call c.args.left.now at → ⊥) c.args.call.«from» c.loop-place.place c.loop-place.invariant
    (λ r. both_ways c.in_ok-on.on c.if-on.false (c.in_ok-on.ensures.no r.marked r.returns))

pub returns-clause-ok : goal.returns-clause-ok
returns-clause-ok c = λ at r.
    all_within (λ x. ReturnsMarked (draft_view c.args.self.now) c.args.call c.args.left.now x → ⊥) c.args.call c.loop-place.place c.loop-place.invariant c.loop-place-test.false at r.within r

pub returns-then-on-clause-first : goal.returns-then-on-clause-first
returns-then-on-clause-first c =
    let found = c.in_ok-on.ensures.yes c.if-on.true in
    let inside = within_at c.args.call c.loop-place.place c.loop-place.auto.place c.loop-place-test.true in
    inr (record {
      at = c.loop-place.place;
      first = record {
        fails = λ none. none (record { within = inside; marked = found.0; returns = found.1 });
        before = λ k less r. c.loop-place.invariant k (from_first c.args.call k r.within) less r;
      };
      named = c.fault_at.ensures;
    })
