use Rattle.std.proofs.Common.{refl, arith}
use Rattle.judge.proofs.Common.{empty_state_of, Lists, false≢true}
use Rattle.judge.proofs.Writes.{Lists-replicate, HasRows-replicate}
use Rattle.judge.proofs.judge.Judge.with_nothing_shown.Goals as goal

pub returns : goal.returns
returns c = record {
  state = empty_state_of c.args.most_inside c.args.procs c.args.cap;
  legal = refl;
  kept = record {
    procs = refl;
    cap = refl;
    most_inside = refl;
    phases = Lists-replicate _ _ _ (c.in_ok-phases.ensures.items_if_clones_equal (λ y e. e));
    ahead = HasRows-replicate _ _ (c.in_ok-ahead.ensures.items_if_clones_equal (λ y e. e));
    counts = Lists-replicate _ _ _ (c.in_ok-counts.ensures.items_if_clones_equal (λ y e. e));
    shown = refl;
    pending = refl;
    closed = refl;
    ruined = refl;
  };
}

pub invariant_of-result : goal.invariant_of-result
invariant_of-result c =
    let none : Lists c.in_ok-counts.counts.items c.args.procs (λ p. 0) = Lists-replicate _ _ _ (c.in_ok-counts.ensures.items_if_clones_equal (λ y e. e)) in
    record {
      few = c.requires.procs_most;
      small = c.requires.cap_most;
      phases = omega (arith, c.in_ok-phases.ensures.len, c.in_ok-phases.phases.ok.0);
      ahead = omega (arith, c.in_ok-ahead.ensures.len, c.in_ok-ahead.ahead.ok.0);
      counts = omega (arith, c.in_ok-counts.ensures.len, c.in_ok-counts.counts.ok.0);
      counts_low = λ p below. omega (arith, none p 0 below);
      shown_low = omega arith;
      room = λ e. absurd (false≢true e);
    }
