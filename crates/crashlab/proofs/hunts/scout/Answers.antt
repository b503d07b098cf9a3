use Rattle.std.proofs.Common.{[], ◌∷◌, ◌++◌, refl, sym, ap, subst, arith}
use Rattle.crashlab.proofs.Common.{EndsMove, with_line, line_by}
use Rattle.crashlab.specs.hunts.Found.{drawn_moves_of}
use Rattle.crashlab.specs.hunts.Hunted.{outcome_of_round}
use Rattle.crashlab.proofs.hunts.Drawn.{drawn_first, drawn_refused, drawn_on, drawn_caught, drawn_all}
use Rattle.crashlab.proofs.hunts.scout.Goals as goal

pub loop-init : goal.loop-init
loop-init c = record { moves = []; drawn = drawn_first c.args.variant c.args.asked c.args.generator.now _ _ _ c.in_ok-world.ensures.begins c.new-observer.ensures }

pub loop-preserved-in_default : goal.loop-preserved-in_default
loop-preserved-in_default c =
    record {
      moves = c.loop.invariant.moves;
      drawn = drawn_refused c.loop.invariant.drawn c.loop-test.true c.next_word.ensures c.draw-drawn.ensures (c.in_default.ensures.refused refl) (c.in_default.ensures.same refl);
    }

pub loop-preserved : goal.loop-preserved
loop-preserved c =
    let ends = subst (λ m. EndsMove c.args.variant (with_line (drawn_moves_of c.loop.invariant.moves) (line_by c.draw-drawn.result)) c.make.new.world c.make.new.judge m) c.in-On.is
    (c.in-Some.ensures.ends c.args.variant (drawn_moves_of c.loop.invariant.moves) c.loop.invariant.drawn.played) in
    record {
      moves = c.loop.invariant.moves ++ c.draw-drawn.result ∷ [];
      drawn = drawn_on c.loop.invariant.drawn c.loop-test.true c.next_word.ensures c.draw-drawn.ensures c.in-Some.ensures.accepted refl ends c.in-Some.ensures.observes;
    }

pub returns-in-Caught-clause-exact : goal.returns-in-Caught-clause-exact
returns-in-Caught-clause-exact c =
    let ends = subst (λ m. EndsMove c.args.variant (with_line (drawn_moves_of c.loop.invariant.moves) (line_by c.draw-drawn.result)) c.make.new.world c.make.new.judge m) c.in-Caught.is
    (c.in-Some.ensures.ends c.args.variant (drawn_moves_of c.loop.invariant.moves) c.loop.invariant.drawn.played) in
    ap outcome_of_round (sym (drawn_caught c.loop.invariant.drawn c.loop-test.true c.next_word.ensures c.draw-drawn.ensures c.in-Some.ensures.accepted ends))

pub returns-clause-exact : goal.returns-clause-exact
returns-clause-exact c = ap outcome_of_round (sym (drawn_all c.loop.invariant.drawn (omega (arith, c.loop-test.false, c.loop.auto.counter-end))).0)

pub returns-clause-on : goal.returns-clause-on
returns-clause-on c = λ on. (drawn_all c.loop.invariant.drawn (omega (arith, c.loop-test.false, c.loop.auto.counter-end))).1
