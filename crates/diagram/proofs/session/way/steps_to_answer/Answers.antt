use Rattle.std.proofs.Common.{◌≡◌, suc, ◌+◌, ◌-◌, refl, ◌∙◌, arith}
use Rattle.diagram.proofs.Seen.{way_answered, way_begins, way_goes_on, way_none, way_refused}
use Rattle.diagram.proofs.session.way.steps_to_answer.Goals as goal

pub loop-k-init : goal.loop-k-init
loop-k-init g c = way_begins g.M.Automaton.transitions c.args.p c.args.n c.args.machine.now _ (omega arith)

pub returns-then-ends : goal.returns-then-ends
returns-then-ends g c =
    let count : c.args.n - c.loop-k.k ≡ suc (c.args.n - (c.loop-k.k + 1)) = omega (arith, c.loop-k-test.true) in
    let is = way_answered g.M.Automaton.transitions c.args.p c.args.n c.args.machine.now c.loop-k.k _ _ c.loop-k.machine _ c.in-Ok.step c.loop-k.invariant count c.in-Ok.ensures.ok (grind arith) in
    record { number = is.0; range = (omega arith, omega (arith, c.loop-k-test.true)); left = is.1 }

pub returns-in-Err : goal.returns-in-Err
returns-in-Err g c =
    let count : c.args.n - c.loop-k.k ≡ suc (c.args.n - (c.loop-k.k + 1)) = omega (arith, c.loop-k-test.true) in
    let refused = c.in-Err.ensures.refused (c.if-is_out_of_memory.ensures.no refl) in
    let is = way_refused g.M.Automaton.transitions c.args.p c.args.n c.args.machine.now c.loop-k.k _ _ c.loop-k.machine c.in-Err.refusal c.loop-k.invariant count refused in
    record { number = is.0; range = (omega arith, omega (arith, c.loop-k-test.true)); left = c.in-Err.ensures.err ∙ is.1 }

pub loop-k-preserved : goal.loop-k-preserved
loop-k-preserved g c =
    let count : c.args.n - c.loop-k.k ≡ suc (c.args.n - (c.loop-k.k + 1)) = omega (arith, c.loop-k-test.true) in
    way_goes_on g.M.Automaton.transitions c.args.p c.args.n c.args.machine.now c.loop-k.k _ _ c.loop-k.machine _ c.in-Ok.step c.loop-k.invariant count c.in-Ok.ensures.ok (grind arith)

pub returns : goal.returns
returns g c =
    let none : c.args.n - c.loop-k.k ≡ 0 = omega (arith, c.loop-k-test.false) in
    let is = way_none g.M.Automaton.transitions c.args.p c.args.n c.args.machine.now c.loop-k.k _ c.loop-k.machine c.loop-k.invariant none in
    record { number = is.0; range = tt; left = is.1 }
