use Rattle.std.proofs.Common.{◌≡◌, ◌∷◌, ◌++◌, sym, subst}
use Rattle.schedule.specs.declared.lines.line.Line.{Line}
use Rattle.crashlab.specs.minimization.MadeOf.{IsSubsequence, moves_by, moves_of}
use Rattle.crashlab.proofs.minimization.MadeOf.{sub_front, sub_skip}
use Rattle.crashlab.proofs.minimization.made_of.take_line.Goals as goal

pub returns-then-is_same_move : goal.returns-then-is_same_move
returns-then-is_same_move c = λ xs h.
    let parts : c.loop-first.lines.now ≡ c.in-Some.first.now ∷ c.in-Some.rest.now = c.in-Some.ensures.cases.0 in
    let same : c.in-Some.first.now ≡ c.args.wanted.now = c.is_same_move.ensures c.if-is_same_move.true in
    let there = sub_front (moves_by c.args.p c.args.wanted.now) xs (moves_of c.args.p c.in-Some.rest.now) h in
    c.loop-first.invariant (moves_by c.args.p c.args.wanted.now ++ xs)
    (subst (λ ls. IsSubsequence (moves_by c.args.p c.args.wanted.now ++ xs) (moves_of c.args.p ls)) (sym parts)
    (subst (λ (l : Line). IsSubsequence (moves_by c.args.p c.args.wanted.now ++ xs) (moves_by c.args.p l ++ moves_of c.args.p c.in-Some.rest.now)) (sym same) there))

pub loop-first-preserved : goal.loop-first-preserved
loop-first-preserved c = λ xs h.
    let parts : c.loop-first.lines.now ≡ c.in-Some.first.now ∷ c.in-Some.rest.now = c.in-Some.ensures.cases.0 in
    c.loop-first.invariant xs (subst (λ ls. IsSubsequence xs (moves_of c.args.p ls)) (sym parts) (sub_skip xs (moves_by c.args.p c.in-Some.first.now) (moves_of c.args.p c.in-Some.rest.now) h))
