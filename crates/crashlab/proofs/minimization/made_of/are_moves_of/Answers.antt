use Rattle.std.proofs.Common.{◌≡◌, ◌+◌, [], ◌∷◌, ◌++◌, take, sym, ap, ◌∙◌, subst, arith}
use Rattle.crashlab.specs.minimization.MadeOf.{IsSubsequence, moves_by, moves_of}
use Rattle.std.proofs.lemmas.List.{append-nil, take_all, take_more}
use Rattle.crashlab.proofs.minimization.MadeOf.{taken_line}
use Rattle.crashlab.proofs.minimization.made_of.are_moves_of.Goals as goal

pub loop-line-preserved : goal.loop-line-preserved
loop-line-preserved c = λ xs h.
    let there = c.loop-line.invariant (moves_by c.args.p c.line-item.result ++ xs) (c.in-Some.ensures xs h) in
    let more : take (c.loop-line.line-index + 1) c.args.now.now ≡ take c.loop-line.line-index c.args.now.now ++ c.line-item.result ∷ [] = take_more c.args.now.now c.loop-line.line-index c.line-item.result (omega (arith, c.loop-line-test.true)) ∙ ap (λ l. take c.loop-line.line-index c.args.now.now ++ l ∷ []) (sym c.line-item.is) in
    subst (λ ls. IsSubsequence (moves_of c.args.p ls ++ xs) (moves_of c.args.p c.args.before.now)) (sym more)
    (taken_line c.args.p (take c.loop-line.line-index c.args.now.now) c.line-item.result xs (moves_of c.args.p c.args.before.now) there)

pub returns : goal.returns
returns c = λ yes.
    let all : take c.loop-line.line-index c.args.now.now ≡ c.args.now.now = take_all c.loop-line.line-index c.args.now.now (omega (arith, c.loop-line-test.false)) in
    subst (λ ms. IsSubsequence ms (moves_of c.args.p c.args.before.now)) (append-nil (moves_of c.args.p c.args.now.now))
    (subst (λ ls. IsSubsequence (moves_of c.args.p ls ++ []) (moves_of c.args.p c.args.before.now)) all (c.loop-line.invariant [] tt))
