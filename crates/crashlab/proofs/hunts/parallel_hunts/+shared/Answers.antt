use Rattle.std.proofs.Common.{◌≡◌, ◌+◌, ◌-◌, sym, ◌∙◌}
use Rattle.std.proofs.lemmas.Result.{IfOk-at_ok}
use Rattle.crashlab.specs.hunts.Hunted.{found_from}
use Rattle.crashlab.proofs.hunts.Shares.{shared_found, shared_none}
use Rattle.crashlab.proofs.hunts.parallel_hunts.+shared.Goals as goal

pub returns-in-Some-clause-exact : goal.returns-in-Some-clause-exact
returns-in-Some-clause-exact g t c =
    let front = IfOk-at_ok (λ found. found ≡ found_from c.args.variant c.args.asked c.args.first c.share-low.result) c.in_ok-front.was c.join-front.ensures.first.0 in
    shared_found c.args.variant c.args.asked c.args.first c.share-low.result c.args.rounds c.share-low.ensures (sym c.in-Some.is ∙ front)

pub returns-in-None-clause-exact : goal.returns-in-None-clause-exact
returns-in-None-clause-exact g t c =
    let front = IfOk-at_ok (λ found. found ≡ found_from c.args.variant c.args.asked c.args.first c.share-low.result) c.in_ok-front.was c.join-front.ensures.first.0 in
    let back = IfOk-at_ok (λ found. found ≡ found_from c.args.variant c.args.asked (c.args.first + c.share-low.result) (c.args.rounds - c.share-low.result)) c.in_ok-back.was c.join-front.ensures.second.0 in
    shared_none c.args.variant c.args.asked c.args.first c.share-low.result c.args.rounds c.share-low.ensures (sym c.in-None.is ∙ front) back
