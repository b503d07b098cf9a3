use Rattle.judge.proofs.Common.{after}
use Rattle.judge.proofs.Histories.{refused, allowed}
use Rattle.judge.proofs.judge.Judge.feed_from.Goals as goal

pub returns-in-Some-clause-fed : goal.returns-in-Some-clause-fed
returns-in-Some-clause-fed c = λ start history stands.
    refused start stands.state history c.args.deed.now c.in-Some.fault stands.legal (c.in-Some.ensures.fault stands.state stands.kept)

pub returns-clause-fed : goal.returns-clause-fed
returns-clause-fed c = λ start history stands. record {
  state = after stands.state c.args.deed.now;
  legal = allowed start stands.state history c.args.deed.now stands.legal (c.in_default.ensures.fault stands.state stands.kept);
  kept = c.take.ensures stands.state stands.kept;
}
