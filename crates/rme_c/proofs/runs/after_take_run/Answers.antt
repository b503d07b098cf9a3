use Rattle.std.proofs.Common.{refl, arith}
use Rattle.rme_c.proofs.RunCodes.{passed_code}
use Rattle.rme_c.proofs.RunFeeds.{passed_fed, none_left}
use Rattle.rme_c.proofs.runs.after_take_run.Goals as goal

pub returns-clause-fed : goal.returns-clause-fed
returns-clause-fed c =
    rw c.requires.zero
    (passed_fed c.args.p.now c.at-p.result c.args.steps c.code.new.next c.code.result c.requires.below c.requires.few c.code.ensures.beyond (omega (arith, c.ranges.steps)) c.args.zeros c.args.from c.args.greatest c.requires.here (none_left _ c.requires.read) (rw c.at-p.ensures refl) c.requires.whole c.requires.free c.requires.steps c.code.ensures.back)

pub returns-clause-code : goal.returns-clause-code
returns-clause-code c =
    rw c.requires.zero
    (passed_code c.args.p.now c.at-p.result c.args.steps c.code.result c.code.new.next c.requires.below c.requires.few c.code.ensures.beyond (omega (arith, c.ranges.steps)) c.args.zeros c.args.from c.args.greatest c.requires.here (none_left _ c.requires.read) (rw c.at-p.ensures refl) c.requires.whole c.requires.free c.requires.steps c.code.ensures.is)
