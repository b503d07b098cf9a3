use Rattle.std.proofs.Common.{refl, sym}
use Rattle.rme_c.proofs.Common.{Lost}
use Rattle.rme_c.proofs.Feeds.{idle_fed}
use Rattle.rme_c.proofs.Numbers.{unplaced}
use Rattle.rme_c.proofs.exports.nowhere.Goals as goal

pub returns : goal.returns
returns c = idle_fed c.args.p.now Lost c.args.value (sym (unplaced c.args.p.now c.requires.beyond)) c.requires.eight tt refl _
