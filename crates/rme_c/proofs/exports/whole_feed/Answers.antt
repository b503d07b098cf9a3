use Rattle.std.proofs.Common.{sym, ◌∙◌}
use Rattle.rme_c.proofs.Common.{Lock}
use Rattle.rme_c.proofs.Feeds.{idle_fed}
use Rattle.rme_c.proofs.exports.whole_feed.Goals as goal

pub returns-then-is_idle : goal.returns-then-is_idle
returns-then-is_idle c = idle_fed c.args.p.now (Lock c.args.stage) c.args.value (sym c.requires.here) c.requires.eight c.requires.fits (sym c.is_idle.ensures ∙ c.if-is_idle.true) _
