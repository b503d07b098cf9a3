use Rattle.std.proofs.Common.{refl, sym, ◌∙◌}
use Rattle.rme_c.proofs.Common.{Lost}
use Rattle.rme_c.proofs.Feeds.{idle_fed}
use Rattle.rme_c.proofs.exports.any_feed.Goals as goal

pub returns-in-Lost : goal.returns-in-Lost
returns-in-Lost c = idle_fed c.args.p.now Lost c.args.value (sym c.in-Lost.is ∙ c.position_now.ensures.is) c.requires.eight tt refl _
