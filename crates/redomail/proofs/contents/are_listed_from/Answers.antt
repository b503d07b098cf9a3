use Rattle.std.proofs.Common.{◌≡◌, length, refl, arith}
use Rattle.redomail.proofs.Listed.{listed_from, lasts_listed}
use Rattle.redomail.proofs.contents.are_listed_from.Goals as goal

pub returns-then-count_from : goal.returns-then-count_from
returns-then-count_from c =
    let long : length c.count_from.new.counts ≡ 64 = omega arith in
    let zeros : length c.counters-counts.result ≡ 64 = omega arith in
    let numbered = rw zeros at (c.if-count_from.ensures.numbered.0 refl) in
    let counts = c.if-count_from.ensures.counts refl in (
      (λ h.
          listed_from c.args.layout c.args.words.now c.args.first c.args.but c.count_from.new.counts long counts numbered (c.lasts_from.ensures.0 h)),
      (λ h.
          c.lasts_from.ensures.1 (lasts_listed c.args.layout c.args.words.now c.args.first c.args.but c.count_from.new.counts long counts h)),
    )
