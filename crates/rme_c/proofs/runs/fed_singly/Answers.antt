use Rattle.std.proofs.Common.{Some, None, refl, sym, ◌∙◌}
use Rattle.rme_c.proofs.Common.{IsFed, machine_state_of}
use Rattle.rme_c.proofs.RunCodes.{reported_singly}
use Rattle.rme_c.proofs.RunFeeds.{fed_after, fed_more}
use Rattle.rme_c.proofs.runs.fed_singly.Goals as goal

pub returns-in-Some-clause-fed : goal.returns-in-Some-clause-fed
returns-in-Some-clause-fed c =
    let e = c.rme_feed-reports.ensures in
    let fed : IsFed c.feed_zeros.new.p c.args.value c.rme_feed-reports.new.p c.feed_zeros.new.next c.rme_feed-reports.new.next c.rme_feed-reports.result = record { exact = e.exact; reports = e.reports; next = e.next; kept = e.kept; few = e.few; steps = e.steps; idle = e.idle } in
    fed_more _ _ _ _ _ _ _ _ _ c.in-Some.run' c.feed_zeros.ensures.fed fed c.in-Some.ensures.goes c.in-Some.ensures.is c.code.ensures.back c.code.ensures.beyond

pub returns-in-None-clause-fed : goal.returns-in-None-clause-fed
returns-in-None-clause-fed c =
    let e = c.rme_feed-reports.ensures in
    let fed : IsFed c.feed_zeros.new.p c.args.value c.rme_feed-reports.new.p c.feed_zeros.new.next c.rme_feed-reports.new.next c.rme_feed-reports.result = record { exact = e.exact; reports = e.reports; next = e.next; kept = e.kept; few = e.few; steps = e.steps; idle = e.idle } in
    fed_after _ _ _ _ _ _ _ c.feed_zeros.ensures.fed fed

pub returns-in-Some-clause-code : goal.returns-in-Some-clause-code
returns-in-Some-clause-code c = reported_singly c.feed_zeros.new.p _ c.args.value c.code.result c.rme_feed-reports.result (machine_state_of c.rme_feed-reports.new.p) (Some c.in-Some.run') c.feed_zeros.ensures.fed c.rme_feed-reports.ensures.reports (sym c.in-Some.is ∙ c.next_run.ensures.next) c.code.ensures.is

pub returns-in-None-clause-code : goal.returns-in-None-clause-code
returns-in-None-clause-code c = reported_singly c.feed_zeros.new.p _ c.args.value c.rme_feed-reports.result c.rme_feed-reports.result (machine_state_of c.rme_feed-reports.new.p) None c.feed_zeros.ensures.fed c.rme_feed-reports.ensures.reports (sym c.in-None.is ∙ c.next_run.ensures.next) refl
