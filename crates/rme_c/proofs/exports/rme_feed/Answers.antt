use Rattle.rme_c.proofs.exports.rme_feed.Goals as goal

pub returns-in-Some-clause-exact : goal.returns-in-Some-clause-exact
returns-in-Some-clause-exact c = c.counted_feed.ensures.exact

pub returns-in-Some-clause-reports : goal.returns-in-Some-clause-reports
returns-in-Some-clause-reports c = c.counted_feed.ensures.reports

pub returns-in-Some-clause-next : goal.returns-in-Some-clause-next
returns-in-Some-clause-next c = c.counted_feed.ensures.next

pub returns-in-Some-clause-steps : goal.returns-in-Some-clause-steps
returns-in-Some-clause-steps c = c.counted_feed.ensures.steps

pub returns-in-Some-clause-kept : goal.returns-in-Some-clause-kept
returns-in-Some-clause-kept c = c.counted_feed.ensures.kept

pub returns-in-Some-clause-idle : goal.returns-in-Some-clause-idle
returns-in-Some-clause-idle c = c.counted_feed.ensures.idle

pub returns-in-Some-clause-few : goal.returns-in-Some-clause-few
returns-in-Some-clause-few c = c.counted_feed.ensures.few
