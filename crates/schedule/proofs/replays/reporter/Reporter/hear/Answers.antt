use Rattle.schedule.proofs.replays.reporter.Reporter.hear.Goals as goal

pub returns : goal.returns
returns c = rw (← c.self.view_is, c.in-Some.is) c.hear.ensures
