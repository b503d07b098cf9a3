use Rattle.diagram.proofs.deed_verdict.hear.Goals as goal

pub returns : goal.returns
returns c = rw (← c.deed.ensures, c.in-Some.is) c.hear.ensures
