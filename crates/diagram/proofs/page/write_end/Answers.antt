use Rattle.diagram.proofs.page.write_end.Goals as goal

pub returns-in-Judged : goal.returns-in-Judged
returns-in-Judged g c = rw c.in-Judged.is c.write_last.ensures
