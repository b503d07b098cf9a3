use Rattle.schedule.proofs.lexer.in_place.read_whole.Goals as goal

pub returns-clause-lines : goal.returns-clause-lines
returns-clause-lines c = rw (← c.deref.ensures.value) c.read_to.ensures.lines

pub returns-clause-within : goal.returns-clause-within
returns-clause-within c = rw (← c.deref.ensures.value) c.read_to.ensures.within

pub returns-clause-fault : goal.returns-clause-fault
returns-clause-fault c = rw (← c.deref.ensures.value) c.read_to.ensures.fault
