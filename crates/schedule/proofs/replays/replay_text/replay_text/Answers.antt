use Rattle.schedule.proofs.replays.replay_text.replay_text.Goals as goal

pub returns-clause-of : goal.returns-clause-of
returns-clause-of g c = absurd (c.in-Err-OutOfMemory.ensures.memory (cc))
