use Rattle.schedule.proofs.WorldRuns.{new_is_fine, image_is_fine, answers_fine}
use Rattle.schedule.proofs.replays.laws.worlds_are_never_found_out.Goals as goal

pub returns-clause-new : goal.returns-clause-new
returns-clause-new c = new_is_fine

pub returns-clause-later : goal.returns-clause-later
returns-clause-later c = image_is_fine

pub returns-clause-replayed : goal.returns-clause-replayed
returns-clause-replayed c = λ l limit lines before now answer may replays. answers_fine before now _ _ _ answer (new_is_fine l limit lines may) replays

pub returns-clause-replayed_later : goal.returns-clause-replayed_later
returns-clause-replayed_later c = λ i s lines before now answer lawful start replays. answers_fine before now _ _ _ answer (image_is_fine i s lines lawful start) replays
