use Rattle.rmecore.proofs.AnyEntry.{can_still_enter}
use Rattle.rmecore.proofs.SoundWorlds.{sound_final, sound_rest, sound_image}
use Rattle.rmecore.proofs.Common.{at_rest, all_dead}
use Rattle.rmecore.proofs.laws.every_process_can_enter.Goals as goal

pub returns-clause-from_rest : goal.returns-clause-from_rest
returns-clause-from_rest c = λ n limit p events below some run. can_still_enter n limit p below some (sound_final n limit at_rest events (sound_rest n) run)

pub returns-clause-later : goal.returns-clause-later
returns-clause-later c = λ n limit p words events below some lawful run. can_still_enter n limit p below some (sound_final n limit (all_dead words) events (sound_image n limit words lawful) run)
