use Rattle.rmecore.proofs.Common.{at_rest, all_dead, nobody, start_of}
use Rattle.rmecore.proofs.SoundWorlds.{sound_final, sound_rest, sound_image}
use Rattle.rmecore.proofs.LeastPairs.{can_enter, can_enter_ahead}
use Rattle.rmecore.proofs.Phases.{tied_after}
use Rattle.rmecore.proofs.Runs.{at_first}
use Rattle.rmecore.proofs.Images.{at_image}
use Rattle.rmecore.proofs.laws.the_least_pair_can_enter.Goals as goal

pub returns-clause-from_rest : goal.returns-clause-from_rest
returns-clause-from_rest c = λ n limit p events below run waits first counts. can_enter n limit p below (sound_final n limit at_rest events (sound_rest n) run) waits first counts

pub returns-clause-later : goal.returns-clause-later
returns-clause-later c = λ n limit p words events below lawful run waits first counts. can_enter n limit p below (sound_final n limit (all_dead words) events (sound_image n limit words lawful) run) waits first counts

pub returns-clause-ahead : goal.returns-clause-ahead
returns-clause-ahead c = λ n limit p events below run.
    can_enter_ahead n limit p below (sound_final n limit at_rest events (sound_rest n) run) (tied_after n limit at_rest nobody events (at_first n) run)

pub returns-clause-ahead_later : goal.returns-clause-ahead_later
returns-clause-ahead_later c = λ n limit p words events below lawful run.
    can_enter_ahead n limit p below (sound_final n limit (all_dead words) events (sound_image n limit words lawful) run) (tied_after n limit (all_dead words) (start_of words) events (at_image n limit words lawful) run)
