use Rattle.rmecore.specs.Lawful.{all_dead}
use Rattle.rmecore.specs.World.{at_rest}
use Rattle.rmecore.proofs.SoundWorlds.{sound_final, sound_rest, sound_image}
use Rattle.progress.proofs.Overtaking.{once, once_in_line}
use Rattle.progress.proofs.laws.one_entry_while_in_line.Goals as goal

pub returns-clause-from_rest : goal.returns-clause-from_rest
returns-clause-from_rest c = λ n limit p events below run q es ne more line. let s = sound_final n limit at_rest events (sound_rest n) run in once_in_line n limit p below q _ s.lock es ne s.tied more line

pub returns-clause-later : goal.returns-clause-later
returns-clause-later c = λ n limit p words events below lawful run q es ne more line.
    let s = sound_final n limit (all_dead words) events (sound_image n limit words lawful) run in once_in_line n limit p below q _ s.lock es ne s.tied more line

pub returns-clause-legal : goal.returns-clause-legal
returns-clause-legal c = λ n p a below q ds ne l r. once n p q ne below a ds l r
