use Rattle.rmecore.proofs.SoundWorlds.{sound_final, sound_rest, sound_image}
use Rattle.rmecore.specs.Lawful.{all_dead}
use Rattle.rmecore.specs.World.{at_rest}
use Rattle.progress.proofs.Doorways.{enters_once, none_enters, outside_unseen, throughout_weaker}
use Rattle.progress.proofs.laws.one_entry_while_in_doorway.Goals as goal

pub returns-clause-from_rest : goal.returns-clause-from_rest
returns-clause-from_rest c = λ n limit p events below run q es ne more door. enters_once n limit p q below ne _ es more (throughout_weaker n limit _ _ (λ v h. h.begun) _ es door)

pub returns-clause-later : goal.returns-clause-later
returns-clause-later c = λ n limit p words events below lawful run q es ne more door. enters_once n limit p q below ne _ es more (throughout_weaker n limit _ _ (λ v h. h.begun) _ es door)

pub returns-clause-begun : goal.returns-clause-begun
returns-clause-begun c = λ n limit p events below run q es low ne outside more door.
    let s = sound_final n limit at_rest events (sound_rest n) run in
    none_enters n limit p q below ne _ es more (throughout_weaker n limit _ _ (λ v h. h.begun) _ es door) (outside_unseen n p q _ low s outside)

pub returns-clause-begun_later : goal.returns-clause-begun_later
returns-clause-begun_later c = λ n limit p words events below lawful run q es low ne outside more door.
    let s = sound_final n limit (all_dead words) events (sound_image n limit words lawful) run in
    none_enters n limit p q below ne _ es more (throughout_weaker n limit _ _ (λ v h. h.begun) _ es door) (outside_unseen n p q _ low s outside)
