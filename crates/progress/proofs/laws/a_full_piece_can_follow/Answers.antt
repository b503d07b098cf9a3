use Rattle.progress.proofs.Common.{at_rest, all_dead}
use Rattle.progress.proofs.FullPieces.{full_piece}
use Rattle.progress.proofs.laws.a_full_piece_can_follow.Goals as goal
use Rattle.rmecore.proofs.SoundWorlds.{sound_final, sound_rest, sound_image}

pub returns-clause-from_rest : goal.returns-clause-from_rest
returns-clause-from_rest c = λ n limit events run. full_piece n limit _ (sound_final n limit at_rest events (sound_rest n) run)

pub returns-clause-later : goal.returns-clause-later
returns-clause-later c = λ n limit words events lawful run. full_piece n limit _ (sound_final n limit (all_dead words) events (sound_image n limit words lawful) run)
