use Rattle.std.proofs.Common.{subst}
use Rattle.rmeworld.proofs.Common.{Legal, nobody, IsLawful, World, nothing_shown, empty_state, EveryExecutionIsSound, at_first}
use Rattle.rmeworld.proofs.Beginning.{later_is_sound}
use Rattle.rmeworld.proofs.LawfulNow.{every_execution_leaves_an_image}
use Rattle.rmeworld.proofs.Projection.{projected}
use Rattle.rmeworld.proofs.Executions.{sound, legal_by, first, first_posts}
use Rattle.rmeworld.proofs.laws.every_execution_is_sound.Goals as goal

every : goal.After-every_run_ends_lawful → EveryExecutionIsSound
every c l limit execution layout h =
    let r = projected l limit at_first execution (λ p. tt) h in
    let legal = subst (λ ds. Legal l.procs nobody ds) r.same (c.every_run_is_legal.ensures l.procs limit r.events r.run) in
    sound l limit layout at_first nobody nothing_shown execution (first l limit layout c.new_words.ensures) (first_posts l limit layout) h legal

pub returns-clause-sound : goal.returns-clause-sound
returns-clause-sound c = every c

pub returns-clause-legal : goal.returns-clause-legal
returns-clause-legal c = λ l limit execution layout h. legal_by l limit layout at_first (empty_state l.procs l.cap) execution (every c l limit execution layout h)

pub returns-clause-later : goal.returns-clause-later
returns-clause-later c = later_is_sound

pub returns-clause-lawful : goal.returns-clause-lawful
returns-clause-lawful c = λ l limit execution h.
    let r = projected l limit at_first execution (λ p. tt) h in
    subst (λ (x : World). IsLawful l.procs limit x.words) r.ends (c.every_run_ends_lawful.ensures l.procs limit r.events r.run)

pub returns-clause-image : goal.returns-clause-image
returns-clause-image c = every_execution_leaves_an_image
