use Rattle.std.proofs.Common.{ap, ◌∙◌, sym}
use Rattle.rmeworld.proofs.Common.{Progress, Standing, is_entry, checks_done, mended_done, mended_entered}
use Rattle.rmeworld.proofs.Entries.{all_entered}
use Rattle.rmeworld.proofs.lock_part.lock_step.Goals as goal

pub returns-clause-mended : goal.returns-clause-mended
returns-clause-mended c =
    let e = all_entered c.args.lock.now c.args.value c.feed-progress.ensures.allowed in
    c.entry-mended.ensures.mended ∙ ap (λ (p : Progress). mended_done c.args.mended p.done) c.feed-progress.ensures.progress ∙ e.1 c.args.mended ∙ sym (ap (λ (s : Standing). mended_entered c.args.mended c.args.lock.now.place s.place) c.feed-progress.ensures.place)

pub returns-clause-checks : goal.returns-clause-checks
returns-clause-checks c =
    let e = all_entered c.args.lock.now c.args.value c.feed-progress.ensures.allowed in
    c.entry-mended.ensures.checks ∙ ap (λ (p : Progress). checks_done p.done) c.feed-progress.ensures.progress ∙ e.0 ∙ sym (ap (λ (s : Standing). is_entry c.args.lock.now.place s.place) c.feed-progress.ensures.place)
