use Rattle.std.proofs.Common.{ℕ, ap, inr, subst}
use Rattle.rmeworld.specs.ImageWiden.{IsUnwidened}
use Rattle.schedule.specs.declared.texts.head.Head.{Head}
use Rattle.lock_commands.proofs.play_start.wider_image.Goals as goal

pub returns-in-Err-clause-unfit : goal.returns-in-Err-clause-unfit
returns-in-Err-clause-unfit c =
    inr (
      c.in-Err.refusal,
      subst (λ (width : ℕ). IsUnwidened width c.args.image.now c.in-Err.refusal) (ap (λ (head : Head). head.width) c.head.ensures) c.in-Err.ensures.refused,
      c.refused_header.ensures,
    )
