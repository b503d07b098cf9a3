use Rattle.std.proofs.Common.{sym, ap, subst, ◌∙◌}
use Rattle.rmeworld.proofs.ImageCommon.{start_of, own_at}
use Rattle.rmeworld.proofs.ImageStarts.{NamesBelow, one_named, none_named}
use Rattle.rmeworld.proofs.image.image_start.ahead_of.Goals.{then-is_ahead+in_ok-push, else-is_ahead}
use Rattle.rmeworld.proofs.image.image_start.ahead_of.Goals as goal

pub loop-q-preserved : goal.loop-q-preserved
loop-q-preserved c =
    let f = (start_of (own_at c.args.lock.now)).ahead c.args.p in
    elim c.if-is_ahead.branch [
      | then-is_ahead+in_ok-push w ↦
          subst (NamesBelow f _) (sym (ap (λ v. v.items) w.names-is ∙ w.in_ok-push.ensures.items))
          (one_named f c.loop-q.q c.loop-q.names.items (sym c.is_ahead.ensures ∙ w.if-is_ahead.true) c.loop-q.invariant)
      | else-is_ahead w ↦
          subst (NamesBelow f _) (sym (ap (λ v. v.items) w.names-is)) (none_named f c.loop-q.q c.loop-q.names.items (sym c.is_ahead.ensures ∙ w.if-is_ahead.false) c.loop-q.invariant)
    ]
