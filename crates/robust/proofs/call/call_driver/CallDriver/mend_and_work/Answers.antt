use Rattle.std.proofs.Common.{◌≡◌, List, [], ◌∷◌, refl, sym, subst, inl, inr}
use Rattle.robust.proofs.CallCommon.{Mail, Unlocked, NotRecoverable, Call as CallOf, Unlock, Consistent, IsFront, IsInner, on_err, cut_first, cut_then, two_done, front_one, front_all, unlocked_is}
use Rattle.robust.proofs.CallCommon.{one_then, front_cons, mends_is}
use Rattle.redomail.specs.declared.reply.Reply.TheVariants.{Mended}
use Rattle.table_runs.proofs.WholeSteps.{mend_counts, ruined_counts, mend_few, ruined_few}
use Rattle.table_runs.specs.declared.entry_kind.Entry.TheVariants.{OwnerDied}
use Rattle.robust.proofs.call.call_driver.CallDriver.mend_and_work.Goals as goal

pub returns-in_err-follow-clause-cut : goal.returns-in_err-follow-clause-cut
returns-in_err-follow-clause-cut g c =
    let task = c.args.task.now in
    on_err _ c.from_residual.result (cut_first c.args.self.now c.follow.new.self _ _ Consistent (IsInner OwnerDied task) (inr (front_one Consistent (Unlock ∷ []))) c.in_err-follow.ensures.cut)

pub returns-in_err-follow-in-NotRecoverable-clause-cut : goal.returns-in_err-follow-in-NotRecoverable-clause-cut
returns-in_err-follow-in-NotRecoverable-clause-cut g c =
    let task = c.args.task.now in
    on_err _ c.from_residual-in_err-follow-in-NotRecoverable.result (
    cut_then c.args.self.now c.follow.new.self c.follow-in-NotRecoverable.new.self _ _ _ Consistent c.in_ok-follow.field-0 (λ (order : List CallOf). order ≡ Unlock ∷ []) (IsInner OwnerDied task) c.in_ok-follow.ensures.answered c.in_err-follow-in-NotRecoverable.ensures.cut
    (inr (front_one Consistent (Unlock ∷ []))) (λ done k. subst (λ (order : List CallOf). IsInner OwnerDied task (Consistent ∷ order)) (sym k) (inr (front_all (Consistent ∷ Unlock ∷ []))))
    )

pub returns-in_ok-follow-in-NotRecoverable-clause-done : goal.returns-in_ok-follow-in-NotRecoverable-clause-done
returns-in_ok-follow-in-NotRecoverable-clause-done g c = (
  Consistent ∷ Unlock ∷ [],
  NotRecoverable ∷ Unlocked ∷ [],
  (refl, refl, refl, refl),
  two_done c.args.self.now c.follow.new.self c.follow-in-NotRecoverable.new.self _ _ _ Consistent Unlock c.in_ok-follow.field-0 NotRecoverable c.in_ok-follow-in-NotRecoverable.field-0 Unlocked c.in-NotRecoverable.is (unlocked_is c.in_ok-follow-in-NotRecoverable.field-0 c.in_ok-follow-in-NotRecoverable.ensures.leaves.0) c.in_ok-follow.ensures.answered c.in_ok-follow-in-NotRecoverable.ensures.answered,
  ruined_counts c.args.self.now c.follow.new.self c.follow-in-NotRecoverable.new.self c.in_ok-follow.field-0 c.in_ok-follow-in-NotRecoverable.field-0 _ _ _ c.requires.idle c.requires.holder.0 c.requires.holder.1 c.in-NotRecoverable.is
      (unlocked_is c.in_ok-follow-in-NotRecoverable.field-0 c.in_ok-follow-in-NotRecoverable.ensures.leaves.0) c.in_ok-follow.ensures.answered c.in_ok-follow-in-NotRecoverable.ensures.answered,
)

pub returns-in_err-reply-in-Mail-clause-cut : goal.returns-in_err-reply-in-Mail-clause-cut
returns-in_err-reply-in-Mail-clause-cut g c =
    let task = c.args.task.now in
    on_err _ c.from_residual-in_err-reply-in-Mail.result (
    cut_then c.args.self.now c.follow.new.self c.work.new.self _ _ _ Consistent c.in_ok-follow.field-0 (λ (order : List CallOf). IsFront order (task ∷ Unlock ∷ [])) (IsInner OwnerDied task) c.in_ok-follow.ensures.answered c.in_err-reply-in-Mail.ensures.cut (inr (front_one Consistent (Unlock ∷ [])))
    (λ done p. inl (front_cons Consistent done (task ∷ Unlock ∷ []) p))
    )

pub returns-in_ok-reply-in-Mail-clause-done : goal.returns-in_ok-reply-in-Mail-clause-done
returns-in_ok-reply-in-Mail-clause-done g c =
    let task = c.args.task.now in
    let m = mends_is c.in_ok-follow.field-0 c.in-Mail.field-0 c.in-Mail.is c.in_ok-follow.ensures.leaves.0 in (
      Consistent ∷ task ∷ Unlock ∷ [],
      Mail (Mended m.0) ∷ Mail c.in_ok-reply-in-Mail.reply ∷ Unlocked ∷ [],
      (m.0, refl, refl),
      one_then c.args.self.now c.follow.new.self c.work.new.self _ _ _ Consistent task (Unlock ∷ []) c.in_ok-follow.field-0 (Mail (Mended m.0)) (Mail c.in_ok-reply-in-Mail.reply ∷ Unlocked ∷ []) m.1 c.in_ok-follow.ensures.answered c.in_ok-reply-in-Mail.ensures.done,
      mend_counts c.args.self.now c.follow.new.self c.work.new.self c.in_ok-follow.field-0 _ _ m.0 (task ∷ Unlock ∷ []) (Mail c.in_ok-reply-in-Mail.reply ∷ Unlocked ∷ []) m.1 c.in_ok-follow.ensures.answered c.in_ok-reply-in-Mail.ensures.counts,
    )

pub returns-in_err-reply-in-Mail-clause-few : goal.returns-in_err-reply-in-Mail-clause-few
returns-in_err-reply-in-Mail-clause-few g c = mend_few c.args.self.now c.follow.new.self c.work.new.self c.args.task.now c.in_ok-follow.ensures.answered.1.calls.setup c.in_ok-follow.ensures.few c.in_err-reply-in-Mail.ensures.few

pub returns-in_ok-reply-in-Mail-clause-few : goal.returns-in_ok-reply-in-Mail-clause-few
returns-in_ok-reply-in-Mail-clause-few g c = mend_few c.args.self.now c.follow.new.self c.work.new.self c.args.task.now c.in_ok-follow.ensures.answered.1.calls.setup c.in_ok-follow.ensures.few c.in_ok-reply-in-Mail.ensures.few

pub returns-in_err-follow-in-NotRecoverable-clause-few : goal.returns-in_err-follow-in-NotRecoverable-clause-few
returns-in_err-follow-in-NotRecoverable-clause-few g c = ruined_few c.args.self.now c.follow.new.self c.follow-in-NotRecoverable.new.self c.args.task.now c.in_ok-follow.ensures.few c.in_err-follow-in-NotRecoverable.ensures.few

pub returns-in_ok-follow-in-NotRecoverable-clause-few : goal.returns-in_ok-follow-in-NotRecoverable-clause-few
returns-in_ok-follow-in-NotRecoverable-clause-few g c = ruined_few c.args.self.now c.follow.new.self c.follow-in-NotRecoverable.new.self c.args.task.now c.in_ok-follow.ensures.few c.in_ok-follow-in-NotRecoverable.ensures.few
