use Rattle.std.proofs.Common.{true, Some, None, Ok, List, [], ◌∷◌, refl, ap, ◌∙◌, inl}
use Rattle.robust.proofs.CallCommon.{Answer, Mail, Unlocked, Clean, NumbersSpent, OwnerDied, NotRecoverable, Call as CallOf, Lock, Unlock, process_state_now, IsAnswerOf, Leaves, IsFront, IsInner, on_err, cut_out}
use Rattle.robust.proofs.CallCommon.{whole_of, cut_of, cut_more, lock_is}
use Rattle.table_runs.proofs.WholeSteps.{spent_whole, ruined_whole, late_whole, ruined_is, fits_some, none_at_most}
use Rattle.table_runs.specs.declared.entry_kind.Entry.TheVariants as entry
use Rattle.robust.proofs.call.call_driver.CallDriver.come.Goals as goal

pub returns-in_ok-reply-in-Clean-clause-comes : goal.returns-in_ok-reply-in-Clean-clause-comes
returns-in_ok-reply-in-Clean-clause-comes g c =
    let task = c.args.task.now in
    let reply = c.in_ok-reply-in-Clean.reply in
    λ x turns n h. whole_of x c.args.self.now c.work.new.self n _ _ turns entry.Clean task (Ok reply) (task ∷ Unlock ∷ []) (Mail reply ∷ Unlocked ∷ []) (lock_is x c.args.self.now turns n _ c.args.answer (Some Clean) (c.in-Some.is ∙ ap (λ a. Some a) c.in-Clean.is) h) (true, refl, refl) c.in_ok-reply-in-Clean.ensures.done c.in_ok-reply-in-Clean.ensures.counts

pub returns-in_err-reply-in-Clean-clause-cut : goal.returns-in_err-reply-in-Clean-clause-cut
returns-in_err-reply-in-Clean-clause-cut g c =
    let task = c.args.task.now in
    on_err _ c.from_residual.result (
    λ x turns n h. cut_of x c.args.self.now c.work.new.self n _ _ turns entry.Clean task (lock_is x c.args.self.now turns n _ c.args.answer (Some Clean) (c.in-Some.is ∙ ap (λ a. Some a) c.in-Clean.is) h)
    (cut_more c.args.self.now c.work.new.self _ _ (λ (order : List CallOf). IsFront order (task ∷ Unlock ∷ [])) (IsInner entry.Clean task) c.in_err-reply-in-Clean.ensures.cut (λ done p. inl p))
    )

pub returns-in_ok-ended-in-OwnerDied-clause-comes : goal.returns-in_ok-ended-in-OwnerDied-clause-comes
returns-in_ok-ended-in-OwnerDied-clause-comes g c =
    let d = c.in_ok-ended-in-OwnerDied.ensures.done in
    λ x turns n h. whole_of x c.args.self.now c.mend_and_work.new.self n _ _ turns entry.OwnerDied c.args.task.now c.in_ok-ended-in-OwnerDied.ended d.0 d.1 (lock_is x c.args.self.now turns n _ c.args.answer (Some OwnerDied) (c.in-Some.is ∙ ap (λ a. Some a) c.in-OwnerDied.is) h) d.2 d.3 d.4

pub returns-in_err-ended-in-OwnerDied-clause-cut : goal.returns-in_err-ended-in-OwnerDied-clause-cut
returns-in_err-ended-in-OwnerDied-clause-cut g c =
    on_err _ c.from_residual-in_err-ended-in-OwnerDied.result (λ x turns n h.
    cut_of x c.args.self.now c.mend_and_work.new.self n _ _ turns entry.OwnerDied c.args.task.now (lock_is x c.args.self.now turns n _ c.args.answer (Some OwnerDied) (c.in-Some.is ∙ ap (λ a. Some a) c.in-OwnerDied.is) h) c.in_err-ended-in-OwnerDied.ensures.cut)

pub returns-in-NumbersSpent-clause-comes : goal.returns-in-NumbersSpent-clause-comes
returns-in-NumbersSpent-clause-comes g c =
    λ x turns n h. spent_whole x c.args.self.now turns n _ c.args.task.now (lock_is x c.args.self.now turns n _ c.args.answer (Some NumbersSpent) (c.in-Some.is ∙ ap (λ a. Some a) c.in-NumbersSpent.is) h)

pub returns-in-None-clause-comes : goal.returns-in-None-clause-comes
returns-in-None-clause-comes g c =
    λ x turns n h. late_whole x c.args.self.now turns n _ c.args.task.now (lock_is x c.args.self.now turns n _ c.args.answer None c.in-None.is h)

pub returns-in_default-clause-comes : goal.returns-in_default-clause-comes
returns-in_default-clause-comes g c =
    let fits = fits_some c.args.answer c.in-Some.answer (λ (a : Answer). IsAnswerOf Lock a × Leaves Lock a (process_state_now c.args.self.now.seat_view)) c.in-Some.is c.requires.leaves in
    let is = ruined_is c.in-Some.answer fits.0 c.in_default.not-Clean c.in_default.not-OwnerDied c.in_default.not-NumbersSpent in
    λ x turns n h. ruined_whole x c.args.self.now turns n _ c.args.task.now (lock_is x c.args.self.now turns n _ c.args.answer (Some NotRecoverable) (c.in-Some.is ∙ ap (λ a. Some a) is) h)

pub returns-in_default-clause-few : goal.returns-in_default-clause-few
returns-in_default-clause-few g c = none_at_most c.args.self.now c.args.self.now _ refl

pub returns-in_err-reply-in-Clean-clause-out : goal.returns-in_err-reply-in-Clean-clause-out
returns-in_err-reply-in-Clean-clause-out g c = λ none. cut_out c.args.self.now c.work.new.self _ _ _ c.in_err-reply-in-Clean.ensures.cut

pub returns-in_err-ended-in-OwnerDied-clause-out : goal.returns-in_err-ended-in-OwnerDied-clause-out
returns-in_err-ended-in-OwnerDied-clause-out g c = λ none. cut_out c.args.self.now c.mend_and_work.new.self _ _ _ c.in_err-ended-in-OwnerDied.ensures.cut

pub returns-in_ok-reply-in-Clean-clause-fits : goal.returns-in_ok-reply-in-Clean-clause-fits
returns-in_ok-reply-in-Clean-clause-fits g c = c.in_ok-reply-in-Clean.ensures.fits

pub returns-in_ok-reply-in-Clean-clause-out : goal.returns-in_ok-reply-in-Clean-clause-out
returns-in_ok-reply-in-Clean-clause-out g c = λ none. c.in_ok-reply-in-Clean.ensures.out

pub returns-in_ok-ended-in-OwnerDied-clause-fits : goal.returns-in_ok-ended-in-OwnerDied-clause-fits
returns-in_ok-ended-in-OwnerDied-clause-fits g c = c.in_ok-ended-in-OwnerDied.ensures.fits

pub returns-in_ok-ended-in-OwnerDied-clause-out : goal.returns-in_ok-ended-in-OwnerDied-clause-out
returns-in_ok-ended-in-OwnerDied-clause-out g c = λ none. c.in_ok-ended-in-OwnerDied.ensures.out

pub returns-in_ok-ended-in-OwnerDied-clause-few : goal.returns-in_ok-ended-in-OwnerDied-clause-few
returns-in_ok-ended-in-OwnerDied-clause-few g c = c.mend_and_work.ensures.few

pub returns-in_err-ended-in-OwnerDied-clause-few : goal.returns-in_err-ended-in-OwnerDied-clause-few
returns-in_err-ended-in-OwnerDied-clause-few g c = c.mend_and_work.ensures.few

pub returns-in-NumbersSpent-clause-few : goal.returns-in-NumbersSpent-clause-few
returns-in-NumbersSpent-clause-few g c = none_at_most c.args.self.now c.args.self.now _ refl

pub returns-in-None-clause-few : goal.returns-in-None-clause-few
returns-in-None-clause-few g c = none_at_most c.args.self.now c.args.self.now _ refl

pub returns-in-None-clause-out : goal.returns-in-None-clause-out
returns-in-None-clause-out g c = λ waits. waits c.in-None.is
