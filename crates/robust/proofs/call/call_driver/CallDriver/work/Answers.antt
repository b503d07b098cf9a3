use Rattle.std.proofs.Common.{◌≡◌, List, [], ◌∷◌, sym, subst}
use Rattle.robust.proofs.CallCommon.{Mail, Unlocked, Call as CallOf, Unlock, IsFront, on_err, cut_first, cut_then, two_done, front_one, front_all, unlocked_is}
use Rattle.rmeworld.specs.OwnSteps.{most_steps}
use Rattle.table_runs.proofs.WholeSteps.{work_counts, at_most_both}
use Rattle.robust.proofs.call.call_driver.CallDriver.work.Goals as goal

pub returns-in_err-answer-clause-cut : goal.returns-in_err-answer-clause-cut
returns-in_err-answer-clause-cut g c =
    let task = c.args.task.now in
    on_err _ c.from_residual.result (cut_first c.args.self.now c.follow.new.self _ _ task (λ (order : List CallOf). IsFront order (task ∷ Unlock ∷ [])) (front_one task (Unlock ∷ [])) c.in_err-answer.ensures.cut)

pub returns-in_err-follow-clause-cut : goal.returns-in_err-follow-clause-cut
returns-in_err-follow-clause-cut g c =
    let task = c.args.task.now in
    let Q : List CallOf → Type 0 = λ (order : List CallOf). IsFront order (task ∷ Unlock ∷ []) in
    on_err _ c.from_residual-in_err-follow.result (
    cut_then c.args.self.now c.follow.new.self c.follow-2.new.self _ _ _ task c.in_ok-answer.answer (λ (order : List CallOf). order ≡ Unlock ∷ []) Q c.in_ok-answer.ensures.answered c.in_err-follow.ensures.cut (front_one task (Unlock ∷ []))
    (λ done k. subst (λ (order : List CallOf). IsFront (task ∷ order) (task ∷ Unlock ∷ [])) (sym k) (front_all (task ∷ Unlock ∷ [])))
    )

pub returns-clause-done : goal.returns-clause-done
returns-clause-done g c =
    two_done c.args.self.now c.follow.new.self c.follow-2.new.self _ _ _ c.args.task.now Unlock c.in_ok-answer.answer (Mail c.in-Mail.reply) c.in_ok-follow.field-0 Unlocked c.in-Mail.is (unlocked_is c.in_ok-follow.field-0 c.in_ok-follow.ensures.leaves.0) c.in_ok-answer.ensures.answered c.in_ok-follow.ensures.answered

pub returns-clause-counts : goal.returns-clause-counts
returns-clause-counts g c =
    work_counts c.args.self.now c.follow.new.self c.follow-2.new.self c.in_ok-answer.answer c.in_ok-follow.field-0 _ _ _ c.requires.idle c.args.task.now c.in-Mail.reply c.requires.holder.0 c.requires.holder.1 c.requires.task c.in-Mail.is (unlocked_is c.in_ok-follow.field-0 c.in_ok-follow.ensures.leaves.0)
    c.in_ok-answer.ensures.answered c.in_ok-follow.ensures.answered

pub returns-in_err-follow-clause-few : goal.returns-in_err-follow-clause-few
returns-in_err-follow-clause-few g c =
    at_most_both c.args.self.now c.follow.new.self c.follow-2.new.self (most_steps c.args.self.now.seat_view.setup.layout c.args.task.now) 3 c.in_ok-answer.ensures.few c.in_err-follow.ensures.few

pub returns-clause-few : goal.returns-clause-few
returns-clause-few g c =
    at_most_both c.args.self.now c.follow.new.self c.follow-2.new.self (most_steps c.args.self.now.seat_view.setup.layout c.args.task.now) 3 c.in_ok-answer.ensures.few c.in_ok-follow.ensures.few
