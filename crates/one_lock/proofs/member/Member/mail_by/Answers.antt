use Rattle.std.proofs.Common.{rules, ◌≡◌, true, IfErr, refl, ap, ◌∙◌, subst}
use Rattle.one_lock.proofs.Common.{falls_by}
use Rattle.one_lock.specs.Member.{of_lock, stands_entered, stands_out}
use Rattle.one_lock.proofs.Concluded.{asked_then, counts_then, goes_then, concluded_asked, concluded_counts, concluded_goes, concluded_stands, concluded_faults}
use Rattle.one_lock.proofs.member.Member.mail_by.Goals as goal

pub conclude-requires-in-Err : goal.conclude-requires-in-Err
conclude-requires-in-Err g c = λ f. subst (λ r. falls_by r f ≡ f) c.in-Err.is (c.lock_result-entry.ensures.falls f)

pub returns-in-Err-clause-asked : goal.returns-in-Err-clause-asked
returns-in-Err-clause-asked g c =
    λ out. concluded_asked c.args.self.now c.begin.new.self c.conclude-in-Err.new.self _ _ c.conclude-in-Err.result c.conclude-in-Err.ensures.answer (g.P.CrashPlan.askings c.args.plan.now) (g.P.CrashPlan.askings c.begin.new.plan) (g.P.CrashPlan.askings c.conclude-in-Err.new.plan) c.in_ok-begin.ensures.asked c.conclude-in-Err.ensures.asked

pub returns-in-Err-clause-counted : goal.returns-in-Err-clause-counted
returns-in-Err-clause-counted g c = λ out. concluded_counts c.args.self.now c.begin.new.self c.conclude-in-Err.new.self _ _ c.conclude-in-Err.result c.conclude-in-Err.ensures.answer c.begin.ensures.counted

pub returns-in-Err-clause-goes : goal.returns-in-Err-clause-goes
returns-in-Err-clause-goes g c = concluded_goes c.args.self.now c.begin.new.self c.conclude-in-Err.new.self _ _ c.conclude-in-Err.result c.conclude-in-Err.ensures.answer c.begin.ensures.goes

pub returns-in-Err-clause-fallen : goal.returns-in-Err-clause-fallen
returns-in-Err-clause-fallen g c = c.conclude-in-Err.ensures.fallen ∙ ap (falls_by c.conclude-in-Err.result) c.in_ok-begin.ensures.fallen

pub returns-in-Err-clause-stands : goal.returns-in-Err-clause-stands
returns-in-Err-clause-stands g c = λ out. concluded_stands c.args.self.now c.begin.new.self c.conclude-in-Err.new.self _ _ c.conclude-in-Err.result c.conclude-in-Err.ensures.answer stands_out (c.lock_result-entry.ensures.stands ∙ ap stands_entered c.in-Err.is) refl

pub returns-in-Err-clause-faults : goal.returns-in-Err-clause-faults
returns-in-Err-clause-faults g c =
    λ out. concluded_faults c.args.self.now c.begin.new.self c.conclude-in-Err.new.self _ _ c.conclude-in-Err.result c.conclude-in-Err.ensures.answer (λ e. of_lock e ≡ true) (subst (λ r. IfErr r (λ e. of_lock e ≡ true)) c.in-Err.is c.lock_result-entry.ensures.faults) refl

pub returns-in_err-begin-clause-asked : goal.returns-in_err-begin-clause-asked
returns-in_err-begin-clause-asked g c = λ out. c.in_err-begin.ensures.ended

pub returns-in_err-begin-clause-counted : goal.returns-in_err-begin-clause-counted
returns-in_err-begin-clause-counted g c = λ out. c.begin.ensures.counted

pub returns-in_err-begin-clause-goes : goal.returns-in_err-begin-clause-goes
returns-in_err-begin-clause-goes g c = c.begin.ensures.goes

pub returns-in_ok-reply-in-Ok-clause-asked : goal.returns-in_ok-reply-in-Ok-clause-asked
returns-in_ok-reply-in-Ok-clause-asked g c =
    let each = asked_then c.args.self.now c.begin.new.self c.work.new.self _ (g.P.CrashPlan.askings c.args.plan.now) (g.P.CrashPlan.askings c.begin.new.plan) (g.P.CrashPlan.askings c.work.new.plan) c.in_ok-begin.ensures.asked (search rules) c.work.ensures.goes.2 c.in_ok-reply-in-Ok.ensures.asked in
    λ out. concluded_asked c.args.self.now c.work.new.self c.conclude.new.self _ _ c.conclude.result c.conclude.ensures.answer (g.P.CrashPlan.askings c.args.plan.now) (g.P.CrashPlan.askings c.work.new.plan) (g.P.CrashPlan.askings c.conclude.new.plan) each c.conclude.ensures.asked

pub returns-in_ok-reply-in-Ok-clause-goes : goal.returns-in_ok-reply-in-Ok-clause-goes
returns-in_ok-reply-in-Ok-clause-goes g c =
    concluded_goes c.args.self.now c.work.new.self c.conclude.new.self _ _ c.conclude.result c.conclude.ensures.answer (goes_then c.args.self.now c.begin.new.self c.work.new.self _ _ _ c.begin.ensures.goes (search rules) (search rules) (search rules) c.work.ensures.goes)

pub returns-in_ok-reply-in-Ok-clause-counted : goal.returns-in_ok-reply-in-Ok-clause-counted
returns-in_ok-reply-in-Ok-clause-counted g c =
    λ out. concluded_counts c.args.self.now c.work.new.self c.conclude.new.self _ _ c.conclude.result c.conclude.ensures.answer (counts_then c.args.self.now c.begin.new.self c.work.new.self _ _ c.begin.ensures.counted c.begin.ensures.goes.2 (search rules) (search rules) c.work.ensures.goes.2 c.work.ensures.counted)
