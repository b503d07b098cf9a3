use Rattle.std.proofs.Common.{◌≡◌, true, Ok, refl, ap, ◌∙◌}
use Rattle.rmeworld.specs.declared.call.Call.TheVariants.{Unlock}
use Rattle.one_lock.proofs.Common.{falls_by}
use Rattle.one_lock.specs.Member.{of_steps, stands_out}
use Rattle.one_lock.proofs.Answered.{as_reported}
use Rattle.one_lock.proofs.Concluded.{concluded_asked, concluded_counts, concluded_goes, concluded_stands, concluded_faults}
use Rattle.one_lock.proofs.member.Member.unlock.Goals as goal

pub returns-clause-asked : goal.returns-clause-asked
returns-clause-asked g c =
    λ inside. concluded_asked c.args.self.now c.begin.new.self c.conclude.new.self _ _ c.conclude.result c.conclude.ensures.answer (g.P.CrashPlan.askings c.args.plan.now) (g.P.CrashPlan.askings c.begin.new.plan) (g.P.CrashPlan.askings c.conclude.new.plan) c.in_ok-begin.ensures.asked c.conclude.ensures.asked

pub returns-clause-counted : goal.returns-clause-counted
returns-clause-counted g c = λ inside. concluded_counts c.args.self.now c.begin.new.self c.conclude.new.self _ _ c.conclude.result c.conclude.ensures.answer c.begin.ensures.counted

pub returns-clause-goes : goal.returns-clause-goes
returns-clause-goes g c = concluded_goes c.args.self.now c.begin.new.self c.conclude.new.self _ _ c.conclude.result c.conclude.ensures.answer c.begin.ensures.goes

pub returns-clause-fallen : goal.returns-clause-fallen
returns-clause-fallen g c = c.conclude.ensures.fallen ∙ ap (falls_by c.conclude.result) c.in_ok-begin.ensures.fallen

pub returns-clause-stands : goal.returns-clause-stands
returns-clause-stands g c = λ inside. concluded_stands c.args.self.now c.begin.new.self c.conclude.new.self _ _ c.conclude.result c.conclude.ensures.answer stands_out refl refl

pub returns-clause-faults : goal.returns-clause-faults
returns-clause-faults g c = λ inside. concluded_faults c.args.self.now c.begin.new.self c.conclude.new.self _ _ c.conclude.result c.conclude.ensures.answer (λ e. of_steps e ≡ true) tt refl

pub returns-clause-answered : goal.returns-clause-answered
returns-clause-answered g c =
    λ inside. as_reported g.S.Sizes.named (λ _. Ok tt) c.args.self.now c.begin.new.self c.conclude.new.self _ _ Unlock _ _ _ c.conclude.result c.in_ok-begin.ensures.answered refl c.conclude.ensures.answer

pub returns-in_err-begin-clause-asked : goal.returns-in_err-begin-clause-asked
returns-in_err-begin-clause-asked g c = λ inside. c.in_err-begin.ensures.ended

pub returns-in_err-begin-clause-counted : goal.returns-in_err-begin-clause-counted
returns-in_err-begin-clause-counted g c = λ inside. c.begin.ensures.counted

pub returns-in_err-begin-clause-goes : goal.returns-in_err-begin-clause-goes
returns-in_err-begin-clause-goes g c = c.begin.ensures.goes
