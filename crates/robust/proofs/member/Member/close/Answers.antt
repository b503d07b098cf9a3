use Rattle.std.proofs.Common.{◌≡◌, None, ℕ, Ok, IfOk, IfErr, OnOk, ap, ◌∙◌, subst}
use Rattle.robust.proofs.Common.{Lock, Close, free_to_start, refusal_now, Seated, began, WholeEnds, WholeFails, seat_of}
use Rattle.robust.proofs.Working.{mail_seat}
use Rattle.robust.proofs.member.Member.close.Goals as goal

pub returns-clause-replied : goal.returns-clause-replied
returns-clause-replied g c =
    subst (λ (x : Seated). IfOk c.mail.result (λ reply. (k : ℕ) × WholeEnds (began (free_to_start x) Lock) k Close (Ok reply) c.mail.new.self (g.C.CrashPlan.askings c.args.plan.now) (g.C.CrashPlan.askings c.mail.new.plan)))
    c.self.view_is c.mail.ensures.replied

pub returns-clause-accepted : goal.returns-clause-accepted
returns-clause-accepted g c = subst (λ (x : Seated). OnOk c.mail.result (refusal_now (free_to_start x) Lock ≡ None)) c.self.view_is c.mail.ensures.accepted

pub returns-clause-fails : goal.returns-clause-fails
returns-clause-fails g c =
    subst (λ (x : Seated). IfErr c.mail.result (λ e. (k : ℕ) × WholeFails x k Close c.mail.new.self (g.C.CrashPlan.askings c.args.plan.now) (g.C.CrashPlan.askings c.mail.new.plan) e))
    c.self.view_is c.mail.ensures.fails

pub returns-clause-patient : goal.returns-clause-patient
returns-clause-patient g c = c.mail.ensures.patient

pub returns-clause-out : goal.returns-clause-out
returns-clause-out g c = c.mail.ensures.out

pub returns-clause-seat : goal.returns-clause-seat
returns-clause-seat g c = mail_seat c.self.inside.call_driver c.mail.new.self Close _ _ c.mail.result c.mail.ensures.replied c.mail.ensures.fails ∙ ap seat_of c.self.view_is
