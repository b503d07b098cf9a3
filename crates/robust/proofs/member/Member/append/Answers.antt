use Rattle.std.proofs.Common.{◌≡◌, ◌⊎◌, None, ℕ, length, Ok, IfOk, IfErr, OnOk, ap, ◌∙◌, subst, inr, arith}
use Rattle.robust.proofs.Common.{Stored, Already, IsAmong, Append, Lock, Setup, free_to_start, refusal_now, shown_by, Seated, began, ReportedIn, WholeEnds, WholeFails, seat_of, ok_any}
use Rattle.table_runs.proofs.WholeCalls.{err_more}
use Rattle.robust.proofs.Appended.{append_shown, append_tells}
use Rattle.robust.proofs.Working.{mail_seat}
use Rattle.robust.proofs.member.Member.append.Goals as goal

pub returns-clause-replied : goal.returns-clause-replied
returns-clause-replied g c =
    subst (λ (x : Seated). IfOk c.mail.result (λ reply. (k : ℕ) × WholeEnds (began (free_to_start x) Lock) k (Append c.args.seq c.args.value) (Ok reply) c.mail.new.self (g.C.CrashPlan.askings c.args.plan.now) (g.C.CrashPlan.askings c.mail.new.plan)))
    c.self.view_is c.mail.ensures.replied

pub returns-clause-fails : goal.returns-clause-fails
returns-clause-fails g c =
    let w : c.setup.result.layout.width ≡ c.args.self.now.seat_view.setup.layout.width = ap (λ (s : Setup). s.layout.width) c.setup.ensures.is ∙ ap (λ (x : Seated). x.seat_view.setup.layout.width) c.self.view_is in
    let fits : length c.args.value ≡ c.args.self.now.seat_view.setup.layout.width = omega (arith, c.width.ensures.width, w, c.if-width-setup.false) in
    let fails = subst (λ (x : Seated). IfErr c.mail.result (λ purpose. (k : ℕ) × WholeFails x k (Append c.args.seq c.args.value) c.mail.new.self (g.C.CrashPlan.askings c.args.plan.now) (g.C.CrashPlan.askings c.mail.new.plan) purpose)) c.self.view_is c.mail.ensures.fails in
    err_more _ _ c.mail.result fails (λ purpose h. (h.0, inr (fits, h.1)))

pub returns-clause-shown : goal.returns-clause-shown
returns-clause-shown g c =
    subst (λ (x : Seated). IfOk c.mail.result (λ reply. (reply ≡ Stored) ⊎ (reply ≡ Already) → IsAmong x.seat_view.by c.args.seq (shown_by c.mail.new.self.seat_view.setup c.mail.new.self.seat_view.seen))) c.self.view_is
    (append_shown c.self.inside.call_driver c.mail.new.self c.args.seq c.args.value c.mail.result _ _ c.self.invariant c.setup.ensures.seat_view c.every_run_is_sound.ensures c.mail.ensures.accepted c.mail.ensures.replied)

pub returns-clause-tells : goal.returns-clause-tells
returns-clause-tells g c =
    subst (λ (x : Seated). IfOk c.mail.result (λ reply. ReportedIn x c.args.seq reply c.mail.new.self)) c.self.view_is
    (append_tells c.self.inside.call_driver c.mail.new.self c.args.seq c.args.value c.mail.result _ _ c.self.invariant c.setup.ensures.seat_view c.messages_were_sent.ensures.replies c.mail.ensures.accepted c.mail.ensures.fits c.mail.ensures.replied)

pub returns-clause-seat : goal.returns-clause-seat
returns-clause-seat g c = mail_seat c.self.inside.call_driver c.mail.new.self (Append c.args.seq c.args.value) _ _ c.mail.result c.mail.ensures.replied c.mail.ensures.fails ∙ ap seat_of c.self.view_is

pub returns-clause-wide : goal.returns-clause-wide
returns-clause-wide g c =
    let w : c.setup.result.layout.width ≡ c.args.self.now.seat_view.setup.layout.width = ap (λ (s : Setup). s.layout.width) c.setup.ensures.is ∙ ap (λ (x : Seated). x.seat_view.setup.layout.width) c.self.view_is in
    ok_any c.mail.result _ (omega (arith, c.width.ensures.width, w, c.if-width-setup.false))

pub returns-clause-accepted : goal.returns-clause-accepted
returns-clause-accepted g c = subst (λ (x : Seated). OnOk c.mail.result (refusal_now (free_to_start x) Lock ≡ None)) c.self.view_is c.mail.ensures.accepted

pub returns-clause-patient : goal.returns-clause-patient
returns-clause-patient g c = c.mail.ensures.patient

pub returns-clause-kind : goal.returns-clause-kind
returns-clause-kind g c = c.mail.ensures.fits

pub returns-clause-out : goal.returns-clause-out
returns-clause-out g c = λ away wide. c.mail.ensures.out away
