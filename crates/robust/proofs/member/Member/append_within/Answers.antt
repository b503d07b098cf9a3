use Rattle.std.proofs.Common.{◌≡◌, ◌≢◌, ◌⊎◌, ◌+◌, ◌≤◌, None, length, Ok, IfOk, IfErr, OnOk, ap, ◌∙◌, subst, inr, arith}
use Rattle.robust.proofs.Common.{Stored, Already, IsAmong, Append, Lock, AlreadyIn, Setup, free_to_start, refusal_now, shown_by, Seated, began, ReportedIn, WholeEnds, WholeFails, seat_of, ok_any}
use Rattle.table_runs.specs.WholeSteps.{most_whole}
use Rattle.table_runs.proofs.WholeCalls.{ok_some, err_more}
use Rattle.robust.proofs.Appended.{append_shown, append_tells}
use Rattle.robust.proofs.Working.{within_seat}
use Rattle.robust.proofs.member.Member.append_within.Goals as goal

pub returns-clause-shown : goal.returns-clause-shown
returns-clause-shown g c =
    subst (λ (x : Seated). IfOk c.mail_within.result (λ reply. (reply ≡ Stored) ⊎ (reply ≡ Already) → IsAmong x.seat_view.by c.args.seq (shown_by c.mail_within.new.self.seat_view.setup c.mail_within.new.self.seat_view.seen))) c.self.view_is
    (append_shown c.self.inside.call_driver c.mail_within.new.self c.args.seq c.args.value c.mail_within.result _ _ c.self.invariant c.setup.ensures.seat_view c.every_run_is_sound.ensures c.mail_within.ensures.accepted (ok_some _ c.mail_within.result c.args.turns c.mail_within.ensures.replied))

pub returns-clause-tells : goal.returns-clause-tells
returns-clause-tells g c =
    subst (λ (x : Seated). IfOk c.mail_within.result (λ reply. ReportedIn x c.args.seq reply c.mail_within.new.self)) c.self.view_is
    (append_tells c.self.inside.call_driver c.mail_within.new.self c.args.seq c.args.value c.mail_within.result _ _ c.self.invariant c.setup.ensures.seat_view c.messages_were_sent.ensures.replies c.mail_within.ensures.accepted c.mail_within.ensures.fits (ok_some _ c.mail_within.result c.args.turns c.mail_within.ensures.replied))

pub returns-clause-seat : goal.returns-clause-seat
returns-clause-seat g c =
    within_seat c.self.inside.call_driver c.mail_within.new.self c.args.turns (Append c.args.seq c.args.value) _ _ c.mail_within.result c.mail_within.ensures.replied c.mail_within.ensures.fails ∙ ap seat_of c.self.view_is

pub returns-clause-wide : goal.returns-clause-wide
returns-clause-wide g c =
    let w : c.setup.result.layout.width ≡ c.args.self.now.seat_view.setup.layout.width = ap (λ (s : Setup). s.layout.width) c.setup.ensures.is ∙ ap (λ (x : Seated). x.seat_view.setup.layout.width) c.self.view_is in
    ok_any c.mail_within.result _ (omega (arith, c.width.ensures.width, w, c.if-width-setup.false))

pub returns-clause-accepted : goal.returns-clause-accepted
returns-clause-accepted g c = subst (λ (x : Seated). OnOk c.mail_within.result (refusal_now (free_to_start x) Lock ≡ None)) c.self.view_is c.mail_within.ensures.accepted

pub returns-clause-replied : goal.returns-clause-replied
returns-clause-replied g c =
    subst (λ (x : Seated). IfOk c.mail_within.result (λ reply. WholeEnds (began (free_to_start x) Lock) c.args.turns (Append c.args.seq c.args.value) (Ok reply) c.mail_within.new.self (g.C.CrashPlan.askings c.args.plan.now) (g.C.CrashPlan.askings c.mail_within.new.plan)))
    c.self.view_is c.mail_within.ensures.replied

pub returns-clause-fails : goal.returns-clause-fails
returns-clause-fails g c =
    let w : c.setup.result.layout.width ≡ c.args.self.now.seat_view.setup.layout.width = ap (λ (s : Setup). s.layout.width) c.setup.ensures.is ∙ ap (λ (x : Seated). x.seat_view.setup.layout.width) c.self.view_is in
    let fits : length c.args.value ≡ c.args.self.now.seat_view.setup.layout.width = omega (arith, c.width.ensures.width, w, c.if-width-setup.false) in
    let fails = subst (λ (x : Seated). IfErr c.mail_within.result (WholeFails x c.args.turns (Append c.args.seq c.args.value) c.mail_within.new.self (g.C.CrashPlan.askings c.args.plan.now) (g.C.CrashPlan.askings c.mail_within.new.plan))) c.self.view_is c.mail_within.ensures.fails in
    err_more _ _ c.mail_within.result fails (λ purpose h. inr (fits, h))

pub returns-clause-few : goal.returns-clause-few
returns-clause-few g c =
    subst (λ (x : Seated). OnOk c.mail_within.result (c.mail_within.new.self.steps ≤ most_whole x.seat_view.setup.layout (Append c.args.seq c.args.value) + c.args.turns)) c.self.view_is c.mail_within.ensures.few

pub returns-clause-few_out : goal.returns-clause-few_out
returns-clause-few_out g c =
    let few = subst (λ (x : Seated). IfErr c.mail_within.result (λ e. e ≢ AlreadyIn → c.mail_within.new.self.steps ≤ most_whole x.seat_view.setup.layout (Append c.args.seq c.args.value) + c.args.turns)) c.self.view_is c.mail_within.ensures.few_out in
    err_more _ _ c.mail_within.result few (λ purpose h away wide. h away)

pub returns-clause-kind : goal.returns-clause-kind
returns-clause-kind g c = c.mail_within.ensures.fits

pub returns-clause-out : goal.returns-clause-out
returns-clause-out g c = λ away wide. c.mail_within.ensures.out away

pub returns-clause-waits : goal.returns-clause-waits
returns-clause-waits g c = c.mail_within.ensures.waits
