use Rattle.std.proofs.Common.{◌≡◌, Bool, true, false, if◌then◌else◌, refl, sym, ap, subst}
use Rattle.robust.proofs.AccessCommon.{is_waiting, ProcessState, process_state_now, Unanswered}
use Rattle.rmecore.specs.declared.stage.Stage.TheVariants.{Wait as AtWait}
use Rattle.robust.proofs.Straight.{wait_begun}
use Rattle.robust.proofs.Entering.{enters_in, enters_blocked}
use Rattle.robust.proofs.access.fast_path.enter_from_line.Goals as goal

pub returns-then-passed-clause-enters : goal.returns-then-passed-clause-enters
returns-then-passed-clause-enters c =
    let x = c.args.port.now in
    let s = c.wait_on-passed in
    let free : (process_state_now x).barred ≡ false = ap (λ (q : ProcessState). q.barred) c.requires.at in
    let y = s.new.port in
    let k = s.result.taken in
    let p : Unanswered x k 1 y = subst (λ (b : Bool). Unanswered x k (if b then 1 else 0) y) c.if-passed.true s.ensures.unanswered in
    let begun = wait_begun x y c.args.number s.result.next s.result.looked c.by-seat_view.ensures.seat_view.size.layout.few s.ensures.at in
    enters_blocked x y k (AtWait c.args.number s.result.next s.result.looked) s.ensures.at s.ensures.same begun free p (subst (λ t. is_waiting t.lock ≡ true) (sym s.ensures.at) refl)

pub returns-clause-enters : goal.returns-clause-enters
returns-clause-enters c =
    let x = c.args.port.now in
    let s = c.wait_on-passed in
    let free : (process_state_now x).barred ≡ false = ap (λ (q : ProcessState). q.barred) c.requires.at in
    let k = s.result.taken in
    let e = c.come_in-is_ruined in
    let p : Unanswered x k 0 s.new.port = subst (λ (b : Bool). Unanswered x k (if b then 1 else 0) s.new.port) c.if-passed.false s.ensures.unanswered in
    enters_in x s.new.port e.new.port k e.result c.reached_by_entry.result c.reached_by_entry.ensures p s.ensures.same e.ensures.at e.ensures.clean e.ensures.ruined e.ensures.same free
