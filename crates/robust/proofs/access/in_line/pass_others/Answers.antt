use Rattle.std.proofs.Common.{false, ◌≡◌, ℕ, ◌+◌, refl, sym, ◌∙◌, subst, arith}
use Rattle.robust.proofs.AccessCommon.{SeatView}
use Rattle.robust.proofs.Waits.{KeptWait, look_counted, weigh_counted, kept_passed, wait_over}
use Rattle.robust.proofs.access.in_line.pass_others.Goals as goal
use Rattle.robust.proofs.access.in_line.pass_others.Goals.{then-j-own+else-not-look+else-not-weigh, else-j-own}

pub returns-then-not-look-clause-unanswered : goal.returns-then-not-look-clause-unanswered
returns-then-not-look-clause-unanswered c =
    let x = c.args.port.now in
    let i = c.loop-j.invariant in
    let h : KeptWait x c.loop-j.port c.args.number c.loop-j.taken c.loop-j.j = (i.at, i.unanswered, i.same, i.few) in
    look_counted x c.loop-j.port c.args.number c.loop-j.taken c.loop-j.j h c.look.new.port false c.if-not-look.ensures.at c.if-not-look.ensures.same 1 c.if-not-look.ensures.unanswered

pub returns-then-not-weigh-clause-unanswered : goal.returns-then-not-weigh-clause-unanswered
returns-then-not-weigh-clause-unanswered c =
    let x = c.args.port.now in
    let i = c.loop-j.invariant in
    let h : KeptWait x c.loop-j.port c.args.number c.loop-j.taken c.loop-j.j = (i.at, i.unanswered, i.same, i.few) in
    let l = c.if-not-look.ensures in
    let g = c.if-not-weigh.ensures in
    weigh_counted x c.loop-j.port c.args.number c.loop-j.taken c.loop-j.j h c.look.new.port c.weigh.new.port l.at l.same l.unanswered g.same 1 g.unanswered

pub loop-j-preserved : goal.loop-j-preserved
loop-j-preserved c =
    let x = c.args.port.now in
    let i = c.loop-j.invariant in
    let y = c.loop-j.port in
    let j = c.loop-j.j in
    let h : KeptWait x y c.args.number c.loop-j.taken j = (i.at, i.unanswered, i.same, i.few) in
    let k : KeptWait x c.if-j-own.port c.args.number c.if-j-own.taken (j + 1) = elim c.if-j-own.branch [
      | then-j-own+else-not-look+else-not-weigh w ↦
          let l = w.if-not-look.ensures in
          let g = w.if-not-weigh.ensures in
          subst (λ (t : SeatView × ℕ). KeptWait x t.0 c.args.number t.1 (j + 1)) (λ n. (sym w.port-is n, sym w.taken-is n)) (kept_passed x y c.args.number c.loop-j.taken j h w.look.new.port w.weigh.new.port l.at l.same l.unanswered g.same (g.passed refl) g.unanswered)
      | else-j-own w ↦
          let own : j ≡ x.by = w.if-j-own.false ∙ c.by-own.ensures.is in
          subst (λ (t : SeatView × ℕ). KeptWait x t.0 c.args.number t.1 (j + 1)) (λ n. (sym w.port-is n, sym w.taken-is n)) (wait_over x y c.args.number c.loop-j.taken j h c.by-own.ensures.seat_view.below own)
    ] in
    record { at = k.0; unanswered = k.1; same = k.2; few = k.3; most = (let n = c.by-own.ensures.seat_view.size.layout.few in let e = c.procs-procs.ensures.is in let t = c.loop-j-test.true in omega arith) }
