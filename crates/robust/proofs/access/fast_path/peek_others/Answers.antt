use Rattle.std.proofs.Common.{◌≡◌, ◌≢◌, ℕ, ◌+◌, ◌<◌, ◌≤◌, sym, ◌∙◌, subst, arith}
use Rattle.robust.proofs.AccessCommon.{Door, above, SeatView, Way}
use Rattle.robust.proofs.Peeks.{peeked, passed_over}
use Rattle.robust.proofs.access.fast_path.peek_others.Goals as goal
use Rattle.robust.proofs.access.fast_path.peek_others.Goals.{then-j-own, else-j-own}

pub loop-j-preserved : goal.loop-j-preserved
loop-j-preserved c =
    let x = c.args.port.now in
    let i = c.loop-j.invariant in
    let y = c.loop-j.port in
    let j = c.loop-j.j in
    let below : j < x.setup.layout.procs = (let e = c.procs-procs.ensures.is in let t = c.loop-j-test.true in omega arith) in
    let Kept : SeatView × ℕ × ℕ → Type 0 = λ t. Way x t.2 t.0 (Door (above x.setup.layout.procs x.by (j + 1)) t.1) × (t.2 ≤ j + 1) in
    let k : Kept (c.if-j-own.port, c.if-j-own.greatest, c.if-j-own.taken) = elim c.if-j-own.branch [
      | then-j-own w ↦
          let ne : j ≢ x.by = λ e. w.if-j-own.true (e ∙ sym c.by-own.ensures.is) in
          subst Kept (λ n. (sym w.port-is n, sym (w.greatest-is ∙ w.max_of-greatest.ensures) n, sym w.taken-is n)) (peeked x y j c.loop-j.greatest c.loop-j.taken i.way below ne w.load-number.new.self w.load-number.result w.load-number.ensures, (let few = i.few in omega arith))
      | else-j-own w ↦
          let own : j ≡ x.by = w.if-j-own.false ∙ c.by-own.ensures.is in
          subst Kept (λ n. (sym w.port-is n, sym w.greatest-is n, sym w.taken-is n)) (passed_over x y j c.loop-j.greatest c.loop-j.taken i.way c.by-own.ensures.seat_view.below own, (let few = i.few in omega arith))
    ] in
    record { way = k.0; few = k.1 }

pub returns-clause-few : goal.returns-clause-few
returns-clause-few c =
    let few = c.loop-j.invariant.few in
    let most = c.by-own.ensures.seat_view.size.layout.few in
    let all = c.procs-procs.ensures.is in
    let end = c.loop-j.auto.j-end in
    omega arith
