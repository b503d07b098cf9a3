use Rattle.std.proofs.Common.{◌≡◌, ◌∙◌, ◌++◌, map, All, sym, ap, subst}
use Rattle.robust.proofs.Common.{All-head, All-tail, All-push, into_iter_items, moved_on, HasWorked, seat_done, seat_promised}
use Rattle.robust.proofs.lab.lab_run.join_all.Goals as goal

pub loop-thread-preserved : goal.loop-thread-preserved
loop-thread-preserved g c =
    let i = c.loop-thread.invariant in
    let left = into_iter_items c.next.new.self in
    let e = c.in-Some.ensures.steps.0 in
    let j = c.join.ensures in
    let items = c.in_ok-push.ensures.items in
    record {
      seats = ap (λ l. map seat_done l ++ map (λ h. seat_promised h.promise) left) items ∙ moved_on seat_done (λ h. seat_promised h.promise) c.loop-thread.all.items c.join.result c.in-Some.thread _ left _ i.seats e j.0;
      worked = λ spec all.
          let old = i.worked spec all in
          let rest = subst (All (λ h. h.promise.1 ≡ spec)) e old.1 in
          let here = subst (λ s. HasWorked s c.join.result) (All-head (λ h. h.promise.1 ≡ spec) c.in-Some.thread left rest) j.1 in
          (subst (All (HasWorked spec)) (sym items) (All-push (HasWorked spec) c.loop-thread.all.items c.join.result old.0 here), All-tail (λ h. h.promise.1 ≡ spec) c.in-Some.thread left rest);
    }
