use Rattle.std.proofs.Common.{rules, ◌≡◌, ◌∙◌, ◌++◌, map, All, sym, ap, subst, arith}
use Rattle.robust.proofs.Common.{All-head, All-tail, All-push, into_iter_items, moved_on, IsNew, sizes_of, seat_promised, seat_of}
use Rattle.robust.specs.declared.lab.worker.HandsBack.{HandsBack}
use Rattle.robust.proofs.lab.lab_run.start_all.Goals as goal

pub loop-member-preserved : goal.loop-member-preserved
loop-member-preserved g c =
    let i = c.loop-member.invariant in
    let left = into_iter_items c.next.new.self in
    let e = c.in-Some.ensures.steps in
    let items = c.in_ok-push.ensures.items in
    let new = subst (All (IsNew (sizes_of c.args.spec))) e.0 i.new in
    record {
      seats = ap (λ l. map (λ h. seat_promised h.promise) l ++ map seat_of left) items ∙ moved_on (λ h. seat_promised h.promise) seat_of c.loop-member.threads.items c.in-Ok.thread c.in-Some.member _ left _ i.seats e.0 (ap seat_promised c.in-Ok.ensures.ok ∙ ap seat_of c.of.ensures);
      gates = (let n = c.in-Some-next.ensures in omega (arith, i.gates, e.1, n.len));
      new = All-tail (IsNew (sizes_of c.args.spec)) c.in-Some.member left new;
      spec = subst (All (λ h. h.promise.1 ≡ c.args.spec)) (sym items) (All-push (λ h. h.promise.1 ≡ c.args.spec) c.loop-member.threads.items c.in-Ok.thread i.spec (ap (λ (p : HandsBack). p.1) c.in-Ok.ensures.ok));
    }

pub spawn_with-requires-clause-runs : goal.spawn_with-requires-clause-runs
spawn_with-requires-clause-runs g c κs within =
    let new = subst (All (IsNew (sizes_of c.args.spec))) c.in-Some.ensures.steps.0 c.loop-member.invariant.new in
    (search rules, search rules, c.requires.messages.0, c.requires.messages.1, c.requires.width.0, c.requires.width.1, All-head (IsNew (sizes_of c.args.spec)) c.in-Some.member (into_iter_items c.next.new.self) new)

pub returns-clause-spec : goal.returns-clause-spec
returns-clause-spec g c = c.loop-member.invariant.spec
