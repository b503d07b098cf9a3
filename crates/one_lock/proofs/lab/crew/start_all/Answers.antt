use Rattle.std.proofs.Common.{rules, ◌≡◌, ◌∙◌, ◌++◌, map, All, ap, sym, subst, arith}
use Rattle.one_lock.proofs.LabCommon.{All-head, All-tail, All-push, into_iter_items, place_of, CanSend}
use Rattle.table_runs.proofs.PartLists.{moved_on}
use Rattle.one_lock.proofs.lab.crew.start_all.Goals as goal

pub loop-member-preserved : goal.loop-member-preserved
loop-member-preserved g c =
    let i = c.loop-member.invariant in
    let left = into_iter_items c.next.new.self in
    let e = c.in-Some.ensures.steps in
    let items = c.in_ok-push.ensures.items in
    record {
      places = ap (λ l. map (λ h. place_of h.promise.0.value) l ++ map place_of left) items ∙ moved_on (λ h. place_of h.promise.0.value) place_of c.loop-member.threads.items c.in-Ok.thread c.in-Some.member _ left _ i.places e.0 ((λ k. place_of (c.in-Ok.ensures.ok k).0.value) ∙ ap place_of c.of.ensures);
      gates = (let n = c.in-Some-next.ensures in omega (arith, i.gates, e.1, n.len));
      spec = subst (All (λ h. h.promise.1 ≡ c.args.spec)) (sym items) (All-push (λ h. h.promise.1 ≡ c.args.spec) c.loop-member.threads.items c.in-Ok.thread i.spec (λ k. (c.in-Ok.ensures.ok k).1));
      ready = All-tail (CanSend c.args.spec.width) c.in-Some.member left (subst (All (CanSend c.args.spec.width)) e.0 i.ready);
    }

pub spawn_with-requires-clause-runs : goal.spawn_with-requires-clause-runs
spawn_with-requires-clause-runs g c κs within =
    let ready = All-head (CanSend c.args.spec.width) c.in-Some.member (into_iter_items c.next.new.self) (subst (All (CanSend c.args.spec.width)) c.in-Some.ensures.steps.0 c.loop-member.invariant.ready) in
    search (rules, ready)
