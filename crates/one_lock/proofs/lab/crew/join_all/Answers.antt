use Rattle.std.proofs.Common.{◌≡◌, ◌∙◌, ◌++◌, map, All, sym, ap, subst}
use Rattle.one_lock.proofs.LabCommon.{All-head, All-tail, All-push, into_iter_items, Spec, MayEnd, place_of}
use Rattle.table_runs.proofs.PartLists.{moved_on}
use Rattle.one_lock.proofs.lab.crew.join_all.Goals as goal

pub loop-thread-preserved : goal.loop-thread-preserved
loop-thread-preserved g c =
    let i = c.loop-thread.invariant in
    let left = into_iter_items c.next.new.self in
    let e = c.in-Some.ensures.steps.0 in
    let items = c.in_ok-push.ensures.items in
    record {
      places = ap (λ l. map (λ d. place_of d.member) l ++ map (λ h. place_of h.promise.0.value) left) items ∙ moved_on (λ d. place_of d.member) (λ h. place_of h.promise.0.value) c.loop-thread.all.items c.join.result c.in-Some.thread _ left _ i.places e c.join.ensures.0;
      ends = λ s all.
          let old = i.ends s all in
          let rest = subst (All (λ h. h.promise.1 ≡ s)) e old.0 in
          let here = subst (λ (t : Spec). MayEnd g.S.Sizes.named t c.join.result.member.process c.join.result.ending) (All-head (λ h. h.promise.1 ≡ s) c.in-Some.thread left rest) c.join.ensures.1 in (
            All-tail (λ h. h.promise.1 ≡ s) c.in-Some.thread left rest,
            subst (All (λ d. MayEnd g.S.Sizes.named s d.member.process d.ending)) (sym items) (All-push (λ d. MayEnd g.S.Sizes.named s d.member.process d.ending) c.loop-thread.all.items c.join.result old.1 here),
          );
    }

pub returns-clause-ends : goal.returns-clause-ends
returns-clause-ends g c = λ s all. (c.loop-thread.invariant.ends s all).1
