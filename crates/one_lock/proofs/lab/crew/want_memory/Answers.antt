use Rattle.std.proofs.Common.{rules, ◌≢◌, true≢false, sym, subst}
use Rattle.one_lock.proofs.LabCommon.{OutOfMemory, Fault}
use Rattle.one_lock.proofs.Endings.{all_more, all_of, none_wanted}
use Rattle.one_lock.proofs.lab.crew.want_memory.Goals as goal

pub loop-done-preserved : goal.loop-done-preserved
loop-done-preserved g c =
    let here : c.done-item.result.ending ≢ Fault OutOfMemory = search (rules, c.if-eq.false, c.if-eq.ensures, c.eq.ensures) in
    all_more (λ e. e ≢ Fault OutOfMemory) (λ d. d.ending) c.args.ended.now c.loop-done.done-index c.done-item.result c.loop-done-test.true c.loop-done.invariant
    (subst (λ d. d.ending ≢ Fault OutOfMemory) c.done-item.is here)

pub returns : goal.returns
returns g c =
    let none = all_of (λ e. e ≢ Fault OutOfMemory) (λ d. d.ending) c.args.ended.now c.loop-done.done-index c.loop-done-test.false c.loop-done.invariant in
    (λ no. absurd (true≢false (sym no)), λ one. absurd (none_wanted _ none one))
