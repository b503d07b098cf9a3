use Rattle.std.proofs.Common.{◌≡◌, Some, sym, ◌∙◌, subst}
use Rattle.robust.proofs.CallCommon.{Access, IsAllowed, Seated, TakesStep, next_of}
use Rattle.rmecore.specs.declared.access.Access.TheVariants.{Load}
use Rattle.table_runs.proofs.Running.{next_same, may_advance, run_by_step, keeps, outcome_same}
use Rattle.rmeworld.specs.MachineState.{next_access}
use Rattle.robust.proofs.call.call_driver.CallDriver.advance.Goals as goal

pub invariant_of-self : goal.invariant_of-self
invariant_of-self c =
    let x = c.self.inside.port in
    let s = c.self.inside.process in
    let w = c.in-Some-default-Load in
    let v = c.read-found.result in
    let a : Access = Load w.kind w.word in
    let at = w.field-0-1-is in
    let here : w.field-0-1 ≡ a = cc in
    let said = w.ensures.next in
    let e : next_access s ≡ Some a = subst (λ (b : Access). next_access s ≡ Some b) here said in
    let k = keeps s c.scan_on.new.self v c.scan_on.ensures.exact in
    run_by_step x c.read-found.new.port s c.scan_on.new.self a v c.self.invariant e c.read-found.ensures k.0 k.1 k.2 c.scan_on.ensures.process_state

pub invariant_of-self-2 : goal.invariant_of-self-2
invariant_of-self-2 c =
    let k = keeps c.self.inside.process c.feed.new.self c.perform-value.result c.feed.ensures.exact in
    run_by_step c.self.inside.port c.perform-value.new.port c.self.inside.process c.feed.new.self c.in-Some.access c.perform-value.result c.self.invariant (sym c.in-Some.ensures.next) c.perform-value.ensures k.0 k.1 k.2 c.feed.ensures.process_state

pub returns-in-Some-default-Load : goal.returns-in-Some-default-Load
returns-in-Some-default-Load c =
    let x = c.self.inside.port in
    let s = c.self.inside.process in
    let w = c.in-Some-default-Load in
    let v = c.read-found.result in
    let a : Access = Load w.kind w.word in
    let at = w.field-0-1-is in
    let here : w.field-0-1 ≡ a = cc in
    let said = w.ensures.next in
    let e : next_access s ≡ Some a = subst (λ (b : Access). next_access s ≡ Some b) here said in
    let next : next_of x ≡ Some a = sym (next_same x s c.self.invariant) ∙ e in
    subst (λ (z : Seated). TakesStep z c.scan_on.result (record { seat_view = c.read-found.new.port; steps = c.saturating_add-self-inside.result })) c.self.view_is
    (record {
      access = a;
      value = v;
      next = next;
      may = may_advance x s a c.self.invariant e (subst (IsAllowed s) here w.ensures.allowed) v;
      advances = c.read-found.ensures;
      reports = c.scan_on.ensures.outcome ∙ outcome_same x s a v c.self.invariant e;
      steps = c.saturating_add-self-inside.ensures;
    })
