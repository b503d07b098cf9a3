use Rattle.std.proofs.Common.{sym, ap, subst}
use Rattle.rmecore.proofs.Common.{Standing, HasConfiguration}
use Rattle.rmecore.proofs.CoreSteps.{configuration_here, configured_process, crash_takes, reached_more}
use Rattle.rmecore.proofs.CoreTallies.{tallied_crash}
use Rattle.rmecore.proofs.simulated.Core.crash.Goals as goal

pub invariant_of-self : goal.invariant_of-self
invariant_of-self c =
    let configured = c.self.invariant.configured in
    let configuration = configuration_here configured c.args.p _ c.index_mut.ensures.value c.if-p-self.false in
    let takes = crash_takes _ _ _ _ _ c.self.inside.tallies.items c.self.inside.tallies.items _ c.if-p-self.false configured.processes_each (ap (λ (s : Standing). s.place) c.crash.ensures) in
    record {
      configured = configured_process configured c.if-p-self.false _ (subst (HasConfiguration _ _ _) (sym c.crash.ensures) configuration);
      reached = reached_more takes c.self.invariant.reached;
      tallied = tallied_crash c.self.invariant.reached configured.tallies_each c.self.invariant.tallied c.args.p takes;
    }

pub returns-clause-crash : goal.returns-clause-crash
returns-clause-crash c = rw (← c.self.view_is) (crash_takes _ _ _ _ _ _ _ _ c.if-p-self.false c.self.invariant.configured.processes_each (ap (λ (s : Standing). s.place) c.crash.ensures))

pub returns-clause-reached : goal.returns-clause-reached
returns-clause-reached c =
    let configured = c.self.invariant.configured in
    reached_more (crash_takes _ _ _ _ _ c.self.inside.tallies.items c.self.inside.tallies.items _ c.if-p-self.false configured.processes_each (ap (λ (s : Standing). s.place) c.crash.ensures)) c.self.invariant.reached
