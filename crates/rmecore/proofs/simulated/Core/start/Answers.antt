use Rattle.std.proofs.Common.{sym, subst}
use Rattle.rmecore.proofs.Common.{HasConfiguration}
use Rattle.rmecore.proofs.CoreSteps.{found_here, configuration_here, configured_set, starts_takes, reached_more}
use Rattle.rmecore.proofs.CoreTallies.{tallied_start, own_here}
use Rattle.rmecore.proofs.simulated.Core.start.Goals as goal

pub invariant_of-self-2 : goal.invariant_of-self-2
invariant_of-self-2 c =
    let configured = c.self.invariant.configured in
    let here = found_here _ c.args.p _ _ c.index_mut-process.ensures.value c.if-p-self.false configured.processes_each in
    let configuration = configuration_here configured c.args.p _ c.index_mut-process.ensures.value c.if-p-self.false in
    let takes = starts_takes _ _ _ _ _ c.self.inside.tallies.items c.self.inside.tallies.items _ _ _ here c.if-p-self.false configured.processes_each c.in_ok-start.ensures.ok in
    record {
      configured = configured_set configured c.if-p-self.false _ _ _ configured.words_each (subst (HasConfiguration _ _ _) (sym c.start.ensures.same) configuration);
      reached = reached_more takes c.self.invariant.reached;
      tallied = tallied_start c.self.invariant.reached configured.tallies_each c.self.invariant.tallied c.args.p c.args.call takes _ (own_here c.self.inside.words.items c.args.p _ _ c.index.ensures c.if-p-self.false configured.words_each);
    }

pub returns-clause-start : goal.returns-clause-start
returns-clause-start c =
    let here = found_here _ c.args.p _ _ c.index_mut-process.ensures.value c.if-p-self.false c.self.invariant.configured.processes_each in
    rw (← c.self.view_is) (starts_takes _ _ _ _ _ _ _ _ _ _ here c.if-p-self.false c.self.invariant.configured.processes_each c.in_ok-start.ensures.ok)

pub returns-clause-reached : goal.returns-clause-reached
returns-clause-reached c =
    let configured = c.self.invariant.configured in
    let here = found_here _ c.args.p _ _ c.index_mut-process.ensures.value c.if-p-self.false configured.processes_each in
    reached_more (starts_takes _ _ _ _ _ c.self.inside.tallies.items c.self.inside.tallies.items _ _ _ here c.if-p-self.false configured.processes_each c.in_ok-start.ensures.ok) c.self.invariant.reached
