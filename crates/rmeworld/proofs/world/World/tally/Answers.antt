use Rattle.std.proofs.Common.{subst}
use Rattle.rmeworld.proofs.Common.{IsWorld, global_state_of}
use Rattle.rmeworld.proofs.WorldTallies.{takes_fewer}
use Rattle.rmeworld.proofs.world.World.tally.Goals as goal

pub returns-in-Some-clause-taking : goal.returns-in-Some-clause-taking
returns-in-Some-clause-taking c = λ exact below. let world = subst IsWorld c.self.view_is c.self.invariant in (world.tallied c.args.p below).taking exact

pub returns-in-Some-clause-most : goal.returns-in-Some-clause-most
returns-in-Some-clause-most c = λ exact below. let world = subst IsWorld c.self.view_is c.self.invariant in takes_fewer c.args.self.now.layout (global_state_of c.args.self.now) c.args.self.now.tallies world.tallied c.args.p exact below

pub returns-in-Some-clause-rereading : goal.returns-in-Some-clause-rereading
returns-in-Some-clause-rereading c = λ below rereads. let world = subst IsWorld c.self.view_is c.self.invariant in (world.tallied c.args.p below).began rereads

pub returns-in-None-clause-taking : goal.returns-in-None-clause-taking
returns-in-None-clause-taking c = λ exact below. let world = subst IsWorld c.self.view_is c.self.invariant in (world.tallied c.args.p below).taking exact

pub returns-in-None-clause-most : goal.returns-in-None-clause-most
returns-in-None-clause-most c = λ exact below. let world = subst IsWorld c.self.view_is c.self.invariant in takes_fewer c.args.self.now.layout (global_state_of c.args.self.now) c.args.self.now.tallies world.tallied c.args.p exact below

pub returns-in-None-clause-rereading : goal.returns-in-None-clause-rereading
returns-in-None-clause-rereading c = λ below rereads. let world = subst IsWorld c.self.view_is c.self.invariant in (world.tallied c.args.p below).began rereads
