use Rattle.judge.proofs.Common.{Keeps}
use Rattle.judge.proofs.Writes.{IsSound-ended}
use Rattle.judge.specs.View.{kept_of}
use Rattle.judge.specs.Kept.{HasRoom}
use Rattle.std.proofs.Common.{ap, arith, refl, sym, subst, true}
use Rattle.judge.proofs.judge.Judge.take.Goals as goal

pub returns-in-Show : goal.returns-in-Show
returns-in-Show c = λ s k. rw c.in-Show.is (c.show.ensures s c.in-Show.at c.in-Show.seq c.in-Show.v k)

pub take_outer-requires : goal.take_outer-requires
take_outer-requires c = subst (HasRoom c.args.self.now) c.in-Outer.is c.requires

pub show-requires-clause-below : goal.show-requires-clause-below
show-requires-clause-below c = let room = subst (HasRoom c.args.self.now) c.in-Show.is c.requires in room.0

pub show-requires-clause-pending : goal.show-requires-clause-pending
show-requires-clause-pending c = let room = subst (HasRoom c.args.self.now) c.in-Show.is c.requires in room.1

pub invariant_of-self : goal.invariant_of-self
invariant_of-self c =
    let room = subst (HasRoom c.args.self.now) c.in-Commit.is c.requires in
    let sound = c.self.invariant in
    record {
      few = sound.few;
      small = sound.small;
      phases = sound.phases;
      ahead = sound.ahead;
      counts = sound.counts;
      counts_low = sound.counts_low;
      shown_low = sound.shown_low;
      room = λ _. omega (arith, room.1, ap (λ j. j.shown) c.self.view_is, ap (λ j. j.cap) c.self.view_is);
    }

pub invariant_of-self-in-Close : goal.invariant_of-self-in-Close
invariant_of-self-in-Close c = IsSound-ended (kept_of c.self-in-Close.inside) true c.self-in-Close.inside.ruined c.self-in-Close.invariant

pub invariant_of-self-in-Ruin : goal.invariant_of-self-in-Ruin
invariant_of-self-in-Ruin c = IsSound-ended (kept_of c.self-in-Ruin.inside) c.self-in-Ruin.inside.closed true c.self-in-Ruin.invariant

pub returns-in-Commit : goal.returns-in-Commit
returns-in-Commit c = λ s k.
    let k' : Keeps _ s = subst (λ j. Keeps j s) (sym c.self.view_is) k in
    rw c.in-Commit.is (record {
      procs = k'.procs;
      cap = k'.cap;
      most_inside = k'.most_inside;
      phases = k'.phases;
      ahead = k'.ahead;
      counts = k'.counts;
      shown = k'.shown;
      pending = refl;
      closed = k'.closed;
      ruined = k'.ruined;
    })

pub returns-in-Close : goal.returns-in-Close
returns-in-Close c = λ s k.
    let k' : Keeps _ s = subst (λ j. Keeps j s) (sym c.self-in-Close.view_is) k in
    rw c.in-Close.is (record {
      procs = k'.procs;
      cap = k'.cap;
      most_inside = k'.most_inside;
      phases = k'.phases;
      ahead = k'.ahead;
      counts = k'.counts;
      shown = k'.shown;
      pending = k'.pending;
      closed = refl;
      ruined = k'.ruined;
    })

pub returns-in-Ruin : goal.returns-in-Ruin
returns-in-Ruin c = λ s k.
    let k' : Keeps _ s = subst (λ j. Keeps j s) (sym c.self-in-Ruin.view_is) k in
    rw c.in-Ruin.is (record {
      procs = k'.procs;
      cap = k'.cap;
      most_inside = k'.most_inside;
      phases = k'.phases;
      ahead = k'.ahead;
      counts = k'.counts;
      shown = k'.shown;
      pending = k'.pending;
      closed = k'.closed;
      ruined = refl;
    })
