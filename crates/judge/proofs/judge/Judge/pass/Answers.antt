use Rattle.std.proofs.Common.{◌≡◌, ◌≤◌, ◌∙◌, ap, length, arith, sym, subst, length-set}
use Rattle.judge.proofs.Common.{HasRows, Keeps}
use Rattle.judge.proofs.Writes.{Lists-set, take-refilled}
use Rattle.judge.proofs.judge.Judge.pass.Goals as goal

pub returns : goal.returns
returns c = λ s k.
    let k' : Keeps _ s = subst (λ j. Keeps j s) (sym c.self.view_is) k in
    let le : s.procs ≤ length c.self.inside.phases.items = omega (arith, k'.procs, c.self.invariant.phases) in
    let len : length c.deref_mut.result.now ≡ s.procs = ap length c.deref_mut.ensures.value ∙ (c.self.invariant.ahead ∙ k'.procs) in
    let cleared = c.clear_column.ensures s.procs s.lock.ahead len (subst (λ xs. HasRows xs s.procs s.lock.ahead) (sym c.deref_mut.ensures.value) k'.ahead) in
    let filled : length c.clear_column.new.rows ≡ c.self.inside.ahead.len = omega (arith, c.clear_column.auto.rows, ap length c.deref_mut.ensures.value, c.self.inside.ahead.ok.0) in
    record {
      procs = k'.procs;
      cap = k'.cap;
      most_inside = k'.most_inside;
      phases = Lists-set c.self.inside.phases.items s.procs c.args.p s.lock.phase _ le k'.phases;
      ahead = rw (take-refilled c.self.inside.ahead.len _ c.self.inside.ahead.items filled) cleared;
      counts = k'.counts;
      shown = k'.shown;
      pending = k'.pending;
      closed = k'.closed;
      ruined = k'.ruined;
    }

pub clear_column-requires-clause-few : goal.clear_column-requires-clause-few
clear_column-requires-clause-few c = omega (arith, ap length c.deref_mut.ensures.value, c.self.invariant.ahead, c.self.invariant.few)

pub clear_column-requires-clause-below : goal.clear_column-requires-clause-below
clear_column-requires-clause-below c =
    omega (arith, ap length c.deref_mut.ensures.value, c.self.invariant.ahead, c.requires, ap (λ j. j.procs) c.self.view_is)

pub index_mut-requires : goal.index_mut-requires
index_mut-requires c = omega (arith, c.requires, ap (λ j. j.procs) c.self.view_is, c.self.invariant.phases, c.self.inside.phases.ok.0)

pub invariant_of-self : goal.invariant_of-self
invariant_of-self c =
    let judge = c.self.inside in
    let sound = c.self.invariant in
    let rows : length c.clear_column.new.rows ≡ judge.procs = c.clear_column.auto.rows ∙ ap length c.deref_mut.ensures.value ∙ sound.ahead in
    let filled : length c.clear_column.new.rows ≡ judge.ahead.len = omega (arith, rows, sound.ahead, judge.ahead.ok.0) in
    record {
      few = sound.few;
      small = sound.small;
      phases = length-set judge.phases.items c.args.p c.args.phase ∙ sound.phases;
      ahead = rw (take-refilled judge.ahead.len _ judge.ahead.items filled) rows;
      counts = sound.counts;
      counts_low = sound.counts_low;
      shown_low = sound.shown_low;
      room = sound.room;
    }
