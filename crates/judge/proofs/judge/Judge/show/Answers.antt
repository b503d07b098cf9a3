use Rattle.std.specs.Prelude.{is_some}
use Rattle.std.proofs.Common.{◌≤◌, ◌<◌, [], ◌∷◌, length, arith, sym, subst, refl, length-append, ◌≡◌, ◌+◌, ◌∙◌, ap, length-set, slice_index}
use Rattle.judge.proofs.Common.{message, Keeps, get_or_default, false≢true}
use Rattle.judge.proofs.Counts.{Lists-counted, counts_low_more}
use Rattle.judge.proofs.judge.Judge.show.Goals as goal

pub returns : goal.returns
returns c = λ s at seq v k.
    let k' : Keeps _ s = subst (λ j. Keeps j s) (sym c.self.view_is) k in
    let le : s.procs ≤ length c.self.inside.counts.items = omega (arith, k'.procs, c.self.invariant.counts) in
    let below : c.args.p < s.procs = omega (arith, k.procs, c.requires.below) in
    record {
      procs = k'.procs;
      cap = k'.cap;
      most_inside = k'.most_inside;
      phases = k'.phases;
      ahead = k'.ahead;
      counts = Lists-counted c.self.inside.counts.items s.procs s.mail.shown (message c.args.p seq v) c.index_mut.result.now le below c.index_mut.ensures.value k'.counts;
      shown = omega (arith, k'.shown, length-append s.mail.shown (message c.args.p seq v ∷ []));
      pending = refl;
      closed = k'.closed;
      ruined = k'.ruined;
    }

pub index_mut-requires : goal.index_mut-requires
index_mut-requires c = omega (arith, c.requires.below, ap (λ j. j.procs) c.self.view_is, c.self.invariant.counts, c.self.inside.counts.ok.0)

pub overflow_add-index_mut : goal.overflow_add-index_mut
overflow_add-index_mut c =
    let below : c.args.p < c.self.inside.procs = omega (arith, c.requires.below, ap (λ j. j.procs) c.self.view_is) in
    let within : c.args.p < length c.self.inside.counts.items = omega (arith, below, c.self.invariant.counts) in
    let count = c.index_mut.ensures.value ∙ get_or_default c.self.inside.counts.items c.args.p c.index_mut.result.now 0 within in
    omega (arith, count, c.self.invariant.counts_low c.args.p below, c.self.invariant.shown_low, c.self.invariant.small)

pub overflow_add-self : goal.overflow_add-self
overflow_add-self c = omega (arith, c.self.invariant.shown_low, c.self.invariant.small)

pub invariant_of-self : goal.invariant_of-self
invariant_of-self c =
    let judge = c.self.inside in
    let sound = c.self.invariant in
    let p = c.args.p in
    let v = c.index_mut.result.now in
    let below : p < judge.procs = omega (arith, c.requires.below, ap (λ j. j.procs) c.self.view_is) in
    let within : p < length judge.counts.items = omega (arith, below, sound.counts) in
    let count : v ≡ slice_index judge.counts.items p = c.index_mut.ensures.value ∙ get_or_default judge.counts.items p v 0 within in
    record {
      few = sound.few;
      small = sound.small;
      phases = sound.phases;
      ahead = sound.ahead;
      counts = length-set judge.counts.items p (v + 1) ∙ sound.counts;
      counts_low = counts_low_more judge.counts.items p v judge.procs judge.shown within count sound.counts_low;
      shown_low = omega (arith, sound.room (ap (λ j. is_some j.pending) c.self.view_is ∙ c.requires.pending));
      room = λ e. absurd (false≢true e);
    }
