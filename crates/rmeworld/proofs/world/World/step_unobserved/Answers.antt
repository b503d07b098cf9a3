use Rattle.std.proofs.Common.{◌++◌, [], length, take, drop, slice_set, refl, sym, ap, ◌∙◌, subst, append-nil}
use Rattle.rmeworld.proofs.Common.{Access, refill, words_of, Stepped, Advances, silent_outcome, IsWorld, words_by, cells_by, the_deed, WorldState}
use Rattle.rmeworld.proofs.Taken.{IsNext, Fed, reports_by, stays, takes}
use Rattle.rmeworld.proofs.world.World.step_unobserved.Goals as goal

abbrev new : goal.After-self-4-1 → WorldState
new c = record {
  layout = c.self.inside.layout;
  limit = c.self.inside.limit;
  words = take c.self.inside.words.len (c.store.new.words ++ drop (length c.store.new.words) c.self.inside.words.items);
  cells = take c.self.inside.cells.len (c.store.new.cells ++ drop (length c.store.new.cells) c.self.inside.cells.items);
  processes = slice_set c.self.inside.processes.items c.args.p c.feed_silently.new.self;
  tallies = slice_set c.self.inside.tallies.items c.args.p c.count.new.self;
  history = c.self.inside.history.items;
}

next : (c : goal.After-self-4-1) → IsNext c.args.self.now c.args.p c.in-Ok.step.access c.in-Ok.step.found
next c = let it = c.in-Ok.ensures in record { below = it.below; access = it.access; least = it.least; found = it.found }

-- the report: no deed, and no answer
abbrev reports : goal.After-self-4-1 → Stepped
reports c = record (reports_by c.args.self.now c.args.p c.in-Ok.step.access c.in-Ok.step.found (silent_outcome c.in-Some.blocked)) { deed = the_deed [] }

fed : (c : goal.After-self-4-1) → Fed c.args.self.now c.args.p c.in-Ok.step.access c.in-Ok.step.found (silent_outcome c.in-Some.blocked) (reports c) (new c)
fed c =
    let a : Access = c.in-Ok.step.access in
    let mail = c.if-not-puts_silently.ensures refl c.self.inside.layout c.args.p (words_of c.self.inside.cells.items) in
    subst (λ s. Fed s c.args.p a c.in-Ok.step.found (silent_outcome c.in-Some.blocked) (reports c) (new c)) c.self.view_is (record {
      before = c.index_mut.result.now;
      after = c.feed_silently.new.self;
      tally = c.index_mut-2.result.now;
      here = c.index_mut.ensures.value;
      there = c.index_mut-2.ensures.value;
      exact = c.in-Some.ensures.exact refl;
      process_state = c.in-Some.ensures.process_state refl;
      what = sym c.in-Some.ensures.outcome;
      layout = refl;
      limit = refl;
      words = refill _ _ _ (c.store.auto.words ∙ c.deref_mut.ensures.len) ∙ c.store.ensures.words ∙ ap (λ ws. words_by ws a) c.deref_mut.ensures.value;
      cells = refill _ _ _ (c.store.auto.cells ∙ c.deref_mut-2.ensures.len) ∙ c.store.ensures.cells ∙ ap (λ ws. cells_by ws a) c.deref_mut-2.ensures.value;
      processes = refl;
      tallies = ap (slice_set c.self.inside.tallies.items c.args.p) c.count.ensures;
      history = sym (append-nil c.self.inside.history.items) ∙ ap (λ ds. c.self.inside.history.items ++ ds) (sym mail);
      tells = ap (λ ds. record (reports c) { deed = the_deed ds }) (sym mail);
    })

pub invariant_of-self-2 : goal.invariant_of-self-2
invariant_of-self-2 c = stays (subst IsWorld c.self.view_is c.self.invariant) (next c) (fed c)

taken : (c : goal.After-self-4-1) → Advances c.args.self.now c.args.p (reports c) (new c)
taken c = takes (subst IsWorld c.self.view_is c.self.invariant) (next c) (fed c)

pub returns-clause-silent : goal.returns-clause-silent
returns-clause-silent c = λ _. (ap (λ (x : Stepped). x.deed) (sym (taken c).reports), ap (λ (x : Stepped). x.answer) (sym (taken c).reports))

pub returns-clause-ok : goal.returns-clause-ok
returns-clause-ok c = λ _. (taken c).ok
