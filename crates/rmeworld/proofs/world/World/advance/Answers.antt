use Rattle.std.proofs.Common.{◌≡◌, ◌++◌, length, take, drop, slice_set, refl, sym, ap, ◌∙◌, subst}
use Rattle.rmeworld.proofs.Common.{Access, kind_of, word_of, carried_value, refill, words_of, Advances, IsWorld, or_else, mail_by, words_by, cells_by, the_deed, list_of, WorldState}
use Rattle.rmeworld.proofs.Taken.{IsNext, Fed, stays, takes}
use Rattle.rmeworld.proofs.Worlds.{the_one}
use Rattle.rmeworld.proofs.world.World.advance.Goals as goal

abbrev new : goal.After-step_report → WorldState
new c = record {
  layout = c.self.inside.layout;
  limit = c.self.inside.limit;
  words = take c.self.inside.words.len (c.store.new.words ++ drop (length c.store.new.words) c.self.inside.words.items);
  cells = take c.self.inside.cells.len (c.store.new.cells ++ drop (length c.store.new.cells) c.self.inside.cells.items);
  processes = slice_set c.self.inside.processes.items c.args.p c.feed-outcome.new.self;
  tallies = slice_set c.self.inside.tallies.items c.args.p c.count.new.self;
  history = c.note.new.history.items;
}

next : (c : goal.After-step_report) → IsNext c.args.self.now c.args.p c.in_ok-step.step.access c.in_ok-step.step.found
next c = let it = c.in_ok-step.ensures in record { below = it.below; access = it.access; least = it.least; found = it.found }

fed : (c : goal.After-step_report) → Fed c.args.self.now c.args.p c.in_ok-step.step.access c.in_ok-step.step.found c.feed-outcome.result c.step_report.result (new c)
fed c =
    let a : Access = c.in_ok-step.step.access in
    let o = c.feed-outcome.result in
    let deeds : list_of c.deed_of-deed.result ≡ or_else o.progress.outer (mail_by c.self.inside.layout c.args.p (words_of c.self.inside.cells.items) a) =
    sym c.deed_of-deed.ensures ∙ ap (λ cells. or_else o.progress.outer (mail_by c.self.inside.layout c.args.p (words_of cells) a)) c.deref-2.ensures.value in
    let deed = sym (the_one c.deed_of-deed.result) ∙ ap the_deed deeds in
    subst (λ s. Fed s c.args.p a c.in_ok-step.step.found o c.step_report.result (new c)) c.self.view_is (record {
      before = c.index_mut.result.now;
      after = c.feed-outcome.new.self;
      tally = c.index_mut-2.result.now;
      here = c.index_mut.ensures.value;
      there = c.index_mut-2.ensures.value;
      exact = c.feed-outcome.ensures.exact;
      process_state = c.feed-outcome.ensures.process_state;
      what = c.feed-outcome.ensures.outcome;
      layout = refl;
      limit = refl;
      words = refill _ _ _ (c.store.auto.words ∙ c.deref_mut.ensures.len) ∙ c.store.ensures.words ∙ ap (λ ws. words_by ws a) c.deref_mut.ensures.value;
      cells = refill _ _ _ (c.store.auto.cells ∙ c.deref_mut-2.ensures.len) ∙ c.store.ensures.cells ∙ ap (λ ws. cells_by ws a) c.deref_mut-2.ensures.value;
      processes = refl;
      tallies = ap (slice_set c.self.inside.tallies.items c.args.p) c.count.ensures;
      history = c.note.ensures ∙ (λ i. c.in_ok-make_room.ensures.same i ++ deeds i);
      tells = c.step_report.ensures ∙ (λ i. record {
        happened = record { kind = kind_of a; word = word_of a; value = carried_value a c.in_ok-step.step.found; outer = o.progress.outer; done = o.progress.done };
        deed = deed i;
        answer = o.answer;
      });
    })

pub invariant_of-self-2 : goal.invariant_of-self-2
invariant_of-self-2 c = stays (subst IsWorld c.self.view_is c.self.invariant) (next c) (fed c)

taken : (c : goal.After-step_report) → Advances c.args.self.now c.args.p c.step_report.result (new c)
taken c = takes (subst IsWorld c.self.view_is c.self.invariant) (next c) (fed c)

pub returns-clause-step : goal.returns-clause-step
returns-clause-step c = (taken c).step

pub returns-clause-kind : goal.returns-clause-kind
returns-clause-kind c = (taken c).kind

pub returns-clause-least : goal.returns-clause-least
returns-clause-least c = (taken c).least

pub returns-clause-reports : goal.returns-clause-reports
returns-clause-reports c = (taken c).reports

pub returns-clause-ok : goal.returns-clause-ok
returns-clause-ok c = (taken c).ok

pub returns-clause-taken : goal.returns-clause-taken
returns-clause-taken c = (taken c).taken
