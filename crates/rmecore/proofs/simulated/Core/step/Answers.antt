use Rattle.std.proofs.Common.{◌≡◌, ◌++◌, length, take, drop, sym, ap, ◌∙◌, subst}
use Rattle.rmecore.proofs.Common.{kind_of, word_of, carried_value, InLock, words_performed, is_blocked, own_at, place_at, HasConfiguration, tally_at, tally_after_step, read}
use Rattle.rmecore.proofs.CoreSteps.{refill, Moves, core_frame, takes, configured_set, found_here, configuration_here, least_here, reached_more}
use Rattle.rmecore.proofs.CoreTallies.{tallied_step, answered_step, no_glance, counted_here, done_here}
use Rattle.rmecore.proofs.simulated.Core.step.Goals as goal

pub perform-value-requires : goal.perform-value-requires
perform-value-requires c =
    let configured = c.self.invariant.configured in
    let configuration = configuration_here configured c.args.p _ c.index_mut-process.ensures.value c.if-p-self.false in
    let each : c.index_mut-process.result.now.procs ≡ length c.deref_mut.result.now = configuration.0 ∙ sym configured.words_each ∙ sym (ap length c.deref_mut.ensures.value) in
    subst (λ n. InLock n (word_of c.in-Some.access)) each c.in-Some.ensures.within

-- the length of the words after they were borrowed
refilled : (c : goal.After-word) → take c.self.inside.words.len (c.perform-value.new.words ++ drop (length c.perform-value.new.words) c.self.inside.words.items) ≡ c.perform-value.new.words
refilled c = refill _ _ _ (c.perform-value.auto.words ∙ c.deref_mut.ensures.len)

moves : (c : goal.After-word) → Moves (core_frame c.self.inside.procs c.self.inside.limit c.args.p c.self.inside.processes.items) c.self.inside.words.items (take c.self.inside.words.len (c.perform-value.new.words ++ drop (length c.perform-value.new.words) c.self.inside.words.items)) c.index_mut-process.result.now c.feed-progress.new.self c.in-Some.access c.perform-value.result
moves c =
    record {
      here = found_here _ c.args.p _ _ c.index_mut-process.ensures.value c.if-p-self.false c.self.invariant.configured.processes_each;
      configuration = configuration_here c.self.invariant.configured c.args.p _ c.index_mut-process.ensures.value c.if-p-self.false;
      below = c.if-p-self.false;
      each = c.self.invariant.configured.processes_each;
      next = sym c.next.ensures.next ∙ c.in-Some.is;
      allowed = c.in-Some.ensures.allowed;
      value = c.perform-value.ensures.value ∙ ap (λ w. carried_value c.in-Some.access (read (own_at w) (word_of c.in-Some.access))) c.deref_mut.ensures.value;
      words_now = ap own_at (refilled c) ∙ c.perform-value.ensures.words ∙ ap (λ w. words_performed (own_at w) c.in-Some.access) c.deref_mut.ensures.value;
      moved = c.feed-progress.ensures.place;
    }

count : (c : goal.After-word) → c.count.new.self ≡ tally_after_step (tally_at c.self.inside.tallies.items c.args.p) (is_blocked c.args.p (place_at c.self.inside.processes.items c.args.p) (kind_of c.in-Some.access) c.perform-value.result)
count c = counted_here (moves c) c.self.inside.tallies.items c.self.invariant.configured.tallies_each c.index_mut.result.now c.index_mut.ensures.value c.feed-progress.result c.feed-progress.ensures.progress c.count.new.self c.count.ensures

pub invariant_of-self-2 : goal.invariant_of-self-2
invariant_of-self-2 c =
    let m = moves c in
    let configured = c.self.invariant.configured in
    let taken = takes m c.self.inside.tallies.items c.self.inside.tallies.items in
    record {
      configured = configured_set configured c.if-p-self.false _ _ _
          (ap length (refilled c) ∙ c.perform-value.auto.words ∙ ap length c.deref_mut.ensures.value ∙ configured.words_each)
          (subst (HasConfiguration _ _ _) (sym c.feed-progress.ensures.place) m.configuration);
      reached = reached_more taken c.self.invariant.reached;
      tallied = tallied_step c.self.invariant.reached configured.tallies_each c.self.invariant.tallied c.args.p _ _ _ taken (no_glance m) _ (count c);
    }

pub returns-clause-least : goal.returns-clause-least
returns-clause-least c = rw (← c.self.view_is, c.kind.ensures, c.word.ensures) (least_here _ _ _ _ _ c.in-Some.access (moves c).configuration (moves c).here c.in-Some.ensures.least)

pub returns-clause-step : goal.returns-clause-step
returns-clause-step c = rw (← c.self.view_is, c.kind.ensures, c.word.ensures) (takes (moves c) _ _)

pub returns-clause-reached : goal.returns-clause-reached
returns-clause-reached c = reached_more (takes (moves c) c.self.inside.tallies.items c.self.inside.tallies.items) c.self.invariant.reached

pub returns-clause-taken : goal.returns-clause-taken
returns-clause-taken c =
    let m = moves c in
    let configured = c.self.invariant.configured in
    let taken = takes m c.self.inside.tallies.items c.self.inside.tallies.items in
    rw (← c.self.view_is) (answered_step c.self.invariant.reached configured.tallies_each c.self.invariant.tallied c.args.p _ _ _ taken (no_glance m) _ (count c) _ (done_here m c.feed-progress.result c.feed-progress.ensures.progress))
