-- What is known of the world under the mutex stays known after each event.
use Rattle.std.proofs.Common.{◌≡◌, ℕ, ◌+◌, List, [], ◌∷◌, ◌++◌, refl, sym, ap, ◌∙◌, subst, arith, Option, Some, None}
use Rattle.one_lock.proofs.Common.{WorldEvent, Begins, Falls, Moves, Glances, WorldState, global_state_of, Takes, new_world, Setup, HasExecution, AreSizes, steps_of}
use Rattle.rmeworld.specs.World.{at_first, Can, state_after_event, Execution, last_global_state, event_deeds, deeds}
use Rattle.rmeworld.proofs.ExecutionGrows.{execution_more, last_more, deeds_more}
use Rattle.rmeworld.proofs.Worlds.{new_global_state}

pub steps_more : (es : List WorldEvent) (e : WorldEvent) → steps_of (es ++ e ∷ []) ≡ steps_of (e ∷ []) + steps_of es
steps_more [] (Begins p call) = refl
steps_more [] (Falls p) = refl
steps_more [] (Moves p kind word v) = refl
steps_more [] (Glances p word v) = refl
steps_more (Begins p call ∷ es) e = steps_more es e
steps_more (Falls p ∷ es) e = steps_more es e
steps_more (Moves p kind word v ∷ es) e = let r = steps_more es e in omega (arith, r)
steps_more (Glances p word v ∷ es) e = let r = steps_more es e in omega (arith, r)

pub reported_more : (s : WorldState) (n m : ℕ) (e : WorldEvent) (new : WorldState) → steps_of (e ∷ []) + n ≡ m → Takes s e new → HasExecution s n → HasExecution new m
reported_more s n m e new sum takes fact =
    let execution = fact.execution ++ e ∷ [] in
    record {
      execution = execution;
      fact = let can = subst (λ w. Can s.layout s.limit w e) (sym fact.last) takes.can in
          subst (λ k. Execution k new.limit at_first execution) (sym takes.layout)
          (subst (λ k. Execution s.layout k at_first execution) (sym takes.limit) (execution_more s.layout s.limit at_first fact.execution e fact.fact can));
      last = (λ i. last_global_state (takes.layout i) (takes.limit i) at_first execution) ∙ last_more s.layout s.limit at_first fact.execution e
          ∙ ap (λ w. state_after_event s.layout s.limit w e) fact.last ∙ sym takes.global_state;
      done = (λ i. deeds (takes.layout i) (takes.limit i) at_first execution) ∙ deeds_more s.layout s.limit at_first fact.execution e
          ∙ (λ i. fact.done i ++ event_deeds s.layout (fact.last i) e) ∙ sym takes.history;
      counted = steps_more fact.execution e ∙ ap (λ k. steps_of (e ∷ []) + k) fact.counted ∙ sum;
    }

-- a new world is the end of the empty execution
pub reported_first : (s : WorldState) → s ≡ new_world s.layout s.limit → HasExecution s 0
reported_first s is =
    record {
      execution = [];
      fact = tt;
      last = sym (new_global_state s.layout s.limit) ∙ ap global_state_of (sym is);
      done = ap (λ (w : WorldState). w.history) (sym is);
      counted = refl;
    }

-- no event changes the sizes
pub still_sized : (named : Option Setup) (s : WorldState) (e : WorldEvent) (new : WorldState) → Takes s e new → AreSizes named s.layout s.limit → AreSizes named new.layout new.limit
still_sized None s e new takes are = tt
still_sized (Some named) s e new takes are = (takes.layout ∙ are.0, takes.limit ∙ are.1)
