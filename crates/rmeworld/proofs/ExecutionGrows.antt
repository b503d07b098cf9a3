-- An execution with one more event that is allowed is an execution. A process's state follows from its own events.
use Rattle.std.proofs.Common.{◌≡◌, ℕ, true, false, ◌==◌, List, [], ◌∷◌, ◌++◌, unwrap_or, refl, sym, ap, ◌∙◌, subst, inl, inr, eq-eqb, ne_eqb, append-nil, append_assoc}
use Rattle.rmeworld.proofs.Common.{cases_eq, put_same, put_other, Deed, Layout, IsReached, WorldEvent, who, next_process_state, event_deeds, GlobalState, Execution, state_after_event, last_global_state, deeds, Can, own_world_events}
use Rattle.rmeworld.specs.World.{process_state_after}

module _ (l : Layout) (limit : ℕ) where
  pub execution_more : (w : GlobalState) (es : List WorldEvent) (e : WorldEvent) → Execution l limit w es → Can l limit (last_global_state l limit w es) e → Execution l limit w (es ++ e ∷ [])
  execution_more w [] e execution can = (can, tt)
  execution_more w (x ∷ es) e execution can = (execution.0, execution_more (state_after_event l limit w x) es e execution.1 can)

  pub last_more : (w : GlobalState) (es : List WorldEvent) (e : WorldEvent) → last_global_state l limit w (es ++ e ∷ []) ≡ state_after_event l limit (last_global_state l limit w es) e
  last_more w [] e = refl
  last_more w (x ∷ es) e = last_more (state_after_event l limit w x) es e

  pub deeds_more : (w : GlobalState) (es : List WorldEvent) (e : WorldEvent) → deeds l limit w (es ++ e ∷ []) ≡ deeds l limit w es ++ event_deeds l (last_global_state l limit w es) e
  deeds_more w [] e = append-nil (event_deeds l w e)
  deeds_more w (x ∷ es) e = ap (λ ds. event_deeds l w x ++ ds) (deeds_more (state_after_event l limit w x) es e) ∙ sym (append_assoc (event_deeds l w x) _ _)

  -- the global state is the last of an execution from a first one, and the history is its deeds
  pub record Comes (first w : GlobalState) (history : List Deed) : Type 0 where
    pub execution : List WorldEvent
    pub reports : Execution l limit first execution
    pub last : last_global_state l limit first execution ≡ w
    pub done : deeds l limit first execution ≡ history

  pub comes_more : (first w : GlobalState) (history : List Deed) (e : WorldEvent) → Comes first w history → Can l limit w e → Comes first (state_after_event l limit w e) (history ++ event_deeds l w e)
  comes_more first w history e r can =
      record {
        execution = r.execution ++ e ∷ [];
        reports = execution_more first r.execution e r.reports (subst (λ x. Can l limit x e) (sym r.last) can);
        last = last_more first r.execution e ∙ ap (λ x. state_after_event l limit x e) r.last;
        done = deeds_more first r.execution e ∙ (λ i. r.done i ++ event_deeds l (r.last i) e);
      }

  pub reached_more : (w : GlobalState) (history : List Deed) (e : WorldEvent) → IsReached l limit w history → Can l limit w e → IsReached l limit (state_after_event l limit w e) (history ++ event_deeds l w e)
  reached_more w history e r can =
      let c = comes_more r.first w history e (record { execution = r.execution; reports = r.reports; last = r.last; done = r.done }) can in
      record { first = r.first; state = r.state; origin = r.origin; execution = c.execution; reports = c.reports; last = c.last; done = c.done }

  pub process_states_are_own : (p : ℕ) (w : GlobalState) (es : List WorldEvent) → (last_global_state l limit w es).process_states p ≡ process_state_after l limit (w.process_states p) (own_world_events p es)
  process_states_are_own p w [] = refl
  process_states_are_own p w (e ∷ es) =
      elim (cases_eq (who e) p) [
        | inl same ↦
            let is : (who e == p) ≡ true = eq-eqb (who e) p same in
            let here : (state_after_event l limit w e).process_states p ≡ unwrap_or (next_process_state l limit (w.process_states p) e) (w.process_states p) =
            subst (λ q. (state_after_event l limit w e).process_states q ≡ unwrap_or (next_process_state l limit (w.process_states q) e) (w.process_states q)) same (put_same w.process_states (who e) _) in
            rw is (process_states_are_own p (state_after_event l limit w e) es ∙ ap (λ s. process_state_after l limit s (own_world_events p es)) here)
        | inr ne ↦
            let is : (who e == p) ≡ false = ne_eqb (who e) p ne in
            rw is (process_states_are_own p (state_after_event l limit w e) es ∙ ap (λ s. process_state_after l limit s (own_world_events p es)) (put_other w.process_states (who e) _ p (λ f. ne (sym f))))
      ]
