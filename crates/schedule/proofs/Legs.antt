-- Executions one after the other, and what they report.
use Rattle.std.proofs.Common.{◌≡◌, ℕ, List, [], ◌∷◌, ◌++◌, map, Option, Some, None, refl, sym, ap, ◌∙◌, subst, append_assoc, append-nil}
use Rattle.schedule.proofs.ReplaysCommon.{Deed, Answer, WorldState, global_state_of, Takes, deeds_of, LockReport, Did, answer_reports}
use Rattle.redomail.specs.declared.layout.Layout.{Layout}
use Rattle.rmeworld.specs.CallWalk.{answer_to}
use Rattle.rmeworld.specs.ProcessState.{WorldEvent, who}
use Rattle.rmeworld.specs.World.{GlobalState, Can, state_after_event, Execution, last_global_state, event_deeds, deeds}
use Rattle.schedule.specs.Executions.{reported_at, reports_in}
use Rattle.schedule.proofs.Playing.{deeds_append}

module _ (l : Layout) (limit : ℕ) where
  execution_on : (w : GlobalState) (xs ys : List WorldEvent) → Execution l limit w xs → Execution l limit (last_global_state l limit w xs) ys → Execution l limit w (xs ++ ys)
  execution_on w [] ys first more = more
  execution_on w (x ∷ xs) ys first more = (first.0, execution_on (state_after_event l limit w x) xs ys first.1 more)

  last_on : (w : GlobalState) (xs ys : List WorldEvent) → last_global_state l limit w (xs ++ ys) ≡ last_global_state l limit (last_global_state l limit w xs) ys
  last_on w [] ys = refl
  last_on w (x ∷ xs) ys = last_on (state_after_event l limit w x) xs ys

  reported_on : (w : GlobalState) (xs ys : List WorldEvent) → reports_in l limit w (xs ++ ys) ≡ reports_in l limit w xs ++ reports_in l limit (last_global_state l limit w xs) ys
  reported_on w [] ys = refl
  reported_on w (x ∷ xs) ys = ap (λ ts. reported_at l w x ++ ts) (reported_on (state_after_event l limit w x) xs ys) ∙ sym (append_assoc (reported_at l w x) _ _)

  reported_deeds : (ds : List Deed) (p : ℕ) (answer : Option Answer) → deeds_of (map Did ds ++ answer_reports p answer) ≡ ds
  reported_deeds [] p None = refl
  reported_deeds [] p (Some answer) = refl
  reported_deeds (d ∷ ds) p answer = ap (λ (es : List Deed). d ∷ es) (reported_deeds ds p answer)

  -- the deeds in what an execution reports are its deeds
  pub execution_deeds : (w : GlobalState) (es : List WorldEvent) → deeds_of (reports_in l limit w es) ≡ deeds l limit w es
  execution_deeds w [] = refl
  execution_deeds w (e ∷ es) = deeds_append (reported_at l w e) (reports_in l limit (state_after_event l limit w e) es) ∙ (λ i. reported_deeds (event_deeds l w e) (who e) (answer_to (w.process_states (who e)) e) i ++ execution_deeds (state_after_event l limit w e) es i)

  -- these events lead from one global state to another, and report this
  pub record Leg (w u : GlobalState) (reports : List LockReport) (es : List WorldEvent) : Type 0 where
    pub may : Execution l limit w es
    pub last : last_global_state l limit w es ≡ u
    pub said : reports_in l limit w es ≡ reports

  pub leg_none : (w : GlobalState) → Leg w w [] []
  leg_none w = record { may = tt; last = refl; said = refl }

  pub leg_one : {s new : WorldState} {e : WorldEvent} → s.layout ≡ l → s.limit ≡ limit → Takes s e new → Leg (global_state_of s) (global_state_of new) (reported_at l (global_state_of s) e) (e ∷ [])
  leg_one {s = s} {new = new} {e = e} layout limited takes =
      let can = subst (λ x. Can x limit (global_state_of s) e) layout (subst (λ x. Can s.layout x (global_state_of s) e) limited takes.can) in
      record {
        may = (can, tt);
        last = sym (takes.global_state ∙ (λ i. state_after_event (layout i) (limited i) (global_state_of s) e));
        said = append-nil (reported_at l (global_state_of s) e);
      }

  pub leg_both : {w u v : GlobalState} {a b : List LockReport} {xs ys : List WorldEvent} → Leg w u a xs → Leg u v b ys → Leg w v (a ++ b) (xs ++ ys)
  leg_both {w = w} {a = a} {xs = xs} {ys = ys} one more =
      record {
        may = execution_on w xs ys one.may (subst (λ x. Execution l limit x ys) (sym one.last) more.may);
        last = last_on w xs ys ∙ ap (λ x. last_global_state l limit x ys) one.last ∙ more.last;
        said = reported_on w xs ys ∙ (λ i. one.said i ++ reports_in l limit (one.last i) ys) ∙ ap (λ t. a ++ t) more.said;
      }
