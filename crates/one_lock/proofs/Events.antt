-- The events of a call's own steps, and the table of replies.
use Rattle.std.proofs.Common.{◌≡◌, ℕ, ◌≤◌, List, [], ◌∷◌, ◌++◌, Option, Some, IsSome, unwrap_or, refl, sym, ap, ◌∙◌, subst, append_assoc}
use Rattle.rmecore.specs.declared.access.Access.{Access}
use Rattle.rmecore.specs.declared.happened.Happened.{Happened}
use Rattle.redomail.specs.declared.layout.Layout.{Layout}
use Rattle.rmeworld.specs.declared.answer.Answer.{Answer}
use Rattle.rmeworld.specs.declared.call.Call.{Call}
use Rattle.rmeworld.specs.CallWalk.{next_or_same, answer_to, last_process_state}
use Rattle.rmeworld.specs.MachineState.{MachineState, process_state_of, next_access, outcome, machine_after_step, machine_after_start, world_event}
use Rattle.rmeworld.specs.ProcessState.{ProcessState, WorldEvent, Begins, next_process_state}
use Rattle.rmeworld.specs.ReplyEvents.{IsMove, Follow, HasEvents}
use Rattle.rmeworld.specs.ScriptStates.{script_state_of}
use Rattle.rmeworld.specs.WorldState.{HasConfiguration}
use Rattle.rmeworld.proofs.ReplyEvents.{answers_have_their_events}
use Rattle.rmeworld.proofs.WorldTallies.{no_glance}
use Rattle.one_lock.proofs.Common.{Setup, IsReportedStep, HasTakenSteps, Accepts, IsEventOf, crashed_if, opened_machine, moved_machine, answer_with, first_of, later_opening, opening_after, machine_after, event_if, events_along}
use Rattle.one_lock.proofs.OwnSteps.{keeps_crashed, keeps_opened, keeps_taken}
use Rattle.one_lock.specs.declared.opening.Opening.{Opening}
use Rattle.one_lock.specs.declared.member_state.MemberState.{MemberState}

further_after : (vs : List ℕ) → opening_after later_opening vs ≡ later_opening
further_after [] = refl
further_after (v ∷ vs) = refl

-- one step more
events_more : (o : Opening) (s : MachineState) (vs : List ℕ) (v : ℕ)
    → events_along o s (vs ++ v ∷ []) ≡ events_along o s vs ++ event_if (opened_machine (opening_after o vs) (machine_after o s vs)) (next_access (opened_machine (opening_after o vs) (machine_after o s vs))) v
events_more o s [] v = end (event_if (opened_machine o s) (next_access (opened_machine o s)) v)
  where
    end : (es : List WorldEvent) → es ++ [] ≡ es
    end [] = refl
    end (e ∷ es) = ap (λ (xs : List WorldEvent). e ∷ xs) (end es)
events_more o s (w ∷ ws) v =
    let t = moved_machine o s w in
    let front = event_if (opened_machine o s) (next_access (opened_machine o s)) w in
    let last : Opening → List WorldEvent = λ x. event_if (opened_machine x (machine_after later_opening t ws)) (next_access (opened_machine x (machine_after later_opening t ws))) v in
    ap (λ (es : List WorldEvent). front ++ es) (events_more later_opening t ws v ∙ ap (λ (x : Opening). events_along later_opening t ws ++ last x) (further_after ws))
    ∙ sym (append_assoc front (events_along later_opening t ws) (last later_opening))

module _ (l : Layout) (limit p : ℕ) where
  -- a machine of p, in a world of these sizes
  abbrev IsIts : MachineState → Type 0
  IsIts s = HasConfiguration l limit p s

  its_more : (s t : MachineState) → IsIts s → HasConfiguration s.layout s.limit s.index t → IsIts t
  its_more s t a b = (b.0 ∙ a.0, b.1 ∙ a.1, b.2 ∙ a.2)

  -- the event of a step with this value
  record IsEvent (s : MachineState) (v : ℕ) : Type 0 where
    event : WorldEvent
    is : event_if s (next_access s) v ≡ event ∷ []
    move : IsMove p event
    some : IsSome (next_process_state l limit (process_state_of s) event)
    next : next_or_same l limit (process_state_of s) event ≡ process_state_of (machine_after_step s v)
    answer : answer_to (process_state_of s) event ≡ (outcome s (next_access s) v).answer

  event_of : (s : MachineState) (h : Happened) → IsIts s → IsEventOf s h → IsEvent s h.value
  event_of s h its e =
      let a = e.access in
      let moves = no_glance s.limit s.index s.lock (script_state_of s.script_state) a e.next in
      record {
        event = world_event s a h.value;
        is = ap (λ (o : Option Access). event_if s o h.value) e.next;
        move = (its.2, moves);
        some = subst (λ (z : Layout × ℕ). IsSome (next_process_state z.0 z.1 (process_state_of s) (world_event s a h.value))) (λ i. (its.0 i, its.1 i)) e.allowed;
        next = ap (λ (z : Layout × ℕ). next_or_same z.0 z.1 (process_state_of s) (world_event s a h.value)) (λ i. (sym its.0 i, sym its.1 i)) ∙ sym e.process_state;
        answer = ap (λ (o : Option Access). (outcome s o h.value).answer) (sym e.next);
      }

  given : (named : Option Setup) (q : ℕ) (o : Opening) (s : MachineState) (v : ℕ) → IsIts s → IsReportedStep named q o s v → IsEvent (opened_machine o s) v
  given named q o s v its g = subst (IsEvent (opened_machine o s)) g.value (event_of (opened_machine o s) g.turn.happened (its_more s (opened_machine o s) its (keeps_opened o s)) g.mirrors.event)

  -- from a process state to another
  abbrev Leads : ProcessState → List WorldEvent → ProcessState → Type 0
  Leads x es y = Follow l limit p x es × (last_process_state l limit x es ≡ y)

  leads_on : (x : ProcessState) (e : WorldEvent) (es : List WorldEvent) (y z : ProcessState) → IsMove p e → IsSome (next_process_state l limit x e) → next_or_same l limit x e ≡ y → Leads y es z → Leads x (e ∷ es) z
  leads_on x e es y z move some next rest =
      ((move, some, subst (λ (q : ProcessState). Follow l limit p q es) (sym next) rest.0), ap (λ (q : ProcessState). last_process_state l limit q es) next ∙ rest.1)

  -- the steps with these values lead from the machine's process state to that of the machine after them
  steps_lead : (named : Option Setup) (q : ℕ) (o : Opening) (s : MachineState) (vs : List ℕ) → IsIts s → HasTakenSteps named q o s vs → Leads (process_state_of (opened_machine o s)) (events_along o s vs) (process_state_of (opened_machine (opening_after o vs) (machine_after o s vs)))
  steps_lead named q o s [] its taken = (tt, refl)
  steps_lead named q o s (v ∷ vs) its taken =
      let t = moved_machine o s v in
      let e = given named q o s v its taken.0 in
      let here : IsIts t = its_more (opened_machine o s) t (its_more s (opened_machine o s) its (keeps_opened o s)) (keeps_taken (opened_machine o s) v) in
      let rest = steps_lead named q later_opening t vs here taken.2 in
      let end : process_state_of (opened_machine (opening_after later_opening vs) (machine_after later_opening t vs)) ≡ process_state_of (machine_after later_opening t vs) = ap (λ (x : Opening). process_state_of (opened_machine x (machine_after later_opening t vs))) (further_after vs) in
      let on : Leads (process_state_of t) (events_along later_opening t vs) (process_state_of (machine_after later_opening t vs)) = subst (λ (y : ProcessState). Leads (process_state_of t) (events_along later_opening t vs) y) end rest in
      subst (λ (es : List WorldEvent). Leads (process_state_of (opened_machine o s)) (es ++ events_along later_opening t vs) (process_state_of (machine_after later_opening t vs))) (sym e.is) (leads_on (process_state_of (opened_machine o s)) e.event (events_along later_opening t vs) (process_state_of t) (process_state_of (machine_after later_opening t vs)) e.move e.some e.next on)

  follow_more : (x y : ProcessState) (es : List WorldEvent) (e : WorldEvent) → Leads x es y → IsMove p e → IsSome (next_process_state l limit y e) → Follow l limit p x (es ++ e ∷ [])
  follow_more x y [] e leads move some = (move, subst (λ (q : ProcessState). IsSome (next_process_state l limit q e)) (sym leads.1) some, tt)
  follow_more x y (d ∷ es) e leads move some = (leads.0.0, leads.0.1, follow_more (next_or_same l limit x d) y es e (leads.0.2, leads.1) move some)

  its_after : (o : Opening) (s : MachineState) (vs : List ℕ) → IsIts s → IsIts (machine_after o s vs)
  its_after o s [] its = its
  its_after o s (v ∷ vs) its =
      its_after later_opening (moved_machine o s v) vs (its_more (opened_machine o s) (moved_machine o s v) (its_more s (opened_machine o s) its (keeps_opened o s)) (keeps_taken (opened_machine o s) v))

  -- the start of the call
  accepted : (named : Option Setup) (q : ℕ) (o : Opening) (s : MachineState) (vs : List ℕ) (v : ℕ) → HasTakenSteps named q o s vs → IsReportedStep named q (opening_after o vs) (machine_after o s vs) v → Accepts o.call (crashed_if o.crash s)
  accepted named q o s [] v taken g = g.mirrors.accepts
  accepted named q o s (w ∷ ws) v taken g = taken.0.mirrors.accepts

  -- the events of a call that is answered are those of the table
  pub has_events : (named : Option Setup) (q : ℕ) (standing : MemberState) (call : Call) (s : MachineState) (vs : List ℕ) (v : ℕ) (a : Answer) → 1 ≤ limit → IsIts s → HasTakenSteps named q (first_of standing call) s vs
      → IsReportedStep named q (opening_after (first_of standing call) vs) (machine_after (first_of standing call) s vs) v → answer_with (opening_after (first_of standing call) vs) (machine_after (first_of standing call) s vs) v ≡ Some a
      → HasEvents l limit p (crashed_if (first_of standing call).crash s).mended call a (events_along (first_of standing call) s (vs ++ v ∷ []))
  has_events named q standing call s vs v a number its taken g is =
      let o = first_of standing call in
      let dead = crashed_if o.crash s in
      let x = process_state_of dead in
      let at = opened_machine (opening_after o vs) (machine_after o s vs) in
      let e = given named q (opening_after o vs) (machine_after o s vs) v (its_after o s vs its) g in
      let begun = its_more s dead its (keeps_crashed o.crash s) in
      let start = accepted named q o s vs v taken g in
      let starts : next_process_state l limit x (Begins p call) ≡ Some (process_state_of (machine_after_start dead call)) = ap (λ (z : Layout × ℕ × ℕ). next_process_state z.0 z.1 x (Begins z.2 call)) (λ i. (sym begun.0 i, sym begun.1 i, sym begun.2 i)) ∙ start in
      let some : IsSome (next_process_state l limit x (Begins p call)) = subst (λ (r : Option ProcessState). IsSome r) (sym starts) refl in
      let first : process_state_of (machine_after_start dead call) ≡ next_or_same l limit x (Begins p call) = ap (λ (r : Option ProcessState). unwrap_or r x) (sym starts) in
      let leads : Leads (process_state_of (machine_after_start dead call)) (events_along o s vs) (process_state_of at) = steps_lead named q o s vs its taken in
      let follow : Follow l limit p (next_or_same l limit x (Begins p call)) (events_along o s vs ++ e.event ∷ []) = subst (λ (y : ProcessState). Follow l limit p y (events_along o s vs ++ e.event ∷ [])) first (follow_more (process_state_of (machine_after_start dead call)) (process_state_of at) (events_along o s vs) e.event leads e.move e.some) in
      let ends : last_process_state l limit (next_or_same l limit x (Begins p call)) (events_along o s vs) ≡ process_state_of at = ap (λ (y : ProcessState). last_process_state l limit y (events_along o s vs)) (sym first) ∙ leads.1 in
      let answer : answer_to (last_process_state l limit (next_or_same l limit x (Begins p call)) (events_along o s vs)) e.event ≡ Some a = ap (λ (y : ProcessState). answer_to y e.event) ends ∙ e.answer ∙ is in
      let all : events_along o s (vs ++ v ∷ []) ≡ events_along o s vs ++ e.event ∷ [] = events_more o s vs v ∙ ap (λ (es : List WorldEvent). events_along o s vs ++ es) e.is in
      subst (HasEvents l limit p x.mended call a) (sym all) (answers_have_their_events l limit p x call (events_along o s vs) e.event a number some follow answer)
