-- The lock theorem over a run: where an append is answered it is shown.
use Rattle.std.proofs.Common.{◌≡◌, ℕ, Bool, true, false, ◌⊎◌, List, [], ◌∷◌, ◌++◌, Option, None, refl, sym, ap, ◌∙◌, subst, inl, inr, append_assoc, append-nil, eq-eqb}
use Rattle.table_runs.proofs.Common.{Layout, Message, Reply, Stored, Already, IsAmong, Script, Done, tail, all_after, State, empty_state, state_led, Call, Working, answer_by, ScriptState, Doing, ProcessState, WorldEvent}
use Rattle.table_runs.proofs.Common.{Moves, GlobalState, at_first, last_global_state, state_after_event, event_deeds, deeds, own_world_events, all_after-append, sound_ends, answers, TakenStep, Setup, deeds_of, judged_by, shown_by}
use Rattle.table_runs.proofs.Common.{process_state_at, AppendIsShown, before, access_event, events_of_run, end_of, process_state_past}
use Rattle.redomail.specs.declared.task.Task.TheVariants as task
use Rattle.rmeworld.specs.Law.{AppendTells, ScriptStateTells, EventEndsAppend, Sound, Sits}
use Rattle.rmeworld.proofs.ExecutionGrows.{process_states_are_own}
use Rattle.table_runs.proofs.Runs.{spelled-append, spelled_snoc, process_state_in_run, global_state-append}
use Rattle.table_runs.proofs.Running.{taken_moves}

-- what a sound execution says of the event at some place in it
pub tells_at : (l : Layout) (limit : ℕ) (w : GlobalState) (s : State) (xs : List WorldEvent) (h : WorldEvent) (ys : List WorldEvent) → Sound l limit w s (xs ++ h ∷ ys) → EventEndsAppend (last_global_state l limit w xs) h (all_after s (deeds l limit w (xs ++ h ∷ []))).mail.shown
tells_at l limit w s [] h ys k =
    let g = k.1 in
    subst (λ (t : State). EventEndsAppend w h t.mail.shown) (state_led s g.0 (event_deeds l w h) g.1 ∙ ap (all_after s) (sym (append-nil (event_deeds l w h)))) g.2
tells_at l limit w s (x ∷ xs) h ys k =
    let g = k.1 in
    let later = tells_at l limit (state_after_event l limit w x) g.0 xs h ys g.3 in
    let rest = deeds l limit (state_after_event l limit w x) (xs ++ h ∷ []) in
    let there : all_after g.0 rest ≡ all_after s (event_deeds l w x ++ rest) = ap (λ (t : State). all_after t rest) (state_led s g.0 (event_deeds l w x) g.1) ∙ sym (all_after-append s (event_deeds l w x) rest) in
    subst (λ (t : State). EventEndsAppend (last_global_state l limit (state_after_event l limit w x) xs) h t.mail.shown) there later

-- a process's own crash and start
own_before : (c : Bool) (o : Option Call) (q : ℕ) → own_world_events q (before c o q) ≡ before c o q
own_before false None q = refl
own_before true None q = rw (eq-eqb q q refl) refl
own_before _ _ q = rw (eq-eqb q q refl) refl

-- the global state right before the step of e, after these entries
abbrev pub global_state_at : Setup → List TakenStep → TakenStep → GlobalState
global_state_at s es e = last_global_state s.layout s.limit (end_of s es) (before e.step.crashed e.step.start e.by)

pub process_state_is : (s : Setup) (es : List TakenStep) (e : TakenStep) → (global_state_at s es e).process_states e.by ≡ process_state_at s es e
process_state_is s es e =
    process_states_are_own s.layout s.limit e.by (end_of s es) (before e.step.crashed e.step.start e.by) ∙ ap (process_state_past s ((end_of s es).process_states e.by)) (own_before e.step.crashed e.step.start e.by)
    ∙ ap (λ (q : ProcessState). process_state_past s q (before e.step.crashed e.step.start e.by)) (process_state_in_run s es e.by)

-- how far a run is spelled out before the step of e
pub spelled_to : (s : Setup) (es : List TakenStep) (e : TakenStep) → events_of_run (es ++ e ∷ []) ≡ (events_of_run es ++ before e.step.crashed e.step.start e.by) ++ access_event e.by e.step.kind e.step.word e.value ∷ []
spelled_to s es e = spelled_snoc es e ∙ sym (append_assoc (events_of_run es) (before e.step.crashed e.step.start e.by) (access_event e.by e.step.kind e.step.word e.value ∷ []))

append_shown : (p seq : ℕ) (reply : Reply) (shown : List Message) → AppendTells p seq (Done reply) shown → (reply ≡ Stored) ⊎ (reply ≡ Already) → IsAmong p seq shown
append_shown p seq reply shown tells (inl e) = subst (λ (r : Reply). AppendTells p seq (Done r) shown) e tells
append_shown p seq reply shown tells (inr e) = subst (λ (r : Reply). AppendTells p seq (Done r) shown) e tells

pub answered : (s : Setup) (es : List TakenStep) → Sound s.layout s.limit at_first (empty_state s.layout.procs s.layout.cap) (events_of_run es) → AppendIsShown s es
answered s es sound front e back seq reply split ends stored =
    let l = s.layout in
    let hs = events_of_run front ++ before e.step.crashed e.step.start e.by in
    let h = access_event e.by e.step.kind e.step.word e.value in
    let whole : events_of_run es ≡ hs ++ h ∷ events_of_run back = ap events_of_run split ∙ spelled-append (front ++ e ∷ []) back ∙ ap (λ (xs : List WorldEvent). xs ++ events_of_run back) (spelled_to s front e) ∙ append_assoc hs (h ∷ []) (events_of_run back) in
    let reports = tells_at l s.limit at_first (empty_state l.procs l.cap) hs h (events_of_run back) (subst (Sound l s.limit at_first (empty_state l.procs l.cap)) whole sound) in
    let here : last_global_state l s.limit at_first hs ≡ global_state_at s front e = global_state-append l s.limit at_first (events_of_run front) (before e.step.crashed e.step.start e.by) in
    let deeds_are : deeds l s.limit at_first (hs ++ h ∷ []) ≡ deeds_of s (front ++ e ∷ []) = ap (deeds l s.limit at_first) (sym (spelled_to s front e)) in
    let shown : List Message = shown_by s (front ++ e ∷ []) in
    let moved : EventEndsAppend (global_state_at s front e) (Moves e.by e.step.kind e.step.word e.value) shown =
    subst (λ (t : GlobalState × WorldEvent × List Message). EventEndsAppend t.0 t.1 t.2) (λ i. (here i, taken_moves e.by e.step.kind e.step.word e.value ends.step i, (all_after (empty_state l.procs l.cap) (deeds_are i)).mail.shown)) reports in
    let at_script_state : ScriptStateTells e.by (Doing (Working (task.Append seq ends.value)) ends.left) e.value shown = subst (λ (x : ScriptState). ScriptStateTells e.by x e.value shown) (ap (λ (q : ProcessState). q.script_state) (process_state_is s front e) ∙ ends.append) moved in
    let process_state = process_state_at s front e in
    let done : tail ends.left e.value ≡ Done reply =
    answers (task.Append seq ends.value) process_state.mended (tail ends.left e.value) reply (ap (λ (x : ScriptState). answer_by process_state.lock process_state.mended process_state.barred x e.step.kind e.value) (sym ends.append) ∙ ends.answer) in
    append_shown e.by seq reply shown (subst (λ (r : Script Reply). AppendTells e.by seq r shown) done at_script_state) stored

pub words_sit : (s : Setup) (es : List TakenStep) → Sound s.layout s.limit at_first (empty_state s.layout.procs s.layout.cap) (events_of_run es) → Sits s.layout (end_of s es).cells (judged_by s es)
words_sit s es sound =
    let l = s.layout in
    let r = sound_ends l s.limit at_first (empty_state l.procs l.cap) (events_of_run es) sound in
    subst (Sits l (end_of s es).cells) (state_led (empty_state l.procs l.cap) r.0 (deeds_of s es) r.1) r.2
