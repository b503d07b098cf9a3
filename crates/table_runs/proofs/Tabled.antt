-- The own steps of a member's call are those of the table.
use Rattle.std.proofs.Common.{◌≡◌, ℕ, suc, ◌+◌, ◌==◌, Bool, true, false, if◌then◌else◌, List, [], ◌∷◌, ◌++◌, length, Some, None, All, refl, sym, ap, ◌∙◌, subst, append_assoc, eqb-true, inl, inr}
use Rattle.table_runs.proofs.Common.{cases_Bool, All-nil, All-cons, All-head, All-tail, is_glance, Answer, Call, answer_at, blocked_by, next_or_same, and_answer, answers_in, blocked_in, last_process_state, WalksCall, call_begin, ProcessState, Begins}
use Rattle.table_runs.proofs.Common.{WorldEvent, Moves, GlobalState, Execution, own_world_events, TakenStep, Setup, FirstStart, AreMoves, FirstCrash, answers_of, blocked_of, answers_from, blocked_from, process_state_before}
use Rattle.table_runs.proofs.Common.{SeatView, Calls, before, access_event, world_events, events_of_run, entries_of, IsRun, end_of, process_state_past, process_state_of, crash_first, KeepsTable, words_begun, process_state_begun, CallsKeepTheTable}
use Rattle.rmeworld.proofs.CallWalks.{calls_take_their_steps}
use Rattle.table_runs.proofs.Runs.{own_spelled, process_state_in_run, legal_back}
use Rattle.table_runs.proofs.Leads.{gone-append}
use Rattle.table_runs.proofs.Running.{taken_moves}
use Rattle.table_runs.proofs.Walked.{OwnMoves, StartsAt, starts_never_crashes, starts_fallen}

-- entries of p as its steps
abbrev steps_of : ℕ → List TakenStep → List WorldEvent
steps_of p [] = []
steps_of p (e ∷ es) = Moves p e.step.kind e.step.word e.value ∷ steps_of p es

-- a step of p that is no glance and carries nothing
abbrev IsPlain : ℕ → TakenStep → Type 0
IsPlain p e = (e.by ≡ p) × (e.step.crashed ≡ false) × (e.step.start ≡ None) × (is_glance e.step.kind ≡ false)

abbrev ArePlain : ℕ → List TakenStep → Type 0
ArePlain p [] = Unit {0}
ArePlain p (e ∷ es) = IsPlain p e × ArePlain p es

plain_all : (p : ℕ) (es : List TakenStep) → All (λ (e : TakenStep). e.by ≡ p) es → All (λ (e : TakenStep). e.step.crashed ≡ false) es → All (λ (e : TakenStep). e.step.start ≡ None) es → AreMoves es → ArePlain p es
plain_all p [] by crashed start moves = tt
plain_all p (e ∷ es) by crashed start moves = (
  (All-head (λ (e : TakenStep). e.by ≡ p) e es by, All-head (λ (e : TakenStep). e.step.crashed ≡ false) e es crashed, All-head (λ (e : TakenStep). e.step.start ≡ None) e es start, All-head (λ (e : TakenStep). is_glance e.step.kind ≡ false) e es moves),
  plain_all p es (All-tail (λ (e : TakenStep). e.by ≡ p) e es by) (All-tail (λ (e : TakenStep). e.step.crashed ≡ false) e es crashed) (All-tail (λ (e : TakenStep). e.step.start ≡ None) e es start) (All-tail (λ (e : TakenStep). is_glance e.step.kind ≡ false) e es moves),
)

own_moves : (p : ℕ) (es : List TakenStep) → ArePlain p es → OwnMoves p (steps_of p es)
own_moves p [] plain = tt
own_moves p (e ∷ es) plain = ((refl, plain.0.3), own_moves p es plain.1)

steps_length : (p : ℕ) (es : List TakenStep) → length (steps_of p es) ≡ length es
steps_length p [] = refl
steps_length p (e ∷ es) = ap suc (steps_length p es)

-- the own entries are of the process
own_are : (p : ℕ) (es : List TakenStep) → All (λ (e : TakenStep). e.by ≡ p) (entries_of p es)
own_are p [] = All-nil _
own_are p (e ∷ es) =
    let later = own_are p es in
    elim (cases_Bool (e.by == p)) [ inl is ↦ rw is (All-cons (λ (e : TakenStep). e.by ≡ p) e (entries_of p es) (eqb-true e.by p is) later) | inr is ↦ rw is later ]

taken_own : (p : ℕ) (e : TakenStep) → e.by ≡ p → is_glance e.step.kind ≡ false → access_event e.by e.step.kind e.step.word e.value ≡ Moves p e.step.kind e.step.word e.value
taken_own p e by moves = taken_moves e.by e.step.kind e.step.word e.value moves ∙ ap (λ (q : ℕ). Moves q e.step.kind e.step.word e.value) by

spelled_plain : (p : ℕ) (es : List TakenStep) → ArePlain p es → events_of_run es ≡ steps_of p es
spelled_plain p [] plain = refl
spelled_plain p (e ∷ es) plain =
    let here = taken_own p e plain.0.0 plain.0.3 in
    let later = spelled_plain p es plain.1 in
    λ i. (before (plain.0.1 i) (plain.0.2 i) (plain.0.0 i) ++ here i ∷ []) ++ later i

module _ (s : Setup) (p : ℕ) where
  abbrev from : ProcessState → TakenStep → ProcessState
  from t e = next_or_same s.layout s.limit t (Moves p e.step.kind e.step.word e.value)

  step_leads : (q : ProcessState) (e : TakenStep) → e.by ≡ p → is_glance e.step.kind ≡ false → process_state_past s q (world_events e) ≡ from (process_state_before s q e) e
  step_leads q e by moves =
      gone-append s q (before e.step.crashed e.step.start e.by) (access_event e.by e.step.kind e.step.word e.value ∷ [])
      ∙ ap (λ (h : WorldEvent). next_or_same s.layout s.limit (process_state_before s q e) h) (taken_own p e by moves)

  nothing_before : (q : ProcessState) (e : TakenStep) → IsPlain p e → process_state_before s q e ≡ q
  nothing_before q e plain = λ i. process_state_past s q (before (plain.1 i) (plain.2 i) e.by)

  -- these entries from state q have the same outcome as their steps from state t
  abbrev Alike : List TakenStep → ProcessState → ProcessState → Type 0
  Alike es q t = (answers_from s q es ≡ answers_in s.layout s.limit t (steps_of p es)) × (blocked_from s q es ≡ blocked_in s.layout s.limit t (steps_of p es))

  reported_first : (q : ProcessState) (e : TakenStep) (es : List TakenStep) → e.by ≡ p → is_glance e.step.kind ≡ false → ((t : ProcessState) → Alike es t t) → Alike (e ∷ es) q (process_state_before s q e)
  reported_first q e es by moves later =
      let t = process_state_before s q e in
      let rest : Alike es (process_state_past s q (world_events e)) (from t e) = subst (λ (u : ProcessState). Alike es u (from t e)) (sym (step_leads q e by moves)) (later (from t e)) in (
        ap (and_answer (answer_at t e.step.kind e.value)) rest.0,
        ap (λ (r : ℕ). (if blocked_by r t.lock t.script_state e.step.kind e.value then 1 else 0) + blocked_from s (process_state_past s q (world_events e)) es) by
            ∙ ap (λ (n : ℕ). (if blocked_by p t.lock t.script_state e.step.kind e.value then 1 else 0) + n) rest.1,
      )

  reported_plain : (es : List TakenStep) → ArePlain p es → (q : ProcessState) → Alike es q q
  reported_plain [] plain q = (refl, refl)
  reported_plain (e ∷ es) plain q = subst (Alike (e ∷ es) q) (nothing_before q e plain.0) (reported_first q e es plain.0.0 plain.0.3 (reported_plain es plain.1))

  -- a start, with the pending crash
  pub start_leads : (q : ProcessState) (c : Bool) (call : Call) → process_state_past s q (before c (Some call) p) ≡ next_or_same s.layout s.limit (process_state_past s q (crash_first c p)) (Begins p call)
  start_leads q true call = refl
  start_leads q false call = refl

  starts : (hs : List WorldEvent) (w : GlobalState) (c : Bool) (call : Call) (ms : List WorldEvent) → Execution s.layout s.limit w hs → own_world_events p hs ≡ before c (Some call) p ++ ms → OwnMoves p ms
      → StartsAt s.layout s.limit p (w.words p) (process_state_past s (w.process_states p) (crash_first c p)) call ms
  starts hs w true call ms execution is moves = starts_fallen s.layout s.limit p hs w call ms execution is moves
  starts hs w false call ms execution is moves = starts_never_crashes s.layout s.limit p hs w call ms execution is moves

keeps : (x : SeatView) (call : Call) (answers : List Answer) (t : ProcessState) (blocked steps : ℕ) → WalksCall x.setup.layout (call_begin (words_begun x) (process_state_begun x).mended) call answers t steps blocked → KeepsTable x call answers blocked steps
keeps x call [] t blocked steps h = (h.1.0, h.1.2, h.1.3)
keeps x call (a ∷ []) t blocked steps h = h.1
keeps x call (a ∷ b ∷ more) t blocked steps h = h

-- the steps of a call, from its start
abbrev pub start_of : SeatView → Call → ProcessState
start_of x call = next_or_same x.setup.layout x.setup.limit (process_state_begun x) (Begins x.by call)

pub record Stepped (x : SeatView) (call : Call) (mine : List TakenStep) : Type 0 where
  pub steps : List WorldEvent
  pub own : OwnMoves x.by steps
  pub spelled_as : events_of_run mine ≡ before x.fallen (Some call) x.by ++ steps
  pub long : length steps ≡ length mine
  pub answers : answers_in x.setup.layout x.setup.limit (start_of x call) steps ≡ answers_of x mine
  pub blocked : blocked_in x.setup.layout x.setup.limit (start_of x call) steps ≡ blocked_of x mine

pub stepped : (x y : SeatView) (call : Call) (mine : List TakenStep) → Calls x mine y → FirstCrash x.fallen mine → FirstStart call mine → AreMoves mine → Stepped x call mine
stepped x y call [] calls crash started moved = absurd started
stepped x y call (e ∷ es) calls crash started moved =
    let s : Setup = x.setup in
    let p : ℕ = x.by in
    let q : ProcessState = process_state_of s p x.seen in
    let by = subst (All (λ (e : TakenStep). e.by ≡ p)) calls.mine_are (own_are p calls.since) in
    let mine : e.by ≡ p = All-head (λ (e : TakenStep). e.by ≡ p) e es by in
    let move : is_glance e.step.kind ≡ false = All-head (λ (e : TakenStep). is_glance e.step.kind ≡ false) e es moved in
    let plain : ArePlain p es = plain_all p es (All-tail (λ (e : TakenStep). e.by ≡ p) e es by) crash.1 started.1 (All-tail (λ (e : TakenStep). is_glance e.step.kind ≡ false) e es moved) in
    let first = taken_own p e mine move in
    let later = spelled_plain p es plain in
    let there : process_state_before s q e ≡ start_of x call = (λ i. process_state_past s q (before (crash.0 i) (started.0 i) (mine i))) ∙ start_leads s p q x.fallen call in
    let reports = subst (Alike s p (e ∷ es) q) there (reported_first s p q e es mine move (reported_plain s p es plain)) in
    record {
      steps = steps_of p (e ∷ es);
      own = ((refl, move), own_moves p es plain);
      spelled_as = (λ i. (before (crash.0 i) (started.0 i) (mine i) ++ first i ∷ []) ++ later i) ∙ append_assoc (before x.fallen (Some call) p) (Moves p e.step.kind e.step.word e.value ∷ []) (steps_of p es);
      long = steps_length p (e ∷ es);
      answers = sym reports.0;
      blocked = sym reports.1;
    }

-- steps of a call, from what is known of them
pub keeps_the_table : (x y : SeatView) (call : Call) (answers : List Answer) (blocked : ℕ) (mine : List TakenStep) → Calls x mine y → FirstCrash x.fallen mine → FirstStart call mine → AreMoves mine → answers_of x mine ≡ answers → blocked_of x mine ≡ blocked → KeepsTable x call answers blocked (length mine)
keeps_the_table x y call answers blocked mine calls crash started moved answered blocks =
    let s : Setup = x.setup in
    let p : ℕ = x.by in
    let m = stepped x y call mine calls crash started moved in
    let run : IsRun s (x.seen ++ calls.since) = subst (λ (t : Setup × List TakenStep). IsRun t.0 t.1) (λ i. (calls.setup i, calls.seen i)) calls.run in
    let own_is = own_spelled p calls.since ∙ ap events_of_run calls.mine_are ∙ m.spelled_as in
    let begun = starts s p (events_of_run calls.since) (end_of s x.seen) x.fallen call m.steps (legal_back s x.seen calls.since run) own_is m.own in
    let reports = subst (λ (t : ProcessState). StartsAt s.layout s.limit p (words_begun x) (process_state_past s t (crash_first x.fallen p)) call m.steps) (process_state_in_run s x.seen p) begun in
    let last : ProcessState = last_process_state s.layout s.limit (start_of x call) m.steps in
    keeps x call answers last blocked (length mine)
    (subst (λ (t : List Answer × ℕ × ℕ). WalksCall s.layout (call_begin (words_begun x) (process_state_begun x).mended) call t.0 last t.1 t.2) (λ i. ((m.answers ∙ answered) i, m.long i, (m.blocked ∙ blocks) i))
    (calls_take_their_steps s.layout s.limit p (words_begun x) (process_state_begun x) call m.steps reports.0 reports.1 reports.2))

pub calls_keep_the_table : CallsKeepTheTable
calls_keep_the_table x call answers blocked y mine r = keeps_the_table x.seat_view y.seat_view call answers blocked mine r.calls r.crash r.first r.moves r.answered r.blocks
