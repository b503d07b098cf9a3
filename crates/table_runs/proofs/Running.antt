-- The machine's state and the view agree at each step.
use Rattle.std.proofs.Common.{◌≡◌, ℕ, ◌+◌, ◌*◌, Bool, true, false, Option, Some, None, IsSome, unwrap_or, refl, sym, ap, ◌∙◌, subst}
use Rattle.table_runs.proofs.Common.{Kind, Word, kind_of, word_of, carried_value, is_glance, Layout, size, place_at, Call, answer_at, ProcessState, Begins, next_process_state, Moves, MachineState, access_by, next_access, outcome, machine_after_step}
use Rattle.table_runs.proofs.Common.{process_state_after, IsAllowed, progress_by, Setup, SeatView, process_state_now, Looks, moved_process_state, CarriesPending, IsRunBy, next_of, outcome_of, before, access_event, process_state_past, process_state_of}
use Rattle.rmecore.specs.declared.access.Access.{Access}
use Rattle.rmecore.specs.declared.kind.Kind.TheVariants as kind
use Rattle.rmeworld.specs.MachineState.{process_state_of as standing_at, machine_after_start}
use Rattle.rmeworld.specs.WorldState.{HasConfiguration}
use Rattle.rmeworld.proofs.WorldSteps.{keeps_stepped, keeps_started}
use Rattle.rmeworld.proofs.WorldTallies.{no_glance}
use Rattle.table_runs.proofs.Leads.{process_state_moves, process_state_stays}

pub size_is : (l : Layout) → 10 + l.width + l.procs + (2 + l.width) * l.cap ≡ size l
unfolding place_at
size_is l = refl

pub run_by_look : (x y : SeatView) (word : Word) (v : ℕ) (s : MachineState) → Looks x word v y → IsRunBy x s → IsRunBy y s
run_by_look x y word v s a r = record {
  layout = r.layout ∙ ap (λ (z : Setup). z.layout) (sym a.adds.setup);
  limit = r.limit ∙ ap (λ (z : Setup). z.limit) (sym a.adds.setup);
  index = r.index ∙ sym a.adds.by;
  process_state = r.process_state ∙ sym (process_state_stays x y word v a);
}

pub taken_moves : (p : ℕ) (k : Kind) (word : Word) (v : ℕ) → is_glance k ≡ false → access_event p k word v ≡ Moves p k word v
taken_moves p kind.Glance word v h = absurd (cc)
taken_moves p _ word v h = refl

pub next_moves : (x : SeatView) (a : Access) → next_of x ≡ Some a → is_glance (kind_of a) ≡ false
next_moves x a e = no_glance x.setup.limit x.by (process_state_now x).lock (process_state_now x).script_state a e

-- the machine's next step is the one that follows from the view
pub next_same : (x : SeatView) (s : MachineState) → IsRunBy x s → next_access s ≡ next_of x
next_same x s r = ap (λ (t : ℕ × ℕ × ProcessState). access_by t.0 t.1 t.2.lock t.2.script_state) (λ i. (r.limit i, r.index i, r.process_state i))

pub moved_as : (x : SeatView) (s : MachineState) (a : Access) (v : ℕ) → IsRunBy x s → next_of x ≡ Some a → next_process_state s.layout s.limit (standing_at s) (Moves s.index (kind_of a) (word_of a) (carried_value a v)) ≡ moved_process_state x (kind_of a) (word_of a) (carried_value a v)
moved_as x s a v r e =
    ap (λ (t : Layout × ℕ × ProcessState × ℕ). next_process_state t.0 t.1 t.2 (Moves t.3 (kind_of a) (word_of a) (carried_value a v))) (λ i. (r.layout i, r.limit i, r.process_state i, r.index i))
    ∙ ap (next_process_state x.setup.layout x.setup.limit (process_state_now x)) (sym (taken_moves x.by (kind_of a) (word_of a) (carried_value a v) (next_moves x a e)))

pub may_advance : (x : SeatView) (s : MachineState) (a : Access) → IsRunBy x s → next_access s ≡ Some a → IsAllowed s a → (v : ℕ) → IsSome (moved_process_state x (kind_of a) (word_of a) (carried_value a v))
may_advance x s a r e allowed v = subst (λ (o : Option ProcessState). IsSome o) (moved_as x s a v r (sym (next_same x s r) ∙ e)) (allowed v)

pub run_by_step : (x y : SeatView) (s t : MachineState) (a : Access) (v : ℕ) → IsRunBy x s → next_access s ≡ Some a → CarriesPending x (kind_of a) (word_of a) (carried_value a v) y
    → t.layout ≡ s.layout → t.limit ≡ s.limit → t.index ≡ s.index → standing_at t ≡ process_state_after s (next_access s) v → IsRunBy y t
run_by_step x y s t a v r e adv layout limit index process_state =
    let next : next_of x ≡ Some a = sym (next_same x s r) ∙ e in
    let there : process_state_after s (next_access s) v ≡ unwrap_or (moved_process_state x (kind_of a) (word_of a) (carried_value a v)) (process_state_now x) =
    ap (λ (o : Option Access). process_state_after s o v) e ∙ ap (λ (u : Option ProcessState × ProcessState). unwrap_or u.0 u.1) (λ i. (moved_as x s a v r next i, r.process_state i)) in
    record {
      layout = layout ∙ r.layout ∙ ap (λ (z : Setup). z.layout) (sym adv.adds.setup);
      limit = limit ∙ r.limit ∙ ap (λ (z : Setup). z.limit) (sym adv.adds.setup);
      index = index ∙ r.index ∙ sym adv.adds.by;
      process_state = process_state ∙ there ∙ sym (process_state_moves x y (kind_of a) (word_of a) (carried_value a v) adv);
    }

pub outcome_same : (x : SeatView) (s : MachineState) (a : Access) (v : ℕ) → IsRunBy x s → next_access s ≡ Some a → outcome s (next_access s) v ≡ outcome_of x a v
outcome_same x s a v r e =
    ap (λ (o : Option Access). outcome s o v) e
    ∙ ap (λ (t : ℕ × ProcessState). record { progress = progress_by t.0 t.1 a v; answer = answer_at t.1 (kind_of a) (carried_value a v) }) (λ i. (r.index i, r.process_state i))

-- a start
begun_by : (s : Setup) (q : ProcessState) (b : Bool) (p : ℕ) (call : Call) → process_state_past s q (before b (Some call) p) ≡ unwrap_or (next_process_state s.layout s.limit (process_state_past s q (before b None p)) (Begins p call)) (process_state_past s q (before b None p))
begun_by s q true p call = refl
begun_by s q false p call = refl

pub process_state_begun : (x : SeatView) (call : Call) → x.start ≡ None → process_state_now (record x { start = Some call }) ≡ unwrap_or (next_process_state x.setup.layout x.setup.limit (process_state_now x) (Begins x.by call)) (process_state_now x)
process_state_begun x call none =
    begun_by x.setup (process_state_of x.setup x.by x.seen) x.fallen x.by call
    ∙ ap (λ (o : Option Call). unwrap_or (next_process_state x.setup.layout x.setup.limit (process_state_past x.setup (process_state_of x.setup x.by x.seen) (before x.fallen o x.by)) (Begins x.by call)) (process_state_past x.setup (process_state_of x.setup x.by x.seen) (before x.fallen o x.by))) (sym none)

pub start_same : (x : SeatView) (s : MachineState) (call : Call) → IsRunBy x s → next_process_state s.layout s.limit (standing_at s) (Begins s.index call) ≡ next_process_state x.setup.layout x.setup.limit (process_state_now x) (Begins x.by call)
start_same x s call r = ap (λ (t : Layout × ℕ × ProcessState × ℕ). next_process_state t.0 t.1 t.2 (Begins t.3 call)) (λ i. (r.layout i, r.limit i, r.process_state i, r.index i))

pub run_by_start : (x : SeatView) (s t : MachineState) (call : Call) → x.start ≡ None → IsRunBy x s → t.layout ≡ s.layout → t.limit ≡ s.limit → t.index ≡ s.index
    → next_process_state s.layout s.limit (standing_at s) (Begins s.index call) ≡ Some (standing_at t) → IsRunBy (record x { start = Some call }) t
run_by_start x s t call none r layout limit index process_state =
    let here : next_process_state x.setup.layout x.setup.limit (process_state_now x) (Begins x.by call) ≡ Some (standing_at t) = sym (start_same x s call r) ∙ process_state in
    record { layout = layout ∙ r.layout; limit = limit ∙ r.limit; index = index ∙ r.index; process_state = sym (process_state_begun x call none ∙ ap (λ (o : Option ProcessState). unwrap_or o (process_state_now x)) here) }

-- a step and a start keep the sizes and the number
pub keeps : (s t : MachineState) (v : ℕ) → t ≡ machine_after_step s v → HasConfiguration s.layout s.limit s.index t
keeps s t v e = subst (HasConfiguration s.layout s.limit s.index) (sym e) (keeps_stepped s s.script_state v)

pub keeps_start : (s t : MachineState) (c : Call) → t ≡ machine_after_start s c → HasConfiguration s.layout s.limit s.index t
keeps_start s t c e = subst (HasConfiguration s.layout s.limit s.index) (sym e) (keeps_started s s.mended c refl)
