-- The machine of a process while a call is under way: each step answers nothing, and the call is still under way, or has an
-- answer that fits the call.
use Rattle.std.proofs.Common.{◌≡◌, ℕ, suc, Bool, if◌then◌else◌, Option, Some, None, IsSome, IfSome, unwrap_or, refl, sym, ap, subst, arith}
use Rattle.rmecore.specs.Place.{Place}
use Rattle.rmecore.specs.Machine.{kind_of, word_of, carried_value}
use Rattle.rmecore.specs.declared.access.Access.{Access}
use Rattle.rmecore.specs.declared.happened.Happened.{Happened}
use Rattle.redomail.specs.declared.layout.Layout.{Layout}
use Rattle.rmeworld.specs.Answered.{answer_at}
use Rattle.rmeworld.specs.declared.answer.Answer.{Answer}
use Rattle.rmeworld.specs.declared.call.Call.{Call}
use Rattle.rmeworld.specs.MachineState.{MachineState, IsSize, process_state_of, next_access, outcome, machine_after_step, machine_after_start}
use Rattle.rmeworld.specs.ProcessState.{ProcessState, ScriptState, Free, Doing, Begins, next_process_state}
use Rattle.rmeworld.specs.ScriptStates.{script_state_of}
use Rattle.rmeworld.proofs.WorldSteps.{keeps_stepped, keeps_started}
use Rattle.rmeworld.proofs.WorldTallies.{no_glance}
use Rattle.table_runs.specs.StepBounds.{Lasts, LastsBy}
use Rattle.table_runs.specs.Under.{IsUnder, Begun, IsAnswerOf}
use Rattle.table_runs.proofs.Begun.{begins}
use Rattle.table_runs.proofs.Goes.{ProcessStateTo, process_state_step}
use Rattle.one_lock.proofs.Common.{IsEventOf}

-- the call is under way, with some bound on its steps that are left
abbrev pub IsUnderWay : Call → MachineState → Type 0
IsUnderWay call s = IsUnder call (process_state_of s) × ((k : ℕ) × Lasts s.layout.procs k (process_state_of s))

lasts_more : (n k : ℕ) (place : Place) (e : ScriptState) → LastsBy n k place e → LastsBy n (suc k) place e
lasts_more n k place Free (fair, few) = (fair, omega (arith, few))
lasts_more n k place (Doing purpose left) (m, within, few, step) = (m, within, omega (arith, few), step)

-- after the start of the call
pub is_begun : (s : MachineState) (call : Call) → IsSize s.layout → next_process_state s.layout s.limit (process_state_of s) (Begins s.index call) ≡ Some (process_state_of (machine_after_start s call)) → IsUnderWay call (machine_after_start s call)
is_begun s call size accepts =
    let some : IsSome (next_process_state s.layout s.limit (process_state_of s) (Begins s.index call)) = subst (λ (o : Option ProcessState). IsSome o) (sym accepts) refl in
    let begun = begins s.layout s.index size.layout call s.lock s.mended (script_state_of s.script_state) (process_state_of s) some in
    let is : unwrap_or (next_process_state s.layout s.limit (process_state_of s) (Begins s.index call)) (process_state_of s) ≡ process_state_of (machine_after_start s call) = ap (λ (o : Option ProcessState). unwrap_or o (process_state_of s)) accepts in
    let same : s.layout.procs ≡ (machine_after_start s call).layout.procs = ap (λ (l : Layout). l.procs) (sym (keeps_started s s.mended call refl).0) in
    let here : Begun call (machine_after_start s call).layout.procs (process_state_of (machine_after_start s call)) = subst (λ (n : ℕ). Begun call n (process_state_of (machine_after_start s call))) same (subst (Begun call s.layout.procs) is begun) in
    (here.0, (256, here.2))

-- what a step with this answer leaves
abbrev pub Leaves : Call → Option Answer → MachineState → Type 0
Leaves call o t = IfSome o (IsAnswerOf call) × (o ≡ None → IsUnderWay call t)

leaves_by : (call : Call) (n k : ℕ) (o : Option Answer) (b : Bool) (x : ProcessState) (t : MachineState) → n ≡ t.layout.procs → x ≡ process_state_of t → ProcessStateTo call n k o b x → Leaves call o t
leaves_by call n k (Some a) b x t same is to = (to.0, λ none. absurd (let some : Some a ≡ None = none in cc))
leaves_by call n k None b x t same is to =
    (tt, λ none. (subst (IsUnder call) is to.1, ((if b then suc k else k), subst (λ (m : ℕ). Lasts m (if b then suc k else k) (process_state_of t)) same (subst (Lasts n (if b then suc k else k)) is to.2))))

pub steps_on : (s : MachineState) (call : Call) (h : Happened) → IsUnderWay call s → IsEventOf s h → Leaves call (outcome s (next_access s) h.value).answer (machine_after_step s h.value)
steps_on s call h (under, (k, lasts)) event =
    let a = event.access in
    let q = process_state_of s in
    let moves = no_glance s.limit s.index s.lock (script_state_of s.script_state) a event.next in
    let to = process_state_step s.layout s.index k call s.limit q.lock q.mended q.barred q.script_state (kind_of a) (word_of a) (carried_value a h.value) event.allowed moves under (lasts_more s.layout.procs k q.lock q.script_state lasts) in
    let same : s.layout.procs ≡ (machine_after_step s h.value).layout.procs = ap (λ (l : Layout). l.procs) (sym (keeps_stepped s s.script_state h.value).0) in
    let leaves : Leaves call (answer_at q (kind_of a) (carried_value a h.value)) (machine_after_step s h.value) = leaves_by call s.layout.procs k _ _ _ (machine_after_step s h.value) same (sym event.process_state) to in
    subst (λ (o : Option Access). Leaves call (outcome s o h.value).answer (machine_after_step s h.value)) (sym event.next) leaves
