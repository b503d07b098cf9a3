-- The machine of a member's process: it keeps its sizes and its index, and follows the world's steps.
use Rattle.std.proofs.Common.{◌≡◌, ℕ, ◌+◌, ◌≤◌, Bool, true, false, [], ◌∷◌, ◌++◌, length, Option, Some, None, refl, sym, ap, ◌∙◌, subst, arith, length-append}
use Rattle.rmecore.specs.Machine.{kind_of, word_of, carried_value}
use Rattle.rmecore.specs.declared.access.Access.{Access}
use Rattle.rmecore.specs.declared.happened.Happened.{Happened}
use Rattle.rmeworld.specs.MachineState.{MachineState, IsSize, IsAllowed, process_state_of, process_state_after, next_access, outcome, machine_after_step, machine_after_start, machine_after_crash}
use Rattle.rmeworld.specs.ProcessState.{Moves}
use Rattle.rmeworld.specs.declared.call.Call.{Call}
use Rattle.rmeworld.specs.declared.outcome.Outcome.{Outcome}
use Rattle.rmeworld.specs.WorldState.{HasConfiguration}
use Rattle.rmeworld.proofs.WorldSteps.{keeps_stepped, keeps_started}
use Rattle.one_lock.proofs.Common.{Layout, Setup, Seat, Mirrors, Accepts, IsEventOf, IsOwnTrail, AreSizes, new_seat, crashed_if, started_if, opened_machine}
use Rattle.one_lock.specs.declared.opening.Opening.{Opening}
use Rattle.one_lock.specs.declared.turn.StepReport.{StepReport}

pub keeps_then : (s t u : MachineState) → HasConfiguration s.layout s.limit s.index t → HasConfiguration t.layout t.limit t.index u → HasConfiguration s.layout s.limit s.index u
keeps_then s t u a b = (b.0 ∙ a.0, b.1 ∙ a.1, b.2 ∙ a.2)

pub keeps_crashed : (b : Bool) (s : MachineState) → HasConfiguration s.layout s.limit s.index (crashed_if b s)
keeps_crashed true s = (refl, refl, refl)
keeps_crashed false s = (refl, refl, refl)

pub keeps_begun : (c : Option Call) (s : MachineState) → HasConfiguration s.layout s.limit s.index (started_if c s)
keeps_begun None s = (refl, refl, refl)
keeps_begun (Some call) s = keeps_started s s.mended call refl

pub keeps_opened : (o : Opening) (s : MachineState) → HasConfiguration s.layout s.limit s.index (opened_machine o s)
keeps_opened o s = keeps_then s (crashed_if o.crash s) (opened_machine o s) (keeps_crashed o.crash s) (keeps_begun o.call (crashed_if o.crash s))

pub keeps_taken : (s : MachineState) (v : ℕ) → HasConfiguration s.layout s.limit s.index (machine_after_step s v)
keeps_taken s v = keeps_stepped s s.script_state v

-- after what the machine's calls ensure
pub kept_by_crash : (s t : MachineState) → t ≡ machine_after_crash s → HasConfiguration s.layout s.limit s.index t
kept_by_crash s t is = subst (HasConfiguration s.layout s.limit s.index) (sym is) (refl, refl, refl)

pub kept_by_start : (s t : MachineState) (call : Call) → t ≡ machine_after_start s call → HasConfiguration s.layout s.limit s.index t
kept_by_start s t call is = subst (HasConfiguration s.layout s.limit s.index) (sym is) (keeps_started s s.mended call refl)

pub kept_by_step : (s t : MachineState) (v : ℕ) → t ≡ machine_after_step s v → HasConfiguration s.layout s.limit s.index t
kept_by_step s t v is = subst (HasConfiguration s.layout s.limit s.index) (sym is) (keeps_taken s v)

-- the event of the machine's next access
pub is_its_event : (s t : MachineState) (h : Happened) (a : Access) → next_access s ≡ Some a → IsAllowed s a → h.kind ≡ kind_of a → h.word ≡ word_of a → h.value ≡ carried_value a h.value → t ≡ machine_after_step s h.value → process_state_of t ≡ process_state_after s (next_access s) h.value → IsEventOf s h
is_its_event s t h a next allowed kind word value exact leaves =
    record {
      access = a;
      next = next;
      event = λ i. Moves s.index (kind i) (word i) (value i);
      allowed = allowed h.value;
      process_state = ap process_state_of (sym exact) ∙ leaves ∙ ap (λ (o : Option Access). process_state_after s o h.value) next;
    }

-- the machine has followed the turn
pub mirrors_by : (o : Opening) (turn : StepReport) (s t : MachineState) (outcome_is : Outcome) → Accepts o.call (crashed_if o.crash s) → t ≡ opened_machine o s → IsEventOf t turn.happened → outcome_is.answer ≡ turn.answer → outcome_is.progress.blocked ≡ turn.blocked → outcome_is ≡ outcome t (next_access t) turn.happened.value → Mirrors o turn s
mirrors_by o turn s t is accepts opened event answer blocked fact =
    let same : is ≡ outcome (opened_machine o s) (next_access (opened_machine o s)) turn.happened.value = fact ∙ ap (λ (m : MachineState). outcome m (next_access m) turn.happened.value) opened in
    record {
      accepts = accepts;
      event = subst (λ (m : MachineState). IsEventOf m turn.happened) opened event;
      answer = sym answer ∙ ap (λ (r : Outcome). r.answer) same;
      blocked = sym blocked ∙ ap (λ (r : Outcome). r.progress.blocked) same;
    }

-- a trail that has grown by one step stays the member's own
pub still_own : (named : Option Setup) (m new : Seat) → new.process ≡ m.process → new.layout ≡ m.layout → HasConfiguration m.trail.machine.layout m.trail.machine.limit m.trail.machine.index new.trail.machine → (v : ℕ) → new.trail.values ≡ m.trail.values ++ v ∷ [] → new.steps ≡ m.steps + 1 → IsOwnTrail named m → IsOwnTrail named new
still_own named m new process layout keeps v values one own =
    record {
      index = keeps.2 ∙ own.index ∙ sym process;
      size = subst IsSize (sym layout) own.size;
      layout = keeps.0 ∙ own.layout ∙ sym layout;
      limited = subst (λ (n : ℕ). 1 ≤ n) (sym keeps.1) own.limited;
      sizes = subst (λ (z : Layout × ℕ). AreSizes named z.0 z.1) (λ i. (sym keeps.0 i, sym keeps.1 i)) own.sizes;
      each = (let e = own.each in let n = length-append m.trail.values (v ∷ []) in let k = ap length values in omega (arith, one, e, n, k));
    }

pub own_size : (named : Option Setup) (m : Seat) → IsOwnTrail named m → IsSize m.trail.machine.layout
own_size named m own = subst IsSize (sym own.layout) own.size

pub own_first : (named : Option Setup) (l : Layout) (limit n : ℕ) → IsSize l → 1 ≤ limit → AreSizes named l limit → IsOwnTrail named (new_seat l limit n)
own_first named l limit n size number sizes = record { index = refl; size = size; layout = refl; limited = number; sizes = sizes; each = refl }
