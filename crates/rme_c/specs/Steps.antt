-- A step from a position, in the numbers of C.
use Rattle.std.specs.Prelude.{◌≡◌, ℕ, ◌+◌, ◌<◌, ◌≤◌, ◌==◌, not, is_none, if◌then◌else◌, Bool, true, Option}
use Rattle.redomail.specs.declared.layout.Layout.{Layout}
use Rattle.redomail.specs.Layout.{saturate}
use Rattle.rmeworld.specs.Answered.{by_lock}
use Rattle.rmeworld.specs.Entered.{mended_done, checks_done}
use Rattle.rmeworld.specs.declared.answer.Answer.{Answer}
use Rattle.rmeworld.specs.MachineState.{machine_after_step, next_access, outcome}
use Rattle.rme_c.specs.declared.answers.Effect.{Effect}
use Rattle.rme_c.specs.declared.position.Position.{Position}
use Rattle.rme_c.specs.declared.process.RmeProcess.{RmeProcess}
use Rattle.rme_c.specs.declared.lock_part.Landing.{Landing}
use Rattle.rme_c.specs.declared.process.RmeAccess.{RmeAccess}
use Rattle.rme_c.specs.Codes.{code_after_step, reported_as, next_for_c}
use Rattle.rme_c.specs.Positions.{machine_state_at, machine_state_of, stage_of, script_position_of, by_parts, landing, FitsPosition, FitsAt}

-- the answer of the step with this value, and whether it was blocked
abbrev pub step_answer : RmeProcess → Position → ℕ → Option Answer
step_answer p x v = (outcome (machine_state_at p x) (next_access (machine_state_at p x)) v).answer

-- whether the step with this value is blocked
abbrev pub is_blocked : RmeProcess → Position → ℕ → Bool
is_blocked p x v = (outcome (machine_state_at p x) (next_access (machine_state_at p x)) v).progress.blocked

-- the step with this value leads from one process to the other, with this outcome
pub record IsStep (p : RmeProcess) (x : Position) (v : ℕ) (q : RmeProcess) (y : Position) (t : Effect) : Type 0 where
  pub exact : machine_state_at q y ≡ machine_after_step (machine_state_at p x) v
  pub answer : t.answer ≡ step_answer p x v
  pub blocked : t.blocked ≡ is_blocked p x v
  pub fits : FitsPosition q y

-- a step that leaves the process at a stage: its numbers are those of the stage and of the call's end there. `next` stays as
-- it was if the code names the access
pub record IsLanding (p : RmeProcess) (r : Landing) (q : RmeProcess) (b a : RmeAccess) : Type 0 where
  pub process : q ≡ record p { unmended = q.unmended; position = q.position; steps = saturate (p.steps + 1) }
  pub mended : (q.unmended == 0) ≡ mended_done (p.unmended == 0) r.done
  pub position : (l : Layout) → FitsAt l (landing (checks_done r.done) r.to) → by_parts (stage_of q.position) (script_position_of l q.position) ≡ landing (checks_done r.done) r.to
  pub code : r.code ≡ reported_as (by_lock (not (p.barred == 0)) r.done) r.blocked (next_access (machine_state_at p (landing (checks_done r.done) r.to)))
  pub next : r.code < 64 → a ≡ next_for_c p.procs (by_lock (not (p.barred == 0)) r.done) (next_access (machine_state_at p (landing (checks_done r.done) r.to)))
  pub kept : 64 ≤ r.code → a ≡ b
  pub few : r.code < 256

-- the process was fed this value: its new state, the code, and `next`, which stays as it was if the code names the access
pub record IsFed (p : RmeProcess) (v : ℕ) (q : RmeProcess) (b a : RmeAccess) (r : ℕ) : Type 0 where
  pub exact : machine_state_of q ≡ machine_after_step (machine_state_of p) v
  pub reports : r ≡ code_after_step (machine_state_of p) v
  pub next : r < 64 → a ≡ next_for_c p.procs (outcome (machine_state_of p) (next_access (machine_state_of p)) v).answer (next_access (machine_state_of q))
  pub kept : 64 ≤ r → a ≡ b
  pub few : r < 256
  pub steps : q.steps ≡ if is_none (next_access (machine_state_of p)) then p.steps else saturate (p.steps + 1)
  pub idle : is_none (next_access (machine_state_of p)) ≡ true → q ≡ p
