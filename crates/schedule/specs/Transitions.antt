-- What a machine does on which a schedule is played: its starts, steps and crashes.
use Rattle.std.specs.Prelude.{◌≡◌, ℕ, Bool, true, false, Option, None}
use Rattle.rmeworld.specs.declared.call.Call.{Call}

-- a step of a process, or its crash, with what it says
pub data RunEvent (T C : Type 0) : Type 0 where
  Took : ℕ → T → RunEvent T C
  Fell : ℕ → C → RunEvent T C

-- which starts, steps and crashes are refused, what they say, and the state after each; which steps end their call, and which
-- show nothing; whether a line of steps is refused also where a step after its first one is; and the refusal that says out of memory
pub record Transitions (S T C R : Type 0) : Type 0 where
  pub start_refusal : S → ℕ → Call → Option R
  pub started : S → ℕ → Call → S
  pub step_refusal : S → ℕ → Option R
  pub step : S → ℕ → T
  pub stepped : S → ℕ → S
  pub crash_refusal : S → ℕ → Option R
  pub crash : S → ℕ → C
  pub crashed : S → ℕ → S
  pub ends : T → Bool
  pub is_silent : T → Bool
  pub refuses_late : Bool
  pub out_of_memory : R

-- p takes this step
abbrev pub StepsFrom : {S T C R : Type 0} → Transitions S T C R → S → ℕ → T → S → Type 0
StepsFrom m before p step now = (m.step_refusal before p ≡ None) × (step ≡ m.step before p) × (now ≡ m.stepped before p)

-- p has a step to take, and it shows something
abbrev pub IsShown : {S T C R : Type 0} → Transitions S T C R → S → ℕ → Type 0
IsShown m s p = (m.step_refusal s p ≡ None) × (m.is_silent (m.step s p) ≡ false)

-- p takes a step that shows nothing and does not end its call
abbrev pub TakesSilently : {S T C R : Type 0} → Transitions S T C R → S → ℕ → S → Type 0
TakesSilently m before p now = StepsFrom m before p (m.step before p) now × (m.is_silent (m.step before p) ≡ true) × (m.ends (m.step before p) ≡ false)

-- an event shows something
abbrev pub IsLoud : {S T C R : Type 0} → Transitions S T C R → RunEvent T C → Type 0
IsLoud m (Took p step) = m.is_silent step ≡ false
IsLoud m (Fell p crash) = Unit {0}
