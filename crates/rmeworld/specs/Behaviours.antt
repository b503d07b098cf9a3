-- The behaviour of a machine with states of this type: which calls are refused, their results, and the state after each.
use Rattle.std.specs.Prelude.{ℕ, Option}
use Rattle.rmecore.specs.declared.refusal.Refusal.{Refusal}
use Rattle.redomail.specs.declared.deed.Deed.{Deed}
use Rattle.rmeworld.specs.declared.call.Call.{Call}
use Rattle.rmeworld.specs.declared.image.Image.{Image}
use Rattle.rmeworld.specs.declared.stepped.Stepped.{Stepped}

-- refusals, results and states after, for each function of a machine
pub record Behaviour (S : Type 0) : Type 0 where
  pub start_refusal : S → ℕ → Call → Option Refusal
  pub started : S → ℕ → Call → S
  pub advance_refusal : S → ℕ → Option Refusal
  pub stepped : S → ℕ → Stepped
  pub advanced : S → ℕ → S
  pub crash_refusal : S → ℕ → Option Refusal
  pub crash_deed : S → ℕ → Deed
  pub crashed : S → ℕ → S
  pub image_of : S → Image
