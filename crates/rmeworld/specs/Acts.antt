-- The acts on a world: a process starts a call, takes a step, or crashes.
use Rattle.std.specs.Prelude.{ℕ, Option, Some, None}
use Rattle.rmecore.specs.declared.refusal.Refusal.{Refusal}
use Rattle.rmeworld.specs.declared.call.Call.{Call}

-- an act on a world
pub data Act : Type 0 where
  Starts : (p : ℕ) → (call : Call) → Act
  Steps : (p : ℕ) → Act
  Crashes : (p : ℕ) → Act

-- a refused act changes nothing
abbrev pub unless : {S : Type 0} → Option Refusal → S → S → S
unless None s t = t
unless (Some r) s t = s
