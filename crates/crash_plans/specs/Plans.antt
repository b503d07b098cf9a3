-- The state of a crash plan as contracts see it ("Crash plan: the asking rule").
use Rattle.std.specs.Prelude.{◌≡◌, ℕ, zero, suc, ◌+◌, ◌-◌, ◌^◌, nat_lt, Bool, if◌then◌else◌, Option, Some, None}
use Rattle.rmecore.specs.Simulated.{one_more}
use Rattle.rand_pcg.specs.Lcg.{Lcg}

-- the askings of a plan, and those at which it fell, each saturating at 2 ^ 64 - 1
pub record Askings : Type 0 where
  pub asked : ℕ
  pub fallen : ℕ

-- the number of the next asking, from 1. After 2 ^ 64 - 1 askings there is none
abbrev pub next_asking : Askings → Option ℕ
next_asking a = if nat_lt a.asked (2 ^ 64 - 1) then Some (a.asked + 1) else None

-- before the first asking
abbrev pub no_askings : Askings
no_askings = record { asked = 0; fallen = 0 }

-- after one more asking, at which the plan falls or doesn't
abbrev pub asked_once : Bool → Askings → Askings
asked_once falls a = record { asked = one_more a.asked; fallen = if falls then one_more a.fallen else a.fallen }

-- a plan that falls at one asking
pub record One : Type 0 where
  pub place : ℕ
  pub askings : Askings

-- a plan that falls at an asking, and again `later` askings after it
pub record Two : Type 0 where
  pub place : ℕ
  pub later : ℕ
  pub askings : Askings

-- a plan that falls by pseudo-random draws
pub record SeededState : Type 0 where
  pub generator : Lcg
  pub per_mille : ℕ
  pub askings : Askings

-- k more, saturating at the greatest u64
abbrev pub many_more : ℕ → ℕ → ℕ
many_more zero count = count
many_more (suc k) count = one_more (many_more k count)

-- the plan was asked k times, and fell at none of them
pub record NeverCrashes (k : ℕ) (old new : Askings) : Type 0 where
  pub asked : new.asked ≡ many_more k old.asked
  pub fallen : new.fallen ≡ old.fallen

-- the plan was asked k times, and fell at the last of them alone
pub record Fell (k : ℕ) (old new : Askings) : Type 0 where
  pub asked : new.asked ≡ many_more k old.asked
  pub fallen : new.fallen ≡ one_more old.fallen
