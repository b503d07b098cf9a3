-- The needs of a deed: a list of tests in order, each with its fault ("The judge table").
use Rattle.std.specs.Prelude.{◌≡◌, ℕ, zero, suc, Bool, true, ◌==◌, if◌then◌else◌, List, [], ◌∷◌, Option, Some, None}
use Rattle.rmecore.specs.declared.fault.Fault.{Fault}

-- every test passes
abbrev pub AllHold : List (Bool × Fault) → Type 0
AllHold [] = Unit {0}
AllHold (need ∷ rest) = (need.0 ≡ true) × AllHold rest

-- the fault of the first test that fails
abbrev pub first_fault : List (Bool × Fault) → Option Fault
first_fault [] = None
first_fault (need ∷ rest) = if need.0 then first_fault rest else Some need.1

-- the least number below n for which the test holds, or n if there is none
abbrev pub least_below : ℕ → (ℕ → Bool) → ℕ
least_below zero test = 0
least_below (suc n) test = if test zero then 0 else suc (least_below n (λ k. test (suc k)))

-- the test holds for no number below n
abbrev pub none_below : ℕ → (ℕ → Bool) → Bool
none_below n test = least_below n test == n

-- f, with the value x at p
abbrev pub put : {A : Type 0} → (ℕ → A) → ℕ → A → ℕ → A
put f p x q = if q == p then x else f q
