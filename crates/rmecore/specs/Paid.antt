-- The steps that a call has taken at a place, blocked ones not counted. Together with the steps still to take they are the
-- number in the table of own steps.
use Rattle.std.specs.Prelude.{◌≡◌, ℕ, ◌+◌, ◌*◌, Bool, true, false, List, [], ◌∷◌, length, Some, None}
use Rattle.rmecore.specs.Place.{Place, Rest, Dead, Reread, Opening, Door, Shutting, Wait, Inside, Leaving, Withdrawing, Unmarking, has}
use Rattle.rmecore.specs.OwnSteps.{own_steps}
use Rattle.rmecore.specs.declared.core_done.CoreDone.TheVariants.{In, Spent, Out, Found as Finds, Withdrawn}
use Rattle.rmecore.specs.declared.core_call.CoreCall.TheVariants.{Lock, Unlock}
use Rattle.rmecore.specs.declared.found.Found.TheVariants.{Left, Waiting}
use Rattle.rmecore.specs.declared.kind.Kind.{Kind}
use Rattle.rmecore.specs.declared.kind.Kind.TheVariants.{Glance as Glances}

-- no number occurs twice
abbrev pub Distinct : List ℕ → Type 0
Distinct [] = Unit {0}
Distinct (j ∷ js) = (has js j ≡ false) × Distinct js

-- the values read so far are the first of c, k and i, as many as there were steps
abbrev pub HasRead : ℕ → ℕ → ℕ → List ℕ → ℕ → Type 0
HasRead c k i [] steps = steps ≡ 0
HasRead c k i (x ∷ []) steps = (steps ≡ 1) × (x ≡ c)
HasRead c k i (x ∷ y ∷ []) steps = (steps ≡ 2) × (x ≡ c) × (y ≡ k)
HasRead c k i (x ∷ y ∷ z ∷ seen) steps = ⊥

-- A call of one of n processes began with the words c, k and i. At this place it has taken this number of steps. Where no
-- call is under way it says nothing.
abbrev pub Pays : ℕ → ℕ → ℕ → ℕ → Place → ℕ → Type 0
Pays n c k i Rest steps = Unit {0}
Pays n c k i Dead steps = Unit {0}
Pays n c k i Inside steps = Unit {0}
Pays n c k i (Reread call seen) steps = HasRead c k i seen steps
-- one store, n - 1 peeks and the shut; or one store, n - 1 peeks, the take and 2 n steps (shut, waiting, mark)
Pays n c k i Opening steps = (own_steps n c k i Spent ≡ Some (steps + (n + 1))) × (own_steps n c k i In ≡ Some (steps + (3 * n + 1)))
Pays n c k i (Door unread m) steps = Distinct unread × (own_steps n c k i Spent ≡ Some (steps + (length unread + 1))) × (own_steps n c k i In ≡ Some (steps + (length unread + 2 * n + 1)))
-- the shut, a look and a weigh for each other process, and the mark
Pays n c k i (Shutting Lock x) steps = own_steps n c k i In ≡ Some (steps + 2 * n)
Pays n c k i (Shutting _ x) steps = own_steps n c k i (Finds Waiting) ≡ Some (steps + 1)
Pays n c k i (Wait x unpassed None) steps = Distinct unpassed × (own_steps n c k i In ≡ Some (steps + (2 * length unpassed + 1)))
Pays n c k i (Wait x unpassed (Some j)) steps = Distinct unpassed × (has unpassed j ≡ true) × (own_steps n c k i In ≡ Some (steps + 2 * length unpassed))
Pays n c k i Leaving steps = own_steps n c k i Out ≡ Some (steps + 2)
Pays n c k i Withdrawing steps = own_steps n c k i Withdrawn ≡ Some (steps + 1)
Pays n c k i (Unmarking Lock) steps = (own_steps n c k i Spent ≡ Some (steps + (n + 2))) × (own_steps n c k i In ≡ Some (steps + (3 * n + 2)))
Pays n c k i (Unmarking Unlock) steps = own_steps n c k i Out ≡ Some (steps + 1)
Pays n c k i (Unmarking _) steps = own_steps n c k i (Finds Left) ≡ Some (steps + 1)

-- a reread reads the words as they were when the call began
abbrev pub ReadsBegun : ℕ → ℕ → ℕ → Place → ℕ → Type 0
ReadsBegun c k i (Reread call []) v = v ≡ c
ReadsBegun c k i (Reread call (x ∷ [])) v = v ≡ k
ReadsBegun c k i (Reread call (x ∷ y ∷ [])) v = v ≡ i
ReadsBegun c k i _ v = Unit {0}

-- a glance is no step of a call
abbrev pub is_glance : Kind → Bool
is_glance Glances = true
is_glance _ = false
