-- The last asking of a call, before its answer: it leaves all of the member as it was but for its state.
use Rattle.std.proofs.Common.{◌≡◌, ◌⊎◌, ◌+◌, ◌-◌, ◌<◌, ◌≤◌, ◌^◌, ℕ, min, Result, Err, IfErr, refl, sym, ap, ◌∙◌, subst, inl, inr, arith}
use Rattle.one_lock.proofs.Common.{Layout, Seat, KeepsProcess, AskedEach}
use Rattle.crash_plans.specs.Plans.{Askings}
use Rattle.table_runs.specs.declared.lock_fault.LockFault.{LockFault}
use Rattle.table_runs.specs.declared.lock_fault.LockFault.TheVariants.{Crashed}
use Rattle.one_lock.specs.Member.{CountsSteps, AskedOnceMore}
use Rattle.one_lock.specs.declared.member_state.MemberState.{MemberState}
use Rattle.one_lock.specs.declared.member_state.MemberState.TheVariants.{Lost}
use Rattle.rmecore.specs.Simulated.{one_more}

-- what `conclude` ensures of its result and of the member
abbrev pub Concluded : {T : Type 0} → Seat → MemberState → Result T LockFault → Seat → Result T LockFault → Type 0
Concluded x standing answer y result =
    ((result ≡ answer) × (y ≡ record x { standing = standing })) ⊎ ((result ≡ Err Crashed) × (y ≡ record x { standing = Lost }))

-- two parts of a call, one after the other: the second began with n own steps
pub asked_then : (old x z : Seat) (n : ℕ) (a b c : Askings) → AskedEach old x a b → n ≡ x.steps → n ≤ z.steps → (c.asked < 2 ^ 64 - 1 → c.asked + n ≡ b.asked + z.steps) → AskedEach old z a c
asked_then old x z n a b c each is more then few =
    let sum = then few in
    let below : b.asked < 2 ^ 64 - 1 = omega (arith, few, more, sum) in
    let first = each below in
    omega (arith, first, sum, is)

pub goes_then : (old x z : Seat) (p : ℕ) (l : Layout) (n : ℕ) → KeepsProcess old x → p ≡ x.process → l ≡ x.layout → n ≡ x.steps → (z.process ≡ p) × (z.layout ≡ l) × (n ≤ z.steps) → KeepsProcess old z
goes_then old x z p l n goes same_process same_layout is then =
    let few = goes.2 in
    let more = then.2 in
    (then.0 ∙ same_process ∙ goes.0, then.1 ∙ same_layout ∙ goes.1, omega (arith, few, more, is))

pub counts_then : (old x z : Seat) (m n : ℕ) → CountsSteps old x → old.steps ≤ x.steps → m ≡ x.counted → n ≡ x.steps → n ≤ z.steps → z.counted ≡ min (m + (z.steps - n)) (2 ^ 64 - 1) → CountsSteps old z
counts_then old x z m n counts few same is more then = omega (arith, counts, few, same, is, more, then)

module _ {T : Type 0} (old x y : Seat) (standing : MemberState) (answer result : Result T LockFault) (h : Concluded x standing answer y result) where
  kept : {A : Type 0} (f : Seat → A) → f (record x { standing = standing }) ≡ f x → f (record x { standing = Lost }) ≡ f x → f y ≡ f x
  kept f same lost = by h
    where
      by : Concluded x standing answer y result → f y ≡ f x
      by (inl k) = ap f k.1 ∙ same
      by (inr k) = ap f k.1 ∙ lost

  steps_kept : y.steps ≡ x.steps
  steps_kept = kept (λ s. s.steps) refl refl

  pub concluded_goes : KeepsProcess old x → KeepsProcess old y
  concluded_goes goes = (kept (λ s. s.process) refl refl ∙ goes.0, kept (λ s. s.layout) refl refl ∙ goes.1, (let few = goes.2 in let same = steps_kept in omega (arith, few, same)))

  pub concluded_counts : CountsSteps old x → CountsSteps old y
  concluded_counts counts = kept (λ s. s.counted) refl refl ∙ counts ∙ ap (λ (n : ℕ). min (n - old.steps) (2 ^ 64 - 1)) (sym steps_kept)

  pub concluded_asked : (a b c : Askings) → AskedEach old x a b → c.asked ≡ one_more b.asked → AskedOnceMore old y a c
  concluded_asked a b c each more few =
      let same = steps_kept in
      let below : b.asked < 2 ^ 64 - 1 = omega (arith, few, more) in
      let sum = each below in
      omega (arith, few, more, sum, same)

  pub concluded_stands : (stands : Result T LockFault → MemberState) → standing ≡ stands answer → stands (Err Crashed) ≡ Lost → y.standing ≡ stands result
  concluded_stands stands is lost = by h
    where
      by : Concluded x standing answer y result → y.standing ≡ stands result
      by (inl k) = ap (λ (s : Seat). s.standing) k.1 ∙ is ∙ ap stands (sym k.0)
      by (inr k) = ap (λ (s : Seat). s.standing) k.1 ∙ sym lost ∙ ap stands (sym k.0)

  pub concluded_faults : (P : LockFault → Type 0) → IfErr answer P → P Crashed → IfErr result P
  concluded_faults P faults crashed = by h
    where
      by : Concluded x standing answer y result → IfErr result P
      by (inl k) = subst (λ (r : Result T LockFault). IfErr r P) (sym k.0) faults
      by (inr k) = subst (λ (r : Result T LockFault). IfErr r P) (sym k.0) crashed
