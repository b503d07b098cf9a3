-- The sum over all processes below n, and what changes in it when one summand changes.
use Rattle.std.proofs.Common.{◌≡◌, ◌≢◌, ℕ, zero, suc, ◌+◌, ◌*◌, ◌<◌, ◌≤◌, inl, inr, subst, sym, arith}
use Rattle.progress.proofs.Common.{cases_eq}

abbrev pub total : ℕ → (ℕ → ℕ) → ℕ
total zero f = 0
total (suc m) f = total m f + f m

total_same : (m : ℕ) (f g : ℕ → ℕ) → ((q : ℕ) → q < m → f q ≡ g q) → total m f ≡ total m g
total_same zero f g h = omega arith
total_same (suc m) f g h =
    let rest = total_same m f g (λ q low. h q (omega arith)) in
    let last = h m (omega arith) in
    omega arith

-- only the summand of r changes
pub total_changed : (m : ℕ) (f g : ℕ → ℕ) (r : ℕ) → r < m → ((q : ℕ) → q < m → q ≢ r → f q ≡ g q) → total m f + g r ≡ total m g + f r
total_changed zero f g r low h = absurd (omega arith)
total_changed (suc m) f g r low h =
    elim (cases_eq m r) [
      | inl is ↦
          let rest = total_same m f g (λ q less. h q (omega arith) (λ e. omega arith)) in
          subst (λ r. total (suc m) f + g r ≡ total (suc m) g + f r) is (omega arith)
      | inr ne ↦
          let rest = total_changed m f g r (omega arith) (λ q less far. h q (omega arith) far) in
          let last = h m (omega arith) ne in
          omega arith
    ]

-- each summand is at most most, but that of p
pub total_most : (m : ℕ) (f : ℕ → ℕ) (most : ℕ) → ((q : ℕ) → q < m → f q ≤ most) → total m f ≤ m * most
total_most zero f most h = omega arith
total_most (suc m) f most h =
    let rest = total_most m f most (λ q low. h q (omega arith)) in
    let last = h m (omega arith) in
    omega arith

pub total_bound : (m : ℕ) (f : ℕ → ℕ) (most own p : ℕ) → p < m → ((q : ℕ) → q < m → q ≢ p → f q ≤ most) → f p ≤ own → total m f + most ≤ m * most + own
total_bound zero f most own p low h here = absurd (omega arith)
total_bound (suc m) f most own p low h here =
    elim (cases_eq m p) [
      | inl is ↦
          let rest = total_most m f most (λ q less. h q (omega arith) (λ e. omega arith)) in
          let last : f m ≤ own = subst (λ r. f r ≤ own) (sym is) here in
          omega arith
      | inr ne ↦
          let rest = total_bound m f most own p (omega arith) (λ q less far. h q (omega arith) far) here in
          let last = h m (omega arith) ne in
          omega arith
    ]

pub total_least : (m : ℕ) (f : ℕ → ℕ) (p : ℕ) → p < m → f p ≤ total m f
total_least zero f p low = absurd (omega arith)
total_least (suc m) f p low =
    elim (cases_eq m p) [
      | inl is ↦ subst (λ r. f r ≤ total (suc m) f) is (omega arith)
      | inr ne ↦ let rest = total_least m f p (omega arith) in omega arith
    ]
