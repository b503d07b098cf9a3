-- When there is a judge of a trace.
use Rattle.std.proofs.Common.{◌≡◌, ℕ, ◌<◌, ◌≤◌, ◌&&◌, Bool, true, false, nat_lt, nat_le, [], ◌⊎◌, inl, inr, Some, None, refl, sym, ap, subst, ◌∙◌, arith}
use Rattle.schedule.proofs.ReplaysCommon.{Fault, Refusal, number_of, Kept, Keeps, StandsAfter, State, judge_refusal, refusal_number}
use Rattle.rmecore.specs.declared.refusal.Refusal.TheVariants.{BadProcs, BadCap, OutOfMemory}
use Rattle.schedule.proofs.Places.{ok_is}

abbrev few : ℕ → Bool
few procs = nat_lt 0 procs && nat_le procs 64

abbrev small : ℕ → Bool
small cap = nat_lt 0 cap && nat_le cap 65536

few_true : (procs : ℕ) → ((procs ≡ 0) ⊎ (64 < procs) → ⊥) → few procs ≡ true
few_true procs within = grind (arith, within)

few_false : (procs : ℕ) → (procs ≡ 0) ⊎ (64 < procs) → few procs ≡ false
few_false procs (inl none) = grind arith
few_false procs (inr many) = grind arith

few_from : (procs : ℕ) → 0 < procs → procs ≤ 64 → few procs ≡ true
few_from procs some most = grind arith

small_true : (cap : ℕ) → ((cap ≡ 0) ⊎ (65536 < cap) → ⊥) → small cap ≡ true
small_true size within = grind (arith, within)

small_false : (cap : ℕ) → (cap ≡ 0) ⊎ (65536 < cap) → small cap ≡ false
small_false cap (inl none) = grind arith
small_false cap (inr many) = grind arith

-- there is a judge
pub none_refused : (procs cap : ℕ) → ((procs ≡ 0) ⊎ (64 < procs) → ⊥) → ((0 < procs) × (procs ≤ 64) × ((cap ≡ 0) ⊎ (65536 < cap)) → ⊥) → judge_refusal procs cap ≡ None
none_refused procs size within other =
    let some : 0 < procs = grind (arith, within) in
    let most : procs ≤ 64 = grind (arith, within) in
    rw (few_true procs within, small_true size (λ h. other (some, most, h))) refl

-- there is none
pub is_refused : (procs cap : ℕ) (refusal : Refusal) (number : ℕ)
    → (refusal ≡ BadProcs → (procs ≡ 0) ⊎ (64 < procs)) → (refusal ≡ BadCap → (0 < procs) × (procs ≤ 64) × ((cap ≡ 0) ⊎ (65536 < cap)))
    → (refusal ≡ BadProcs) ⊎ (refusal ≡ BadCap) ⊎ (refusal ≡ OutOfMemory) → number_of refusal ≡ Some number → refusal_number (judge_refusal procs cap) ≡ Some number
is_refused procs cap refusal number by_procs by_cap (inl is) n = rw (few_false procs (by_procs is)) (ap number_of (sym is) ∙ n)
is_refused procs cap refusal number by_procs by_cap (inr (inl is)) n =
    let purpose = by_cap is in
    rw (few_from procs purpose.0 purpose.1, small_false cap purpose.2) (ap number_of (sym is) ∙ n)
is_refused procs cap refusal number by_procs by_cap (inr (inr is)) n = absurd (let no : number_of OutOfMemory ≡ Some number = ap number_of (sym is) ∙ n in cc)

-- a judge that was given no deed is in its start state
pub stands_first : (start : State) (judge : Kept) → StandsAfter start [] judge → Keeps judge start
stands_first start judge h =
    let same : start ≡ h.state = ok_is {E = Fault} start h.state h.legal in
    subst (Keeps judge) (sym same) h.kept
