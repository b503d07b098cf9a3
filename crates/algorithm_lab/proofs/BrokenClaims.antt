-- Never claims: of the first numbers, of a text without any, and of processes where none is broken.
use Rattle.std.proofs.Common.{◌≡◌, ◌≢◌, ℕ, zero, suc, ◌+◌, ◌<◌, ◌==◌, Bool, true, false, not, ◌&&◌, ◌||◌, if◌then◌else◌, List, [], Some, None, refl, sym, ap, ◌∙◌, subst, inl, inr, arith, add-one}
use Rattle.std.proofs.lemmas.Bool.{cases_lt, ne_eqb}
use Rattle.rmecore.specs.declared.phase.Phase.{Phase}
use Rattle.algorithms.specs.Worlds.{AlgorithmWorldState}
use Rattle.algorithms.specs.declared.never_claim.NeverClaim.{NeverClaim}
use Rattle.algorithm_lab.specs.Claims.{any_below, claim_broken, first_broken, holds_beside, holds_of, is_broken}

pub below_more : (test : ℕ → Bool) (n : ℕ) → (any_below test n || test n) ≡ any_below test (n + 1)
below_more test n = rw (add-one n) refl

pub none_broken : (w : AlgorithmWorldState) (ps : List Phase) → w.algorithm.claims.items ≡ [] → claim_broken w ps ≡ None
none_broken w ps none = ap (λ (claims : List NeverClaim). first_broken w ps claims) none

-- ---- of numbers below another

neither_holds : (a b : Bool) → (a || b) ≡ false → (a ≡ false) × (b ≡ false)
neither_holds true b h = absurd (cc)
neither_holds false b h = (refl, h)

-- where the test holds of no number below, it does not hold of this one
not_below : (test : ℕ → Bool) (n p : ℕ) → any_below test n ≡ false → p < n → test p ≡ false
not_below test zero p none low = absurd (omega (arith, low))
not_below test (suc n) p none low = elim (cases_lt p n) [
  | inl less ↦ not_below test n p (neither_holds (any_below test n) (test n) none).0 less
  | inr past ↦
      let same : n ≡ p = omega (arith, past, low) in
      subst (λ (m : ℕ). test m ≡ false) same (neither_holds (any_below test n) (test n) none).1
]

-- ---- of the processes that a claim names

module _ (w : AlgorithmWorldState) (ps : List Phase) (claim : NeverClaim) where
  -- what a monitor asks, by the number of processes
  abbrev answer_by_number : ℕ → Bool
  answer_by_number n =
      if n == 0 then holds_of w ps claim None None
      else if n == 1 then any_below (λ p. holds_of w ps claim (Some p) None) w.procs
      else any_below (λ p. any_below (holds_beside w ps claim p) w.procs) w.procs

  answer_of_number : (n : ℕ) → claim.processes ≡ n → is_broken w ps claim ≡ false → answer_by_number n ≡ false
  answer_of_number n is none = subst (λ (m : ℕ). answer_by_number m ≡ false) is none

  pub nobody_none : claim.processes ≡ 0 → is_broken w ps claim ≡ false → holds_of w ps claim None None ≡ false
  nobody_none is none = answer_of_number 0 is none

  pub nobody_one : (p : ℕ) → claim.processes ≡ 1 → is_broken w ps claim ≡ false → p < w.procs → holds_of w ps claim (Some p) None ≡ false
  nobody_one p is none low = not_below (λ (q : ℕ). holds_of w ps claim (Some q) None) w.procs p (answer_of_number 1 is none) low

  pub nobody_two : (p q : ℕ) → claim.processes ≡ 2 → is_broken w ps claim ≡ false → p < w.procs → q < w.procs → q ≢ p → holds_of w ps claim (Some p) (Some q) ≡ false
  nobody_two p q is none low_p low_q other =
      let here = not_below (λ (x : ℕ). any_below (holds_beside w ps claim x) w.procs) w.procs p (answer_of_number 2 is none) low_p in
      sym (ap (λ (b : Bool). not b && holds_of w ps claim (Some p) (Some q)) (ne_eqb q p other)) ∙ not_below (holds_beside w ps claim p) w.procs q here low_q
