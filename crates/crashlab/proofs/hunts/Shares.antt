-- Rounds shared out.
use Rattle.std.proofs.Common.{◌≡◌, ◌+◌, ◌-◌, ◌≤◌, ℕ, zero, suc, Option, Some, None, refl, sym, ap, ◌∙◌, arith}
use Rattle.schedule.specs.Schedules.{Scheduled}
use Rattle.crashlab.specs.declared.hunts.random_moves.RandomMoves.{RandomMoves}
use Rattle.crashlab.specs.declared.variants.variant.Variant.{Variant}
use Rattle.crashlab.specs.hunts.Hunted.{found_in, found_from, or_else}

else_else : {A : Type 0} (a b c : Option A) → or_else (or_else a b) c ≡ or_else a (or_else b c)
else_else None b c = refl
else_else (Some x) b c = refl

-- the first of some rounds, and then of those after them
pub both : (variant : Variant) (asked : RandomMoves) (first m n : ℕ) → found_from variant asked first (m + n) ≡ or_else (found_from variant asked first m) (found_from variant asked (first + m) n)
unfolding found_from
both variant asked first zero n = (λ i. found_from variant asked ((let e : first ≡ first + 0 = omega arith in e) i) ((let e : 0 + n ≡ n = omega arith in e) i))
both variant asked first (suc m) n =
    ap (found_from variant asked first) (let e : suc m + n ≡ suc (m + n) = omega arith in e)
    ∙ ap (or_else (found_in variant asked first)) (both variant asked (first + 1) m n ∙ ap (λ k. or_else (found_from variant asked (first + 1) m) (found_from variant asked k n)) (let e : first + 1 + m ≡ first + suc m = omega arith in e))
    ∙ sym (else_else (found_in variant asked first) (found_from variant asked (first + 1) m) (found_from variant asked (first + suc m) n))

-- an answer of the first ones is that of all
pub shared_found : (variant : Variant) (asked : RandomMoves) (first m rounds : ℕ) {schedule : Scheduled} → m ≤ rounds → Some schedule ≡ found_from variant asked first m → Some schedule ≡ found_from variant asked first rounds
shared_found variant asked first m rounds few found =
    ap (λ o. or_else o (found_from variant asked (first + m) (rounds - m))) found ∙ sym (both variant asked first m (rounds - m))
    ∙ ap (found_from variant asked first) (let e : m + (rounds - m) ≡ rounds = omega (arith, few) in e)

-- where the first ones answer nothing, that of the others is that of all
pub shared_none : (variant : Variant) (asked : RandomMoves) (first m rounds : ℕ) {found : Option Scheduled} → m ≤ rounds → None ≡ found_from variant asked first m → found ≡ found_from variant asked (first + m) (rounds - m)
    → found ≡ found_from variant asked first rounds
shared_none variant asked first m rounds few none found =
    found ∙ ap (λ o. or_else o (found_from variant asked (first + m) (rounds - m))) none ∙ sym (both variant asked first m (rounds - m))
    ∙ ap (found_from variant asked first) (let e : m + (rounds - m) ≡ rounds = omega (arith, few) in e)
