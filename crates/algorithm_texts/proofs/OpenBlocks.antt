-- The last line whose block is open.
use Rattle.std.proofs.Common.{◌≡◌, ℕ, zero, suc, ◌+◌, ◌<◌, count_by, true, List, [], ◌∷◌, length, get_or, drop, Some, None, refl, sym, ap, ◌∙◌, subst, arith, eq-eqb}
use Rattle.std.proofs.lemmas.List.{at_drop_more}
use Rattle.algorithm_texts.specs.declared.block_lines.BlockLine.{BlockLine}
use Rattle.algorithm_texts.specs.BlockLines.{begins_block, ends_block, innermost_open, may_stay_open, stays_open}

from_here : (lines : List BlockLine) (place : ℕ) → innermost_open (drop place lines) ≡ Some 0 → innermost_open lines ≡ Some place
from_here lines zero h = h
from_here [] (suc place) h = absurd (cc)
from_here (line ∷ lines) (suc place) h =
    let e : place + 1 ≡ suc place = omega arith in
    rw (from_here lines place h) (ap (λ (k : ℕ). Some k) e)

-- the line is the last one that stays open: after it as many blocks end as begin, and none stays open
pub found_here : (lines : List BlockLine) (place after ended : ℕ) (d : BlockLine) → after ≡ place + 1 → place < length lines → innermost_open (drop after lines) ≡ None
    → count_by ends_block (drop after lines) ≡ ended + count_by begins_block (drop after lines) → ended ≡ 0 → may_stay_open (get_or lines place d) ≡ true
    → Some place ≡ innermost_open lines
found_here lines place after ended d e less none more zeros stays =
    let same : count_by begins_block (drop after lines) ≡ count_by ends_block (drop after lines) = omega (arith, more, zeros) in
    let here : stays_open (get_or lines place d) (drop (place + 1) lines) ≡ true =
    subst (λ (k : ℕ). stays_open (get_or lines place d) (drop k lines) ≡ true) e (rw stays (eq-eqb _ _ same)) in
    let rest : innermost_open (drop (place + 1) lines) ≡ None = subst (λ (k : ℕ). innermost_open (drop k lines) ≡ None) e none in
    sym (from_here lines place (at_drop_more innermost_open lines place d less ∙ rw (rest, here) refl))
