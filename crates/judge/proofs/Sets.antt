-- Sets as rows of bits.
use Rattle.std.proofs.Common.{◌≡◌, ◌≢◌, ℕ, ◌+◌, ◌<◌, Bool, true, false, ◌||◌, ◌==◌, max, List, [], ◌∷◌, ◌++◌, take, length, slice_index, bit_or, refl, sym, ◌∙◌, ap, subst, inl, inr, arith, get_or, below_more, length-append, eq-eqb, ne_eqb}
use Rattle.judge.proofs.Common.{cases_eq, get_or_append_left, get_or_push, list_any_more, bit_at_or, bit_at, HasBits, is_named}
use Rattle.judge.proofs.Counts.{one_if}

either : (b c : Bool) → max (one_if b) (one_if c) ≡ one_if (b || c)
either true true = refl
either true false = refl
either false true = refl
either false false = refl

-- a row with one more name
pub HasBits-more : (row one i : ℕ) (names : List ℕ) → i < length names → bit_at one (get_or names i 0) ≡ 1 → ((k : ℕ) → k ≢ get_or names i 0 → bit_at one k ≡ 0)
    → HasBits row 64 (is_named (take i names)) → HasBits (bit_or row one) 64 (is_named (take (i + 1) names))
HasBits-more row one i names l here others bits q lq =
    let more = list_any_more (λ name. name == q) names i 0 l in
    let added : bit_at one q ≡ one_if (get_or names i 0 == q) = elim (cases_eq (get_or names i 0) q) [
      | inl same ↦ subst (λ k. bit_at one k ≡ one_if (get_or names i 0 == k)) same (here ∙ ap one_if (sym (eq-eqb (get_or names i 0) (get_or names i 0) refl)))
      | inr other ↦ others q (λ e. other (sym e)) ∙ ap one_if (sym (ne_eqb (get_or names i 0) q other))
    ] in
    rw (bit_at_or, bits q lq, added, more) (either (is_named (take i names) q) (get_or names i 0 == q))

-- rows with one more row
abbrev pub RowsHold : List ℕ → ℕ → (ℕ → ℕ → Bool) → Type 0
RowsHold rows i f = (length rows ≡ i) × ((p : ℕ) → p < i → HasBits (slice_index rows p) 64 (f p))

pub RowsHold-more : (rows new : List ℕ) (i row : ℕ) (f : ℕ → ℕ → Bool) → new ≡ rows ++ row ∷ [] → HasBits row 64 (f i) → RowsHold rows i f → RowsHold new (i + 1) f
RowsHold-more rows new i row f e bits h = (
  ap length e ∙ (length-append rows (row ∷ []) ∙ ap (λ k. k + 1) h.0),
  below_more (λ p. HasBits (get_or new p 0) 64 (f p)) i
      (λ p l. let within : p < length rows = omega (arith, h.0) in let same : get_or new p 0 ≡ get_or rows p 0 = ap (λ xs. get_or xs p 0) e ∙ get_or_append_left rows (row ∷ []) 0 p within in subst (λ x. HasBits x 64 (f p)) (sym same) (h.1 p l))
      (let same : get_or new i 0 ≡ row = ap (λ xs. get_or xs i 0) e ∙ get_or_push rows row 0 i h.0 in subst (λ x. HasBits x 64 (f i)) (sym same) bits),
)
