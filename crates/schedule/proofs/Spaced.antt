-- Numbers as words with a space before each.
use Rattle.std.proofs.Common.{◌≡◌, ℕ, ◌+◌, ◌<◌, List, [], ◌∷◌, ◌++◌, map, flat_map, codes, rules, sym, ap, ◌∙◌, append_assoc, append-nil}
use Rattle.schedule.proofs.LinesCommon.{decimal_digit, decimal, join_with_byte, spaced_numbers}
use Rattle.std.proofs.lemmas.List.Concat.{flat_map-cons}

pub join_spaced : (w : List ℕ) (v : List ℕ) → join_with_byte 32 (w ∷ map decimal v) ≡ w ++ spaced_numbers v
join_spaced w [] = sym (append-nil w)
join_spaced w (n ∷ v) = ap (λ (t : List ℕ). w ++ 32 ∷ t) (join_spaced (decimal n) v) ∙ ap (λ (t : List ℕ). w ++ t) (sym (flat_map-cons (λ m. 32 ∷ decimal m) n v))

-- words of any kind, each after the first with a space before it
pub join_words : (w : List ℕ) (ws : List (List ℕ)) → join_with_byte 32 (w ∷ ws) ≡ w ++ flat_map (λ (word : List ℕ). 32 ∷ word) ws
join_words w [] = sym (append-nil w)
join_words w (next ∷ ws) = ap (λ (t : List ℕ). w ++ 32 ∷ t) (join_words next ws) ∙ ap (λ (t : List ℕ). w ++ t) (sym (flat_map-cons (λ (word : List ℕ). 32 ∷ word) next ws))

-- the line of a verdict, as it is written
pub verdict_made : (out number at rest : List ℕ)
    → ((((out ++ codes "verdict against") ++ 32 ∷ number) ++ 32 ∷ (codes "at" ++ 32 ∷ at)) ++ rest) ++ 10 ∷ []
    ≡ out ++ ((codes "verdict against" ++ 32 ∷ (number ++ 32 ∷ (codes "at" ++ 32 ∷ (at ++ rest)))) ++ 10 ∷ [])
verdict_made out number at rest = search (rules, append_assoc)

pub digit_written : (before : List ℕ) (n : ℕ) → n < 10 → (before ++ 32 ∷ []) ++ (48 + n) ∷ [] ≡ before ++ (32 ∷ decimal n)
digit_written before n small = append_assoc before (32 ∷ []) ((48 + n) ∷ []) ∙ ap (λ (t : List ℕ). before ++ (32 ∷ t)) (sym (decimal_digit n small))
