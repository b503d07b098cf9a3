-- Names that are set to 0, one after the other.
use Rattle.std.proofs.Common.{ℕ, ◌+◌, ◌-◌, ◌<◌, ◌≤◌, ◌≡◌, List, [], ◌++◌, length, take, replicate, slice_set, sym, ◌∙◌, ap, arith}
use Rattle.std.proofs.Math.Seq.{paste}
use Rattle.std.proofs.lemmas.List.{append-nil, drop_all, take_all, length-replicate}
use Rattle.std.proofs.lemmas.List.Edits.{fill_from_more, paste_all, paste_none}
use Rattle.algorithms.specs.Steps.{lasting_names}

-- n zeros from a place on
abbrev zeros : List ℕ → ℕ → ℕ → List ℕ
zeros d at n = paste d at (replicate n 0) n

pub zeros_more : (d s : List ℕ) (at i : ℕ) → at ≤ i → i < length d → s ≡ zeros d at (i - at) → slice_set s i 0 ≡ zeros d at (i + 1 - at)
zeros_more d s at i low high e =
    let here : at + (i - at) ≡ i = omega arith in
    let more : (i - at) + 1 ≡ i + 1 - at = omega arith in
    let far : at + (i - at) < length d = omega arith in
    ap (λ x. slice_set x i 0) e ∙ ap (λ j. slice_set (zeros d at (i - at)) j 0) (sym here) ∙ fill_from_more d at (i - at) 0 far ∙ ap (zeros d at) more

-- to the end
pub zeros_all : (d s : List ℕ) (at i : ℕ) → length d ≡ 64 → at ≤ 64 → i ≡ 64 → s ≡ zeros d at (i - at) → s ≡ lasting_names at d
zeros_all d s at i long low end e =
    let n : i - at ≡ 64 - at = omega arith in
    let past : length d ≤ at + (64 - at) = omega arith in
    e ∙ ap (zeros d at) n ∙ paste_all d at (replicate (64 - at) 0) (64 - at) (sym (length-replicate (64 - at) 0))
    ∙ ap (λ rest. take at d ++ (replicate (64 - at) 0 ++ rest)) (drop_all (at + (64 - at)) d past)
    ∙ ap (λ rest. take at d ++ rest) (append-nil (replicate (64 - at) 0))

-- from a place past the end on none
pub zeros_none : (d s : List ℕ) (at i : ℕ) → length d ≡ 64 → 64 < at → i ≡ at → s ≡ zeros d at (i - at) → s ≡ lasting_names at d
zeros_none d s at i long high start e =
    let n : i - at ≡ 0 = omega arith in
    let m : 64 - at ≡ 0 = omega arith in
    let past : length d ≤ at = omega arith in
    e ∙ ap (zeros d at) n ∙ sym (paste_none d at [])
    ∙ sym (append-nil d) ∙ ap (λ x. x ++ []) (sym (take_all at d past))
    ∙ ap (λ k. take at d ++ replicate k 0) (sym m)
