-- Reading the words of a line.
use Rattle.std.proofs.Common.{◌≡◌, ℕ, suc, ◌+◌, ◌-◌, ◌^◌, ◌<◌, ◌==◌, false, List, [], ◌∷◌, ◌++◌, length, drop, Result, Ok, Err, refl, sym, ap, ◌∙◌, append_assoc, arith}
use Rattle.schedule.proofs.LinesCommon.{length-slice_split, LineFault, TrailingText, repeated_shape, numbers_at, is_nil, words_of, first_of, ◌>>=◌, number_in}

-- a line has a word, which may be empty
some_word : (ws : List (List ℕ)) → 0 < length ws → (is_nil ws ≡ false) × (numbers_at [] ws ≡ Err TrailingText)
some_word [] lt = absurd (omega arith)
some_word (w ∷ ws) lt = (refl, refl)

pub line_has_word : (line : List ℕ) → (is_nil (words_of line) ≡ false) × (numbers_at [] (words_of line) ≡ Err TrailingText)
line_has_word line = some_word (words_of line) (omega (arith, length-slice_split (λ b. b == 32) line))

-- what was read before, and what is still read
abbrev pub with_front : List ℕ → Result (List ℕ) LineFault → Result (List ℕ) LineFault
with_front front read = read >>= λ ns. Ok (front ++ ns)

regroup : (front : List ℕ) (n : ℕ) (read : Result (List ℕ) LineFault) → with_front front (read >>= λ ns. Ok (n ∷ ns)) ≡ with_front (front ++ n ∷ []) read
regroup front n (Ok ns) = ap (λ (xs : List ℕ). Ok xs) (sym (append_assoc front (n ∷ []) ns))
regroup front n (Err f) = refl

pub goes_on : (front : List ℕ) (width j : ℕ) (ws : List (List ℕ)) (n : ℕ) (total : Result (List ℕ) LineFault) → j < width
    → number_in 0 (2 ^ 64 - 1) (first_of ws) ≡ Ok n
    → with_front front (numbers_at (repeated_shape (width - j)) ws) ≡ total
    → with_front (front ++ n ∷ []) (numbers_at (repeated_shape (width - (j + 1))) (drop 1 ws)) ≡ total
goes_on front width j ws n total lt read so_far =
    let k : width - j ≡ suc (width - (j + 1)) = omega arith in
    let one : with_front front (numbers_at (repeated_shape (width - j)) ws) ≡ with_front (front ++ n ∷ []) (numbers_at (repeated_shape (width - (j + 1))) (drop 1 ws))
    = rw (k, read) (regroup front n (numbers_at (repeated_shape (width - (j + 1))) (drop 1 ws))) in
    sym one ∙ so_far

pub stops : (front : List ℕ) (width j : ℕ) (ws : List (List ℕ)) (f : LineFault) (total : Result (List ℕ) LineFault) → j < width
    → number_in 0 (2 ^ 64 - 1) (first_of ws) ≡ Err f
    → with_front front (numbers_at (repeated_shape (width - j)) ws) ≡ total → total ≡ Err f
stops front width j ws f total lt read so_far =
    let k : width - j ≡ suc (width - (j + 1)) = omega arith in
    let one : with_front front (numbers_at (repeated_shape (width - j)) ws) ≡ Err f = rw (k, read) refl in
    sym so_far ∙ one
