-- The deed lines at the front of a text.
use Rattle.std.proofs.Common.{◌≡◌, ℕ, ◌+◌, ◌<◌, List, [], ◌∷◌, ◌++◌, length, map, take, sym, ap, ◌∙◌, append_assoc, arith, codes, slice_set, append-nil}
use Rattle.schedule.proofs.LexerCommon.{decimal, join_with_byte, line_of, spaced_numbers}
use Rattle.std.proofs.lemmas.Grind.{common_steps, flat_map-append}
use Rattle.schedule.specs.Deeds.{words_of_deed}
use Rattle.redomail.specs.declared.deed.Deed.TheVariants.{Commit, Show}
use Rattle.schedule.proofs.Spaced.{join_spaced}

-- ---- the numbers of a message

one_more : (v : List ℕ) (n : ℕ) → spaced_numbers (v ++ n ∷ []) ≡ spaced_numbers v ++ (32 ∷ decimal n)
one_more v n = flat_map-append (λ m. 32 ∷ decimal m) v (n ∷ []) ∙ ap (λ (t : List ℕ). spaced_numbers v ++ t) (append-nil (32 ∷ decimal n))

pub value_grows : (text rest after tail words : List ℕ) (j n : ℕ) → j < length words → text ≡ spaced_numbers (take j words) ++ rest → rest ≡ 32 ∷ after → after ≡ decimal n ++ tail
    → text ≡ spaced_numbers (take (j + 1) (slice_set words j n)) ++ tail
value_grows text rest after tail words j n lt a b c =
    let e : take (j + 1) (slice_set words j n) ≡ take j words ++ n ∷ [] = grind (arith, common_steps) in
    let front = spaced_numbers (take j words) in
    rw e (a ∙ ap (λ (t : List ℕ). front ++ t) (b ∙ ap (λ (t : List ℕ). 32 ∷ t) c) ∙ sym (append_assoc front (32 ∷ decimal n) tail) ∙ ap (λ (t : List ℕ). t ++ tail) (sym (one_more (take j words) n)))

-- a number, a space and the rest of a line, before its end
pub before_end : (n : ℕ) (more rest after : List ℕ) → 32 ∷ (more ++ (10 ∷ after)) ≡ rest → (decimal n ++ (32 ∷ more)) ++ (10 ∷ after) ≡ decimal n ++ rest
before_end n more rest after e = append_assoc (decimal n) (32 ∷ more) (10 ∷ after) ∙ ap (λ (t : List ℕ). decimal n ++ t) e

abbrev pub message : ℕ → List ℕ → List ℕ
message seq v = join_with_byte 32 (decimal seq ∷ map decimal v)

pub message_is : (seq : ℕ) (v text value end after : List ℕ) → text ≡ decimal seq ++ value → value ≡ spaced_numbers v ++ end → end ≡ 10 ∷ after → message seq v ++ (10 ∷ after) ≡ text
message_is seq v text value end after a b c =
    ap (λ (t : List ℕ). t ++ (10 ∷ after)) (join_spaced (decimal seq) v) ∙ append_assoc (decimal seq) (spaced_numbers v) (10 ∷ after)
    ∙ ap (λ (t : List ℕ). decimal seq ++ t) (ap (λ (t : List ℕ). spaced_numbers v ++ t) (sym c) ∙ sym b) ∙ sym a

pub commit_line : (p seq : ℕ) (v rest text value end after : List ℕ) → rest ≡ 32 ∷ text → text ≡ decimal seq ++ value → value ≡ spaced_numbers v ++ end → end ≡ 10 ∷ after
    → line_of (words_of_deed (Commit p seq v)) ++ after ≡ codes "commit" ++ 32 ∷ (decimal p ++ rest)
commit_line p seq v rest text value end after a b c d =
    let tail : 32 ∷ (message seq v ++ (10 ∷ after)) ≡ rest = ap (λ (t : List ℕ). 32 ∷ t) (message_is seq v text value end after b c d) ∙ sym a in
    ap (λ (t : List ℕ). codes "commit " ++ t) (append_assoc (decimal p ++ (32 ∷ message seq v)) (10 ∷ []) after ∙ before_end p (message seq v) rest after tail)

pub show_line : (p at seq : ℕ) (v rest place more text value end after : List ℕ) → rest ≡ 32 ∷ place → place ≡ decimal at ++ more → more ≡ 32 ∷ text
    → text ≡ decimal seq ++ value → value ≡ spaced_numbers v ++ end → end ≡ 10 ∷ after
    → line_of (words_of_deed (Show p at seq v)) ++ after ≡ codes "show" ++ 32 ∷ (decimal p ++ rest)
show_line p at seq v rest place more text value end after a b c d e f =
    let tail : 32 ∷ (message seq v ++ (10 ∷ after)) ≡ more = ap (λ (t : List ℕ). 32 ∷ t) (message_is seq v text value end after d e f) ∙ sym c in
    let placed : 32 ∷ ((decimal at ++ (32 ∷ message seq v)) ++ (10 ∷ after)) ≡ rest = ap (λ (t : List ℕ). 32 ∷ t) (before_end at (message seq v) more after tail ∙ sym b) ∙ sym a in
    ap (λ (t : List ℕ). codes "show " ++ t) (append_assoc (decimal p ++ (32 ∷ (decimal at ++ (32 ∷ message seq v)))) (10 ∷ []) after ∙ before_end p (decimal at ++ (32 ∷ message seq v)) rest after placed)
