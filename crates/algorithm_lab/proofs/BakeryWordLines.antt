-- The lines of the text's words at the end of a report.
use Rattle.std.proofs.Common.{◌≡◌, ℕ, zero, suc, ◌+◌, ◌<◌, List, [], ◌∷◌, ◌++◌, take, map, Some, refl, sym, ap, ◌∙◌, arith, append_assoc, append-nil}
use Rattle.std.specs.Prelude.{codes, slice_get, string_bytes}
use Rattle.std.proofs.lemmas.List.FromFn.{map-range_with_len_more}
use Rattle.rmecore.specs.declared.own.Own.{Own}
use Rattle.schedule.specs.Words.{spaced_numbers}
use Rattle.algorithms.specs.declared.algorithm.Algorithm.{Algorithm}
use Rattle.algorithms.specs.Extents.{extent_length}
use Rattle.algorithms.specs.declared.algorithm.Declaration.{Declaration}
use Rattle.algorithms.specs.declared.algorithm.Extent.{Extent}
use Rattle.algorithms.specs.declared.algorithm.Extent.TheVariants.{Each}
use Rattle.algorithm_lab.specs.Bakery.{IsBakery, name_of, extent_of}
use Rattle.algorithm_lab.specs.LockLines.{of_each, word_line, words_lines}
use Rattle.algorithm_lab.specs.Reports.{words_used, words_line, words_text}
use Rattle.algorithm_lab.proofs.BakeryWords.{AlikeWords, IsRowOf}

take_one : (row : List ℕ) (n v : ℕ) → slice_get row n ≡ Some v → take (suc n) row ≡ take n row ++ v ∷ []
take_one [] n v e = absurd (cc)
take_one (x ∷ row) zero v e = let same : x ≡ v = cc in ap (λ y. y ∷ []) same
take_one (x ∷ row) (suc n) v e = ap (λ l. x ∷ l) (take_one row n v e)

-- a row has the numbers of its processes
taken : (n : ℕ) (f : ℕ → ℕ) (row : List ℕ) → ((p : ℕ) → p < n → slice_get row p ≡ Some (f p)) → take n row ≡ of_each n f
taken zero f row each = refl
taken (suc n) f row each =
    let more : n + 1 ≡ suc n = omega arith in
    take_one row n (f n) (each n (omega arith))
    ∙ ap (λ l. l ++ f n ∷ []) (taken n f row (λ p low. each p (omega (arith, low))))
    ∙ sym (map-range_with_len_more f 0 n n (omega arith))
    ∙ ap (λ k. of_each k f) more

one_line : (n limit : ℕ) (f : ℕ → ℕ) (d : Declaration) (name row : List ℕ) → string_bytes d.name ≡ name → d.extent ≡ Each → IsRowOf n f row → words_line n limit d row ≡ word_line name (of_each n f)
one_line n limit f d name row named each is =
    ap (λ t. codes "words " ++ t ++ spaced_numbers (take (words_used n limit d) row) ++ 10 ∷ []) named
    ∙ ap (λ (x : Extent). codes "words " ++ name ++ spaced_numbers (take (extent_length n limit x) row) ++ 10 ∷ []) each
    ∙ ap (λ l. codes "words " ++ name ++ spaced_numbers l ++ 10 ∷ []) (taken n f row is.each)

-- the three lines
three_lines : (n limit : ℕ) (words : ℕ → Own) (ds : List Declaration) (rows : List (List ℕ)) → map name_of ds ≡ codes "choosing" ∷ codes "number" ∷ codes "inside" ∷ [] → map extent_of ds ≡ Each ∷ Each ∷ Each ∷ []
    → AlikeWords n words rows → words_text n limit rows 0 ds ≡ words_lines n words
three_lines n limit words [] rows names each alike = absurd (cc)
three_lines n limit words (c ∷ []) rows names each alike = absurd (cc)
three_lines n limit words (c ∷ k ∷ []) rows names each alike = absurd (cc)
three_lines n limit words (c ∷ k ∷ i ∷ []) rows names each alike =
    let of_c : string_bytes c.name ≡ codes "choosing" = cc in
    let of_k : string_bytes k.name ≡ codes "number" = cc in
    let of_i : string_bytes i.name ≡ codes "inside" = cc in
    let each_c : c.extent ≡ Each = cc in
    let each_k : k.extent ≡ Each = cc in
    let each_i : i.extent ≡ Each = cc in
    let line_c : List ℕ = word_line (codes "choosing") (of_each n (λ p. (words p).choosing)) in
    let line_k : List ℕ = word_line (codes "number") (of_each n (λ p. (words p).number)) in
    let line_i : List ℕ = word_line (codes "inside") (of_each n (λ p. (words p).inside)) in
    ap (λ rows. words_text n limit rows 0 (c ∷ k ∷ i ∷ [])) alike.is
    ∙ ap (λ l. l ++ (words_line n limit k alike.number ++ (words_line n limit i alike.inside ++ []))) (one_line n limit (λ p. (words p).choosing) c (codes "choosing") alike.choosing of_c each_c alike.choosing_each)
    ∙ ap (λ l. line_c ++ (l ++ (words_line n limit i alike.inside ++ []))) (one_line n limit (λ p. (words p).number) k (codes "number") alike.number of_k each_k alike.number_each)
    ∙ ap (λ l. line_c ++ (line_k ++ (l ++ []))) (one_line n limit (λ p. (words p).inside) i (codes "inside") alike.inside of_i each_i alike.inside_each)
    ∙ ap (λ l. line_c ++ (line_k ++ l)) (append-nil line_i)
    ∙ sym (append_assoc line_c line_k line_i)
three_lines n limit words (c ∷ k ∷ i ∷ d ∷ ds) rows names each alike = absurd (cc)

pub end_lines : (a : Algorithm) → IsBakery a → (n limit : ℕ) (words : ℕ → Own) (rows : List (List ℕ)) → AlikeWords n words rows → words_text n limit rows 0 a.declarations.items ≡ words_lines n words
end_lines a b n limit words rows alike = three_lines n limit words a.declarations.items rows b.declared b.extents alike
