-- A list of lines in quotation marks, a line at a time.
use Rattle.std.proofs.Common.{◌≡◌, ◌∙◌, ℕ, Bool, true, false, eqb, eqb-true, length, arith, List, [], ◌∷◌, ◌++◌, map, append_assoc, sym, ap, refl}
use Rattle.std.proofs.lemmas.List.{map-append}
use Rattle.std.specs.List.{join_with_byte}
use Rattle.command_parts.specs.ReportObjects.{list_text, string_text}

-- one more at the end
join_more : (byte : ℕ) (first : List ℕ) (xs : List (List ℕ)) (last : List ℕ)
    → join_with_byte byte ((first ∷ xs) ++ last ∷ []) ≡ join_with_byte byte (first ∷ xs) ++ (byte ∷ last)
join_more byte first [] last = refl
join_more byte first (x ∷ xs) last =
    ap (λ (text : List ℕ). first ++ (byte ∷ text)) (join_more byte x xs last) ∙ sym (append_assoc first (byte ∷ join_with_byte byte (x ∷ xs)) (byte ∷ last))

pub empty_list : (list : List ℕ) (is_empty : Bool) → is_empty ≡ eqb (length list) 0 → is_empty ≡ true → list ≡ []
empty_list [] is_empty said is = refl
empty_list (x ∷ xs) is_empty said is = absurd (omega (arith, eqb-true (length (x ∷ xs)) 0 (sym said ∙ is)))

pub some_list : (list : List ℕ) (is_empty : Bool) → is_empty ≡ eqb (length list) 0 → is_empty ≡ false → list ≡ [] → ⊥
some_list list is_empty said is none = cc (sym is ∙ said ∙ ap (λ (xs : List ℕ). eqb (length xs) 0) none)

-- the first line of a list
pub put_first : (lines : List (List ℕ)) (line list : List ℕ) → list ≡ list_text lines → list ≡ [] → list ++ string_text line ≡ list_text (lines ++ line ∷ [])
put_first [] line list is none = ap (λ (xs : List ℕ). xs ++ string_text line) none
put_first (l ∷ []) line list is none = absurd (cc (sym is ∙ none))
put_first (l ∷ next ∷ lines) line list is none = absurd (cc (sym is ∙ none))

-- a further line
pub put_further : (lines : List (List ℕ)) (line list : List ℕ) → list ≡ list_text lines → (list ≡ [] → ⊥)
    → (list ++ 44 ∷ []) ++ string_text line ≡ list_text (lines ++ line ∷ [])
put_further [] line list is some = absurd (some is)
put_further (l ∷ ls) line list is some =
    append_assoc list (44 ∷ []) (string_text line)
    ∙ (ap (λ (xs : List ℕ). xs ++ (44 ∷ string_text line)) is
    ∙ (sym (join_more 44 (string_text l) (map string_text ls) (string_text line)) ∙ sym (ap (join_with_byte 44) (map-append string_text (l ∷ ls) (line ∷ [])))))
