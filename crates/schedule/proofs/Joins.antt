-- Cutting words that are joined by spaces gives back the words, and the same for lines.
use Rattle.std.proofs.Common.{◌≡◌, ℕ, ◌^◌, ◌<◌, leb, Bool, true, false, ltb, eqb, List, [], ◌∷◌, ◌++◌, map, Result, Ok, refl, ap, ◌∙◌, append_assoc, arith, ltb-true, lt-ltb, ne_eqb, eq-eqb, leb-true}
use Rattle.schedule.proofs.LinesCommon.{and_parts, and_from, digits_decimal, slice_split-cons_no, is_ascii_digit, decimal, slice_split, onto_first, join_with_byte, AllByRecursion, list_all, parts_of, line_of}
use Rattle.schedule.proofs.LinesCommon.{words_of, LineFault}
use Rattle.schedule.proofs.Numbers.{own}

-- bytes above b
abbrev pub is_above : ℕ → List ℕ → Bool
is_above b bytes = list_all (λ x. ltb b x) bytes

above_isnt : (b x : ℕ) → ltb b x ≡ true → eqb x b ≡ false
above_isnt b x e = ne_eqb x b (λ (z : x ≡ b). absurd (omega (arith, ltb-true b x e)))

split_above : (b : ℕ) (w : List ℕ) → is_above b w ≡ true → slice_split (λ x. eqb x b) w ≡ w ∷ []
split_above b [] e = refl
split_above b (x ∷ xs) e =
    let p = and_parts (ltb b x) (is_above b xs) e in
    slice_split-cons_no (λ y. eqb y b) x xs (above_isnt b x p.0) ∙ ap (onto_first x) (split_above b xs p.1)

equals_itself : (b : ℕ) (w rest : List ℕ) → slice_split (λ x. eqb x b) (b ∷ rest) ≡ [] ∷ slice_split (λ x. eqb x b) rest
equals_itself b w rest = rw (eq-eqb b b refl) refl

split_above_at : (b : ℕ) (w rest : List ℕ) → is_above b w ≡ true → slice_split (λ x. eqb x b) (w ++ b ∷ rest) ≡ w ∷ slice_split (λ x. eqb x b) rest
split_above_at b [] rest e = equals_itself b [] rest
split_above_at b (x ∷ xs) rest e =
    let p = and_parts (ltb b x) (is_above b xs) e in
    slice_split-cons_no (λ y. eqb y b) x (xs ++ b ∷ rest) (above_isnt b x p.0) ∙ ap (onto_first x) (split_above_at b xs rest p.1)

-- words of bytes above the space, at least one of them
abbrev pub ArePlain : List (List ℕ) → Type 0
ArePlain [] = ⊥
ArePlain (w ∷ []) = is_above 32 w ≡ true
ArePlain (w ∷ v ∷ ws) = (is_above 32 w ≡ true) × ArePlain (v ∷ ws)

pub words_of-join : (ws : List (List ℕ)) → ArePlain ws → words_of (join_with_byte 32 ws) ≡ ws
words_of-join [] h = absurd h
words_of-join (w ∷ []) h = split_above 32 w h
words_of-join (w ∷ v ∷ ws) h =
    split_above_at 32 w (join_with_byte 32 (v ∷ ws)) h.0 ∙ ap (λ (xs : List (List ℕ)). w ∷ xs) (words_of-join (v ∷ ws) h.1)

above_lower : (w : List ℕ) → is_above 32 w ≡ true → is_above 10 w ≡ true
above_lower [] e = refl
above_lower (x ∷ xs) e =
    let p = and_parts (ltb 32 x) (is_above 32 xs) e in
    and_from (ltb 10 x) (is_above 10 xs) (lt-ltb 10 x (omega (arith, ltb-true 32 x p.0))) (above_lower xs p.1)

above_joined : (xs ys : List ℕ) → is_above 10 xs ≡ true → is_above 10 ys ≡ true → is_above 10 (xs ++ ys) ≡ true
above_joined [] ys e f = f
above_joined (x ∷ xs) ys e f =
    let p = and_parts (ltb 10 x) (is_above 10 xs) e in
    and_from (ltb 10 x) (is_above 10 (xs ++ ys)) p.0 (above_joined xs ys p.1 f)

join_above : (ws : List (List ℕ)) → ArePlain ws → is_above 10 (join_with_byte 32 ws) ≡ true
join_above [] h = absurd h
join_above (w ∷ []) h = above_lower w h
join_above (w ∷ v ∷ ws) h = above_joined w (32 ∷ join_with_byte 32 (v ∷ ws)) (above_lower w h.0) (join_above (v ∷ ws) h.1)

-- the first line of a text that begins with a line of these words
pub parts_of-line : (ws : List (List ℕ)) (rest : List ℕ) → ArePlain ws → parts_of (line_of ws ++ rest) ≡ join_with_byte 32 ws ∷ parts_of rest
parts_of-line ws rest h = ap parts_of (append_assoc (join_with_byte 32 ws) (10 ∷ []) rest) ∙ split_above_at 10 (join_with_byte 32 ws) rest (join_above ws h)

-- ---- numbers are plain

digit_above : (c : ℕ) → is_ascii_digit c ≡ true → ltb 32 c ≡ true
digit_above c e = let p = and_parts (leb 48 c) (leb c 57) e in lt-ltb 32 c (omega (arith, leb-true 48 c p.0))

digits_above : (w : List ℕ) → list_all is_ascii_digit w ≡ true → is_above 32 w ≡ true
digits_above [] e = refl
digits_above (c ∷ cs) e =
    let p = and_parts (is_ascii_digit c) (list_all is_ascii_digit cs) e in
    and_from (ltb 32 c) (is_above 32 cs) (digit_above c p.0) (digits_above cs p.1)

pub decimal_above : (n : ℕ) → n < 2 ^ 64 → is_above 32 (decimal n) ≡ true
decimal_above n small = digits_above (decimal n) (digits_decimal own n small)

pub decimals_plain : (w : List ℕ) (v : List ℕ) → is_above 32 w ≡ true → AllByRecursion (λ n. n < 2 ^ 64) v → ArePlain (w ∷ map decimal v)
decimals_plain w [] e h = e
decimals_plain w (n ∷ v) e h = (e, decimals_plain (decimal n) v (decimal_above n h.0) h.1)

-- reading and spelling that are inverse
pub record IsCodec (A : Type 0) (read : List (List ℕ) → Result A LineFault) (words : A → List (List ℕ)) (Valid : A → Type 0) : Type 0 where
  pub takes : (ws : List (List ℕ)) (x : A) → read ws ≡ Ok x → (ws ≡ words x) × Valid x
  pub again : (x : A) → Valid x → read (words x) ≡ Ok x
  pub plain : (x : A) → Valid x → ArePlain (words x)
