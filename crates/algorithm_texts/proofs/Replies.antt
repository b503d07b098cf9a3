-- Answers as words with one space between two.
use Rattle.std.proofs.Common.{◌≡◌, ℕ, zero, suc, ◌<◌, Bool, true, false, cond, not, eqb, leb, IsAscii, ◌&&◌, List, [], ◌∷◌, ◌++◌, length, get_or, filter, Ok, Err, refl, sym, ap, ◌∙◌, subst, append_assoc, arith}
use Rattle.std.proofs.lemmas.Bool.{false≢true, leb-true}
use Rattle.std.proofs.lemmas.Bool.Decides.{nat_tests}
use Rattle.std.proofs.lemmas.List.{append-nil}
use Rattle.std.proofs.lemmas.List.Folds.{list_all-append}
use Rattle.std.proofs.lemmas.Str.{IsAscii-append}
use Rattle.std.proofs.lemmas.Str.Ascii.{IsAscii-nil, IsAscii-cons}
use Rattle.std.specs.Char.{is_ascii_lowercase}
use Rattle.std.specs.List.{list_all, join_with_byte, slice_split, onto_first}
use Rattle.algorithms.specs.declared.fault.ReadFault.TheVariants.{BadForm}
use Rattle.algorithm_texts.specs.Tokens.{is_filled, is_answer_part, is_answer_word}
unfoldable use Rattle.algorithm_texts.specs.Tokens.{answer_from}

and_no : (b : Bool) → (b && false) ≡ false
and_no true = refl
and_no false = refl

kept_at : (xs ys : List (List ℕ)) (x : List ℕ) (b : Bool) → filter is_filled (xs ++ ys) ≡ filter is_filled xs ++ filter is_filled ys
    → cond b (x ∷ filter is_filled (xs ++ ys)) (filter is_filled (xs ++ ys)) ≡ cond b (x ∷ filter is_filled xs) (filter is_filled xs) ++ filter is_filled ys
kept_at xs ys x true e = ap (λ zs. x ∷ zs) e
kept_at xs ys x false e = e

kept_append : (xs ys : List (List ℕ)) → filter is_filled (xs ++ ys) ≡ filter is_filled xs ++ filter is_filled ys
kept_append [] ys = refl
kept_append (x ∷ xs) ys = kept_at xs ys x (is_filled x) (kept_append xs ys)

-- one more word after some
joined_more : (x : List ℕ) (xs : List (List ℕ)) (w : List ℕ) → join_with_byte 32 ((x ∷ xs) ++ w ∷ []) ≡ join_with_byte 32 (x ∷ xs) ++ (32 ∷ w)
joined_more x [] w = refl
joined_more x (y ∷ ys) w = ap (λ bs. x ++ (32 ∷ bs)) (joined_more y ys w) ∙ sym (append_assoc x (32 ∷ join_with_byte 32 (y ∷ ys)) (32 ∷ w))

-- words that are not empty make an answer that is not
long_enough : (x : List ℕ) (xs : List (List ℕ)) → 0 < length x → 0 < length (join_with_byte 32 (x ∷ xs))
long_enough [] xs h = absurd (omega (arith, h))
long_enough (b ∷ bs) [] h = h
long_enough (b ∷ bs) (y ∷ ys) h = omega arith

some_bytes : (n : ℕ) → not (eqb n 0) ≡ true → 0 < n
some_bytes n e = grind (arith, nat_tests)

filled_at : (p : List ℕ) (ps : List (List ℕ)) (x : List ℕ) (xs : List (List ℕ)) (b : Bool) → is_filled p ≡ b → cond b (p ∷ filter is_filled ps) (filter is_filled ps) ≡ x ∷ xs
    → ((y : List ℕ) (ys : List (List ℕ)) → filter is_filled ps ≡ y ∷ ys → 0 < length y) → 0 < length x
filled_at p ps x xs true e same h = let first : p ≡ x = cc in subst (λ z. 0 < length z) first (some_bytes (length p) e)
filled_at p ps x xs false e same h = h x xs same

filled_first : (parts : List (List ℕ)) (x : List ℕ) (xs : List (List ℕ)) → filter is_filled parts ≡ x ∷ xs → 0 < length x
filled_first [] x xs e = absurd (cc)
filled_first (p ∷ ps) x xs e = filled_at p ps x xs (is_filled p) refl e (λ y ys same. filled_first ps y ys same)

new_is : (parts : List (List ℕ)) (w : List ℕ) → is_filled w ≡ true → filter is_filled (parts ++ w ∷ []) ≡ filter is_filled parts ++ w ∷ []
new_is parts w e = kept_append parts (w ∷ []) ∙ ap (λ (b : Bool). filter is_filled parts ++ cond b (w ∷ []) []) e

skipped : (parts : List (List ℕ)) (w : List ℕ) → is_filled w ≡ false → filter is_filled (parts ++ w ∷ []) ≡ filter is_filled parts
skipped parts w e = kept_append parts (w ∷ []) ∙ ap (λ (b : Bool). filter is_filled parts ++ cond b (w ∷ []) []) e ∙ append-nil (filter is_filled parts)

all_more : (ws : List (List ℕ)) (w : List ℕ) → list_all is_answer_word ws ≡ true → is_answer_word w ≡ true → list_all is_answer_word (ws ++ w ∷ []) ≡ true
all_more ws w e f = list_all-append is_answer_word ws (w ∷ []) ∙ rw (e, f) refl

from_words : (parts ws : List (List ℕ)) (answer : List ℕ) → filter is_filled parts ≡ ws → list_all is_answer_word ws ≡ true → join_with_byte 32 ws ≡ answer → answer_from parts ≡ Ok answer
unfolding answer_from
from_words parts ws answer e f g = rw (e, f, g) refl

fits_at : (j answer : List ℕ) (b : Bool) → cond b (Ok j) (Err BadForm) ≡ Ok answer → (b ≡ true) × (j ≡ answer)
fits_at j answer true e = (refl, cc)
fits_at j answer false e = absurd (cc)

fits : (parts : List (List ℕ)) (answer : List ℕ) → answer_from parts ≡ Ok answer
    → (list_all is_answer_word (filter is_filled parts) ≡ true) × (join_with_byte 32 (filter is_filled parts) ≡ answer)
unfolding answer_from
fits parts answer e = fits_at (join_with_byte 32 (filter is_filled parts)) answer (list_all is_answer_word (filter is_filled parts)) e

pub nothing_said : answer_from [] ≡ Ok []
unfolding answer_from
nothing_said = refl

-- a part that is empty adds nothing
pub part_skipped : (parts : List (List ℕ)) (answer w : List ℕ) → is_filled w ≡ false → answer_from parts ≡ Ok answer → answer_from (parts ++ w ∷ []) ≡ Ok answer
part_skipped parts answer w empty e =
    let h = fits parts answer e in
    from_words (parts ++ w ∷ []) (filter is_filled parts) answer (skipped parts w empty) h.0 h.1

first_at : (ws : List (List ℕ)) (parts : List (List ℕ)) → filter is_filled parts ≡ ws → join_with_byte 32 ws ≡ [] → ws ≡ []
first_at [] parts e h = refl
first_at (x ∷ xs) parts e h = absurd (omega (arith, long_enough x xs (filled_first parts x xs e), ap length h))

begins_with : (parts : List (List ℕ)) (w : List ℕ) → is_filled w ≡ true → is_answer_word w ≡ true → answer_from parts ≡ Ok [] → answer_from (parts ++ w ∷ []) ≡ Ok w
begins_with parts w some right e =
    let h = fits parts [] e in
    let none : filter is_filled parts ≡ [] = first_at (filter is_filled parts) parts refl h.1 in
    let now : filter is_filled (parts ++ w ∷ []) ≡ w ∷ [] = new_is parts w some ∙ ap (λ ws. ws ++ w ∷ []) none in
    from_words (parts ++ w ∷ []) (w ∷ []) w now (rw right refl) refl

no_bytes : (bs : List ℕ) → length bs ≡ 0 → bs ≡ []
no_bytes [] e = refl
no_bytes (b ∷ bs) e = absurd (omega (arith, e))

-- the first word
pub part_begins : (parts : List (List ℕ)) (answer now w : List ℕ) → is_filled w ≡ true → is_answer_word w ≡ true → length answer ≡ 0 → now ≡ answer ++ w → answer_from parts ≡ Ok answer
    → answer_from (parts ++ w ∷ []) ≡ Ok now
part_begins parts answer now w some right none added e =
    let empty : answer ≡ [] = no_bytes answer none in
    begins_with parts w some right (e ∙ ap (λ bs. Ok bs) empty) ∙ ap (λ bs. Ok bs) (sym (added ∙ ap (λ bs. bs ++ w) empty))

more_at : (ws : List (List ℕ)) (w answer : List ℕ) → join_with_byte 32 ws ≡ answer → 0 < length answer → join_with_byte 32 (ws ++ w ∷ []) ≡ answer ++ (32 ∷ w)
more_at [] w answer e h = absurd (omega (arith, h, ap length e))
more_at (x ∷ xs) w answer e h = joined_more x xs w ∙ ap (λ bs. bs ++ (32 ∷ w)) e

ok_of : (parts : List (List ℕ)) (a b : List ℕ) → a ≡ b → answer_from parts ≡ Ok a → answer_from parts ≡ Ok b
ok_of parts a b e h = h ∙ ap (λ bs. Ok bs) e

-- a further word
pub part_follows : (parts : List (List ℕ)) (answer mid now w : List ℕ) → is_filled w ≡ true → is_answer_word w ≡ true → 0 < length answer → mid ≡ answer ++ 32 ∷ [] → now ≡ mid ++ w
    → answer_from parts ≡ Ok answer → answer_from (parts ++ w ∷ []) ≡ Ok now
part_follows parts answer mid now w some right long first second e =
    let h = fits parts answer e in
    let whole : answer ++ (32 ∷ w) ≡ now = sym (second ∙ ap (λ bs. bs ++ w) first ∙ append_assoc answer (32 ∷ []) w) in
    ok_of (parts ++ w ∷ []) (answer ++ (32 ∷ w)) now whole (from_words (parts ++ w ∷ []) (filter is_filled parts ++ w ∷ []) (answer ++ (32 ∷ w)) (new_is parts w some) (all_more (filter is_filled parts) w h.0 right)
    (more_at (filter is_filled parts) w answer h.1 long))

wrong_first : (p : List ℕ) (ps : List (List ℕ)) → is_filled p ≡ true → is_answer_word p ≡ false → list_all is_answer_word (filter is_filled (p ∷ ps)) ≡ false
wrong_first p ps e f = rw (e, f) refl

wrong_later : (p : List ℕ) (ps : List (List ℕ)) (b : Bool) → list_all is_answer_word (filter is_filled ps) ≡ false
    → list_all is_answer_word (cond b (p ∷ filter is_filled ps) (filter is_filled ps)) ≡ false
wrong_later p ps true e = let h : (is_answer_word p && false) ≡ false = and_no (is_answer_word p) in rw e h
wrong_later p ps false e = e

wrong_at : (parts : List (List ℕ)) (i : ℕ) (d : List ℕ) → i < length parts → is_filled (get_or parts i d) ≡ true → is_answer_word (get_or parts i d) ≡ false
    → list_all is_answer_word (filter is_filled parts) ≡ false
wrong_at [] i d lt e f = absurd (omega (arith, lt))
wrong_at (p ∷ ps) zero d lt e f = wrong_first p ps e f
wrong_at (p ∷ ps) (suc i) d lt e f = wrong_later p ps (is_filled p) (wrong_at ps i d (omega (arith, lt)) e f)

-- a word that is none of an answer
pub part_refused : (parts : List (List ℕ)) (i : ℕ) (w : List ℕ) → i < length parts → w ≡ get_or parts i w → is_filled w ≡ true → is_answer_word w ≡ false → answer_from parts ≡ Err BadForm
unfolding answer_from
part_refused parts i w lt here some wrong =
    rw (wrong_at parts i w lt (ap is_filled (sym here) ∙ some) (ap is_answer_word (sym here) ∙ wrong)) refl

-- ---- answers are ASCII

both : (a b : Bool) → (a && b) ≡ true → (a ≡ true) × (b ≡ true)
both true b h = (refl, h)
both false b h = absurd (false≢true h)

small_letter : (x : ℕ) → is_ascii_lowercase x ≡ true → x < 128
small_letter x e = let h : leb x 122 ≡ true = (both (leb 97 x) (leb x 122) e).1 in omega (arith, leb-true x 122 h)

abbrev is_lower : List ℕ → Bool
is_lower part = list_all is_ascii_lowercase part

onto_lower : (x : ℕ) (parts : List (List ℕ)) → list_all is_lower (onto_first x parts) ≡ true → (is_ascii_lowercase x ≡ true) × (list_all is_lower parts ≡ true)
onto_lower x [] h = ((both (is_ascii_lowercase x) true (both (is_ascii_lowercase x && true) true h).0).0, refl)
onto_lower x (p ∷ ps) h =
    let k = both (is_ascii_lowercase x && is_lower p) (list_all is_lower ps) h in
    let l = both (is_ascii_lowercase x) (is_lower p) k.0 in
    (l.0, rw (l.1, k.1) refl)

split_ascii_at : (x : ℕ) (xs : List ℕ) (b : Bool) → eqb x 45 ≡ b
    → list_all is_lower (cond b ([] ∷ slice_split (λ c. eqb c 45) xs) (onto_first x (slice_split (λ c. eqb c 45) xs))) ≡ true
    → (list_all is_lower (slice_split (λ c. eqb c 45) xs) ≡ true → IsAscii xs) → IsAscii (x ∷ xs)
split_ascii_at x xs true e h ih = let same : x ≡ 45 = grind (arith, nat_tests) in IsAscii-cons x xs (omega (arith, same)) (ih h)
split_ascii_at x xs false e h ih =
    let k = onto_lower x (slice_split (λ c. eqb c 45) xs) h in
    IsAscii-cons x xs (small_letter x k.0) (ih k.1)

split_ascii : (xs : List ℕ) → list_all is_lower (slice_split (λ c. eqb c 45) xs) ≡ true → IsAscii xs
split_ascii [] h = IsAscii-nil
split_ascii (x ∷ xs) h = split_ascii_at x xs (eqb x 45) refl h (split_ascii xs)

lower_parts : (parts : List (List ℕ)) → list_all is_answer_part parts ≡ true → list_all is_lower parts ≡ true
lower_parts [] h = refl
lower_parts (p ∷ ps) h =
    let k = both (is_answer_part p) (list_all is_answer_part ps) h in
    let l = both (is_filled p) (is_lower p) k.0 in
    rw (l.1, lower_parts ps k.1) refl

word_ascii : (word : List ℕ) → is_answer_word word ≡ true → IsAscii word
word_ascii word e = split_ascii word (lower_parts (slice_split (λ c. eqb c 45) word) e)

join_ascii : (words : List (List ℕ)) → list_all is_answer_word words ≡ true → IsAscii (join_with_byte 32 words)
join_ascii [] h = IsAscii-nil
join_ascii (w ∷ []) h = word_ascii w (both (is_answer_word w) true h).0
join_ascii (w ∷ (v ∷ vs)) h =
    let k = both (is_answer_word w) (list_all is_answer_word (v ∷ vs)) h in
    IsAscii-append w (32 ∷ join_with_byte 32 (v ∷ vs)) (word_ascii w k.0) (IsAscii-cons 32 (join_with_byte 32 (v ∷ vs)) (omega arith) (join_ascii (v ∷ vs) k.1))

-- an answer is ASCII
pub answer_ascii : (parts : List (List ℕ)) (answer : List ℕ) → answer_from parts ≡ Ok answer → IsAscii answer
answer_ascii parts answer e =
    let h = fits parts answer e in
    subst IsAscii h.1 (join_ascii (filter is_filled parts) h.0)
