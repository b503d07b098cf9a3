-- The places of tokens, one after the other.
use Rattle.std.proofs.Common.{◌≡◌, ◌≢◌, ◌⊎◌, ℕ, zero, suc, ◌+◌, ◌-◌, ◌<◌, ◌≤◌, Bool, true, false, eqb, List, [], ◌∷◌, ◌++◌, length, get_or, map, take, take_while, drop, Option, Some, None, Result, Ok, Err, codes, refl, sym, ap, ◌∙◌, subst, inl, inr, cond, append_assoc, add-zero, le_refl, arith, drop-drop, length-drop}
use Rattle.std.proofs.lemmas.Bool.{eqb-false, ne_eqb}
use Rattle.std.proofs.lemmas.Bool.Decides.{nat_tests}
use Rattle.std.proofs.lemmas.List.{drop_all, drop_more, at_drop_more}
use Rattle.std.proofs.lemmas.List.Sums.{take_while-cons}
use Rattle.std.specs.Char.{is_ascii_digit}
use Rattle.algorithms.specs.declared.fault.ReadFault.{ReadFault}
use Rattle.algorithms.specs.declared.fault.ReadFault.TheVariants.{BadCharacter}
use Rattle.algorithm_texts.specs.declared.tokens.Sign.{Sign}
use Rattle.algorithm_texts.specs.declared.tokens.Token.{Token}
use Rattle.algorithm_texts.specs.declared.tokens.Token.TheVariants.{Number, Word, Sign as Mark}
use Rattle.algorithm_texts.specs.Fronts.{is_the_word}
use Rattle.algorithm_texts.specs.TokenPlaces.{AreAtTheirPlaces, fault_at_end, places_from, read_at, size_read, token_read, token_size}
use Rattle.algorithm_texts.specs.Tokens.{Scans, EndsTokens, as_token, done_word, is_name_byte, long_signs, short_signs, sign_token, token_of_all_bytes, value_of_name}
unfoldable use Rattle.algorithm_texts.specs.Tokens.{first_token}
use Rattle.algorithm_texts.proofs.Complete.{is_word}
use Rattle.algorithm_texts.proofs.LineTokens.{not_spaced, same_after, spaced}

-- bytes of the token before have no place
skipped : (at inside : ℕ) (bs : List ℕ) → places_from at inside bs ≡ places_from (at + inside) zero (drop inside bs)
skipped at zero bs = ap (λ (k : ℕ). places_from k zero bs) (sym (add-zero at))
skipped at (suc inside) [] = refl
skipped at (suc inside) (b ∷ bs) =
    let e : at + 1 + inside ≡ at + suc inside = omega arith in
    skipped (at + 1) inside bs ∙ ap (λ (k : ℕ). places_from k zero (drop inside bs)) e

pub space_passed : (code : List ℕ) (place : ℕ) → place < length code → get_or code place 0 ≡ 32
    → places_from place zero (drop place code) ≡ places_from (place + 1) zero (drop (place + 1) code)
space_passed code place less e = at_drop_more (places_from place zero) code place 0 less ∙ rw e refl

pub token_passed : (code : List ℕ) (place size : ℕ) → place < length code → get_or code place 0 ≢ 32 → size ≡ token_size (drop place code) → 0 < size
    → places_from place zero (drop place code) ≡ place ∷ places_from (place + size) zero (drop (place + size) code)
token_passed code place size less other e some =
    let after : List ℕ = drop (place + 1) code in
    let n : token_size (get_or code place 0 ∷ after) ≡ size = ap token_size (sym (drop_more code place 0 less)) ∙ sym e in
    let sum : place + 1 + (size - 1) ≡ place + size = omega (arith, some) in
    let rest : places_from (place + 1) (size - 1) after ≡ places_from (place + size) zero (drop (place + size) code) =
    skipped (place + 1) (size - 1) after ∙ ap (λ bs. places_from (place + 1 + (size - 1)) zero bs) (drop-drop (size - 1) (place + 1) code)
    ∙ ap (λ (k : ℕ). places_from k zero (drop k code)) sum in
    at_drop_more (places_from place zero) code place 0 less ∙ rw (ne_eqb (get_or code place 0) 32 other, n) (ap (λ ps. place ∷ ps) rest)

-- a token is among those so far
pub token_added : (code all old now : List ℕ) (place size : ℕ) → all ≡ old ++ places_from place zero (drop place code) → now ≡ old ++ place ∷ [] → place < length code
    → get_or code place 0 ≢ 32 → size ≡ token_size (drop place code) → 0 < size
    → all ≡ now ++ places_from (place + size) zero (drop (place + size) code)
token_added code all old now place size whole pushed less other e some =
    let rest : List ℕ = places_from (place + size) zero (drop (place + size) code) in
    whole ∙ ap (λ ps. old ++ ps) (token_passed code place size less other e some) ∙ sym (append_assoc old (place ∷ []) rest) ∙ ap (λ ps. ps ++ rest) (sym pushed)

-- ---- the tokens at their places are those of the line

all_some : (run : List ℕ) (read : Result Token ReadFault) (t : Token) (size : ℕ) → 0 < length run → token_of_all_bytes run read ≡ Ok (t, size) → 0 < size
all_some run (Ok token) t size some e =
    let pair : (token, length run) ≡ (t, size) = cc in
    subst (λ (n : ℕ). 0 < n) (ap (λ (p : Token × ℕ). p.1) pair) some
all_some run (Err fault) t size some e = absurd (cc)

run_some : (p : ℕ → Bool) (b : ℕ) (bs : List ℕ) → p b ≡ true → 0 < length (take_while p (b ∷ bs))
run_some p b bs e =
    let same : take_while p (b ∷ bs) ≡ b ∷ take_while p bs = take_while-cons p b bs ∙ rw e refl in
    omega (arith, ap length same)

sign_some : (o : Option Sign) (other : Result (Token × ℕ) ReadFault) (n : ℕ) (t : Token) (size : ℕ) → 0 < n → (other ≡ Ok (t, size) → 0 < size) → as_token o other n ≡ Ok (t, size) → 0 < size
sign_some (Some sign) other n t size some following e =
    let pair : (Mark sign, n) ≡ (t, size) = cc in
    subst (λ (k : ℕ). 0 < k) (ap (λ (p : Token × ℕ). p.1) pair) some
sign_some None other n t size some following e = following e

not_ok : {A : Type 0} (fault : ReadFault) (x : A) → Err fault ≡ Ok x → ⊥
not_ok fault x e = cc

signs_some : (bytes : List ℕ) (t : Token) (size : ℕ) → sign_token bytes ≡ Ok (t, size) → 0 < size
signs_some bytes t size e =
    sign_some (value_of_name long_signs (take 2 bytes)) (as_token (value_of_name short_signs (take 1 bytes)) (Err BadCharacter) 1) 2 t size (omega arith)
    (λ short. sign_some (value_of_name short_signs (take 1 bytes)) (Err BadCharacter) 1 t size (omega arith) (λ none. absurd (not_ok BadCharacter (t, size) none)) short) e

chosen : (digit name : Bool) (x y z : Result (Token × ℕ) ReadFault) (t : Token) (size : ℕ) → (digit ≡ true → x ≡ Ok (t, size) → 0 < size) → (name ≡ true → y ≡ Ok (t, size) → 0 < size)
    → (z ≡ Ok (t, size) → 0 < size) → cond digit x (cond name y z) ≡ Ok (t, size) → 0 < size
chosen true name x y z t size f g h e = f refl e
chosen false true x y z t size f g h e = g refl e
chosen false false x y z t size f g h e = h e

first_some : (b : ℕ) (bs : List ℕ) (t : Token) (size : ℕ) → first_token (b ∷ bs) ≡ Ok (t, size) → 0 < size
unfolding first_token
first_some b bs t size e =
    chosen (is_ascii_digit b) (is_name_byte b) _ _ _ t size (λ d x. all_some _ _ t size (run_some is_ascii_digit b bs d) x) (λ n y. all_some _ _ t size (run_some is_name_byte b bs n) y)
    (signs_some (b ∷ bs) t size) e

no_first : (t : Token) (size : ℕ) → first_token [] ≡ Ok (t, size) → ⊥
unfolding first_token
no_first t size e = cc

next_bytes : (code : List ℕ) (n b : ℕ) (bs : List ℕ) → drop n code ≡ b ∷ bs → drop (n + 1) code ≡ bs
next_bytes code n b bs here = sym (drop-drop 1 n code) ∙ ap (drop 1) here

none_after : (n inside : ℕ) (bs : List ℕ) → length bs ≤ inside → places_from n inside bs ≡ []
none_after n inside bs most = skipped n inside bs ∙ ap (places_from (n + inside) zero) (drop_all inside bs most)

last_place : (n b : ℕ) (bs : List ℕ) → b ≢ 32 → token_size (b ∷ bs) ≡ length (b ∷ bs) → places_from n zero (b ∷ bs) ≡ n ∷ []
last_place n b bs other e = rw (ne_eqb b 32 other, e) (ap (λ ps. n ∷ ps) (none_after (n + 1) (length (b ∷ bs) - 1) bs (omega arith)))

read_here : (code : List ℕ) (n : ℕ) (bs : List ℕ) (r : Result (Token × ℕ) ReadFault) → drop n code ≡ bs → first_token bs ≡ r → read_at code n ≡ token_read r
read_here code n bs r here e = ap (λ cs. token_read (first_token cs)) here ∙ ap token_read e

is_done : (t : Token) (b : Bool) → is_the_word (Some t) (codes "done") ≡ b → t ≢ done_word → b ≡ false
is_done (Word letters) true e other = absurd (other (ap (λ w. Word w) (is_word letters (codes "done") e)))
is_done (Word letters) false e other = refl
is_done (Number number) b e other = sym e
is_done (Mark sign) b e other = sym e

drop_size : (b : ℕ) (bs : List ℕ) (size : ℕ) → 0 < size → drop (size - 1) bs ≡ drop size (b ∷ bs)
drop_size b bs zero some = absurd (omega (arith, some))
drop_size b bs (suc size) some =
    let e : suc size - 1 ≡ size = omega arith in
    ap (λ (k : ℕ). drop k bs) e

abbrev Placed : List ℕ → ℕ → List ℕ → List Token → Result (List ℕ) ReadFault → Type 0
Placed code n bs ts end = map (read_at code) (places_from n zero bs) ≡ map (λ t. Ok t) ts ++ fault_at_end end

fault_placed : (code : List ℕ) (n b : ℕ) (bs : List ℕ) (end : Result (List ℕ) ReadFault) → b ≢ 32 → drop n code ≡ b ∷ bs → EndsTokens (b ∷ bs) end → Placed code n (b ∷ bs) [] end
fault_placed code n b bs end other here h =
    ap (map (read_at code)) (last_place n b bs other (ap (size_read (length (b ∷ bs))) h.1)) ∙ ap (λ r. r ∷ []) (read_here code n (b ∷ bs) (Err h.0) here h.1) ∙ sym (ap fault_at_end h.2)

done_placed : (code : List ℕ) (n b : ℕ) (bs : List ℕ) (t : Token) (ts : List Token) (end : Result (List ℕ) ReadFault) (size : ℕ) → b ≢ 32 → drop n code ≡ b ∷ bs
    → first_token (b ∷ bs) ≡ Ok (t, size) → t ≡ done_word → ts ≡ [] → end ≡ Ok (drop size (b ∷ bs)) → Placed code n (b ∷ bs) (t ∷ ts) end
done_placed code n b bs t ts end size other here token last none e =
    let word : is_the_word (Some t) (codes "done") ≡ true = rw last refl in
    let all : token_size (b ∷ bs) ≡ length (b ∷ bs) = ap (size_read (length (b ∷ bs))) token ∙ rw word refl in
    ap (map (read_at code)) (last_place n b bs other all) ∙ ap (λ r. r ∷ []) (read_here code n (b ∷ bs) (Ok (t, size)) here token) ∙ rw (none, e) refl

token_placed : (code : List ℕ) (n b : ℕ) (bs : List ℕ) (t : Token) (ts : List Token) (end : Result (List ℕ) ReadFault) (size : ℕ) → b ≢ 32 → drop n code ≡ b ∷ bs
    → first_token (b ∷ bs) ≡ Ok (t, size) → t ≢ done_word → 0 < size → Placed code (n + size) (drop size (b ∷ bs)) ts end → Placed code n (b ∷ bs) (t ∷ ts) end
token_placed code n b bs t ts end size other here token differs some rest =
    let word : is_the_word (Some t) (codes "done") ≡ false = is_done t _ refl differs in
    let sized : token_size (b ∷ bs) ≡ size = ap (size_read (length (b ∷ bs))) token ∙ rw word refl in
    let sum : n + 1 + (size - 1) ≡ n + size = omega (arith, some) in
    let after : places_from (n + 1) (size - 1) bs ≡ places_from (n + size) zero (drop size (b ∷ bs)) =
    skipped (n + 1) (size - 1) bs ∙ ap (places_from (n + 1 + (size - 1)) zero) (drop_size b bs size some) ∙ ap (λ (k : ℕ). places_from k zero (drop size (b ∷ bs))) sum in
    let places : places_from n zero (b ∷ bs) ≡ n ∷ places_from (n + size) zero (drop size (b ∷ bs)) = rw (ne_eqb b 32 other, sized) (ap (λ ps. n ∷ ps) after) in
    ap (map (read_at code)) places ∙ ap (λ r. r ∷ map (read_at code) (places_from (n + size) zero (drop size (b ∷ bs)))) (read_here code n (b ∷ bs) (Ok (t, size)) here token)
    ∙ ap (λ rs. Ok t ∷ rs) rest

-- what is so of all shorter bytes
abbrev Shorter : List ℕ → List ℕ → Result (List ℕ) ReadFault → Type 0
Shorter code bs end = (m : ℕ) (cs : List ℕ) (us : List Token) → length cs ≤ length bs → drop m code ≡ cs → Scans cs us end → Placed code m cs us end

byte_placed : (code : List ℕ) (n b : ℕ) (bs : List ℕ) (ts : List Token) (end : Result (List ℕ) ReadFault) (space : Bool) → eqb b 32 ≡ space → drop n code ≡ b ∷ bs → Scans (b ∷ bs) ts end
    → Shorter code bs end → Placed code n (b ∷ bs) ts end
byte_placed code n b bs ts end true e here s rest =
    let is : b ≡ 32 = grind (arith, nat_tests) in
    let after : Scans bs ts end = same_after (b ∷ bs) bs ts end (spaced b bs is) s in
    rw e (rest (n + 1) bs ts (omega arith) (next_bytes code n b bs here) after)
byte_placed code n b bs [] end false e here s rest =
    let other : b ≢ 32 = eqb-false b 32 e in
    fault_placed code n b bs end other here (subst (λ u. EndsTokens u end) (not_spaced b bs other) s)
byte_placed code n b bs (t ∷ ts) end false e here s rest =
    let other : b ≢ 32 = eqb-false b 32 e in
    let h : (size : ℕ) × (first_token (b ∷ bs) ≡ Ok (t, size))
    × (((t ≢ done_word) × Scans (drop size (b ∷ bs)) ts end) ⊎ ((t ≡ done_word) × (ts ≡ []) × (end ≡ Ok (drop size (b ∷ bs))))) =
    subst (λ u. (size : ℕ) × (first_token u ≡ Ok (t, size)) × (((t ≢ done_word) × Scans (drop size u) ts end) ⊎ ((t ≡ done_word) × (ts ≡ []) × (end ≡ Ok (drop size u)))))
    (not_spaced b bs other) s in
    let some : 0 < h.0 = first_some b bs t h.0 h.1 in
    elim h.2 [
      | inl more ↦ token_placed code n b bs t ts end h.0 other here h.1 more.0 some
          (rest (n + h.0) (drop h.0 (b ∷ bs)) ts (omega (arith, some, length-drop h.0 (b ∷ bs))) (sym (drop-drop h.0 n code) ∙ ap (drop h.0) here) more.1)
      | inr done ↦ done_placed code n b bs t ts end h.0 other here h.1 done.0 done.1 done.2
    ]

placed : (most : ℕ) (code : List ℕ) (n : ℕ) (bs : List ℕ) (ts : List Token) (end : Result (List ℕ) ReadFault) → length bs ≤ most → drop n code ≡ bs → Scans bs ts end → Placed code n bs ts end
placed most code n [] [] end short here s = sym (ap fault_at_end s)
placed most code n [] (t ∷ ts) end short here s = absurd (no_first t s.0 s.1)
placed zero code n (b ∷ bs) ts end short here s = absurd (omega (arith, short))
placed (suc most) code n (b ∷ bs) ts end short here s =
    byte_placed code n b bs ts end _ refl here s (λ m cs us less there scans. placed most code m cs us end (omega (arith, less, short)) there scans)

pub at_their_places : AreAtTheirPlaces
at_their_places code tokens end s = placed (length code) code 0 code tokens end (le_refl (length code)) refl s
