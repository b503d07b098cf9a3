-- The tokens of a line.
use Rattle.std.proofs.Common.{◌≡◌, ◌≢◌, ◌⊎◌, ℕ, zero, suc, IsAscii, ◌<◌, Bool, true, false, cond, not, List, [], ◌∷◌, ◌++◌, length, drop, Result, Ok, Err, Some, None, position, ltb, refl, sym, ap, ◌∙◌, subst, inl, inr, append_assoc, arith, rules}
use Rattle.std.proofs.lemmas.Bool.{ne_eqb, ltb-false, and_parts, false≢true}
use Rattle.std.proofs.lemmas.Bool.Decides.{nat_tests}
use Rattle.std.proofs.lemmas.List.{append-nil}
use Rattle.std.proofs.lemmas.List.Sums.{take_while-cons, prefix_len-le-length}
use Rattle.std.proofs.lemmas.Str.Parse.{IsNumeralModel, numerals_by_value}
use Rattle.std.specs.Char.{is_ascii_digit}
use Rattle.std.specs.List.{list_all, take_while, prefix_len, position_or_len}
use Rattle.std.specs.Str.Parse.{digits_value, AllDigits}
use Rattle.algorithms.specs.declared.fault.ReadFault.{ReadFault}
use Rattle.algorithm_texts.specs.declared.tokens.Token.{Token}
use Rattle.algorithms.specs.declared.fault.ReadFault.TheVariants.{BadCharacter}
use Rattle.algorithm_texts.specs.Tokens.{Scans, EndsTokens, without_front_spaces, done_word, is_name_byte, before_comment, tokens_with_answer, answer_at_end, LineSays, SaysOnce}
unfoldable use Rattle.algorithm_texts.specs.Tokens.{first_token}

not_not : (b : Bool) → not (not b) ≡ b
not_not true = refl
not_not false = refl

-- the first place that is of another kind
pub first_other : (kind : ℕ → Bool) (bs : List ℕ) → position_or_len (λ b. not (kind b)) bs ≡ prefix_len kind bs
first_other kind [] = refl
first_other kind (b ∷ bs) = rw (not_not (kind b), first_other kind bs) refl

kept : (p : ℕ → Bool) (x : ℕ) (xs : List ℕ) (b : Bool) → p x ≡ b → list_all p (take_while p xs) ≡ true → list_all p (cond b (x ∷ take_while p xs) []) ≡ true
kept p x xs true e h = rw (e, h) refl
kept p x xs false e h = refl

-- a run has bytes of its kind alone
pub run_is : (p : ℕ → Bool) (xs : List ℕ) → list_all p (take_while p xs) ≡ true
run_is p [] = refl
run_is p (x ∷ xs) = ap (list_all p) (take_while-cons p x xs) ∙ kept p x xs (p x) refl (run_is p xs)

own : IsNumeralModel (λ ds. list_all is_ascii_digit ds ≡ true) (digits_value 10)
own = numerals_by_value _ (search rules)

pub run_digits : (bs : List ℕ) → AllDigits 10 (take_while is_ascii_digit bs)
run_digits bs = own.to _ (run_is is_ascii_digit bs)

ascii_byte : (b : ℕ) → is_name_byte b ≡ true → b < 128
ascii_byte b e = grind (arith, nat_tests)

ascii_more : (b : ℕ) (bs : List ℕ) → b < 128 → IsAscii bs → IsAscii (b ∷ bs)
ascii_more b bs small h zero = small
ascii_more b bs small h (suc i) = h i

ascii_all : (bs : List ℕ) → list_all is_name_byte bs ≡ true → IsAscii bs
ascii_all [] e = λ i. omega arith
ascii_all (b ∷ bs) e =
    let h : (is_name_byte b ≡ true) × (list_all is_name_byte bs ≡ true) = and_parts (is_name_byte b) (list_all is_name_byte bs) e in
    ascii_more b bs (ascii_byte b h.0) (ascii_all bs h.1)

-- letters, digits and `_` are ASCII
pub run_ascii : (bs : List ℕ) → IsAscii (take_while is_name_byte bs)
run_ascii bs = ascii_all (take_while is_name_byte bs) (run_is is_name_byte bs)

place_so : (kind : ℕ → Bool) (bs : List ℕ) (b : Bool) → ltb (position_or_len (λ c. not (kind c)) bs) (length bs) ≡ b
    → position (λ c. not (kind c)) bs ≡ cond b (Some (position_or_len (λ c. not (kind c)) bs)) None
place_so kind bs b e = rw e refl

found_at : (kind : ℕ → Bool) (bs : List ℕ) (b : Bool) (n : ℕ) → ltb (position_or_len (λ c. not (kind c)) bs) (length bs) ≡ b → position (λ c. not (kind c)) bs ≡ Some n → n ≡ prefix_len kind bs
found_at kind bs true n e h = let same : position_or_len (λ c. not (kind c)) bs ≡ n = cc (place_so kind bs true e) in sym same ∙ first_other kind bs
found_at kind bs false n e h = absurd (cc (place_so kind bs false e))

-- the first place that is of another kind ends the run
pub run_found : (kind : ℕ → Bool) (bs : List ℕ) (n : ℕ) → position (λ c. not (kind c)) bs ≡ Some n → n ≡ prefix_len kind bs
run_found kind bs n h = found_at kind bs (ltb (position_or_len (λ c. not (kind c)) bs) (length bs)) n refl h

nowhere_at : (kind : ℕ → Bool) (bs : List ℕ) (b : Bool) → ltb (position_or_len (λ c. not (kind c)) bs) (length bs) ≡ b → position (λ c. not (kind c)) bs ≡ None → length bs ≡ prefix_len kind bs
nowhere_at kind bs true e h = absurd (cc (place_so kind bs true e))
nowhere_at kind bs false e h = omega (arith, first_other kind bs, prefix_len-le-length kind bs, ltb-false _ _ e)

-- where there is none, the run is all
pub run_whole : (kind : ℕ → Bool) (bs : List ℕ) → position (λ c. not (kind c)) bs ≡ None → length bs ≡ prefix_len kind bs
run_whole kind bs h = nowhere_at kind bs (ltb (position_or_len (λ c. not (kind c)) bs) (length bs)) refl h

-- ---- one token after the other

-- what comes depends on the bytes after the spaces alone
pub same_after : (a b : List ℕ) (ts : List Token) (end : Result (List ℕ) ReadFault) → without_front_spaces a ≡ without_front_spaces b → Scans a ts end → Scans b ts end
same_after a b [] end e h = subst (λ u. EndsTokens u end) e h
same_after a b (t ∷ ts) end e h =
    subst (λ u. (size : ℕ) × (first_token u ≡ Ok (t, size)) × (((t ≢ done_word) × Scans (drop size u) ts end) ⊎ ((t ≡ done_word) × (ts ≡ []) × (end ≡ Ok (drop size u))))) e h

pub spaced : (b : ℕ) (bs : List ℕ) → b ≡ 32 → without_front_spaces (b ∷ bs) ≡ without_front_spaces bs
spaced b bs e = rw e refl

pub not_spaced : (b : ℕ) (bs : List ℕ) → b ≢ 32 → without_front_spaces (b ∷ bs) ≡ b ∷ bs
not_spaced b bs e = rw (ne_eqb b 32 e) refl

no_bytes : (bs : List ℕ) → length bs ≡ 0 → bs ≡ []
no_bytes [] e = refl
no_bytes (b ∷ bs) e = absurd (omega (arith, e))

pub not_done : (t : Token) (b : Bool) → b ≡ false → (Some t ≡ Some done_word → b ≡ true) → t ≢ done_word
not_done t b other h = λ e. absurd (false≢true (sym other ∙ h (ap (λ x. Some x) e)))

-- the tokens that are read so far: what completes the rest completes the whole
pub record AreRead (old : List Token) (bytes : List ℕ) (all : List Token) (rest : List ℕ) : Type 0 where
  pub read : List Token
  pub added : all ≡ old ++ read
  pub completes : (ts : List Token) (end : Result (List ℕ) ReadFault) → Scans rest ts end → Scans bytes (read ++ ts) end

pub none_read : (old : List Token) (bytes : List ℕ) → AreRead old bytes old bytes
none_read old bytes = record { read = []; added = sym (append-nil old); completes = λ ts end h. h }

pub space_read : (old : List Token) (bytes : List ℕ) (all : List Token) (rest after : List ℕ) (b : ℕ) → rest ≡ b ∷ after → b ≡ 32 → AreRead old bytes all rest → AreRead old bytes all after
space_read old bytes all rest after b front e h = record {
  read = h.read;
  added = h.added;
  completes = λ ts end s. h.completes ts end (same_after after rest ts end (sym (ap without_front_spaces front ∙ spaced b after e)) s);
}

-- a token and what comes after it
with_token : (rest after : List ℕ) (b : ℕ) (t : Token) (size : ℕ) (ts : List Token) (end : Result (List ℕ) ReadFault) → rest ≡ b ∷ after → b ≢ 32 → first_token rest ≡ Ok (t, size)
    → ((t ≢ done_word) × Scans (drop size rest) ts end) ⊎ ((t ≡ done_word) × (ts ≡ []) × (end ≡ Ok (drop size rest))) → Scans rest (t ∷ ts) end
with_token rest after b t size ts end front e token h =
    let whole : rest ≡ without_front_spaces rest = sym (ap without_front_spaces front ∙ not_spaced b after e ∙ sym front) in
    subst (λ u. (n : ℕ) × (first_token u ≡ Ok (t, n)) × (((t ≢ done_word) × Scans (drop n u) ts end) ⊎ ((t ≡ done_word) × (ts ≡ []) × (end ≡ Ok (drop n u))))) whole (size, token, h)

pub token_read : (old : List Token) (bytes : List ℕ) (all now : List Token) (rest after next : List ℕ) (b : ℕ) (t : Token) (size : ℕ) → rest ≡ b ∷ after → b ≢ 32
    → first_token rest ≡ Ok (t, size) → t ≢ done_word → now ≡ all ++ t ∷ [] → next ≡ drop size rest → AreRead old bytes all rest → AreRead old bytes now next
token_read old bytes all now rest after next b t size front e token other pushed left h = record {
  read = h.read ++ t ∷ [];
  added = pushed ∙ ap (λ ts. ts ++ t ∷ []) h.added ∙ append_assoc old h.read (t ∷ []);
  completes = λ ts end s. subst (λ us. Scans bytes us end) (sym (append_assoc h.read (t ∷ []) ts))
      (h.completes (t ∷ ts) end (with_token rest after b t size ts end front e token (inl (other, subst (λ u. Scans u ts end) left s))));
}

-- the end comes
pub read_to_end : (old : List Token) (bytes : List ℕ) (all : List Token) (rest : List ℕ) → length rest ≡ 0 → AreRead old bytes all rest
    → (read : List Token) × (all ≡ old ++ read) × Scans bytes read (Ok rest)
read_to_end old bytes all rest none h =
    let e : rest ≡ [] = no_bytes rest none in
    (h.read, h.added, subst (λ us. Scans bytes us (Ok rest)) (append-nil h.read) (h.completes [] (Ok rest) (subst (λ u. EndsTokens (without_front_spaces u) (Ok u)) (sym e) refl)))

-- the word `done_word` comes
pub read_to_done : (old : List Token) (bytes : List ℕ) (all now : List Token) (rest after next : List ℕ) (b : ℕ) (t : Token) (size : ℕ) → rest ≡ b ∷ after → b ≢ 32
    → first_token rest ≡ Ok (t, size) → t ≡ done_word → now ≡ all ++ t ∷ [] → next ≡ drop size rest → AreRead old bytes all rest
    → (read : List Token) × (now ≡ old ++ read) × Scans bytes read (Ok next)
read_to_done old bytes all now rest after next b t size front e token last pushed left h = (
  h.read ++ t ∷ [],
  pushed ∙ ap (λ ts. ts ++ t ∷ []) h.added ∙ append_assoc old h.read (t ∷ []),
  h.completes (t ∷ []) (Ok next) (with_token rest after b t size [] (Ok next) front e token (inr (last, refl, ap Ok left))),
)

-- a fault comes
pub read_to_fault : (old : List Token) (bytes : List ℕ) (all : List Token) (rest after : List ℕ) (b : ℕ) (fault : ReadFault) → rest ≡ b ∷ after → b ≢ 32
    → first_token rest ≡ Err fault → AreRead old bytes all rest → (read : List Token) × Scans bytes read (Err fault)
read_to_fault old bytes all rest after b fault front e token h =
    let whole : b ∷ after ≡ without_front_spaces rest = sym (ap without_front_spaces front ∙ not_spaced b after e) in
    let stops : EndsTokens (b ∷ after) (Err fault) = (fault, ap first_token (sym front) ∙ token, refl) in
    (h.read ++ [], h.completes [] (Err fault) (subst (λ u. EndsTokens u (Err fault)) whole stops))

-- ---- a line says one thing

not_both : {A : Type 0} (fault : ReadFault) (x : A) → Err fault ≡ Ok x → ⊥
not_both fault x e = cc

ok_same : {A : Type 0} (x y : A) → (let r : Result A ReadFault = Ok x in r) ≡ Ok y → x ≡ y
ok_same x y e = cc

no_first : first_token [] ≡ Err BadCharacter
unfolding first_token
no_first = refl

stops_once : (bs : List ℕ) (a b : Result (List ℕ) ReadFault) → EndsTokens bs a → EndsTokens bs b → a ≡ b
stops_once [] a b h k = h ∙ sym k
stops_once (x ∷ xs) a b h k = let same : h.0 ≡ k.0 = cc in h.2 ∙ ap (λ f. Err f) same ∙ sym k.2

stops_not : (bs : List ℕ) (a : Result (List ℕ) ReadFault) (t : Token) (size : ℕ) → EndsTokens bs a → first_token bs ≡ Ok (t, size) → ⊥
stops_not [] a t size h e = not_both BadCharacter (t, size) (sym no_first ∙ e)
stops_not (x ∷ xs) a t size h e = not_both h.0 (t, size) (sym h.1 ∙ e)

abbrev Goes : List ℕ → Token → List Token → Result (List ℕ) ReadFault → Type 0
Goes rest t ts end = ((t ≢ done_word) × Scans rest ts end) ⊎ ((t ≡ done_word) × (ts ≡ []) × (end ≡ Ok rest))

goes_once : (rest : List ℕ) (t : Token) (ts us : List Token) (a b : Result (List ℕ) ReadFault) → Goes rest t ts a → Goes rest t us b
    → (Scans rest ts a → Scans rest us b → (ts ≡ us) × (a ≡ b)) → (ts ≡ us) × (a ≡ b)
goes_once rest t ts us a b (inl h) (inl k) f = f h.1 k.1
goes_once rest t ts us a b (inl h) (inr k) f = absurd (h.0 k.0)
goes_once rest t ts us a b (inr h) (inl k) f = absurd (k.0 h.0)
goes_once rest t ts us a b (inr h) (inr k) f = (h.1 ∙ sym k.1, h.2 ∙ sym k.2)

-- the tokens and the end are determined
scans_once : (ts us : List Token) (bytes : List ℕ) (a b : Result (List ℕ) ReadFault) → Scans bytes ts a → Scans bytes us b → (ts ≡ us) × (a ≡ b)
scans_once [] [] bytes a b h k = (refl, stops_once (without_front_spaces bytes) a b h k)
scans_once [] (u ∷ us) bytes a b h k = absurd (stops_not (without_front_spaces bytes) a u k.0 h k.1)
scans_once (t ∷ ts) [] bytes a b h k = absurd (stops_not (without_front_spaces bytes) b t h.0 k h.1)
scans_once (t ∷ ts) (u ∷ us) bytes a b h k =
    let same : (t, h.0) ≡ (u, k.0) = ok_same (t, h.0) (u, k.0) (sym h.1 ∙ k.1) in
    let first : t ≡ u = ap (λ x. x.0) same in
    let size : h.0 ≡ k.0 = ap (λ x. x.1) same in
    let goes : Goes (drop h.0 (without_front_spaces bytes)) t us b = subst (λ (n : ℕ). Goes (drop n (without_front_spaces bytes)) t us b) (sym size) (subst (λ (v : Token). Goes (drop k.0 (without_front_spaces bytes)) v us b) (sym first) k.2) in
    let rest = goes_once (drop h.0 (without_front_spaces bytes)) t ts us a b h.2 goes (λ x y. scans_once ts us (drop h.0 (without_front_spaces bytes)) a b x y) in
    (ap (λ (v : Token). v ∷ ts) first ∙ ap (λ vs. u ∷ vs) rest.0, rest.1)

says_once : (line : List ℕ) (a b : Result (List Token × List ℕ) ReadFault) → LineSays line a → LineSays line b → a ≡ b
says_once line a b (inl h) (inl k) = h.1 ∙ sym k.1
says_once line a b (inl h) (inr k) = absurd (false≢true (sym h.0 ∙ k.0))
says_once line a b (inr h) (inl k) = absurd (false≢true (sym k.0 ∙ h.0))
says_once line a b (inr h) (inr k) =
    let same = scans_once h.1 k.1 (before_comment line) h.2 k.2 h.3 k.3 in
    h.4 ∙ ap (λ ts. tokens_with_answer ts (answer_at_end h.2)) same.0 ∙ ap (λ e. tokens_with_answer k.1 (answer_at_end e)) same.1 ∙ sym k.4

-- a line says one thing
pub line_says_once : SaysOnce
line_says_once = λ line a b h k. says_once line a b h k
