-- Why bytes are no lines of a text.
use Rattle.std.proofs.Common.{◌≡◌, ◌⊎◌, ℕ, zero, suc, ◌+◌, ◌<◌, ◌≤◌, Bool, true, false, cond, ◌&&◌, ltb, eqb, List, [], ◌∷◌, ◌++◌, length, take, Result, Ok, Err, Option, Some, None, position, refl, sym, ap, ◌∙◌, subst, inl, inr, append_assoc, arith}
use Rattle.std.proofs.lemmas.Bool.{and_parts, false≢true, ltb-false}
use Rattle.std.proofs.lemmas.Option.{none-some, same_Some}
use Rattle.std.specs.List.{All, list_all, prefix_len}
use Rattle.algorithms.specs.Faults.{fault_of}
use Rattle.algorithms.specs.declared.fault.AlgorithmFault.{AlgorithmFault}
use Rattle.algorithms.specs.declared.fault.ReadFault.{ReadFault}
use Rattle.algorithms.specs.declared.fault.ReadFault.TheVariants.{OutOfMemory as NoMemory}
use Rattle.algorithm_texts.specs.declared.tokens.Token.{Token}
use Rattle.algorithm_texts.specs.Parts.{◌>>=◌}
use Rattle.algorithm_texts.specs.Operands.{RefusesAs}
use Rattle.algorithm_texts.specs.Fronts.{is_over}
use Rattle.algorithm_texts.specs.TextLines.{ended_lines, and_line, is_no_feed, SayLines, SaysTokens, SaysBefore, TextSays, IsRefusalOf, RefusesLines}
use Rattle.algorithm_texts.specs.TextDrafts.{Spoken}
use Rattle.algorithm_texts.specs.Tokens.{LineSays}
use Rattle.algorithm_texts.proofs.LineTokens.{line_says_once, run_is}
use Rattle.algorithm_texts.proofs.LinesOnce.{split_once, says_free, some_bytes, same_ok, after_lines}

-- ---- faults

-- a line's fault, as the text's
pub refuses_at : {A : Type 0} (line : ℕ) (fault : ReadFault) (o : Option A) (kind : ReadFault) → RefusesAs fault o kind → RefusesLines (fault_of line fault) o
refuses_at line fault o kind (inl e) = inl (ap (fault_of line) e)
refuses_at line fault o kind (inr h) = inr h.0

-- what comes after nothing is nothing
pub refuses_after : {A B : Type 0} {fault : AlgorithmFault} {o : Option A} (f : A → Option B) → RefusesLines fault o → RefusesLines fault (o >>= f)
refuses_after f (inl e) = inl e
refuses_after f (inr h) = inr (ap (λ x. x >>= f) h)

err_ok : (fault : ReadFault) (x : List Token × List ℕ) → ◌≡◌ {A = Result (List Token × List ℕ) ReadFault} (Err fault) (Ok x) → ⊥
err_ok fault x e = cc

-- a line that has a fault says no tokens
pub says_none : (number : ℕ) (line : List ℕ) (fault : ReadFault) → ((fault ≡ NoMemory) ⊎ LineSays line (Err fault)) → IsRefusalOf (fault_of number fault) (SaysTokens number line)
says_none number line fault (inl e) = inl (ap (fault_of number) e)
says_none number line fault (inr h) = inr (λ w. err_ok fault (w.2, w.3) (line_says_once line (Err fault) (Ok (w.2, w.3)) h w.4))

pub refused_where : (fault : AlgorithmFault) (P Q : Type 0) → (Q → P) → IsRefusalOf fault P → IsRefusalOf fault Q
refused_where fault P Q f (inl e) = inl e
refused_where fault P Q f (inr h) = inr (λ q. h (f q))

-- ---- the first line feed

place_of : (xs : List ℕ) (b : Bool) (i : ℕ) → ltb (prefix_len is_no_feed xs) (length xs) ≡ b → cond b (Some (prefix_len is_no_feed xs)) None ≡ Some i → i ≡ prefix_len is_no_feed xs
place_of xs true i e h = sym (same_Some (prefix_len is_no_feed xs) i h)
place_of xs false i e h = absurd (none-some i h)

-- the bytes before it have none
pub first_free : (xs : List ℕ) (i : ℕ) → position (λ b. eqb b 10) xs ≡ Some i → list_all is_no_feed (take i xs) ≡ true
first_free xs i e =
    let t = ltb (prefix_len is_no_feed xs) (length xs) in
    subst (λ (n : ℕ). list_all is_no_feed (take n xs) ≡ true) (sym (place_of xs t i refl e)) (run_is is_no_feed xs)

free_at : (x : ℕ) (xs : List ℕ) (b : Bool) → is_no_feed x ≡ b → length (x ∷ xs) ≤ cond b (1 + prefix_len is_no_feed xs) 0
    → (length xs ≤ prefix_len is_no_feed xs → list_all is_no_feed xs ≡ true) → (b && list_all is_no_feed xs) ≡ true
free_at x xs true e l h = h (omega (arith, l))
free_at x xs false e l h = absurd (omega (arith, l))

all_free : (xs : List ℕ) → length xs ≤ prefix_len is_no_feed xs → list_all is_no_feed xs ≡ true
all_free [] l = refl
all_free (x ∷ xs) l = free_at x xs (is_no_feed x) refl l (all_free xs)

none_at : (xs : List ℕ) (b : Bool) → ltb (prefix_len is_no_feed xs) (length xs) ≡ b → cond b (Some (prefix_len is_no_feed xs)) None ≡ None → length xs ≤ prefix_len is_no_feed xs
none_at xs true e h = absurd (none-some (prefix_len is_no_feed xs) (sym h))
none_at xs false e h = ltb-false (prefix_len is_no_feed xs) (length xs) e

-- where there is none, no byte is one
pub none_free : (xs : List ℕ) → position (λ b. eqb b 10) xs ≡ None → list_all is_no_feed xs ≡ true
none_free xs e = all_free xs (none_at xs (ltb (prefix_len is_no_feed xs) (length xs)) refl e)

has_feed : (x after : List ℕ) → list_all is_no_feed (x ++ (10 ∷ after)) ≡ true → ⊥
has_feed [] after h = false≢true ((and_parts (is_no_feed 10) (list_all is_no_feed after) h).0)
has_feed (b ∷ x) after h = has_feed x after (and_parts (is_no_feed b) (list_all is_no_feed (x ++ (10 ∷ after))) h).1

-- ---- lists

all_at : {X : Type 0} (P : X → Type 0) (xs : List X) (y : X) (ys : List X) → All P (xs ++ y ∷ ys) → P y
all_at P [] y ys h = h zero y (omega arith)
all_at P (x ∷ xs) y ys h = all_at P xs y ys (λ k d l. h (suc k) d (omega (arith, l)))

length_past : {X : Type 0} (xs : List X) (y : X) (ys : List X) → length xs + 1 ≤ length (xs ++ y ∷ ys)
length_past [] y ys = omega arith
length_past (x ∷ xs) y ys = let h = length_past xs y ys in omega (arith, h)

longer : {X : Type 0} (xs ys zs : List X) → length ys ≤ length zs → length (xs ++ ys) ≤ length (xs ++ zs)
longer [] ys zs h = h
longer (x ∷ xs) ys zs h = let k = longer xs ys zs h in omega (arith, k)

and_longer : (b : Bool) (s : Spoken) (rest : List Spoken) → length (cond b [] (s ∷ [])) ≤ length (cond b rest (s ∷ rest))
and_longer true s rest = omega arith
and_longer false s rest = omega arith

-- ---- the line that comes next

-- the line of this number in all lines of a text, of which those before it say what was said
pub record IsNext (number : ℕ) (line : List ℕ) (said all : List Spoken) : Type 0 where
  pub tokens : List Token
  pub answer : List ℕ
  pub spoken : List Spoken
  pub few : number ≤ 4096
  pub short : length line ≤ 1000
  pub says : LineSays line (Ok (tokens, answer))
  pub both : all ≡ said ++ and_line number tokens answer spoken
  pub few_filled : length all ≤ 1024

-- the first of the lines that are left
pub record First (number : ℕ) (line after : List ℕ) (more : List (List ℕ)) (said : List Spoken) : Type 0 where
  pub tokens : List Token
  pub answer : List ℕ
  pub spoken : List Spoken
  pub lines : List (List ℕ)
  pub says : LineSays line (Ok (tokens, answer))
  pub is : more ≡ line ∷ lines
  pub both : said ≡ and_line number tokens answer spoken

first_of_more : (number : ℕ) (more : List (List ℕ)) (said : List Spoken) (line after : List ℕ) → list_all is_no_feed line ≡ true → ended_lines more ≡ line ++ (10 ∷ after)
    → SayLines number more said → First number line after more said
first_of_more number [] said line after free e h = absurd (some_bytes line after (sym e))
first_of_more number (l ∷ ls) said line after free e h =
    let s = split_once l line (ended_lines ls) after (says_free l (h.0, h.1) h.2) free e in
    record {
      tokens = h.0;
      answer = h.1;
      spoken = h.3;
      lines = ls;
      says = subst (λ x. LineSays x (Ok (h.0, h.1))) s.0 h.2;
      is = ap (λ x. x ∷ ls) s.0;
      both = h.5;
    }

pub next_is : (number : ℕ) (line after : List ℕ) (said all : List Spoken) (first lines more : List (List ℕ)) (spoken : List Spoken) → lines ≡ first ++ more
    → First (1 + length first) line after more spoken → all ≡ said ++ spoken → number ≡ length first + 1 → length lines ≤ 4096 → All (λ l. length l ≤ 1000) lines
    → length all ≤ 1024 → IsNext number line said all
next_is number line after said all first lines more spoken is f both count few short filled =
    let at : 1 + length first ≡ number = omega (arith, count) in
    let whole : lines ≡ first ++ line ∷ f.lines = is ∙ ap (λ ls. first ++ ls) f.is in
    let past = length_past first line f.lines in
    let long : length (first ++ line ∷ f.lines) ≤ 4096 = subst (λ ls. length ls ≤ 4096) whole few in
    record {
      tokens = f.tokens;
      answer = f.answer;
      spoken = f.spoken;
      few = omega (arith, past, long, at);
      short = all_at (λ l. length l ≤ 1000) first line f.lines (subst (λ ls. All (λ l. length l ≤ 1000) ls) whole short);
      says = f.says;
      both = both ∙ ap (λ ss. said ++ ss) f.both ∙ ap (λ (n : ℕ). said ++ and_line n f.tokens f.answer f.spoken) at;
      few_filled = filled;
    }

next_line : (text rest line after : List ℕ) (number : ℕ) (said all : List Spoken) → SaysBefore text rest number said → list_all is_no_feed line ≡ true
    → rest ≡ line ++ (10 ∷ after) → TextSays text all → IsNext number line said all
next_line text rest line after number said all h free split k =
    let a = after_lines 1 h.lines k.lines said all rest h.say k.say (sym k.bytes ∙ h.bytes) in
    next_is number line after said all h.lines k.lines a.more a.spoken a.is (first_of_more (1 + length h.lines) a.more a.spoken line after free (a.bytes ∙ split) a.say)
    a.both h.count k.few k.short k.few_filled

-- it makes no more lines than there may be
pub few_with : (number : ℕ) (line : List ℕ) (said : List Spoken) (tokens : List Token) (answer : List ℕ) → LineSays line (Ok (tokens, answer)) → (all : List Spoken)
    → IsNext number line said all → length (said ++ and_line number tokens answer []) ≤ 1024
few_with number line said tokens answer says all t =
    let same : ◌≡◌ {A = List Token × List ℕ} (t.tokens, t.answer) (tokens, answer) =
    same_ok (t.tokens, t.answer) (tokens, answer) (line_says_once line (Ok (t.tokens, t.answer)) (Ok (tokens, answer)) t.says says) in
    let whole : all ≡ said ++ and_line number tokens answer t.spoken = t.both ∙ ap (λ (p : List Token × List ℕ). said ++ and_line number p.0 p.1 t.spoken) same in
    let less = longer said (and_line number tokens answer []) (and_line number tokens answer t.spoken)
    (and_longer (is_over tokens) (record { number = number; tokens = tokens; answer = answer }) t.spoken) in
    let few : length (said ++ and_line number tokens answer t.spoken) ≤ 1024 = subst (λ ss. length ss ≤ 1024) whole t.few_filled in
    omega (arith, less, few)

-- ---- refusals

-- no text is said whose next line says nothing
pub line_refused : (fault : AlgorithmFault) (text rest line after : List ℕ) (number : ℕ) (said : List Spoken) → SaysBefore text rest number said → list_all is_no_feed line ≡ true
    → rest ≡ line ++ (10 ∷ after) → IsRefusalOf fault (SaysTokens number line) → IsRefusalOf fault ((all : List Spoken) × TextSays text all)
line_refused fault text rest line after number said h free split r =
    refused_where fault (SaysTokens number line) ((all : List Spoken) × TextSays text all)
    (λ w. let t = next_line text rest line after number said w.0 h free split w.1 in (t.few, t.short, t.tokens, t.answer, t.says)) r

-- nor one that has too many lines with its next one
pub many_refused : (fault : AlgorithmFault) (text rest line after : List ℕ) (number : ℕ) (said : List Spoken) (tokens : List Token) (answer : List ℕ) → SaysBefore text rest number said
    → list_all is_no_feed line ≡ true → rest ≡ line ++ (10 ∷ after) → LineSays line (Ok (tokens, answer))
    → IsRefusalOf fault (length (said ++ and_line number tokens answer []) ≤ 1024) → IsRefusalOf fault ((all : List Spoken) × TextSays text all)
many_refused fault text rest line after number said tokens answer h free split says r =
    refused_where fault (length (said ++ and_line number tokens answer []) ≤ 1024) ((all : List Spoken) × TextSays text all)
    (λ w. few_with number line said tokens answer says w.0 (next_line text rest line after number said w.0 h free split w.1)) r

-- bytes without a line feed are no lines
pub some_feed : (more : List (List ℕ)) (rest tail : List ℕ) → 0 < length more → ended_lines more ++ tail ≡ rest → list_all is_no_feed rest ≡ true → ⊥
some_feed [] rest tail some e free = omega (arith, some)
some_feed (l ∷ ls) rest tail some e free =
    has_feed l (ended_lines ls ++ tail) (subst (λ bs. list_all is_no_feed bs ≡ true) (sym e ∙ append_assoc l (10 ∷ ended_lines ls) tail) free)

no_more : (more : List (List ℕ)) (rest : List ℕ) → ended_lines more ≡ rest → list_all is_no_feed rest ≡ true → length rest ≡ 0
no_more [] rest e free = let h : ◌≡◌ {A = ℕ} 0 (length rest) = ap length e in omega (arith, h)
no_more (l ∷ ls) rest e free = absurd (has_feed l (ended_lines ls) (subst (λ bs. list_all is_no_feed bs ≡ true) (sym e) free))

-- nor one that ends without a line feed
pub end_refused : (text rest : List ℕ) (number : ℕ) (said : List Spoken) → SaysBefore text rest number said → list_all is_no_feed rest ≡ true → 0 < length rest
    → ((all : List Spoken) × TextSays text all) → ⊥
end_refused text rest number said h free some w =
    let a = after_lines 1 h.lines w.1.lines said w.0 rest h.say w.1.say (sym w.1.bytes ∙ h.bytes) in
    let none = no_more a.more rest a.bytes free in
    omega (arith, none, some)
