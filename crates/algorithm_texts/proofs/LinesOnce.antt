-- A text has one list of lines.
use Rattle.std.proofs.Common.{◌≡◌, ℕ, ◌+◌, Bool, true, false, ◌&&◌, List, [], ◌∷◌, ◌++◌, length, Result, Ok, refl, sym, ap, ◌∙◌, subst, inl, inr, append_assoc, arith}
use Rattle.std.proofs.lemmas.Bool.{and_parts, false≢true}
use Rattle.std.proofs.lemmas.Bool.Decides.{nat_tests}
use Rattle.std.proofs.lemmas.List.{append-nil}
use Rattle.std.specs.List.{list_all}
use Rattle.algorithms.specs.declared.fault.ReadFault.{ReadFault}
use Rattle.algorithm_texts.specs.declared.tokens.Token.{Token}
use Rattle.algorithm_texts.specs.Fronts.{is_over}
use Rattle.algorithm_texts.specs.TextLines.{ended_lines, is_no_feed, and_line, SayLines, TextSays}
use Rattle.algorithm_texts.specs.TextDrafts.{Spoken}
use Rattle.algorithm_texts.specs.Tokens.{is_printable, LineSays}
use Rattle.algorithm_texts.proofs.LineTokens.{line_says_once}
use Rattle.algorithm_texts.proofs.SpokenLines.{and_at}

-- ---- line feeds

no_feed : (b : ℕ) → 10 ≡ b → is_no_feed b ≡ true → ⊥
no_feed b e h = let feed : is_no_feed 10 ≡ true = subst (λ x. is_no_feed x ≡ true) (sym e) h in false≢true feed

heads : {A : Type 0} (x y : A) (xs ys : List A) → x ∷ xs ≡ y ∷ ys → x ≡ y
heads x y xs ys e = cc

tails : {A : Type 0} (x y : A) (xs ys : List A) → x ∷ xs ≡ y ∷ ys → xs ≡ ys
tails x y xs ys e = cc

-- the bytes before the first line feed are one line
pub split_once : (x y after rest : List ℕ) → list_all is_no_feed x ≡ true → list_all is_no_feed y ≡ true → x ++ (10 ∷ after) ≡ y ++ (10 ∷ rest) → (x ≡ y) × (after ≡ rest)
split_once [] [] after rest p q e = (refl, tails 10 10 after rest e)
split_once [] (b ∷ y) after rest p q e =
    absurd (no_feed b (heads 10 b after (y ++ (10 ∷ rest)) e) (and_parts (is_no_feed b) (list_all is_no_feed y) q).0)
split_once (a ∷ x) [] after rest p q e =
    absurd (no_feed a (sym (heads a 10 (x ++ (10 ∷ after)) rest e)) (and_parts (is_no_feed a) (list_all is_no_feed x) p).0)
split_once (a ∷ x) (b ∷ y) after rest p q e =
    let r = split_once x y after rest (and_parts (is_no_feed a) (list_all is_no_feed x) p).1 (and_parts (is_no_feed b) (list_all is_no_feed y) q).1
    (tails a b (x ++ (10 ∷ after)) (y ++ (10 ∷ rest)) e) in
    let first = heads a b (x ++ (10 ∷ after)) (y ++ (10 ∷ rest)) e in
    (ap (λ (c : ℕ). c ∷ x) first ∙ ap (λ bs. b ∷ bs) r.0, r.1)

byte_free : (b : ℕ) → is_printable b ≡ true → is_no_feed b ≡ true
byte_free b e = grind (arith, nat_tests)

both_free : (a b : Bool) → a ≡ true → b ≡ true → (a && b) ≡ true
both_free true b p q = q
both_free false b p q = absurd (false≢true p)

printable_free : (bs : List ℕ) → list_all is_printable bs ≡ true → list_all is_no_feed bs ≡ true
printable_free [] e = refl
printable_free (b ∷ bs) e =
    let h = and_parts (is_printable b) (list_all is_printable bs) e in
    both_free (is_no_feed b) (list_all is_no_feed bs) (byte_free b h.0) (printable_free bs h.1)

-- a line that says tokens has no line feed
pub says_free : (line : List ℕ) (x : List Token × List ℕ) → LineSays line (Ok x) → list_all is_no_feed line ≡ true
says_free line x (inl h) = absurd (cc (h.1))
says_free line x (inr h) = printable_free line h.0

pub some_bytes : (x after : List ℕ) → x ++ (10 ∷ after) ≡ [] → ⊥
some_bytes [] after e = cc
some_bytes (b ∷ x) after e = cc

pub same_ok : (a b : List Token × List ℕ) → ◌≡◌ {A = Result (List Token × List ℕ) ReadFault} (Ok a) (Ok b) → a ≡ b
same_ok a b e = cc

-- ---- lines after lines

-- the lines after those that came first
pub record After (n : ℕ) (first lines : List (List ℕ)) (said all : List Spoken) (rest : List ℕ) : Type 0 where
  pub more : List (List ℕ)
  pub spoken : List Spoken
  pub is : lines ≡ first ++ more
  pub bytes : ended_lines more ≡ rest
  pub say : SayLines (n + length first) more spoken
  pub both : all ≡ said ++ spoken

pub after_lines : (n : ℕ) (first lines : List (List ℕ)) (said all : List Spoken) (rest : List ℕ) → SayLines n first said → SayLines n lines all
    → ended_lines lines ≡ ended_lines first ++ rest → After n first lines said all rest
after_lines n [] lines said all rest h k e =
    let here : n ≡ n + length (let none : List (List ℕ) = [] in none) = omega arith in
    record { more = lines; spoken = all; is = refl; bytes = e; say = subst (λ (m : ℕ). SayLines m lines all) here k; both = ap (λ ss. ss ++ all) (sym h) }
after_lines n (x ∷ xs) [] said all rest h k e = absurd (some_bytes x (ended_lines xs ++ rest) (sym (e ∙ append_assoc x (10 ∷ ended_lines xs) rest)))
after_lines n (x ∷ xs) (y ∷ ys) said all rest h k e =
    let split = split_once x y (ended_lines xs ++ rest) (ended_lines ys) (says_free x (h.0, h.1) h.2) (says_free y (k.0, k.1) k.2)
    (sym (e ∙ append_assoc x (10 ∷ ended_lines xs) rest)) in
    let r = after_lines (n + 1) xs ys h.3 k.3 rest h.4 k.4 (sym split.1) in
    let same : ◌≡◌ {A = List Token × List ℕ} (k.0, k.1) (h.0, h.1) =
    sym (same_ok (h.0, h.1) (k.0, k.1) (line_says_once x (Ok (h.0, h.1)) (Ok (k.0, k.1)) h.2 (subst (λ l. LineSays l (Ok (k.0, k.1))) (sym split.0) k.2))) in
    let next : (n + 1) + length xs ≡ n + length (x ∷ xs) = omega arith in
    record {
      more = r.more;
      spoken = r.spoken;
      is = ap (λ l. l ∷ ys) (sym split.0) ∙ ap (λ ls. x ∷ ls) r.is;
      bytes = r.bytes;
      say = subst (λ (m : ℕ). SayLines m r.more r.spoken) next r.say;
      both = k.5
          ∙ ap (λ (p : List Token × List ℕ). and_line n p.0 p.1 k.3) same
          ∙ ap (λ ss. and_line n h.0 h.1 ss) r.both
          ∙ sym (and_at (is_over h.0) (record { number = n; tokens = h.0; answer = h.1 }) h.3 r.spoken)
          ∙ ap (λ ss. ss ++ r.spoken) (sym h.5);
    }

none_left : (n : ℕ) (lines : List (List ℕ)) (spoken : List Spoken) → ended_lines lines ≡ [] → SayLines n lines spoken → spoken ≡ []
none_left n [] spoken e h = h
none_left n (l ∷ ls) spoken e h = absurd (some_bytes l (ended_lines ls) e)

pub text_says_once : (text : List ℕ) (a b : List Spoken) → TextSays text a → TextSays text b → a ≡ b
text_says_once text a b h k =
    let r = after_lines 1 h.lines k.lines a b [] h.say k.say (sym k.bytes ∙ h.bytes ∙ sym (append-nil (ended_lines h.lines))) in
    sym (r.both ∙ ap (λ ss. a ++ ss) (none_left (1 + length h.lines) r.more r.spoken r.bytes r.say) ∙ append-nil a)
