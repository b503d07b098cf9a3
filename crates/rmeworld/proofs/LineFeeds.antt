-- A line feed after a JSON text changes nothing of what is read.
use Rattle.std.proofs.Common.{◌≡◌, ℕ, Bool, true, false, cond, ◌&&◌, List, [], ◌∷◌, ◌++◌, Option, Some, None, option_and_then, refl, sym, ap, ap₂, subst, ◌∙◌, append_assoc, append-nil}
use Rattle.rmeworld.proofs.ImageCommon.{tokens, token, comma, colon, string_token, between, punctuate, print, escape, quoted, token_text, begins, ends, separator, IsPrintable, read, max_depth, of_json}
use Rattle.json.specs.Token.{Token, begin_object, end_object, begin_array, end_array, key, string, number, boolean, null, bad}
use Rattle.json.specs.Word.{ends_word, word}
use Rattle.json.specs.Lex.{lex, fresh}
use Rattle.json.specs.Json.{Json, if_last, value}
use Rattle.json.proofs.Found.{not_found}
use Rattle.json.proofs.Numbered.{ArePrintableOrBad-tokens, value-HasNumbers}
use Rattle.json.proofs.Printed.Numbers.{lex-number, in_word-ended}
use Rattle.json.proofs.Printed.Strings.{content-escape, lex-escape}
use Rattle.json.proofs.Printed.Trees.{ArePrintable-json_tokens}
use Rattle.json.proofs.Unique.Spelling.{value-json_tokens_back}
use Rattle.serde_json.specs.Data.{Data}
use Rattle.json.specs.Print.{print_from, ArePrintable}

-- if f ends a word, so does the text of a value that is printed before it
ended : (f : List ℕ) → ends_word f ≡ true → (ts : List Token) → ends_word (print_from true ts ++ f) ≡ true
unfolding print_from
ended f e [] = e
ended f e (begin_object ∷ ts) = refl
ended f e (_ ∷ ts) = refl

lex-quoted : (s r : List ℕ) → lex between (quoted s ++ r) ≡ token (string s) ∷ lex between r
unfolding lex
lex-quoted s r =
    let e = append_assoc (escape s) (34 ∷ []) r in
    ap (λ l. lex between (34 ∷ l)) e ∙ ap₂ (λ o l. token (string_token o) ∷ l) (content-escape s r) (lex-escape s r)

-- Two rests with equal tokens that end a word have equal tokens after a token too.
after_it : (t : Token) (r s : List ℕ) → IsPrintable t → (ends t ≡ true → ends_word r ≡ true) → (ends t ≡ true → ends_word s ≡ true) → lex between r ≡ lex between s
    → lex between (token_text t ++ r) ≡ lex between (token_text t ++ s)
unfolding lex word
after_it begin_object r s h er es e = ap (λ l. token begin_object ∷ l) e
after_it end_object r s h er es e = ap (λ l. token end_object ∷ l) e
after_it begin_array r s h er es e = ap (λ l. token begin_array ∷ l) e
after_it end_array r s h er es e = ap (λ l. token end_array ∷ l) e
after_it (key k) r s h er es e =
    ap (lex between) (append_assoc (quoted k) (58 ∷ []) r) ∙ lex-quoted k (58 ∷ r) ∙ ap (λ l. token (string k) ∷ colon ∷ l) e
    ∙ sym (ap (lex between) (append_assoc (quoted k) (58 ∷ []) s) ∙ lex-quoted k (58 ∷ s))
after_it (string k) r s h er es e = lex-quoted k r ∙ ap (λ l. token (string k) ∷ l) e ∙ sym (lex-quoted k s)
after_it (number n) r s h er es e = lex-number n r h (er refl) ∙ ap (λ l. token (number n) ∷ l) e ∙ sym (lex-number n s h (es refl))
after_it (boolean true) r s h er es e =
    ap₂ (λ b l. token (cond b (boolean true) bad) ∷ l) (er refl) (in_word-ended r (er refl)) ∙ ap (λ l. token (boolean true) ∷ l) e
    ∙ sym (ap₂ (λ b l. token (cond b (boolean true) bad) ∷ l) (es refl) (in_word-ended s (es refl)))
after_it (boolean false) r s h er es e =
    ap₂ (λ b l. token (cond b (boolean false) bad) ∷ l) (er refl) (in_word-ended r (er refl)) ∙ ap (λ l. token (boolean false) ∷ l) e
    ∙ sym (ap₂ (λ b l. token (cond b (boolean false) bad) ∷ l) (es refl) (in_word-ended s (es refl)))
after_it null r s h er es e =
    ap₂ (λ b l. token (cond b null bad) ∷ l) (er refl) (in_word-ended r (er refl)) ∙ ap (λ l. token null ∷ l) e
    ∙ sym (ap₂ (λ b l. token (cond b null bad) ∷ l) (es refl) (in_word-ended s (es refl)))
after_it bad r s h er es e = absurd h

after_comma : (b : Bool) (r s : List ℕ) → lex between r ≡ lex between s → lex between (cond b (44 ∷ []) [] ++ r) ≡ lex between (cond b (44 ∷ []) [] ++ s)
unfolding lex
after_comma true r s e = ap (λ l. comma ∷ l) e
after_comma false r s e = e

module _ (f g : List ℕ) (ends_f : ends_word f ≡ true) (ends_g : ends_word g ≡ true) (same : lex between f ≡ lex between g) where
  -- and after everything that is printed
  after_all : (c : Bool) (ts : List Token) → ArePrintable ts → lex between (print_from c ts ++ f) ≡ lex between (print_from c ts ++ g)
  unfolding print_from ArePrintable
  after_all c [] h = same
  after_all c (t ∷ ts) h =
      let rest = print_from (ends t) ts in
      let part = λ (x : List ℕ). append_assoc (separator c t) (token_text t ++ rest) x ∙ ap (λ l. separator c t ++ l) (append_assoc (token_text t) rest x) in
      let after = λ (x : List ℕ) (e : ends_word x ≡ true) (is : ends t ≡ true). ap (λ b. ends_word (print_from b ts ++ x)) is ∙ ended x e ts in
      ap (lex between) (part f)
      ∙ after_comma (c && begins t) _ _ (after_it t (rest ++ f) (rest ++ g) h.0 (after f ends_f) (after g ends_g) (after_all (ends t) ts h.1))
      ∙ sym (ap (lex between) (part g))

whole : (o : Option (Json × List Token)) (d : Data) → option_and_then of_json (option_and_then (λ p. if_last p.0 p.1) o) ≡ Some d → (j : Json) × (o ≡ Some (j, []))
whole None d e = not_found d e
whole (Some (j, [])) d e = (j, refl)
whole (Some (j, t ∷ ts)) d e = not_found d e

printable : (text : List ℕ) (d : Data) → read text ≡ Some d → ArePrintable (tokens text)
printable text d e =
    let w = whole (value max_depth (tokens text)) d e in
    let numbers = value-HasNumbers max_depth (tokens text) [] w.0 (ArePrintableOrBad-tokens text) w.1 in
    subst ArePrintable (sym (value-json_tokens_back max_depth (tokens text) [] w.0 w.1 ∙ append-nil _)) (ArePrintable-json_tokens w.0 numbers)

-- a compact text and its line have the same JSON value
pub read_line : (text : List ℕ) (d : Data) → text ≡ print (tokens text) → read text ≡ Some d → read (text ++ 10 ∷ []) ≡ Some d
unfolding lex
read_line text d compact e =
    let all = after_all (10 ∷ []) [] refl refl refl false (tokens text) (printable text d e) in
    let same : tokens (text ++ 10 ∷ []) ≡ tokens text =
    ap (λ t. tokens (t ++ 10 ∷ [])) compact ∙ ap (punctuate fresh) all ∙ ap tokens (append-nil (print (tokens text)) ∙ sym compact) in
    ap (λ ts. option_and_then of_json (option_and_then (λ p. if_last p.0 p.1) (value max_depth ts))) same ∙ e
