-- The front of a text.
use Rattle.std.proofs.Common.{◌≡◌, ℕ, ◌+◌, ◌-◌, ◌*◌, ◌/◌, ◌%◌, ◌^◌, ◌<◌, ◌≤◌, true, false, eqb, List, [], ◌∷◌, ◌++◌, Result, refl, sym, ap, ◌∙◌, append_assoc, arith, codes, ne_eqb}
use Rattle.schedule.proofs.LexerCommon.{decimal, join_with_byte, LineFault, Step, words_of_line, line_at, parts_of, line_of}
use Rattle.std.proofs.lemmas.Fmt.{decimal_digit, decimal_step}
use Rattle.std.specs.Char.{is_ascii_digit}
use Rattle.schedule.specs.FirstLines.{BeginsWithItem}
use Rattle.schedule.proofs.Joins.{words_of-join, parts_of-line, IsCodec}
use Rattle.schedule.proofs.Commands.{line_codec}

pub first_digit : (text after : List ℕ) (byte : ℕ) → is_ascii_digit byte ≡ true → text ≡ byte ∷ after → text ≡ decimal (byte - 48) ++ after
first_digit text after byte digit is =
    let range : (48 ≤ byte) × (byte ≤ 57) = grind arith in
    let low : 48 + (byte - 48) ≡ byte = omega arith in
    is ∙ rw (decimal_digit (byte - 48) (omega arith), low) refl

pub next_digit : (text rest after : List ℕ) (value byte : ℕ) → is_ascii_digit byte ≡ true → 0 < value → value * 10 + (byte - 48) < 2 ^ 64
    → rest ≡ byte ∷ after → text ≡ decimal value ++ rest → text ≡ decimal (value * 10 + (byte - 48)) ++ after
next_digit text rest after value byte digit some small is front =
    let range : (48 ≤ byte) × (byte ≤ 57) = grind arith in
    let step = decimal_step (value * 10 + (byte - 48)) (omega arith) small in
    let top : (value * 10 + (byte - 48)) / 10 ≡ value = omega arith in
    let low : 48 + (value * 10 + (byte - 48)) % 10 ≡ byte = omega arith in
    let longer : decimal (value * 10 + (byte - 48)) ≡ decimal value ++ byte ∷ [] = rw (top, low) at step in
    front ∙ ap (λ (t : List ℕ). decimal value ++ t) is ∙ sym (append_assoc (decimal value) (byte ∷ []) after) ∙ ap (λ (t : List ℕ). t ++ after) (sym longer)

-- ---- a line in its one spelling

module _ {A : Type 0} {read : List (List ℕ) → Result A LineFault} {words : A → List (List ℕ)} {Valid : A → Type 0} (codec : IsCodec A read words Valid) where
  pub begins : (x : A) → Valid x → (text after : List ℕ) → text ≡ line_of (words x) ++ after → BeginsWithItem read text x after
  begins x h text after e =
      let plain = codec.plain x h in
      record {
        line = join_with_byte 32 (words x);
        parts = ap parts_of e ∙ parts_of-line (words x) after plain;
        whole = e ∙ append_assoc (join_with_byte 32 (words x)) (10 ∷ []) after;
        says = ap read (words_of-join (words x) plain) ∙ codec.again x h;
      }

  pub long_begins : (word : List ℕ) (p : ℕ) (x : A) (text tail rest after : List ℕ) → Valid x → line_of (words x) ++ after ≡ word ++ 32 ∷ (decimal p ++ rest)
      → text ≡ word ++ 32 ∷ tail → tail ≡ decimal p ++ rest → BeginsWithItem read text x after
  long_begins word p x text tail rest after h line a b = begins x h text after (a ∙ ap (λ (t : List ℕ). word ++ 32 ∷ t) b ∙ sym line)

  pub short_begins : (word : List ℕ) (p : ℕ) (x : A) (text tail rest after : List ℕ) → Valid x → words x ≡ word ∷ decimal p ∷ []
      → text ≡ word ++ 32 ∷ tail → tail ≡ decimal p ++ rest → rest ≡ 10 ∷ after → BeginsWithItem read text x after
  short_begins word p x text tail rest after h said a b c =
      let line : line_of (words x) ++ after ≡ word ++ 32 ∷ (decimal p ++ rest) = ap (λ (ws : List (List ℕ)). line_of ws ++ after) said ∙ append_assoc (word ++ 32 ∷ decimal p) (10 ∷ []) after
      ∙ append_assoc word (32 ∷ decimal p) (10 ∷ after) ∙ ap (λ (t : List ℕ). word ++ 32 ∷ (decimal p ++ t)) (sym c) in
      long_begins word p x text tail rest after h line a b

pub one_step : (width p : ℕ) (text word rest after : List ℕ) → p < 2 ^ 64 → text ≡ codes "step " ++ word → word ≡ decimal p ++ rest → rest ≡ 10 ∷ after
    → BeginsWithItem (line_at width) text (Step p 1) after
one_step width p text word rest after small a b c =
    begins (line_codec width) (Step p 1) (small, omega arith, omega arith) text after
    (a ∙ ap (λ (t : List ℕ). codes "step " ++ t) (b ∙ ap (λ (t : List ℕ). decimal p ++ t) c ∙ sym (append_assoc (decimal p) (10 ∷ []) after)))

spelled_steps : (p k : ℕ) (after : List ℕ) → 2 ≤ k → codes "step " ++ (decimal p ++ (32 ∷ (decimal k ++ (10 ∷ after)))) ≡ line_of (words_of_line (Step p k)) ++ after
spelled_steps p k after more =
    let isnt : eqb k 1 ≡ false = ne_eqb k 1 (λ z. absurd (omega arith)) in
    let tail : decimal p ++ (32 ∷ (decimal k ++ (10 ∷ after))) ≡ ((decimal p ++ (32 ∷ decimal k)) ++ (10 ∷ [])) ++ after =
    sym (append_assoc (decimal p) (32 ∷ decimal k) (10 ∷ after)) ∙ sym (append_assoc (decimal p ++ (32 ∷ decimal k)) (10 ∷ []) after) in
    rw isnt (ap (λ (t : List ℕ). codes "step " ++ t) tail)

pub more_steps : (width p k : ℕ) (text word rest more end after : List ℕ) → p < 2 ^ 64 → 2 ≤ k → k ≤ 1000000
    → text ≡ codes "step " ++ word → word ≡ decimal p ++ rest → rest ≡ 32 ∷ more → more ≡ decimal k ++ end → end ≡ 10 ∷ after
    → BeginsWithItem (line_at width) text (Step p k) after
more_steps width p k text word rest more end after small least most a b c d e =
    begins (line_codec width) (Step p k) (small, omega arith, most) text after
    (a ∙ ap (λ (t : List ℕ). codes "step " ++ t) (b ∙ ap (λ (t : List ℕ). decimal p ++ t) (c ∙ ap (λ (t : List ℕ). 32 ∷ t) (d ∙ ap (λ (t : List ℕ). decimal k ++ t) e)))
    ∙ spelled_steps p k after least)

-- a digit names the process that takes one step
pub digit_step : (width byte : ℕ) (text after : List ℕ) → is_ascii_digit byte ≡ true → text ≡ codes "step " ++ (byte ∷ (10 ∷ after)) → BeginsWithItem (line_at width) text (Step (byte - 48) 1) after
digit_step width byte text after digit e =
    let range : (48 ≤ byte) × (byte ≤ 57) = grind arith in
    one_step width (byte - 48) text (byte ∷ (10 ∷ after)) (10 ∷ after) after (omega arith) e (first_digit (byte ∷ (10 ∷ after)) (10 ∷ after) byte digit refl) refl
