-- Reading a whole text.
use Rattle.std.proofs.Common.{◌≡◌, ℕ, ◌<◌, false, eqb, List, [], ◌∷◌, length, Result, Ok, Err, refl, ap, ◌∙◌, arith, ne_eqb}
use Rattle.schedule.proofs.TextsCommon.{length-slice_split, LineFault, NoHeader, NoNewline, TextFault, parts_of, Fails, on_line, text_at, items_at, words_of, ◌>>=◌}
use Rattle.schedule.specs.declared.texts.fault.TextFault.TheVariants as faults

module _ {H A : Type 0} (head : List (List ℕ) → Result H LineFault) (item : H → List (List ℕ) → Result A LineFault) where
  pub text_at-cons : (line : List ℕ) (parts : List (List ℕ)) → 0 < length parts
      → text_at head item (line ∷ parts) ≡ (on_line 1 (head (words_of line)) >>= λ h. items_at (item h) 2 parts >>= λ xs. Ok (h, xs))
  unfolding text_at
  text_at-cons line [] lt = absurd (omega arith)
  text_at-cons line (next ∷ parts) lt = refl

  pub text_at-cut : (bytes line after : List ℕ) → parts_of bytes ≡ line ∷ parts_of after
      → text_at head item (parts_of bytes) ≡ (on_line 1 (head (words_of line)) >>= λ h. items_at (item h) 2 (parts_of after) >>= λ xs. Ok (h, xs))
  text_at-cut bytes line after e =
      ap (text_at head item) e ∙ text_at-cons line (parts_of after) (omega (arith, length-slice_split (λ b. eqb b 10) after))

  pub text_at-empty : (bytes : List ℕ) → length bytes ≡ 0 → text_at head item (parts_of bytes) ≡ Err (1, NoHeader)
  unfolding text_at
  text_at-empty [] e = refl
  text_at-empty (b ∷ bytes) e = absurd (omega arith)

  pub text_at-uncut : (bytes : List ℕ) → parts_of bytes ≡ bytes ∷ [] → 0 < length bytes → text_at head item (parts_of bytes) ≡ Err (1, NoNewline)
  unfolding text_at
  text_at-uncut bytes e lt =
      let some : eqb (length bytes) 0 ≡ false = ne_eqb (length bytes) 0 (λ z. omega arith) in
      rw e (rw some refl)

  pub text_read : (bytes line after : List ℕ) (h : H) (xs : List A) → parts_of bytes ≡ line ∷ parts_of after
      → head (words_of line) ≡ Ok h → items_at (item h) 2 (parts_of after) ≡ Ok xs → text_at head item (parts_of bytes) ≡ Ok (h, xs)
  text_read bytes line after h xs e first rest = rw (text_at-cut bytes line after e, first, rest) refl

  pub head_fails : (bytes line after : List ℕ) (f : LineFault) → parts_of bytes ≡ line ∷ parts_of after
      → head (words_of line) ≡ Err f → text_at head item (parts_of bytes) ≡ Err (1, f)
  head_fails bytes line after f e first = rw (text_at-cut bytes line after e, first) refl

  pub items_fail : (e : TextFault) (bytes line after : List ℕ) (h : H) → parts_of bytes ≡ line ∷ parts_of after
      → head (words_of line) ≡ Ok h → Fails e (items_at (item h) 2 (parts_of after)) → Fails e (text_at head item (parts_of bytes))
  items_fail (faults.At k n) bytes line after h e first (f, rest, is) = (f, rw (text_at-cut bytes line after e, first, rest) refl, is)
  items_fail faults.OutOfMemory bytes line after h e first rest = tt
