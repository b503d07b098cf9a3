-- Reading lines one after the other, as a loop does.
use Rattle.std.proofs.Common.{◌≡◌, ℕ, ◌+◌, ◌<◌, false, eqb, List, [], ◌∷◌, ◌++◌, length, Result, Ok, Err, refl, sym, ap, ◌∙◌, append_assoc, arith, ne_eqb, append-nil}
use Rattle.schedule.proofs.TextsCommon.{length-slice_split, LineFault, NoNewline, parts_of, on_line, items_at, words_of, ◌>>=◌}

module _ {A : Type 0} (item : List (List ℕ) → Result A LineFault) where
  -- what was read before, and what is still read
  abbrev pub with_items : List A → Result (List A) (ℕ × LineFault) → Result (List A) (ℕ × LineFault)
  with_items front read = read >>= λ xs. Ok (front ++ xs)

  pub items_at-cons : (k : ℕ) (line : List ℕ) (parts : List (List ℕ)) → 0 < length parts
      → items_at item k (line ∷ parts) ≡ (on_line k (item (words_of line)) >>= λ x. items_at item (k + 1) parts >>= λ xs. Ok (x ∷ xs))
  unfolding items_at
  items_at-cons k line [] lt = absurd (omega arith)
  items_at-cons k line (next ∷ parts) lt = refl

  -- a text that is cut once
  pub items_at-cut : (k : ℕ) (bytes line after : List ℕ) → parts_of bytes ≡ line ∷ parts_of after
      → items_at item k (parts_of bytes) ≡ (on_line k (item (words_of line)) >>= λ x. items_at item (k + 1) (parts_of after) >>= λ xs. Ok (x ∷ xs))
  items_at-cut k bytes line after e =
      ap (items_at item k) e ∙ items_at-cons k line (parts_of after) (omega (arith, length-slice_split (λ b. eqb b 10) after))

  regroup : (front : List A) (x : A) (read : Result (List A) (ℕ × LineFault)) → with_items front (read >>= λ xs. Ok (x ∷ xs)) ≡ with_items (front ++ x ∷ []) read
  regroup front x (Ok xs) = ap (λ (ys : List A). Ok ys) (sym (append_assoc front (x ∷ []) xs))
  regroup front x (Err f) = refl

  pub items_go_on : (front : List A) (k : ℕ) (bytes line after : List ℕ) (x : A) (total : Result (List A) (ℕ × LineFault))
      → parts_of bytes ≡ line ∷ parts_of after → item (words_of line) ≡ Ok x
      → with_items front (items_at item k (parts_of bytes)) ≡ total
      → with_items (front ++ x ∷ []) (items_at item (k + 1) (parts_of after)) ≡ total
  items_go_on front k bytes line after x total e read so_far =
      let one : with_items front (items_at item k (parts_of bytes)) ≡ with_items (front ++ x ∷ []) (items_at item (k + 1) (parts_of after))
      = rw (items_at-cut k bytes line after e, read) (regroup front x (items_at item (k + 1) (parts_of after))) in
      sym one ∙ so_far

  pub cut_fails : (k : ℕ) (text line after : List ℕ) (f : LineFault) → parts_of text ≡ line ∷ parts_of after → item (words_of line) ≡ Err f → items_at item k (parts_of text) ≡ Err (k, f)
  cut_fails k text line after f parts says = rw (items_at-cut k text line after parts, says) refl

  pub uncut_fails : (k : ℕ) (text : List ℕ) → parts_of text ≡ text ∷ [] → 0 < length text → items_at item k (parts_of text) ≡ Err (k, NoNewline)
  unfolding items_at
  uncut_fails k text parts some =
      let isnt : eqb (length text) 0 ≡ false = ne_eqb (length text) 0 (λ z. omega arith) in
      rw parts (rw isnt refl)

  pub empty_reads : (k : ℕ) (text : List ℕ) → length text ≡ 0 → items_at item k (parts_of text) ≡ Ok []
  unfolding items_at
  empty_reads k [] e = refl
  empty_reads k (b ∷ text) e = absurd (omega arith)

  -- what is still read fails, or is empty
  pub items_stop : (front : List A) (read total : Result (List A) (ℕ × LineFault)) (f : ℕ × LineFault) → read ≡ Err f → with_items front read ≡ total → total ≡ Err f
  items_stop front read total f fails so_far = sym so_far ∙ rw fails refl

  pub items_end : (front : List A) (k : ℕ) (text : List ℕ) (total : Result (List A) (ℕ × LineFault)) → length text ≡ 0 → with_items front (items_at item k (parts_of text)) ≡ total → total ≡ Ok front
  items_end front k text total none so_far = sym so_far ∙ rw (empty_reads k text none) (ap (λ (ys : List A). Ok ys) (append-nil front))
