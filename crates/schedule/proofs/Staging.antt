-- Reading a trace line by line gives the same as reading its whole text.
use Rattle.std.proofs.Common.{◌≡◌, ℕ, ◌+◌, ◌<◌, false, eqb, List, [], ◌∷◌, ◌++◌, length, Result, Ok, Err, refl, sym, ap, ◌∙◌, append_assoc, arith, length-append, ne_eqb}
use Rattle.schedule.proofs.ReplaysCommon.{LineFault, text_at, items_at, words_of, ◌>>=◌}
use Rattle.schedule.specs.Texts.{on_line}
use Rattle.schedule.specs.declared.lines.fault.LineFault.TheVariants.{NoHeader, NoNewline}
use Rattle.schedule.proofs.Items.{items_at-cons}
use Rattle.schedule.proofs.Wholes.{text_at-cons}

more_parts : (lines parts : List (List ℕ)) → 0 < length parts → 0 < length (lines ++ parts)
more_parts lines parts some = omega (arith, length-append lines parts)

module _ {A : Type 0} (item : List (List ℕ) → Result A LineFault) where
  -- the items of some lines, and those of the lines after them
  abbrev and_then : Result (List A) (ℕ × LineFault) → Result (List A) (ℕ × LineFault) → Result (List A) (ℕ × LineFault)
  and_then front rest = front >>= λ xs. rest >>= λ ys. Ok (xs ++ ys)

  none_then : (k : ℕ) (read : ℕ → Result (List A) (ℕ × LineFault)) → read k ≡ and_then (Ok []) (read (k + 0))
  none_then k read = let zero : k ≡ k + 0 = omega arith in ap read zero ∙ whole (read (k + 0))
    where
      whole : (r : Result (List A) (ℕ × LineFault)) → r ≡ and_then (Ok []) r
      whole (Ok ys) = refl
      whole (Err e) = refl

  past_first : (k : ℕ) (first : Result A LineFault) (front rest : Result (List A) (ℕ × LineFault))
      → (on_line k first >>= λ x. and_then front rest >>= λ xs. Ok (x ∷ xs)) ≡ and_then (on_line k first >>= λ x. front >>= λ xs. Ok (x ∷ xs)) rest
  past_first k (Ok x) (Ok xs) (Ok ys) = refl
  past_first k _ _ _ = refl

  items_then : (k : ℕ) (lines parts : List (List ℕ)) → 0 < length parts → items_at item k (lines ++ parts) ≡ and_then (items_at item k (lines ++ [] ∷ [])) (items_at item (k + length lines) parts)
  unfolding items_at
  items_then k [] parts some = none_then k (λ n. items_at item n parts)
  items_then k (first ∷ lines) parts some =
      let count : (k + 1) + length lines ≡ k + length (first ∷ lines) = omega arith in
      items_at-cons item k first (lines ++ parts) (more_parts lines parts some)
      ∙ ap (λ (q : Result (List A) (ℕ × LineFault)). on_line k (item (words_of first)) >>= λ x. q >>= λ xs. Ok (x ∷ xs)) (items_then (k + 1) lines parts some)
      ∙ past_first k (item (words_of first)) (items_at item (k + 1) (lines ++ [] ∷ [])) (items_at item ((k + 1) + length lines) parts)
      ∙ ap (λ (q : Result (List A) (ℕ × LineFault)). and_then q (items_at item ((k + 1) + length lines) parts)) (sym (items_at-cons item k first (lines ++ [] ∷ []) (more_parts lines ([] ∷ []) (omega arith))))
      ∙ ap (λ (m : ℕ). and_then (items_at item k (first ∷ lines ++ [] ∷ [])) (items_at item m parts)) count

module _ {H A : Type 0} (head : List (List ℕ) → Result H LineFault) (item : H → List (List ℕ) → Result A LineFault) where
  abbrev pub whole : List (List ℕ) → Result (H × List A) (ℕ × LineFault)
  whole lines = text_at head item (lines ++ [] ∷ [])

  -- ---- the first line

  pub first_fails : (line : List ℕ) (f : LineFault) → head (words_of line) ≡ Err f → whole (line ∷ []) ≡ Err (1, f)
  unfolding text_at items_at
  first_fails line f e = rw e refl

  pub first_reads : (line : List ℕ) (h : H) → head (words_of line) ≡ Ok h → whole (line ∷ []) ≡ Ok (h, [])
  unfolding text_at items_at
  first_reads line h e = rw e refl

  some_line : (lines : List (List ℕ)) (y : H × List A) → whole lines ≡ Ok y → 0 < length lines
  unfolding text_at
  some_line [] y e = absurd cc
  some_line (first ∷ lines) y e = omega arith

  -- ---- the lines after some lines

  abbrev reads_on : Result (H × List A) (ℕ × LineFault) → (H → Result (List A) (ℕ × LineFault)) → Result (H × List A) (ℕ × LineFault)
  reads_on front rest = front >>= λ y. rest y.0 >>= λ ys. Ok (y.0, y.1 ++ ys)

  abbrev pair : H → Result (List A) (ℕ × LineFault) → Result (H × List A) (ℕ × LineFault)
  pair h read = read >>= λ xs. Ok (h, xs)

  after_items : (h : H) (front : Result (List A) (ℕ × LineFault)) (rest : H → Result (List A) (ℕ × LineFault)) → pair h (and_then (item h) front (rest h)) ≡ reads_on (pair h front) rest
  after_items h (Err e) rest = refl
  after_items h (Ok xs) rest = by (rest h)
    where
      by : (r : Result (List A) (ℕ × LineFault)) → pair h (r >>= λ ys. Ok (xs ++ ys)) ≡ reads_on (Ok (h, xs)) (λ g. r)
      by (Ok ys) = refl
      by (Err e) = refl

  text_then : (lines parts : List (List ℕ)) → 0 < length lines → 0 < length parts → text_at head item (lines ++ parts) ≡ reads_on (whole lines) (λ h. items_at (item h) (length lines + 1) parts)
  text_then [] parts none some = absurd (omega arith)
  text_then (first ∷ lines) parts more some =
      let count : 2 + length lines ≡ length (first ∷ lines) + 1 = omega arith in
      text_at-cons head item first (lines ++ parts) (more_parts lines parts some) ∙ by (head (words_of first))
      ∙ ap (λ (q : Result (H × List A) (ℕ × LineFault)). reads_on q (λ h. items_at (item h) (2 + length lines) parts)) (sym (text_at-cons head item first (lines ++ [] ∷ []) (more_parts lines ([] ∷ []) (omega arith))))
      ∙ ap (λ (n : ℕ). reads_on (whole (first ∷ lines)) (λ h. items_at (item h) n parts)) count
    where
      by : (r : Result H LineFault) → (on_line 1 r >>= λ h. pair h (items_at (item h) 2 (lines ++ parts)))
          ≡ reads_on (on_line 1 r >>= λ h. pair h (items_at (item h) 2 (lines ++ [] ∷ []))) (λ h. items_at (item h) (2 + length lines) parts)
      by (Err f) = refl
      by (Ok h) =
          ap (pair h) (items_then (item h) 2 lines parts some)
          ∙ after_items h (items_at (item h) 2 (lines ++ [] ∷ [])) (λ g. items_at (item g) (2 + length lines) parts)

  -- one more line
  whole_then : (lines : List (List ℕ)) (line : List ℕ) → 0 < length lines → whole (lines ++ line ∷ []) ≡ reads_on (whole lines) (λ h. items_at (item h) (length lines + 1) (line ∷ [] ∷ []))
  whole_then lines line more = ap (text_at head item) (append_assoc lines (line ∷ []) ([] ∷ [])) ∙ text_then lines (line ∷ [] ∷ []) more (omega arith)

  pub more_reads : (lines : List (List ℕ)) (line : List ℕ) (h : H) (xs : List A) (x : A) → whole lines ≡ Ok (h, xs) → item h (words_of line) ≡ Ok x → whole (lines ++ line ∷ []) ≡ Ok (h, xs ++ x ∷ [])
  unfolding items_at
  more_reads lines line h xs x e is = whole_then lines line (some_line lines (h, xs) e) ∙ rw e (rw is refl)

  pub more_fails : (lines : List (List ℕ)) (line : List ℕ) (h : H) (xs : List A) (f : LineFault) → whole lines ≡ Ok (h, xs) → item h (words_of line) ≡ Err f → whole (lines ++ line ∷ []) ≡ Err (length lines + 1, f)
  unfolding items_at
  more_fails lines line h xs f e is = whole_then lines line (some_line lines (h, xs) e) ∙ rw e (rw is refl)

  pub more_faulty : (lines : List (List ℕ)) (line : List ℕ) (e : ℕ × LineFault) → 0 < length lines → whole lines ≡ Err e → whole (lines ++ line ∷ []) ≡ Err e
  more_faulty lines line e some is = whole_then lines line some ∙ rw is refl

  -- ---- the end of the text

  pub none_last : (rest : List ℕ) → 0 < length rest → text_at head item (rest ∷ []) ≡ Err (1, NoNewline)
  unfolding text_at
  none_last rest some =
      let no : eqb (length rest) 0 ≡ false = ne_eqb (length rest) 0 (λ z. omega arith) in
      rw no refl

  pub none_empty : text_at head item ([] ∷ []) ≡ Err (1, NoHeader)
  unfolding text_at
  none_empty = refl

  pub fine_last : (lines : List (List ℕ)) (rest : List ℕ) (h : H) (xs : List A) → 0 < length rest → whole lines ≡ Ok (h, xs) → text_at head item (lines ++ rest ∷ []) ≡ Err (length lines + 1, NoNewline)
  unfolding items_at
  fine_last lines rest h xs some e =
      let no : eqb (length rest) 0 ≡ false = ne_eqb (length rest) 0 (λ z. omega arith) in
      text_then lines (rest ∷ []) (some_line lines (h, xs) e) (omega arith) ∙ rw e (rw no refl)

  pub faulty_last : (lines : List (List ℕ)) (rest : List ℕ) (e : ℕ × LineFault) → 0 < length lines → 0 < length rest → whole lines ≡ Err e → text_at head item (lines ++ rest ∷ []) ≡ Err e
  faulty_last lines rest e more some is = text_then lines (rest ∷ []) more (omega arith) ∙ rw is refl
