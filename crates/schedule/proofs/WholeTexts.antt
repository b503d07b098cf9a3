-- A whole text: reading and spelling are inverse.
use Rattle.std.proofs.Common.{◌≡◌, ℕ, ◌+◌, ◌==◌, Bool, true, false, cond, List, [], ◌∷◌, ◌++◌, length, Result, Ok, Err, IfOk, refl, sym, ap, subst, ◌∙◌, append_assoc, eqb-true}
use Rattle.schedule.proofs.TextsCommon.{join_with_byte-slice_split, join_with_byte, AllByRecursion, flat_map, LineFault, NoNewline, TextFault, parts_of, line_of, on_line, Gives, text_at, items_at}
use Rattle.schedule.proofs.TextsCommon.{words_of, ◌>>=◌}
use Rattle.std.proofs.lemmas.List.{nil_from_length}
use Rattle.std.proofs.lemmas.List.Concat.{flat_map-cons}
use Rattle.schedule.proofs.Places.{bind_ok, ok_is, taken}
use Rattle.schedule.proofs.Joins.{IsCodec, words_of-join, parts_of-line}
use Rattle.schedule.proofs.Items.{items_at-cut}
use Rattle.schedule.proofs.Wholes.{text_at-cut}

on_line_ok : {A : Type 0} (k : ℕ) (r : Result A LineFault) (x : A) → on_line k r ≡ Ok x → r ≡ Ok x
on_line_ok k (Ok y) x e = let is : y ≡ x = ok_is {E = ℕ × LineFault} y x e in ap (λ z. Ok z) is
on_line_ok k (Err f) x e = absurd cc

-- a line is its words, joined by spaces
line_is : (line : List ℕ) (ws : List (List ℕ)) → words_of line ≡ ws → line ≡ join_with_byte 32 ws
line_is line ws e = sym (join_with_byte-slice_split 32 line) ∙ ap (join_with_byte 32) e

module _ {A : Type 0} (read : List (List ℕ) → Result A LineFault) (words : A → List (List ℕ)) (Valid : A → Type 0) (codec : IsCodec A read words Valid) where
  abbrev pub spelled_items : List A → List ℕ
  spelled_items xs = flat_map (λ x. line_of (words x)) xs

  pub items_take : (k : ℕ) (parts : List (List ℕ)) (xs : List A) → items_at read k parts ≡ Ok xs → (join_with_byte 10 parts ≡ spelled_items xs) × AllByRecursion Valid xs
  unfolding items_at
  items_take k [] xs e = subst (λ (ys : List A). ([] ≡ spelled_items ys) × AllByRecursion Valid ys) (ok_is {E = ℕ × LineFault} [] xs e) (refl, tt)
  items_take k (rest ∷ []) xs e =
      let t = taken (length rest == 0) (k, NoNewline) (Ok []) xs e in
      subst (λ (ys : List A). (rest ≡ spelled_items ys) × AllByRecursion Valid ys) (ok_is {E = ℕ × LineFault} [] xs t.1) (nil_from_length rest (eqb-true _ _ t.0), tt)
  items_take k (line ∷ next ∷ parts) xs e =
      let a = bind_ok (on_line k (read (words_of line))) (λ x. items_at read (k + 1) (next ∷ parts) >>= λ ys. Ok (x ∷ ys)) xs e in
      let b = bind_ok (items_at read (k + 1) (next ∷ parts)) (λ ys. Ok (a.0 ∷ ys)) xs a.2 in
      let one = codec.takes (words_of line) a.0 (on_line_ok k (read (words_of line)) a.0 a.1) in
      let rest = items_take (k + 1) (next ∷ parts) b.0 b.1 in
      let whole : line ++ 10 ∷ join_with_byte 10 (next ∷ parts) ≡ spelled_items (a.0 ∷ b.0) =
      ap (λ (l : List ℕ). l ++ 10 ∷ join_with_byte 10 (next ∷ parts)) (line_is line (words a.0) one.0)
      ∙ ap (λ (l : List ℕ). join_with_byte 32 (words a.0) ++ 10 ∷ l) rest.0
      ∙ sym (append_assoc (join_with_byte 32 (words a.0)) (10 ∷ []) (spelled_items b.0))
      ∙ sym (flat_map-cons (λ x. line_of (words x)) a.0 b.0) in
      subst (λ (ys : List A). (line ++ 10 ∷ join_with_byte 10 (next ∷ parts) ≡ spelled_items ys) × AllByRecursion Valid ys) (ok_is {E = ℕ × LineFault} (a.0 ∷ b.0) xs b.2) (whole, (one.1, rest.1))

  pub items_again : (k : ℕ) (xs : List A) → AllByRecursion Valid xs → items_at read k (parts_of (spelled_items xs)) ≡ Ok xs
  unfolding items_at
  items_again k [] h = refl
  items_again k (x ∷ xs) h =
      let cut : parts_of (spelled_items (x ∷ xs)) ≡ join_with_byte 32 (words x) ∷ parts_of (spelled_items xs) =
      ap parts_of (flat_map-cons (λ y. line_of (words y)) x xs) ∙ parts_of-line (words x) (spelled_items xs) (codec.plain x h.0) in
      let one : read (words_of (join_with_byte 32 (words x))) ≡ Ok x = ap read (words_of-join (words x) (codec.plain x h.0)) ∙ codec.again x h.0 in
      items_at-cut read k (spelled_items (x ∷ xs)) (join_with_byte 32 (words x)) (spelled_items xs) cut ∙ rw (one, items_again (k + 1) xs h.1) refl

module _ {H A : Type 0} (head : List (List ℕ) → Result H LineFault) (head_words : H → List (List ℕ)) (ValidHead : H → Type 0) (head_codec : IsCodec H head head_words ValidHead)
    (item : H → List (List ℕ) → Result A LineFault) (words : A → List (List ℕ)) (Valid : H → A → Type 0) (codec : (h : H) → ValidHead h → IsCodec A (item h) words (Valid h)) where
  abbrev pub spelled_text : H → List A → List ℕ
  spelled_text h xs = line_of (head_words h) ++ flat_map (λ x. line_of (words x)) xs

  never : (b : Bool) (f g : ℕ × LineFault) (y : H × List A) → cond b (Err f) (Err g) ≡ Ok y → ⊥
  never true f g y e = cc
  never false f g y e = cc

  abbrev Spells : List ℕ → H × List A → Type 0
  Spells text y = (text ≡ spelled_text y.0 y.1) × ValidHead y.0 × AllByRecursion (Valid y.0) y.1

  parts_take : (parts : List (List ℕ)) (y : H × List A) → text_at head item parts ≡ Ok y → Spells (join_with_byte 10 parts) y
  unfolding text_at
  parts_take [] y e = absurd cc
  parts_take (rest ∷ []) y e = absurd (never (length rest == 0) _ _ y e)
  parts_take (line ∷ next ∷ parts) y e =
      let a = bind_ok (on_line 1 (head (words_of line))) (λ h. items_at (item h) 2 (next ∷ parts) >>= λ xs. Ok (h, xs)) y e in
      let b = bind_ok (items_at (item a.0) 2 (next ∷ parts)) (λ xs. Ok (a.0, xs)) y a.2 in
      let one = head_codec.takes (words_of line) a.0 (on_line_ok 1 (head (words_of line)) a.0 a.1) in
      let rest = items_take (item a.0) words (Valid a.0) (codec a.0 one.1) 2 (next ∷ parts) b.0 b.1 in
      let whole : line ++ 10 ∷ join_with_byte 10 (next ∷ parts) ≡ spelled_text a.0 b.0 =
      ap (λ (l : List ℕ). l ++ 10 ∷ join_with_byte 10 (next ∷ parts)) (line_is line (head_words a.0) one.0)
      ∙ ap (λ (l : List ℕ). join_with_byte 32 (head_words a.0) ++ 10 ∷ l) rest.0
      ∙ sym (append_assoc (join_with_byte 32 (head_words a.0)) (10 ∷ []) (flat_map (λ x. line_of (words x)) b.0)) in
      subst (Spells (line ++ 10 ∷ join_with_byte 10 (next ∷ parts))) (ok_is {E = ℕ × LineFault} (a.0, b.0) y b.2) (whole, one.1, rest.1)

  -- a text that is read is the spelling of its result
  pub text_takes : (text : List ℕ) (y : H × List A) → text_at head item (parts_of text) ≡ Ok y
      → (text ≡ spelled_text y.0 y.1) × ValidHead y.0 × AllByRecursion (Valid y.0) y.1
  text_takes text y e = subst (λ (t : List ℕ). Spells t y) (join_with_byte-slice_split 10 text) (parts_take (parts_of text) y e)

  -- the spelling of a text is read back
  pub text_again : (h : H) (xs : List A) → ValidHead h → AllByRecursion (Valid h) xs → text_at head item (parts_of (spelled_text h xs)) ≡ Ok (h, xs)
  text_again h xs valid all =
      let cut = parts_of-line (head_words h) (flat_map (λ x. line_of (words x)) xs) (head_codec.plain h valid) in
      let one : head (words_of (join_with_byte 32 (head_words h))) ≡ Ok h = ap head (words_of-join (head_words h) (head_codec.plain h valid)) ∙ head_codec.again h valid in
      text_at-cut head item (spelled_text h xs) (join_with_byte 32 (head_words h)) (flat_map (λ x. line_of (words x)) xs) cut
      ∙ rw (one, items_again (item h) words (Valid h) (codec h valid) 2 xs all) refl

-- reading and spelling of whole texts are inverse: what the calls promise of what reading gives
module _ {S : Type 0} (read : List ℕ → Result S (ℕ × LineFault)) (spelled : S → List ℕ) (Valid : S → Type 0) where
  pub is_found : ((text : List ℕ) (x : S) → read text ≡ Ok x → (text ≡ spelled x) × Valid x) → (text : List ℕ) (r : Result S TextFault) → Gives (λ x. x) r (read text) → IfOk r (λ x. (text ≡ spelled x) × Valid x)
  is_found takes text (Ok x) given = takes text x given
  is_found takes text (Err e) given = tt

  pub is_only : ((x : S) → Valid x → read (spelled x) ≡ Ok x) → (text : List ℕ) (r : Result S TextFault) → Gives (λ x. x) r (read text) → (x : S) → Valid x → text ≡ spelled x → Gives (λ y. y) r (Ok x)
  is_only again text r given x valid e = subst (λ (y : Result S (ℕ × LineFault)). Gives (λ z. z) r y) (ap read e ∙ again x valid) given

  pub spelled_once : ((x : S) → Valid x → read (spelled x) ≡ Ok x) → (one other : S) → Valid one → Valid other → spelled one ≡ spelled other → one ≡ other
  spelled_once again one other valid sound e = ok_is {E = ℕ × LineFault} one other (sym (again one valid) ∙ ap read e ∙ again other sound)
