-- Headers: reading and spelling are inverse.
use Rattle.std.proofs.Common.{◌≡◌, ℕ, suc, ◌^◌, ◌<◌, ◌≤◌, ◌==◌, Bool, true, false, cond, not, if◌then◌else◌, slice_index_or, eqb, codes, List, [], ◌∷◌, ◌++◌, length, Ok, refl, sym, ap, ◌∙◌, arith, inl, inr, lit<, lit≤, ne_eqb}
use Rattle.schedule.proofs.TextsCommon.{AllByRecursion, LineFault, NoHeader, HeaderForm, named_sizes, words_of_width, words_of_header, IsHeader, is_wide, size_places, width_places, header_places, WordShape}
use Rattle.schedule.proofs.TextsCommon.{has_fixed, numbers_at, ◌>>=◌}
use Rattle.schedule.specs.Headers.{header_at}
use Rattle.std.proofs.lemmas.Bool.{cases_eq}
use Rattle.std.specs.Fmt.{decimal}
use Rattle.schedule.proofs.Places.{bind_ok, taken, ok_is, spelled, Fits, AreNarrow, numbers_take, numbers_again, fixed_again}
use Rattle.schedule.proofs.Joins.{ArePlain, is_above, decimal_above}

-- the numbers of a width: none for 1
abbrev pub of_width : ℕ → List ℕ
of_width width = if width == 1 then [] else width ∷ []

pub last_width : (width : ℕ) → slice_index_or (of_width width) 0 1 ≡ width
last_width width =
    elim (cases_eq width 1) [
      | inl is ↦ rw is refl
      | inr isnt ↦ let no : eqb width 1 ≡ false = ne_eqb width 1 isnt in rw no refl
    ]

-- ---- the sizes

record Sized (names : List (List ℕ)) (after : List WordShape) (ns : List ℕ) : Type 0 where
  sizes : List ℕ
  rest : List ℕ
  whole : ns ≡ sizes ++ rest
  count : length sizes ≡ length names
  small : AllByRecursion (λ size. size < 2 ^ 64) sizes
  fits : Fits after rest
  said : spelled (size_places names ++ after) ns ≡ named_sizes names sizes ++ spelled after rest

sized : (names : List (List ℕ)) (after : List WordShape) (ns : List ℕ) → Fits (size_places names ++ after) ns → Sized names after ns
sized [] after ns h = record { sizes = []; rest = ns; whole = refl; count = refl; small = tt; fits = h; said = refl }
sized (name ∷ names) after [] h = absurd h
sized (name ∷ names) after (n ∷ ns) h =
    let s = sized names after ns h.3 in
    record {
      sizes = n ∷ s.sizes;
      rest = s.rest;
      whole = ap (λ (xs : List ℕ). n ∷ xs) s.whole;
      count = ap suc s.count;
      small = (omega arith, s.small);
      fits = s.fits;
      said = ap (λ (xs : List (List ℕ)). name ∷ decimal n ∷ xs) s.said;
    }

sizes_fit : (names : List (List ℕ)) (after : List WordShape) (sizes rest : List ℕ) → length sizes ≡ length names → AllByRecursion (λ size. size < 2 ^ 64) sizes → Fits after rest
    → Fits (size_places names ++ after) (sizes ++ rest) × (spelled (size_places names ++ after) (sizes ++ rest) ≡ named_sizes names sizes ++ spelled after rest)
sizes_fit [] after [] rest count small fits = (fits, refl)
sizes_fit [] after (n ∷ ns) rest count small fits = absurd (omega arith)
sizes_fit (name ∷ names) after [] rest count small fits = absurd (omega arith)
sizes_fit (name ∷ names) after (n ∷ ns) rest count small fits =
    let more = sizes_fit names after ns rest (omega arith) small.1 fits in
    ((omega arith, omega (arith, small.0), lit< tt, more.0), ap (λ (xs : List (List ℕ)). name ∷ decimal n ∷ xs) more.1)

sizes_narrow : (names : List (List ℕ)) (after : List WordShape) → AreNarrow after → AreNarrow (size_places names ++ after)
sizes_narrow [] after h = h
sizes_narrow (name ∷ names) after h = (lit< tt, sizes_narrow names after h)

-- ---- the width

width_narrow : (wide : Bool) → AreNarrow (width_places wide)
width_narrow true = (lit< tt, tt)
width_narrow false = tt

record Wide (wide : Bool) (ns : List ℕ) : Type 0 where
  width : ℕ
  whole : ns ≡ of_width width
  is : eqb width 1 ≡ not wide
  said : spelled (width_places wide) ns ≡ words_of_width width
  least : 1 ≤ width
  most : width ≤ 8

wide_from : (wide : Bool) (ns : List ℕ) → Fits (width_places wide) ns → Wide wide ns
wide_from true [] h = absurd h
wide_from true (w ∷ []) h =
    let no : eqb w 1 ≡ false = ne_eqb w 1 (λ (z : w ≡ 1). absurd (omega (arith, h.0))) in
    record { width = w; whole = rw no refl; is = no; said = rw no refl; least = omega (arith, h.0); most = h.1 }
wide_from true (w ∷ v ∷ ns) h = absurd h.3
wide_from false [] h = record { width = 1; whole = refl; is = refl; said = refl; least = lit≤ tt; most = lit≤ tt }
wide_from false (w ∷ ns) h = absurd h

record Asks (width : ℕ) : Type 0 where
  wide : Bool
  is : eqb width 1 ≡ not wide
  fits : Fits (width_places wide) (of_width width)
  said : spelled (width_places wide) (of_width width) ≡ words_of_width width

asks : (width : ℕ) → 1 ≤ width → width ≤ 8 → Asks width
asks width least most =
    elim (cases_eq width 1) [
      | inl is ↦ rw is (record { wide = false; is = refl; fits = tt; said = refl })
      | inr isnt ↦ let no : eqb width 1 ≡ false = ne_eqb width 1 isnt in
          record { wide = true; is = no; fits = rw no (omega arith, most, lit< tt, tt); said = rw no refl }
    ]

version_is : (wide : Bool) (width : ℕ) → eqb width 1 ≡ not wide → cond wide (codes "2") (codes "1") ≡ cond (eqb width 1) (codes "1") (codes "2")
version_is true width is = rw is refl
version_is false width is = rw is refl

wide_is : (wide : Bool) (width : ℕ) (word : List ℕ) (ws : List (List ℕ)) → eqb width 1 ≡ not wide → is_wide (word ∷ cond (eqb width 1) (codes "1") (codes "2") ∷ ws) ≡ wide
wide_is true width word ws is = rw is refl
wide_is false width word ws is = rw is refl

-- ---- plain words

abbrev AllAbove : List (List ℕ) → Type 0
AllAbove ws = AllByRecursion (λ w. is_above 32 w ≡ true) ws

all_plain : (w : List ℕ) (ws : List (List ℕ)) → AllAbove (w ∷ ws) → ArePlain (w ∷ ws)
all_plain w [] h = h.0
all_plain w (v ∷ ws) h = (h.0, all_plain v ws h.1)

version_plain : (b : Bool) → is_above 32 (cond b (codes "1") (codes "2")) ≡ true
version_plain true = refl
version_plain false = refl

width_plain : (b : Bool) (width : ℕ) → width ≤ 8 → AllAbove (cond b [] (codes "width" ∷ decimal width ∷ []))
width_plain true width most = tt
width_plain false width most = (refl, (decimal_above width (omega arith), tt))

sizes_plain : (names : List (List ℕ)) (sizes : List ℕ) (ws : List (List ℕ)) → AllAbove names → AllByRecursion (λ size. size < 2 ^ 64) sizes → AllAbove ws → AllAbove (named_sizes names sizes ++ ws)
sizes_plain [] sizes ws names_plain small h = h
sizes_plain (name ∷ names) [] ws names_plain small h = h
sizes_plain (name ∷ names) (size ∷ sizes) ws names_plain small h =
    (names_plain.0, (decimal_above size small.0, sizes_plain names sizes ws names_plain.1 small.1 h))

-- ---- whole lines

module _ {H : Type 0} (form : HeaderForm) (make : List ℕ → H) (sizes : H → List ℕ) (width : H → ℕ)
    (made : (ss : List ℕ) (w : ℕ) → IsHeader form ss w → (sizes (make (ss ++ of_width w)) ≡ ss) × (width (make (ss ++ of_width w)) ≡ w))
    (back : (h : H) → IsHeader form (sizes h) (width h) → make (sizes h ++ of_width (width h)) ≡ h) where
  abbrev words : H → List (List ℕ)
  words h = words_of_header form (sizes h) (width h)

  -- a header that is read is the spelling of its result
  pub header_takes : (ws : List (List ℕ)) (h : H) → header_at form make ws ≡ Ok h → (ws ≡ words h) × IsHeader form (sizes h) (width h)
  unfolding header_at
  header_takes ws h e =
      let wide : Bool = is_wide ws in
      let places : List WordShape = header_places form wide in
      let t = taken (has_fixed places ws) NoHeader (numbers_at places ws >>= λ ns. Ok (make ns)) h e in
      let b = bind_ok (numbers_at places ws) (λ ns. Ok (make ns)) h t.1 in
      let n = numbers_take places ws b.0 (sizes_narrow form.names (width_places wide) (width_narrow wide)) t.0 b.1 in
      let s = sized form.names (width_places wide) b.0 n.1 in
      let w = wide_from wide s.rest s.fits in
      let valid : IsHeader form s.sizes w.width = record { count = s.count; small = s.small; least = w.least; most = w.most } in
      let whole : s.sizes ++ of_width w.width ≡ b.0 = ap (λ (xs : List ℕ). s.sizes ++ xs) (sym w.whole) ∙ sym s.whole in
      let is : make (s.sizes ++ of_width w.width) ≡ h = ap make whole ∙ ok_is {E = LineFault} (make b.0) h b.2 in
      let m = made s.sizes w.width valid in
      let same_sizes : sizes h ≡ s.sizes = ap sizes (sym is) ∙ m.0 in
      let same_width : width h ≡ w.width = ap width (sym is) ∙ m.1 in
      let said : spelled places b.0 ≡ words_of_header form s.sizes w.width =
      ap (λ (v : List ℕ). form.word ∷ v ∷ spelled (size_places form.names ++ width_places wide) b.0) (version_is wide w.width w.is)
      ∙ ap (λ (xs : List (List ℕ)). form.word ∷ cond (eqb w.width 1) (codes "1") (codes "2") ∷ xs) (s.said ∙ ap (λ (xs : List (List ℕ)). named_sizes form.names s.sizes ++ xs) w.said) in
      rw (same_sizes, same_width) (n.0 ∙ said, valid)

  -- the spelling of a header is read back
  pub header_again : (h : H) → IsHeader form (sizes h) (width h) → header_at form make (words h) ≡ Ok h
  unfolding header_at
  header_again h valid =
      let a = asks (width h) valid.least valid.most in
      let ns : List ℕ = sizes h ++ of_width (width h) in
      let f = sizes_fit form.names (width_places a.wide) (sizes h) (of_width (width h)) valid.count valid.small a.fits in
      let said : words h ≡ spelled (header_places form a.wide) ns =
      ap (λ (xs : List (List ℕ)). form.word ∷ cond (eqb (width h) 1) (codes "1") (codes "2") ∷ xs) (ap (λ (xs : List (List ℕ)). named_sizes form.names (sizes h) ++ xs) (sym a.said) ∙ sym f.1)
      ∙ ap (λ (v : List ℕ). form.word ∷ v ∷ spelled (size_places form.names ++ width_places a.wide) ns) (sym (version_is a.wide (width h) a.is)) in
      let wide : is_wide (words h) ≡ a.wide = wide_is a.wide (width h) form.word (named_sizes form.names (sizes h) ++ words_of_width (width h)) a.is in
      let numbers : numbers_at (header_places form a.wide) (words h) ≡ Ok ns = ap (numbers_at (header_places form a.wide)) said ∙ numbers_again (header_places form a.wide) ns f.0 in
      let fixed : has_fixed (header_places form a.wide) (words h) ≡ true = ap (has_fixed (header_places form a.wide)) said ∙ fixed_again (header_places form a.wide) ns f.0 in
      rw (wide, fixed, numbers) (ap (λ (x : H). Ok x) (back h valid))

  -- its words are plain
  pub header_plain : AllAbove (form.word ∷ form.names) → (h : H) → IsHeader form (sizes h) (width h) → ArePlain (words h)
  header_plain names h valid =
      let version : List ℕ = if width h == 1 then codes "1" else codes "2" in
      let after : List (List ℕ) = named_sizes form.names (sizes h) ++ words_of_width (width h) in
      let rest : AllAbove after = sizes_plain form.names (sizes h) (words_of_width (width h)) names.1 valid.small (width_plain (eqb (width h) 1) (width h) valid.most) in
      let all : AllAbove (form.word ∷ version ∷ after) = (names.0, (version_plain (eqb (width h) 1), rest)) in
      all_plain form.word (version ∷ after) all
