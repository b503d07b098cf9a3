-- Pieces of a text.
use Rattle.std.proofs.Common.{◌≡◌, ℕ, ◌<◌, ◌≤◌, false, eqb, List, [], ◌∷◌, ◌++◌, length, refl, sym, ap, ◌∙◌, length-append, arith, inl, inr}
use Rattle.schedule.proofs.ReplaysCommon.{cases_Bool, onto_first, parts_of}
use Rattle.std.proofs.lemmas.List.Splits.{slice_split-cons_yes, slice_split-cons_no, length-slice_split}
use Rattle.std.proofs.lemmas.List.Sums.{count_by-le-length}

tail_same : (x : ℕ) (parts : List (List ℕ)) (xs : List ℕ) → 0 < length parts → onto_first x parts ≡ (x ∷ xs) ∷ [] → parts ≡ xs ∷ []
tail_same x [] xs lt e = absurd (omega arith)
tail_same x (part ∷ parts) xs lt e = cc

no_cut : (x : ℕ) (xs : List ℕ) (parts : List (List ℕ)) → [] ∷ parts ≡ (x ∷ xs) ∷ [] → ⊥
no_cut x xs parts e = cc

-- a text without LF is the beginning of the first part
pub parts_of-append : (a rest front : List ℕ) (tail : List (List ℕ)) → parts_of a ≡ a ∷ [] → parts_of rest ≡ front ∷ tail → parts_of (a ++ rest) ≡ (a ++ front) ∷ tail
parts_of-append [] rest front tail whole e = e
parts_of-append (x ∷ xs) rest front tail whole e =
    elim (cases_Bool (eqb x 10)) [
      | inl cut ↦ absurd (no_cut x xs (parts_of xs) (sym (slice_split-cons_yes (λ b. eqb b 10) x xs cut) ∙ whole))
      | inr uncut ↦
          let inner : parts_of xs ≡ xs ∷ [] = tail_same x (parts_of xs) xs (omega (arith, length-slice_split (λ b. eqb b 10) xs)) (sym (slice_split-cons_no (λ b. eqb b 10) x xs uncut) ∙ whole) in
          slice_split-cons_no (λ b. eqb b 10) x (xs ++ rest) uncut ∙ ap (onto_first x) (parts_of-append xs rest front tail inner e)
    ]

some_part : (text : List ℕ) → 0 < length (parts_of text)
some_part text = omega (arith, length-slice_split (λ b. eqb b 10) text)

-- the parts of a text with another text after it
abbrev glue : List (List ℕ) → List ℕ → List (List ℕ)
glue [] b = parts_of b
glue (rest ∷ []) b = parts_of (rest ++ b)
glue (line ∷ next ∷ parts) b = line ∷ glue (next ∷ parts) b

glue-cons : (line : List ℕ) (parts : List (List ℕ)) (b : List ℕ) → 0 < length parts → line ∷ glue parts b ≡ glue (line ∷ parts) b
glue-cons line [] b lt = absurd (omega arith)
glue-cons line (next ∷ parts) b lt = refl

glue-onto : (x : ℕ) (parts : List (List ℕ)) (b : List ℕ) → eqb x 10 ≡ false → 0 < length parts → onto_first x (glue parts b) ≡ glue (onto_first x parts) b
glue-onto x [] b uncut lt = absurd (omega arith)
glue-onto x (rest ∷ []) b uncut lt = sym (slice_split-cons_no (λ c. eqb c 10) x (rest ++ b) uncut)
glue-onto x (line ∷ next ∷ parts) b uncut lt = refl

parts_of-glue : (a b : List ℕ) → parts_of (a ++ b) ≡ glue (parts_of a) b
parts_of-glue [] b = refl
parts_of-glue (x ∷ xs) b =
    elim (cases_Bool (eqb x 10)) [
      | inl cut ↦ slice_split-cons_yes (λ c. eqb c 10) x (xs ++ b) cut ∙ ap (λ (ps : List (List ℕ)). [] ∷ ps) (parts_of-glue xs b)
          ∙ glue-cons [] (parts_of xs) b (some_part xs) ∙ ap (λ (ps : List (List ℕ)). glue ps b) (sym (slice_split-cons_yes (λ c. eqb c 10) x xs cut))
      | inr uncut ↦ slice_split-cons_no (λ c. eqb c 10) x (xs ++ b) uncut ∙ ap (onto_first x) (parts_of-glue xs b)
          ∙ glue-onto x (parts_of xs) b uncut (some_part xs) ∙ ap (λ (ps : List (List ℕ)). glue ps b) (sym (slice_split-cons_no (λ c. eqb c 10) x xs uncut))
    ]

-- a text in two pieces, of which the first is cut already
glue_last : (lines : List (List ℕ)) (rest b : List ℕ) → glue (lines ++ rest ∷ []) b ≡ lines ++ parts_of (rest ++ b)
glue_last [] rest b = refl
glue_last (line ∷ lines) rest b =
    sym (glue-cons line (lines ++ rest ∷ []) b (omega (arith, length-append lines (rest ∷ [])))) ∙ ap (λ (ps : List (List ℕ)). line ∷ ps) (glue_last lines rest b)

pub parts_of-pieces : (a b rest : List ℕ) (lines : List (List ℕ)) → parts_of a ≡ lines ++ rest ∷ [] → parts_of (a ++ b) ≡ lines ++ parts_of (rest ++ b)
parts_of-pieces a b rest lines e = parts_of-glue a b ∙ ap (λ (ps : List (List ℕ)). glue ps b) e ∙ glue_last lines rest b

-- a text has at least as many bytes as lines
pub lines-few : (text rest : List ℕ) (lines : List (List ℕ)) → parts_of text ≡ lines ++ rest ∷ [] → length lines ≤ length text
lines-few text rest lines e =
    omega (arith, length-slice_split (λ b. eqb b 10) text, count_by-le-length (λ b. eqb b 10) text, ap length e, length-append lines (rest ∷ []))

-- ---- writing
