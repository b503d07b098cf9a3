-- Lines that end a call in place of a way.
use Rattle.std.proofs.Common.{◌≡◌, ℕ, zero, suc, ◌+◌, ◌≤◌, Bool, List, [], ◌∷◌, length, map, set, get_or, refl, sym, ap, ◌∙◌, arith, add-one}
use Rattle.algorithms.specs.declared.line.AlgorithmLine.{AlgorithmLine}
use Rattle.algorithm_texts.specs.Drafts.{PlacedLine, line_of}
use Rattle.algorithm_texts.specs.FinishedDrafts.{is_in}
use Rattle.algorithm_texts.specs.UnreachedLines.{ended_line, ended_at, ended_from}

-- one line ends a call
pub end_set : (mark : Bool) (lines : List AlgorithmLine) (i : ℕ) (old new : AlgorithmLine) → old ≡ get_or lines i old → line_of new ≡ ended_line mark (line_of old)
    → map line_of (set lines i new) ≡ ended_at mark i (map line_of lines)
end_set mark [] i old new e h = refl
end_set mark (x ∷ xs) zero old new e h = ap (λ (l : PlacedLine). l ∷ map line_of xs) (h ∙ ap (λ (l : AlgorithmLine). ended_line mark (line_of l)) e)
end_set mark (x ∷ xs) (suc k) old new e h = ap (λ ls. line_of x ∷ ls) (end_set mark xs k old new e h)

-- where there is no line, none ends a call
pub end_past : (mark : Bool) (lines : List PlacedLine) (i : ℕ) → length lines ≤ i → ended_at mark i lines ≡ lines
end_past mark [] i h = refl
end_past mark (x ∷ xs) zero h = absurd (omega (arith, h))
end_past mark (x ∷ xs) (suc k) h = ap (λ ls. x ∷ ls) (end_past mark xs k (omega (arith, h)))

-- that many lines from a place on, of which the ways that are not marked end a call
pub ended_front : ℕ → List Bool → ℕ → List PlacedLine → List PlacedLine
ended_front zero marks place lines = lines
ended_front (suc n) marks place [] = []
ended_front (suc n) marks place (line ∷ lines) = ended_line (is_in marks place) line ∷ ended_front n marks (place + 1) lines

front_from : (n : ℕ) (marks : List Bool) (place at : ℕ) (lines : List PlacedLine) → at ≡ place + n
    → ended_at (is_in marks at) n (ended_front n marks place lines) ≡ ended_front (suc n) marks place lines
unfolding ended_front
front_from zero marks place at [] e = refl
front_from zero marks place at (x ∷ xs) e =
    let here : at ≡ place = omega (arith, e) in
    ap (λ (k : ℕ). ended_line (is_in marks k) x ∷ xs) here
front_from (suc n) marks place at [] e = refl
front_from (suc n) marks place at (x ∷ xs) e = ap (λ ls. ended_line (is_in marks place) x ∷ ls) (front_from n marks (place + 1) at xs (omega (arith, e)))

pub front_more : (n : ℕ) (marks : List Bool) (lines now : List PlacedLine) → now ≡ ended_front n marks 0 lines
    → ended_at (is_in marks n) n now ≡ ended_front (n + 1) marks 0 lines
front_more n marks lines now e =
    ap (ended_at (is_in marks n) n) e ∙ front_from n marks 0 n lines (omega arith) ∙ ap (λ (k : ℕ). ended_front k marks 0 lines) (sym (add-one n))

pub front_none : (marks : List Bool) (lines : List PlacedLine) → lines ≡ ended_front 0 marks 0 lines
unfolding ended_front
front_none marks lines = refl

front_all_from : (n : ℕ) (marks : List Bool) (place : ℕ) (lines : List PlacedLine) → length lines ≤ n → ended_front n marks place lines ≡ ended_from marks place lines
unfolding ended_front
front_all_from zero marks place [] h = refl
front_all_from zero marks place (x ∷ xs) h = absurd (omega (arith, h))
front_all_from (suc n) marks place [] h = refl
front_all_from (suc n) marks place (x ∷ xs) h = ap (λ ls. ended_line (is_in marks place) x ∷ ls) (front_all_from n marks (place + 1) xs (omega (arith, h)))

pub front_all : (n : ℕ) (marks : List Bool) (lines : List PlacedLine) → length lines ≤ n → ended_front n marks 0 lines ≡ ended_from marks 0 lines
front_all n marks lines h = front_all_from n marks 0 lines h
