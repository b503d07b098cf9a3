-- The first two lines of a text.
use Rattle.std.proofs.Common.{◌≡◌, ℕ, List, map, drop, Option, Some, None, slice_get, refl, sym, ap, ◌∙◌, subst, inl, inr}
use Rattle.std.proofs.lemmas.Option.{slice_get-map, same_Some, none-some}
use Rattle.std.specs.Option.{option_map}
use Rattle.algorithms.specs.declared.fault.AlgorithmFault.{AlgorithmFault}
use Rattle.algorithm_texts.specs.declared.filled.Filled.{Filled}
use Rattle.algorithm_texts.specs.Parts.{◌>>=◌}
use Rattle.algorithm_texts.specs.Drafts.{Drafted}
use Rattle.algorithm_texts.specs.TextDrafts.{PromisesSaid, Spoken, empty_draft, read_head, read_promises, read_lines, read_text}
use Rattle.algorithm_texts.specs.TextLines.{second_said, spoken_of, RefusesLines}
use Rattle.algorithm_texts.proofs.BlockTrees.{some_of}
use Rattle.algorithm_texts.proofs.Sound.{some_same}

pub second_line : (o : Option Filled) (p : PromisesSaid) (number : ℕ) → second_said o ≡ Some (p, number)
    → (line : Filled) × (o ≡ Some line) × (read_promises line.tokens.all.items ≡ Some p) × (line.number ≡ number)
second_line None p number e = absurd (cc)
second_line (Some line) p number e =
    let x = some_of (read_promises line.tokens.all.items) (λ q. Some (q, line.number)) (p, number) e in
    let same = some_same {A = PromisesSaid × ℕ} (x.0, line.number) (p, number) x.2 in
    (line, refl, x.1 ∙ ap (λ (r : PromisesSaid × ℕ). Some r.0) same, ap (λ (r : PromisesSaid × ℕ). r.1) same)

-- the lines after the first two make the rest of the draft
pub text_begun : (lines : List Filled) (first : Filled) (h : List ℕ × ℕ × ℕ) (p : PromisesSaid) (number : ℕ) (d : Drafted) → slice_get lines 0 ≡ Some first
    → read_head first.tokens.all.items ≡ Some h → second_said (slice_get lines 1) ≡ Some (p, number) → d ≡ empty_draft h p number
    → read_text (map spoken_of lines) ≡ read_lines d (drop 2 (map spoken_of lines))
text_begun lines first h p number d e f g k =
    let s = second_line (slice_get lines 1) p number g in
    let one : slice_get (map spoken_of lines) 0 ≡ Some (spoken_of first) = slice_get-map spoken_of lines 0 ∙ ap (option_map spoken_of) e in
    let two : slice_get (map spoken_of lines) 1 ≡ Some (spoken_of s.0) = slice_get-map spoken_of lines 1 ∙ ap (option_map spoken_of) s.1 in
    let rest = drop 2 (map spoken_of lines) in
    ap (λ o. o >>= (λ a. slice_get (map spoken_of lines) 1 >>= (λ b. read_head a.tokens >>= (λ head. read_promises b.tokens >>= (λ q. read_lines (empty_draft head q b.number) rest))))) one
    ∙ ap (λ o. o >>= (λ b. read_head first.tokens.all.items >>= (λ head. read_promises b.tokens >>= (λ q. read_lines (empty_draft head q b.number) rest)))) two
    ∙ ap (λ o. o >>= (λ head. read_promises s.0.tokens.all.items >>= (λ q. read_lines (empty_draft head q s.0.number) rest))) f
    ∙ ap (λ o. o >>= (λ q. read_lines (empty_draft h q s.0.number) rest)) s.2
    ∙ ap (λ (n : ℕ). read_lines (empty_draft h p n) rest) s.3
    ∙ ap (λ x. read_lines x rest) (sym k)

-- ---- texts that have no such lines

no_bind : {A B : Type 0} (o : Option A) (f : A → Option B) → ((x : A) → o ≡ Some x → f x ≡ None) → (o >>= f) ≡ None
no_bind None f h = refl
no_bind (Some x) f h = h x refl

pub no_first : (lines : List Filled) → slice_get lines 0 ≡ None → read_text (map spoken_of lines) ≡ None
no_first lines e =
    let rest = drop 2 (map spoken_of lines) in
    ap (λ o. o >>= (λ a. slice_get (map spoken_of lines) 1 >>= (λ b. read_head a.tokens >>= (λ head. read_promises b.tokens >>= (λ q. read_lines (empty_draft head q b.number) rest)))))
    (slice_get-map spoken_of lines 0 ∙ ap (option_map spoken_of) e)

pub no_head : (lines : List Filled) (first : Filled) → slice_get lines 0 ≡ Some first → read_head first.tokens.all.items ≡ None → read_text (map spoken_of lines) ≡ None
no_head lines first e h =
    let rest = drop 2 (map spoken_of lines) in
    ap (λ o. o >>= (λ a. slice_get (map spoken_of lines) 1 >>= (λ b. read_head a.tokens >>= (λ head. read_promises b.tokens >>= (λ q. read_lines (empty_draft head q b.number) rest)))))
    (slice_get-map spoken_of lines 0 ∙ ap (option_map spoken_of) e)
    ∙ no_bind (slice_get (map spoken_of lines) 1) (λ b. read_head first.tokens.all.items >>= (λ head. read_promises b.tokens >>= (λ q. read_lines (empty_draft head q b.number) rest)))
    (λ b f. ap (λ o. o >>= (λ head. read_promises b.tokens >>= (λ q. read_lines (empty_draft head q b.number) rest))) h)

pub head_refuses : (lines : List Filled) (first : Filled) (fault : AlgorithmFault) → slice_get lines 0 ≡ Some first → RefusesLines fault (read_head first.tokens.all.items)
    → RefusesLines fault (read_text (map spoken_of lines))
head_refuses lines first fault e (inl h) = inl h
head_refuses lines first fault e (inr h) = inr (no_head lines first e h)

said_none : (o : Option PromisesSaid) (number : ℕ) → ◌>>=◌ {B = PromisesSaid × ℕ} o (λ p. Some (p, number)) ≡ None → o ≡ None
said_none None number e = refl
said_none (Some p) number e = let pair : PromisesSaid × ℕ = (p, number) in absurd (none-some pair (sym e))

second_none : (o : Option Filled) (b : Spoken) → second_said o ≡ None → option_map spoken_of o ≡ Some b → read_promises b.tokens ≡ None
second_none None b e f = absurd (none-some b f)
second_none (Some line) b e f =
    subst (λ x. read_promises x.tokens ≡ None) (same_Some (spoken_of line) b f) (said_none (read_promises line.tokens.all.items) line.number e)

no_promises : (lines : List Filled) (first : Filled) → slice_get lines 0 ≡ Some first → second_said (slice_get lines 1) ≡ None → read_text (map spoken_of lines) ≡ None
no_promises lines first e h =
    let rest = drop 2 (map spoken_of lines) in
    ap (λ o. o >>= (λ a. slice_get (map spoken_of lines) 1 >>= (λ b. read_head a.tokens >>= (λ head. read_promises b.tokens >>= (λ q. read_lines (empty_draft head q b.number) rest)))))
    (slice_get-map spoken_of lines 0 ∙ ap (option_map spoken_of) e)
    ∙ no_bind (slice_get (map spoken_of lines) 1) (λ b. read_head first.tokens.all.items >>= (λ head. read_promises b.tokens >>= (λ q. read_lines (empty_draft head q b.number) rest)))
    (λ b f. no_bind (read_head first.tokens.all.items) (λ head. read_promises b.tokens >>= (λ q. read_lines (empty_draft head q b.number) rest))
    (λ head g. ap (λ o. o >>= (λ q. read_lines (empty_draft head q b.number) rest)) (second_none (slice_get lines 1) b h (sym (slice_get-map spoken_of lines 1) ∙ f))))

pub promises_refuse : (lines : List Filled) (first : Filled) (fault : AlgorithmFault) → slice_get lines 0 ≡ Some first → RefusesLines fault (second_said (slice_get lines 1))
    → RefusesLines fault (read_text (map spoken_of lines))
promises_refuse lines first fault e (inl h) = inl h
promises_refuse lines first fault e (inr h) = inr (no_promises lines first e h)

-- a second line without promises says nothing
pub says_nothing : (line : Filled) (fault : AlgorithmFault) → RefusesLines fault (read_promises line.tokens.all.items) → RefusesLines fault (second_said (Some line))
says_nothing line fault (inl h) = inl h
says_nothing line fault (inr h) = inr (ap (λ o. ◌>>=◌ {B = PromisesSaid × ℕ} o (λ p. Some (p, line.number))) h)
