-- Which line of a text is the first with which no draft is made.
use Rattle.std.proofs.Common.{◌≡◌, ℕ, suc, ◌+◌, ◌<◌, List, ◌∷◌, length, map, drop, get_or, Option, Some, None, slice_get, sym, ap, ◌∙◌, subst, inl, inr, arith, drop-cons}
use Rattle.std.specs.Option.{option_map}
use Rattle.std.proofs.lemmas.Option.{slice_get-map}
use Rattle.algorithms.specs.Faults.{fault_of}
use Rattle.algorithms.specs.declared.fault.AlgorithmFault.{AlgorithmFault}
use Rattle.algorithms.specs.declared.fault.ReadFault.{ReadFault}
use Rattle.algorithms.specs.declared.fault.ReadFault.TheVariants.{NoHeader}
use Rattle.algorithm_texts.specs.declared.filled.Filled.{Filled}
use Rattle.algorithm_texts.specs.Drafts.{Drafted}
use Rattle.algorithm_texts.specs.Operands.{RefusesAs}
use Rattle.algorithm_texts.specs.LineFaults.{head_fault, line_fault, promises_fault}
use Rattle.algorithm_texts.specs.TextDrafts.{PromisesSaid, read_head, read_line, read_promises, empty_draft, with_number}
use Rattle.algorithm_texts.specs.TextFaults.{OrMemory, StopsOnLine, BeginsDraft, IsFaultOfForms, IsFaultOfHead, IsFaultOfSecond}
use Rattle.algorithm_texts.specs.TextLines.{second_said, spoken_of}
use Rattle.algorithm_texts.proofs.TextBeginnings.{second_line}

-- a line's fault, as the text's
pub stops_at : {A : Type 0} (line : ℕ) (fault kind : ReadFault) (at : AlgorithmFault) (o : Option A) → at ≡ fault_of line fault → RefusesAs fault o kind
    → OrMemory at (StopsOnLine line o kind at)
stops_at line fault kind at o e (inl m) = inl (e ∙ ap (fault_of line) m)
stops_at line fault kind at o e (inr h) = inr (h.0, e ∙ ap (fault_of line) h.1)

-- ---- lines

pub next_line : (lines : List Filled) (i : ℕ) (line : Filled) → i < length lines → line ≡ get_or lines i line
    → map spoken_of (drop i lines) ≡ spoken_of line ∷ map spoken_of (drop (i + 1) lines)
next_line lines i line less at =
    let next : suc i ≡ i + 1 = omega arith in
    ap (map spoken_of) (drop-cons lines i line less)
    ∙ ap (λ x. spoken_of x ∷ map spoken_of (drop (suc i) lines)) (sym at)
    ∙ ap (λ (n : ℕ). spoken_of line ∷ map spoken_of (drop n lines)) next

-- a line more makes a draft
pub forms_on : (lines : List Filled) (i : ℕ) (line : Filled) (first d now : Drafted) (fault : AlgorithmFault) → i < length lines → line ≡ get_or lines i line
    → read_line (with_number line.number d) line.tokens.all.items line.tokens.answer.items d.number ≡ Some now
    → (IsFaultOfForms d (map spoken_of (drop i lines)) fault → IsFaultOfForms first (map spoken_of lines) fault)
    → IsFaultOfForms now (map spoken_of (drop (i + 1) lines)) fault → IsFaultOfForms first (map spoken_of lines) fault
forms_on lines i line first d now fault less at made back h =
    back (subst (λ ss. IsFaultOfForms d ss fault) (sym (next_line lines i line less at)) (inr (now, made, h)))

-- a line more makes none
pub forms_stop : (lines : List Filled) (i : ℕ) (line : Filled) (first d : Drafted) (fault : AlgorithmFault) → i < length lines → line ≡ get_or lines i line
    → (IsFaultOfForms d (map spoken_of (drop i lines)) fault → IsFaultOfForms first (map spoken_of lines) fault)
    → OrMemory fault (StopsOnLine line.number (read_line (with_number line.number d) line.tokens.all.items line.tokens.answer.items d.number)
    (line_fault (with_number line.number d) line.tokens.all.items d.number) fault)
    → OrMemory fault (IsFaultOfForms first (map spoken_of lines) fault)
forms_stop lines i line first d fault less at back (inl m) = inl m
forms_stop lines i line first d fault less at back (inr h) =
    inr (back (subst (λ ss. IsFaultOfForms d ss fault) (sym (next_line lines i line less at)) (inl h)))

-- ---- the first two lines

at_first : (lines : List Filled) (k : ℕ) (line : Filled) → slice_get lines k ≡ Some line → slice_get (map spoken_of lines) k ≡ Some (spoken_of line)
at_first lines k line e = slice_get-map spoken_of lines k ∙ ap (option_map spoken_of) e

pub second_missing : (lines : List Filled) (first : ℕ) (fault : AlgorithmFault) → slice_get lines 1 ≡ None → fault ≡ fault_of first NoHeader
    → OrMemory fault (IsFaultOfSecond first (slice_get (map spoken_of lines) 1) fault)
second_missing lines first fault e named =
    inr (subst (λ o. IsFaultOfSecond first o fault) (sym (slice_get-map spoken_of lines 1 ∙ ap (option_map spoken_of) e)) named)

pub second_stops : (lines : List Filled) (first : ℕ) (second : Filled) (fault : AlgorithmFault) → slice_get lines 1 ≡ Some second
    → OrMemory fault (StopsOnLine second.number (read_promises second.tokens.all.items) (promises_fault second.tokens.all.items) fault) → OrMemory fault (IsFaultOfSecond first (slice_get (map spoken_of lines) 1) fault)
second_stops lines first second fault e h =
    subst (λ o. OrMemory fault (IsFaultOfSecond first o fault)) (sym (at_first lines 1 second e)) h

pub first_missing : (lines : List Filled) (fault : AlgorithmFault) → slice_get lines 0 ≡ None → fault ≡ fault_of 1 NoHeader
    → OrMemory fault (IsFaultOfHead (slice_get (map spoken_of lines) 0) (slice_get (map spoken_of lines) 1) fault)
first_missing lines fault e named =
    inr (subst (λ o. IsFaultOfHead o (slice_get (map spoken_of lines) 1) fault) (sym (slice_get-map spoken_of lines 0 ∙ ap (option_map spoken_of) e)) named)

pub first_stops : (lines : List Filled) (first : Filled) (fault : AlgorithmFault) → slice_get lines 0 ≡ Some first
    → OrMemory fault (StopsOnLine first.number (read_head first.tokens.all.items) (head_fault first.tokens.all.items) fault)
    → OrMemory fault (IsFaultOfHead (slice_get (map spoken_of lines) 0) (slice_get (map spoken_of lines) 1) fault)
first_stops lines first fault e (inl m) = inl m
first_stops lines first fault e (inr h) =
    inr (subst (λ o. IsFaultOfHead o (slice_get (map spoken_of lines) 1) fault) (sym (at_first lines 0 first e)) (inl h))

pub head_then : (lines : List Filled) (first : Filled) (head : List ℕ × ℕ × ℕ) (fault : AlgorithmFault) → slice_get lines 0 ≡ Some first
    → read_head first.tokens.all.items ≡ Some head → OrMemory fault (IsFaultOfSecond first.number (slice_get (map spoken_of lines) 1) fault)
    → OrMemory fault (IsFaultOfHead (slice_get (map spoken_of lines) 0) (slice_get (map spoken_of lines) 1) fault)
head_then lines first head fault e says (inl m) = inl m
head_then lines first head fault e says (inr h) =
    inr (subst (λ o. IsFaultOfHead o (slice_get (map spoken_of lines) 1) fault) (sym (at_first lines 0 first e)) (inr (head, says, h)))

pub draft_begins : (lines : List Filled) (first : Filled) (h : List ℕ × ℕ × ℕ) (p : PromisesSaid) (number : ℕ) (d : Drafted) → slice_get lines 0 ≡ Some first
    → read_head first.tokens.all.items ≡ Some h → second_said (slice_get lines 1) ≡ Some (p, number) → d ≡ empty_draft h p number → BeginsDraft (map spoken_of lines) d
draft_begins lines first h p number d e f g k =
    let s = second_line (slice_get lines 1) p number g in
    record {
      first = spoken_of first;
      second = spoken_of s.0;
      one = at_first lines 0 first e;
      two = at_first lines 1 s.0 s.1;
      head = h;
      promises = p;
      says_head = f;
      says_promises = s.2;
      is = k ∙ ap (λ (n : ℕ). empty_draft h p n) (sym s.3);
    }
