-- Which line of a text is the first that is refused.
use Rattle.std.proofs.Common.{◌≡◌, ◌⊎◌, ℕ, ◌+◌, ◌<◌, ◌≤◌, List, [], ◌∷◌, ◌++◌, length, true, Ok, Err, refl, sym, ap, ◌∙◌, subst, inl, inr, append_assoc, arith}
use Rattle.std.specs.List.{list_all}
use Rattle.std.proofs.lemmas.List.{length-append}
use Rattle.algorithms.specs.Faults.{fault_of}
use Rattle.algorithms.specs.declared.fault.AlgorithmFault.{AlgorithmFault}
use Rattle.algorithms.specs.declared.fault.ReadFault.{ReadFault}
use Rattle.algorithms.specs.declared.fault.ReadFault.TheVariants.{NoHeader, BadCharacter, NoNewline, BadForm, NameTaken, UnknownName, TwoAccesses, NotAssignable, BadBlock, BadLabel, Unset, Endless, NoStep, FallsOff, BadDeed, TooBig, BadCall, NeverReached, OutOfMemory as NoMemory}
use Rattle.algorithm_texts.specs.declared.tokens.Token.{Token}
use Rattle.algorithm_texts.specs.Fronts.{is_over}
use Rattle.algorithm_texts.specs.TextLines.{ended_lines, and_line, is_no_feed, SayLines, SaysTokens, SaysBefore, SaysUpTo, IsRefusalOf, IsAt, IsFirstFaultyLine}
use Rattle.algorithm_texts.specs.TextDrafts.{Spoken}
use Rattle.algorithm_texts.specs.TextFaults.{IsFaultOfCount, IsFaultOfLines, IsFaultOfNext, IsFaultOfTokens, IsPastLimit, NamesFirstLine, OrMemory}
use Rattle.algorithm_texts.specs.Tokens.{LineSays}
use Rattle.algorithm_texts.proofs.LineTokens.{line_says_once}
use Rattle.algorithm_texts.proofs.LinesOnce.{split_once, says_free, same_ok}
use Rattle.algorithm_texts.proofs.RefusedLines.{IsNext, First, next_is, few_with, some_feed, refused_where, says_none}
use Rattle.algorithm_texts.proofs.SpokenLines.{and_at}

-- a fault of a line is at it
pub fault_at : (line : ℕ) (fault : ReadFault) → IsAt (fault_of line fault) line
fault_at line NoHeader = inr (1, refl)
fault_at line BadCharacter = inr (2, refl)
fault_at line NoNewline = inr (3, refl)
fault_at line BadForm = inr (4, refl)
fault_at line NameTaken = inr (5, refl)
fault_at line UnknownName = inr (6, refl)
fault_at line TwoAccesses = inr (7, refl)
fault_at line NotAssignable = inr (8, refl)
fault_at line BadBlock = inr (9, refl)
fault_at line BadLabel = inr (10, refl)
fault_at line Unset = inr (11, refl)
fault_at line Endless = inr (12, refl)
fault_at line NoStep = inr (13, refl)
fault_at line FallsOff = inr (14, refl)
fault_at line BadDeed = inr (15, refl)
fault_at line TooBig = inr (16, refl)
fault_at line BadCall = inr (17, refl)
fault_at line NeverReached = inr (18, refl)
fault_at line NoMemory = inl refl

first_fault : (fault : AlgorithmFault) (line : ℕ) (Upto : ℕ → Type 0) → IsAt fault line → Upto line → IsRefusalOf fault (Upto (line + 1)) → IsFirstFaultyLine fault Upto
first_fault fault line Upto (inl e) h r = inl e
first_fault fault line Upto (inr k) h (inl e) = inl e
first_fault fault line Upto (inr k) h (inr n) = inr (line, k.0, k.1, h, n)

-- the fault of a line's bytes, within the limits
pub tokens_fault : (number : ℕ) (line : List ℕ) (kind : ReadFault) → number ≤ 4096 → length line ≤ 1000 → (kind ≡ NoMemory) ⊎ LineSays line (Err kind)
    → OrMemory (fault_of number kind) (IsFaultOfTokens number line (fault_of number kind))
tokens_fault number line kind few short (inl e) = inl (ap (fault_of number) e)
tokens_fault number line kind few short (inr h) = inr (inr (few, short, kind, h, refl))

-- lines after those that came first, with bytes after them
record AfterSome (n : ℕ) (first lines : List (List ℕ)) (said all : List Spoken) (rest tail : List ℕ) : Type 0 where
  more : List (List ℕ)
  spoken : List Spoken
  is : lines ≡ first ++ more
  bytes : ended_lines more ++ tail ≡ rest
  say : SayLines (n + length first) more spoken
  both : all ≡ said ++ spoken

after_some : (n : ℕ) (first lines : List (List ℕ)) (said all : List Spoken) (rest tail : List ℕ) → length first ≤ length lines → SayLines n first said → SayLines n lines all
    → ended_lines lines ++ tail ≡ ended_lines first ++ rest → AfterSome n first lines said all rest tail
after_some n [] lines said all rest tail l h k e =
    let here : n ≡ n + length (let none : List (List ℕ) = [] in none) = omega arith in
    record { more = lines; spoken = all; is = refl; bytes = e; say = subst (λ (m : ℕ). SayLines m lines all) here k; both = ap (λ ss. ss ++ all) (sym h) }
after_some n (x ∷ xs) [] said all rest tail l h k e = absurd (omega (arith, l))
after_some n (x ∷ xs) (y ∷ ys) said all rest tail l h k e =
    let split = split_once x y (ended_lines xs ++ rest) (ended_lines ys ++ tail) (says_free x (h.0, h.1) h.2) (says_free y (k.0, k.1) k.2)
    (sym (sym (append_assoc y (10 ∷ ended_lines ys) tail) ∙ e ∙ append_assoc x (10 ∷ ended_lines xs) rest)) in
    let r = after_some (n + 1) xs ys h.3 k.3 rest tail (omega (arith, l)) h.4 k.4 (sym split.1) in
    let same : ◌≡◌ {A = List Token × List ℕ} (k.0, k.1) (h.0, h.1) =
    sym (same_ok (h.0, h.1) (k.0, k.1) (line_says_once x (Ok (h.0, h.1)) (Ok (k.0, k.1)) h.2 (subst (λ b. LineSays b (Ok (k.0, k.1))) (sym split.0) k.2))) in
    let next : (n + 1) + length xs ≡ n + length (x ∷ xs) = omega arith in
    record {
      more = r.more;
      spoken = r.spoken;
      is = ap (λ b. b ∷ ys) (sym split.0) ∙ ap (λ ls. x ∷ ls) r.is;
      bytes = r.bytes;
      say = subst (λ (m : ℕ). SayLines m r.more r.spoken) next r.say;
      both = k.5
          ∙ ap (λ (p : List Token × List ℕ). and_line n p.0 p.1 k.3) same
          ∙ ap (λ ss. and_line n h.0 h.1 ss) r.both
          ∙ sym (and_at (is_over h.0) (record { number = n; tokens = h.0; answer = h.1 }) h.3 r.spoken)
          ∙ ap (λ ss. ss ++ r.spoken) (sym h.5);
    }

first_of_some : (number : ℕ) (more : List (List ℕ)) (said : List Spoken) (tail line after : List ℕ) → 0 < length more → list_all is_no_feed line ≡ true
    → ended_lines more ++ tail ≡ line ++ (10 ∷ after) → SayLines number more said → First number line after more said
first_of_some number [] said tail line after some free e h = absurd (omega (arith, some))
first_of_some number (l ∷ ls) said tail line after some free e h =
    let s = split_once l line (ended_lines ls ++ tail) after (says_free l (h.0, h.1) h.2) free (sym (append_assoc l (10 ∷ ended_lines ls) tail) ∙ e) in
    record {
      tokens = h.0;
      answer = h.1;
      spoken = h.3;
      lines = ls;
      says = subst (λ x. LineSays x (Ok (h.0, h.1))) s.0 h.2;
      is = ap (λ x. x ∷ ls) s.0;
      both = h.5;
    }

-- a line more comes after those before
more_come : (first lines more : List (List ℕ)) (number : ℕ) → lines ≡ first ++ more → number ≡ length first + 1 → number + 1 ≡ length lines + 1 → 0 < length more
more_come first lines more number is before here =
    let size : length lines ≡ length first + length more = ap length is ∙ length-append first more in
    omega (arith, size, before, here)

-- the line of this number, where it and those before it say tokens
next_before : (text rest line after : List ℕ) (number : ℕ) (said : List Spoken) → SaysBefore text rest number said → list_all is_no_feed line ≡ true
    → rest ≡ line ++ (10 ∷ after) → (w : SaysUpTo text (number + 1)) → IsNext number line said w.1
next_before text rest line after number said h free split w =
    let k = w.2 in
    let less : length h.lines ≤ length k.lines = omega (arith, h.count, k.count) in
    let a = after_some 1 h.lines k.lines said w.1 rest w.0 less h.say k.say (sym k.bytes ∙ h.bytes) in
    let some = more_come h.lines k.lines a.more number a.is h.count k.count in
    let f = first_of_some (1 + length h.lines) a.more a.spoken w.0 line after some free (a.bytes ∙ split) a.say in
    next_is number line after said w.1 h.lines k.lines a.more a.spoken a.is f a.both h.count k.few k.short k.few_filled

-- ---- faults

-- the line that comes next is at fault
pub line_at_fault : (text rest line after : List ℕ) (number : ℕ) (said : List Spoken) (fault : AlgorithmFault) → SaysBefore text rest number said
    → rest ≡ line ++ (10 ∷ after) → list_all is_no_feed line ≡ true → IsFaultOfTokens number line fault ⊎ IsFaultOfCount number line said fault → IsFaultOfLines text fault
line_at_fault text rest line after number said fault before split free h = record { number = number; rest = rest; said = said; before = before; next = inr (line, after, split, free, h) }

-- no tokens are said within the limits where a line's bytes are at fault
past_limit : (number : ℕ) (line : List ℕ) → IsPastLimit number line → SaysTokens number line → ⊥
past_limit number line (inl many) w = let few = w.0 in omega (arith, many, few)
past_limit number line (inr long) w = let short = w.1 in omega (arith, long, short)

unsaid_line : (number : ℕ) (line : List ℕ) (fault : AlgorithmFault) → IsFaultOfTokens number line fault → IsRefusalOf fault (SaysTokens number line) × IsAt fault number
unsaid_line number line fault (inl h) = (inr (past_limit number line h.0), subst (λ f. IsAt f number) (sym h.1) (fault_at number TooBig))
unsaid_line number line fault (inr h) = (
  subst (λ f. IsRefusalOf f (SaysTokens number line)) (sym h.4) (says_none number line h.2 (inr h.3)),
  subst (λ f. IsAt f number) (sym h.4) (fault_at number h.2),
)

line_first : (fault : AlgorithmFault) (text rest line after : List ℕ) (number : ℕ) (said : List Spoken) → IsAt fault number → SaysBefore text rest number said
    → list_all is_no_feed line ≡ true → rest ≡ line ++ (10 ∷ after) → IsRefusalOf fault (SaysTokens number line) → IsFirstFaultyLine fault (SaysUpTo text)
line_first fault text rest line after number said at h free split r =
    first_fault fault number (SaysUpTo text) at (rest, said, h)
    (refused_where fault (SaysTokens number line) (SaysUpTo text (number + 1))
    (λ w. let t = next_before text rest line after number said h free split w in (t.few, t.short, t.tokens, t.answer, t.says)) r)

count_first : (fault : AlgorithmFault) (text rest line after : List ℕ) (number : ℕ) (said : List Spoken) → SaysBefore text rest number said
    → list_all is_no_feed line ≡ true → rest ≡ line ++ (10 ∷ after) → IsFaultOfCount number line said fault → IsFirstFaultyLine fault (SaysUpTo text)
count_first fault text rest line after number said h free split many =
    first_fault fault number (SaysUpTo text) (subst (λ f. IsAt f number) (sym many.6) (fault_at number TooBig)) (rest, said, h)
    (inr (λ w.
    let few = few_with number line said many.2 many.3 many.4 w.1 (next_before text rest line after number said h free split w) in
    let more = many.5 in
    omega (arith, few, more)))

end_first : (fault : AlgorithmFault) (text rest : List ℕ) (number : ℕ) (said : List Spoken) → IsAt fault number → SaysBefore text rest number said
    → list_all is_no_feed rest ≡ true → IsFirstFaultyLine fault (SaysUpTo text)
end_first fault text rest number said at h free =
    first_fault fault number (SaysUpTo text) at (rest, said, h)
    (inr (λ w.
    let k = w.2 in
    let less : length h.lines ≤ length k.lines = omega (arith, h.count, k.count) in
    let a = after_some 1 h.lines k.lines said w.1 rest w.0 less h.say k.say (sym k.bytes ∙ h.bytes) in
    some_feed a.more rest w.0 (more_come h.lines k.lines a.more number a.is h.count k.count) a.bytes free))

next_first : (text rest : List ℕ) (number : ℕ) (said : List Spoken) (fault : AlgorithmFault) → SaysBefore text rest number said → IsFaultOfNext number rest said fault
    → IsFirstFaultyLine fault (SaysUpTo text)
next_first text rest number said fault h (inl end) =
    end_first fault text rest number said (subst (λ f. IsAt f number) (sym end.2) (fault_at number NoNewline)) h end.1
next_first text rest number said fault h (inr k) = elim k.4 [
  | inl tokens ↦
      let u = unsaid_line number k.0 fault tokens in
      line_first fault text rest k.0 k.1 number said u.1 h k.3 k.2 u.0
  | inr count ↦ count_first fault text rest k.0 k.1 number said h k.3 k.2 count
]

-- the fault of the first round is at the first line with which the lines no longer say tokens
pub names_first_line : NamesFirstLine
names_first_line = λ text fault h. next_first text h.rest h.number h.said fault h.before h.next
