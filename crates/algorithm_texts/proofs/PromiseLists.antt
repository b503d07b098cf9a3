-- Promises one after the other, and the commas between them.
use Rattle.std.proofs.Common.{◌≡◌, ℕ, suc, ◌+◌, ◌<◌, ◌≤◌, Bool, true, false, if◌then◌else◌, List, [], ◌∷◌, length, take, drop, Some, Result, Ok, Err, refl, sym, ap, ◌∙◌, inl, inr, arith, add-one}
use Rattle.algorithms.specs.declared.fault.ReadFault.{ReadFault}
use Rattle.algorithm_texts.specs.declared.tokens.Token.{Token}
use Rattle.algorithm_texts.specs.LineFaults.{fault_from, promise_fault, promises_list_fault}
use Rattle.algorithm_texts.specs.Operands.{RefusesAs}
use Rattle.algorithm_texts.specs.Parts.{◌>>=◌}
use Rattle.algorithm_texts.specs.PromiseLines.{PromisesSaid, SaysMore, brackets_after, ends_promise, promise_parts, promise_parts_in, promise_size, promise_size_in, to_first, with_promise, with_promises}

-- ---- commas

last_in : (opened : ℕ) (tokens : List Token) → length tokens ≤ promise_size_in opened tokens → promise_parts_in opened tokens ≡ tokens ∷ []
last_in opened [] all = refl
last_in opened (token ∷ tokens) all = by (ends_promise opened token) (λ less. last_in (brackets_after opened token) tokens less) all
  where
    by : (b : Bool) → (length tokens ≤ promise_size_in (brackets_after opened token) tokens → promise_parts_in (brackets_after opened token) tokens ≡ tokens ∷ [])
        → length (token ∷ tokens) ≤ (if b then 0 else promise_size_in (brackets_after opened token) tokens + 1)
        → (if b then [] ∷ promise_parts_in 0 tokens else to_first token (promise_parts_in (brackets_after opened token) tokens)) ≡ (token ∷ tokens) ∷ []
    by true rest all = absurd (omega (arith, all))
    by false rest all = ap (to_first token) (rest (omega (arith, all)))

-- the parts of tokens, by the size of the first
abbrev parts_by : ℕ → List Token → List (List Token)
parts_by size tokens = take size tokens ∷ promise_parts (drop (suc size) tokens)

next_in : (opened : ℕ) (tokens : List Token) → promise_size_in opened tokens < length tokens → promise_parts_in opened tokens ≡ parts_by (promise_size_in opened tokens) tokens
next_in opened [] some = absurd (omega (arith, some))
next_in opened (token ∷ tokens) some = by (ends_promise opened token) (λ less. next_in (brackets_after opened token) tokens less) some
  where
    by : (b : Bool) → (promise_size_in (brackets_after opened token) tokens < length tokens → promise_parts_in (brackets_after opened token) tokens ≡ parts_by (promise_size_in (brackets_after opened token) tokens) tokens)
        → (if b then 0 else promise_size_in (brackets_after opened token) tokens + 1) < length (token ∷ tokens)
        → (if b then [] ∷ promise_parts_in 0 tokens else to_first token (promise_parts_in (brackets_after opened token) tokens))
        ≡ parts_by (if b then 0 else promise_size_in (brackets_after opened token) tokens + 1) (token ∷ tokens)
    by true rest some = refl
    by false rest some = rw (add-one (promise_size_in (brackets_after opened token) tokens)) (ap (to_first token) (rest (omega (arith, some))))

-- tokens without a comma that ends a promise are one promise
pub comma_last : (tokens : List Token) → length tokens ≤ promise_size tokens → promise_parts tokens ≡ tokens ∷ []
comma_last tokens all = last_in 0 tokens all

-- the promise before the first such comma, and those after it
pub comma_next : (tokens : List Token) → promise_size tokens < length tokens
    → promise_parts tokens ≡ take (promise_size tokens) tokens ∷ promise_parts (drop (promise_size tokens + 1) tokens)
comma_next tokens some = rw (add-one (promise_size tokens)) (next_in 0 tokens some)

-- ---- one promise more

-- a part that is a promise
pub part_made : (p q : PromisesSaid) (part : List Token) (parts : List (List Token)) → with_promise p part ≡ Some q → with_promises p (part ∷ parts) ≡ with_promises q parts
part_made p q part parts is = ap (λ o. o >>= (λ r. with_promises r parts)) is

pub fault_after : (p q : PromisesSaid) (part : List Token) (parts : List (List Token)) → with_promise p part ≡ Some q → promises_list_fault p (part ∷ parts) ≡ promises_list_fault q parts
fault_after p q part parts is = ap (λ o. fault_from o (promise_fault p part) (λ r. promises_list_fault r parts)) is

-- a part that is none
pub part_refused : (p : PromisesSaid) (part : List Token) (parts : List (List Token)) (fault : ReadFault) → RefusesAs fault (with_promise p part) (promise_fault p part)
    → RefusesAs fault (with_promises p (part ∷ parts)) (promises_list_fault p (part ∷ parts))
part_refused p part parts fault (inl memory) = inl memory
part_refused p part parts fault (inr h) =
    inr (ap (λ o. o >>= (λ r. with_promises r parts)) h.0, h.1 ∙ sym (ap (λ o. fault_from o (promise_fault p part) (λ r. promises_list_fault r parts)) h.0))

-- the last part
pub last_part : {A : Type 0} (p now : PromisesSaid) (part : List Token) (r : Result A ReadFault) → SaysMore now r (with_promise p part) (promise_fault p part)
    → SaysMore now r (with_promises p (part ∷ [])) (promises_list_fault p (part ∷ []))
last_part p now part (Ok x) is = part_made p now part [] is
last_part p now part (Err fault) h = part_refused p part [] fault h
