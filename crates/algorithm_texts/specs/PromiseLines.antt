-- The second line of a text: what it promises, or None where it is refused.
use Rattle.std.specs.Prelude.{◌≡◌, ℕ, ◌+◌, ◌-◌, ◌==◌, Bool, true, false, not, ◌&&◌, List, [], ◌∷◌, length, drop, slice_get, Option, Some, None, is_some, Result, Ok, Err, if◌then◌else◌, codes}
use Rattle.algorithms.specs.declared.algorithm.ProgressPromise.{ProgressPromise}
use Rattle.algorithms.specs.declared.algorithm.ProgressPromise.TheVariants.{DeadlockFreedom, StarvationFreedom}
use Rattle.algorithms.specs.declared.algorithm.Promises.{Promises}
use Rattle.algorithms.specs.declared.fault.ReadFault.{ReadFault}
use Rattle.algorithm_texts.specs.declared.promises.SecondLine.{SecondLine}
use Rattle.algorithm_texts.specs.declared.tokens.Sign.TheVariants.{Open, Close, Comma}
use Rattle.algorithm_texts.specs.declared.tokens.Token.{Token}
use Rattle.algorithm_texts.specs.Parts.{Term, is_bound, ◌>>=◌}
use Rattle.algorithm_texts.specs.Grammar.{Scope}
use Rattle.algorithm_texts.specs.Operands.{RefusesAs, reserved}
use Rattle.algorithm_texts.specs.Fronts.{is_the_word, is_the_sign, number_in, value_if, past_word, past_sign, is_over, value_tokens, value_rest}
use Rattle.algorithm_texts.specs.Drafts.{StepTerms, step_terms}
use Rattle.algorithm_texts.specs.LineParts.{read_value}

-- what a second line says
pub record PromisesSaid : Type 0 where
  pub promises : Promises
  pub step_bounds : StepTerms

abbrev pub promises_said : SecondLine → PromisesSaid
promises_said s = record { promises = s.promises; step_bounds = step_terms s.step_bounds }

-- what is said now is what is read, or there is nothing, and the fault is of this kind
abbrev pub SaysMore : {A : Type 0} → PromisesSaid → Result A ReadFault → Option PromisesSaid → ReadFault → Type 0
SaysMore now (Ok x) o kind = o ≡ Some now
SaysMore now (Err fault) o kind = RefusesAs fault o kind

-- whether a promise comes next, and the tokens after it
abbrev pub promise_at_front : List Token → List ℕ → Bool × List Token
promise_at_front tokens word =
    if is_the_sign (slice_get tokens 0) Comma && is_the_word (slice_get tokens 1) word then (true, drop 2 tokens) else (false, tokens)

-- ---- bounds on own steps

-- the second line comes before all declarations
abbrev pub empty_scope : Scope
empty_scope = record { reserved = reserved; constants = []; rows = []; declared = []; most = 64 }

-- a value of numbers, `procs` and `limit` alone, up to the end
abbrev pub read_step_bound : List Token → Option Term
read_step_bound tokens = do
  v ← read_value empty_scope [] (value_tokens tokens)
  value_if (is_over (value_rest tokens) && (is_bound v.0 && (length v.1 == 0))) (Some v.0)

-- `within VALUE`, up to the end
abbrev pub read_within : List Token → Option Term
read_within tokens = past_word tokens (codes "within") >>= read_step_bound

-- a bound on the own steps of a section that has none so far
abbrev pub new_bound : Option Term → List Token → Option Term
new_bound before tokens = if is_some before then None else read_within tokens

abbrev pub with_exit : PromisesSaid → List Token → Option PromisesSaid
with_exit p tokens =
    new_bound p.step_bounds.exit tokens >>= (λ most. Some (record p { step_bounds = record p.step_bounds { exit = Some most } }))

abbrev pub with_recovery : PromisesSaid → List Token → Option PromisesSaid
with_recovery p tokens =
    new_bound p.step_bounds.recovery tokens >>= (λ most. Some (record p { step_bounds = record p.step_bounds { recovery = Some most } }))

-- without order there is no doorway
abbrev pub with_doorway : PromisesSaid → List Token → Option PromisesSaid
with_doorway p tokens =
    value_if p.promises.order
    (new_bound p.step_bounds.doorway tokens >>= (λ most. Some (record p { step_bounds = record p.step_bounds { doorway = Some most } })))

-- ---- further promises

-- `freedom`, up to the end, where no freedom is promised so far
abbrev pub with_freedom : PromisesSaid → ProgressPromise → List Token → Option PromisesSaid
with_freedom p progress tokens = do
  rest ← past_word tokens (codes "freedom")
  value_if (is_over rest && not (is_some p.promises.progress)) (Some (record p { promises = record p.promises { progress = Some progress } }))

abbrev pub with_bounds : PromisesSaid → List Token → Option PromisesSaid
with_bounds p tokens = value_if (is_over tokens && not p.promises.bounds) (Some (record p { promises = record p.promises { bounds = true } }))

-- one promise more, which is not said so far: `exit`, `recovery` or `doorway` with its bound, `deadlock freedom`, `starvation freedom`,
-- or `bounds`
abbrev pub with_promise : PromisesSaid → List Token → Option PromisesSaid
with_promise p tokens =
    if is_the_word (slice_get tokens 0) (codes "exit") then with_exit p (drop 1 tokens)
    else if is_the_word (slice_get tokens 0) (codes "recovery") then with_recovery p (drop 1 tokens)
    else if is_the_word (slice_get tokens 0) (codes "doorway") then with_doorway p (drop 1 tokens)
    else if is_the_word (slice_get tokens 0) (codes "deadlock") then with_freedom p DeadlockFreedom (drop 1 tokens)
    else if is_the_word (slice_get tokens 0) (codes "starvation") then with_freedom p StarvationFreedom (drop 1 tokens)
    else if is_the_word (slice_get tokens 0) (codes "bounds") then with_bounds p (drop 1 tokens)
    else None

-- each part is one promise more
abbrev pub with_promises : PromisesSaid → List (List Token) → Option PromisesSaid
with_promises p [] = Some p
with_promises p (part ∷ parts) = with_promise p part >>= (λ q. with_promises q parts)

-- ---- the commas between promises

-- how many brackets are open after this token
abbrev pub brackets_after : ℕ → Token → ℕ
brackets_after opened token =
    if is_the_sign (Some token) Open then opened + 1 else if is_the_sign (Some token) Close then opened - 1 else opened

-- a promise ends before a comma outside of brackets: one in brackets is of a value
abbrev pub ends_promise : ℕ → Token → Bool
ends_promise opened token = opened == 0 && is_the_sign (Some token) Comma

-- how many tokens a promise has, where this number of brackets is open
abbrev pub promise_size_in : ℕ → List Token → ℕ
promise_size_in opened [] = 0
promise_size_in opened (token ∷ tokens) = if ends_promise opened token then 0 else promise_size_in (brackets_after opened token) tokens + 1

abbrev pub promise_size : List Token → ℕ
promise_size tokens = promise_size_in 0 tokens

-- the first part begins with this token
abbrev pub to_first : Token → List (List Token) → List (List Token)
to_first token [] = (token ∷ []) ∷ []
to_first token (part ∷ parts) = (token ∷ part) ∷ parts

-- the parts between the commas that end promises, where this number of brackets is open
abbrev pub promise_parts_in : ℕ → List Token → List (List Token)
promise_parts_in opened [] = [] ∷ []
promise_parts_in opened (token ∷ tokens) =
    if ends_promise opened token then [] ∷ promise_parts_in 0 tokens else to_first token (promise_parts_in (brackets_after opened token) tokens)

abbrev pub promise_parts : List Token → List (List Token)
promise_parts tokens = promise_parts_in 0 tokens

-- ---- the line

-- a comma, and the promises between it, further commas and the end of the line
abbrev pub read_listed : PromisesSaid → List Token → Option PromisesSaid
read_listed p tokens = past_sign tokens Comma >>= (λ rest. with_promises p (promise_parts rest))

-- the further promises, where there are some, up to the end of the line
abbrev pub read_more : PromisesSaid → List Token → Option PromisesSaid
read_more p tokens = if is_over tokens then Some p else read_listed p tokens

-- this many inside at once, re-entry, order or both, and nothing else
abbrev pub first_promises : ℕ → Bool → Bool → PromisesSaid
first_promises most_inside reentry order = record {
  promises = record { most_inside = most_inside; reentry = reentry; order = order; progress = None; bounds = false };
  step_bounds = record { exit = None; recovery = None; doorway = None };
}

-- `of K` next, with the most processes inside at once, and the tokens after it. Without it there is one
abbrev pub read_most_inside : List Token → Option (ℕ × List Token)
read_most_inside tokens =
    if is_the_word (slice_get tokens 0) (codes "of") then number_in (slice_get tokens 1) >>= (λ most. Some (most, drop 2 tokens))
    else Some (1, tokens)

-- what follows `exclusion` and the number of processes
abbrev pub read_further_promises : ℕ → List Token → Option PromisesSaid
read_further_promises most_inside tokens =
    let reentry = promise_at_front tokens (codes "reentry") in
    let order = promise_at_front reentry.1 (codes "order") in
    read_more (first_promises most_inside reentry.0 order.0) order.1

abbrev pub read_promises : List Token → Option PromisesSaid
read_promises tokens = do
  rest ← past_word tokens (codes "promises")
  more ← past_word rest (codes "exclusion")
  most ← read_most_inside more
  read_further_promises most.0 most.1
