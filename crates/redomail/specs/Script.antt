-- "Tasks" as scripts of gets and puts.
use Rattle.std.specs.Prelude.{ℕ, zero, suc, ◌+◌, List, [], ◌∷◌, ◌++◌, Option, Some, None}
use Rattle.redomail.specs.declared.reply.Reply.{Reply}
use Rattle.redomail.specs.declared.next.Next.{Next}
use Rattle.redomail.specs.declared.next.Next.TheVariants as want
use Rattle.redomail.specs.Layout.{saturate}

-- Get this word and continue with its value, put that word and continue, or end with this reply.
pub data Script (A : Type 0) : Type 0 where
  Get : ℕ → (ℕ → Script A) → Script A
  Put : ℕ → ℕ → Script A → Script A
  Done : A → Script A

-- the next access of a script
abbrev pub head : Script Reply → Next
head (Get i next) = want.Get i
head (Put i v rest) = want.Put i v
head (Done reply) = want.Done reply

-- the reply, if there is no access left
abbrev pub reply_in : Next → Option Reply
reply_in (want.Done reply) = Some reply
reply_in _ = None

-- the rest of a script after a step with this word
abbrev pub tail : {A : Type 0} → Script A → ℕ → Script A
tail (Get i next) x = next x
tail (Put i v rest) x = rest
tail (Done reply) x = Done reply

-- Puts, each an index with its new value.
abbrev pub puts : {A : Type 0} → List (ℕ × ℕ) → Script A → Script A
puts [] rest = rest
puts (x ∷ xs) rest = Put x.0 x.1 (puts xs rest)

-- the puts of these words at rising indexes
abbrev pub in_row : ℕ → List ℕ → List (ℕ × ℕ)
in_row i [] = []
in_row i (v ∷ vs) = (saturate i, v) ∷ in_row (i + 1) vs

-- Gets of n words at rising indexes. The words read before come first.
abbrev pub gets : {A : Type 0} → ℕ → ℕ → List ℕ → (List ℕ → Script A) → Script A
gets i zero read next = next read
gets i (suc n) read next = Get i (λ x. gets (i + 1) n (read ++ x ∷ []) next)
