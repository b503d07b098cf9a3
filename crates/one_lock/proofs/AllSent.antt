-- The messages of one worker among those that a lab shows.
use Rattle.std.proofs.Common.{◌≡◌, ◌≢◌, ℕ, suc, ◌+◌, ◌<◌, ◌≤◌, ◌==◌, true, List, [], ◌∷◌, ◌++◌, take, length, get_or, refl, sym, ap, ◌∙◌, subst, inl, inr, arith, eqb-true, eq-eqb}
use Rattle.std.proofs.lemmas.Bool.{cases_lt, cases_Bool}
use Rattle.std.proofs.lemmas.List.{take_all}
use Rattle.std.proofs.lemmas.List.Elements.{filter-append}
use Rattle.std.proofs.Math.Seq.{take-suc}
use Rattle.redomail.specs.declared.message.Message.{Message}
use Rattle.redomail.specs.Mailbox.{is_by}
use Rattle.table_runs.specs.Lab.{messages_by, messages_sent, message_sent, words_sent}

by_more : (p : ℕ) (ms : List Message) (i : ℕ) (m : Message) → i < length ms → m ≡ get_or ms i m → messages_by p (take (i + 1) ms) ≡ messages_by p (take i ms) ++ messages_by p (m ∷ [])
by_more p ms i m within is =
    let one : i + 1 ≡ suc i = omega arith in
    ap (λ (k : ℕ). messages_by p (take k ms)) one ∙ ap (messages_by p) (take-suc ms i m within) ∙ filter-append (is_by p) (take i ms) (get_or ms i m ∷ [])
    ∙ ap (λ (x : Message). messages_by p (take i ms) ++ messages_by p (x ∷ [])) (sym is)

its_own : (p : ℕ) (m : Message) → m.sender ≡ p → messages_by p (m ∷ []) ≡ m ∷ []
its_own p m is = let e : (m.sender == p) ≡ true = eq-eqb m.sender p is in rw e refl

not_own : (p : ℕ) (m : Message) → m.sender ≢ p → messages_by p (m ∷ []) ≡ []
not_own p m other = elim (cases_Bool (m.sender == p)) [ inl e ↦ absurd (other (eqb-true m.sender p e)) | inr e ↦ rw e refl ]

append_nothing : (ms : List Message) → ms ++ [] ≡ ms
append_nothing [] = refl
append_nothing (m ∷ ms) = ap (λ (xs : List Message). m ∷ xs) (append_nothing ms)

-- a message of another worker
pub passes : (width p k i : ℕ) (ms : List Message) (m : Message) → i < length ms → m ≡ get_or ms i m → m.sender ≢ p → messages_by p (take i ms) ≡ messages_sent width p k → messages_by p (take (i + 1) ms) ≡ messages_sent width p k
passes width p k i ms m within is other before =
    by_more p ms i m within is ∙ ap (λ (xs : List Message). messages_by p (take i ms) ++ xs) (not_own p m other) ∙ append_nothing (messages_by p (take i ms)) ∙ before

-- its next message
pub adds : (width p k i : ℕ) (ms : List Message) (m : Message) → i < length ms → m ≡ get_or ms i m → m.sender ≡ p → m.seq ≡ k + 1 → m.value ≡ words_sent p (k + 1) width → messages_by p (take i ms) ≡ messages_sent width p k → messages_by p (take (i + 1) ms) ≡ messages_sent width p (k + 1)
adds width p k i ms m within is sender seq value before =
    let one : suc k ≡ k + 1 = omega arith in
    let here : m ≡ message_sent width p (k + 1) = λ j. record { sender = sender j; seq = seq j; value = value j } in
    by_more p ms i m within is ∙ ap (λ (xs : List Message). messages_by p (take i ms) ++ xs) (its_own p m sender) ∙ (λ j. before j ++ here j ∷ []) ∙ ap (λ (n : ℕ). messages_sent width p k ++ message_sent width p n ∷ []) (sym one) ∙ ap (messages_sent width p) one

-- all of them
pub ends : (width p k i : ℕ) (ms : List Message) → length ms ≤ i → messages_by p (take i ms) ≡ messages_sent width p k → messages_by p ms ≡ messages_sent width p k
ends width p k i ms past before = sym (ap (messages_by p) (take_all i ms past)) ∙ before

-- one worker more
pub one_more_sent : (width k p : ℕ) (ms : List Message) → ((q : ℕ) → q < p → messages_by q ms ≡ messages_sent width q k) → messages_by p ms ≡ messages_sent width p k → (q : ℕ) → q < p + 1 → messages_by q ms ≡ messages_sent width q k
one_more_sent width k p ms below here q within =
    elim (cases_lt q p) [
      | inl less ↦ below q less
      | inr most ↦ (let is : p ≡ q = omega (arith, most, within) in subst (λ (n : ℕ). messages_by n ms ≡ messages_sent width n k) is here)
    ]
