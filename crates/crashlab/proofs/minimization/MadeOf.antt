-- Lists with elements left out, and the moves of changed lines.
use Rattle.std.proofs.Common.{◌≡◌, ℕ, zero, suc, ◌+◌, ◌-◌, ◌<◌, ◌≤◌, ◌==◌, Bool, true, false, if◌then◌else◌, List, [], ◌∷◌, ◌++◌, take, drop, length, get_or, Some, refl, sym, ap, ◌∙◌, subst, inl, inr, arith, add-one, append-nil, append_assoc}
use Rattle.std.specs.List.{slice_get}
use Rattle.std.proofs.lemmas.Option.{slice_get-get_or}
use Rattle.schedule.specs.declared.lines.line.Line.{Line}
use Rattle.schedule.specs.declared.lines.line.Line.TheVariants.{Step, Crash}
use Rattle.schedule.specs.Schedules.{Scheduled}
use Rattle.crashlab.specs.minimization.Least.{with_lines_at, IsLowered}
use Rattle.crashlab.specs.minimization.MadeOf.{IsSubsequence, steps_by, moves_by, moves_of, IsMadeOf, moves_left}

pub sub_refl : {A : Type 0} (xs : List A) → IsSubsequence xs xs
sub_refl [] = tt
sub_refl (x ∷ xs) = inl (refl, sub_refl xs)

sub_later : {A : Type 0} (xs : List A) (y : A) (ys : List A) → IsSubsequence xs ys → IsSubsequence xs (y ∷ ys)
sub_later [] y ys h = tt
sub_later (x ∷ xs) y ys h = inr h

pub sub_skip : {A : Type 0} (xs ys zs : List A) → IsSubsequence xs zs → IsSubsequence xs (ys ++ zs)
sub_skip xs [] zs h = h
sub_skip xs (y ∷ ys) zs h = sub_later xs y (ys ++ zs) (sub_skip xs ys zs h)

pub sub_front : {A : Type 0} (ys xs zs : List A) → IsSubsequence xs zs → IsSubsequence (ys ++ xs) (ys ++ zs)
sub_front [] xs zs h = h
sub_front (y ∷ ys) xs zs h = inl (refl, sub_front ys xs zs h)

pub sub_trans : {A : Type 0} (xs ys zs : List A) → IsSubsequence xs ys → IsSubsequence ys zs → IsSubsequence xs zs
sub_trans [] ys zs h k = tt
sub_trans (x ∷ xs) [] zs h k = absurd h
sub_trans (x ∷ xs) (y ∷ ys) [] h k = absurd k
sub_trans (x ∷ xs) (y ∷ ys) (z ∷ zs) h k = elim k [
  | inl same ↦ elim h [ inl first ↦ inl (first.0 ∙ same.0, sub_trans xs ys zs first.1 same.1) | inr later ↦ inr (sub_trans (x ∷ xs) ys zs later same.1) ]
  | inr on ↦ inr (sub_trans (x ∷ xs) (y ∷ ys) zs h on)
]

pub steps_split : (p m n : ℕ) → steps_by p (m + n) ≡ steps_by p m ++ steps_by p n
steps_split p zero n = ap (steps_by p) (let e : 0 + n ≡ n = omega arith in e)
steps_split p (suc m) n = ap (steps_by p) (let e : suc m + n ≡ suc (m + n) = omega arith in e) ∙ ap (λ ls. Step p 1 ∷ ls) (steps_split p m n)

pub moves_append : (p : ℕ) (xs ys : List Line) → moves_of p (xs ++ ys) ≡ moves_of p xs ++ moves_of p ys
moves_append p [] ys = refl
moves_append p (x ∷ xs) ys = ap (λ ls. moves_by p x ++ ls) (moves_append p xs ys) ∙ sym (append_assoc (moves_by p x) (moves_of p xs) (moves_of p ys))

-- a line replaced by lines that have no other moves
made_at : (p i : ℕ) (lines new : List Line) (line : Line) → slice_get lines i ≡ Some line → ((xs : List Line) → IsSubsequence (moves_of p new ++ xs) (moves_by p line ++ xs))
    → IsSubsequence (moves_of p (take i lines ++ (new ++ drop (suc i) lines))) (moves_of p lines)
made_at p i [] new line e go = absurd (cc)
made_at p zero (l ∷ ls) new line e go =
    let same : l ≡ line = cc in
    subst (λ ms. IsSubsequence ms (moves_by p l ++ moves_of p ls)) (sym (moves_append p new ls))
    (subst (λ k. IsSubsequence (moves_of p new ++ moves_of p ls) (moves_by p k ++ moves_of p ls)) (sym same) (go (moves_of p ls)))
made_at p (suc i) (l ∷ ls) new line e go = sub_front (moves_by p l) _ _ (made_at p i ls new line e go)

-- a line left out
pub made_without : (schedule : Scheduled) (i : ℕ) → i < length schedule.lines → IsMadeOf schedule (with_lines_at i [] schedule)
made_without schedule i within p low =
    let line = get_or schedule.lines i (Crash 0) in
    let is = slice_get-get_or schedule.lines i (Crash 0) within in
    rw (add-one i) (made_at p i schedule.lines [] line is (λ xs. sub_skip xs (moves_by p line) xs (sub_refl xs)))

-- one step fewer
fewer : (p q count : ℕ) (xs : List Line) (b : Bool) → IsSubsequence ((if b then steps_by q count else []) ++ xs) ((if b then steps_by q (suc count) else []) ++ xs)
fewer p q count xs true = sub_later (steps_by q count ++ xs) (Step q 1) (steps_by q count ++ xs) (sub_refl (steps_by q count ++ xs))
fewer p q count xs false = sub_refl xs

lower_moves : (p q count : ℕ) (xs : List Line) → IsSubsequence (moves_of p (Step q count ∷ []) ++ xs) (moves_by p (Step q (count + 1)) ++ xs)
lower_moves p q count xs =
    subst (λ ms. IsSubsequence (ms ++ xs) (moves_by p (Step q (count + 1)) ++ xs)) (sym (append-nil (moves_by p (Step q count))))
    (rw (add-one count) (fewer p q count xs (p == q)))

-- a count lowered by one
pub made_lowered : (schedule : Scheduled) (i : ℕ) (less : Line) → IsLowered schedule.lines i less → IsMadeOf schedule (with_lines_at i (less ∷ []) schedule)
made_lowered schedule i less low p below =
    rw (add-one i) (made_at p i schedule.lines (less ∷ []) (Step low.process (low.count + 1)) low.was
    (λ xs. subst (λ (l : Line). IsSubsequence (moves_of p (l ∷ []) ++ xs) (moves_by p (Step low.process (low.count + 1)) ++ xs)) (sym low.is) (lower_moves p low.process low.count xs)))

pub made_self : (schedule : Scheduled) → IsMadeOf schedule schedule
made_self schedule p low = sub_refl (moves_of p schedule.lines)

-- one after the other
pub made_on : (a b c : Scheduled) → a.procs ≡ b.procs → IsMadeOf a b → IsMadeOf b c → IsMadeOf a c
made_on a b c same first second p low =
    sub_trans (moves_of p c.lines) (moves_of p b.lines) (moves_of p a.lines) (second p (subst (λ n. p < n) same low)) (first p low)

-- the steps that are left are taken, and there are more to take
pub taken_all : (p steps wanted left : ℕ) (xs : List Line) (first : Line) (rest : List Line) → steps < wanted
    → ((xs ys : List Line) → IsSubsequence xs (steps_by p left ++ ys) → IsSubsequence xs (moves_by p first ++ ys))
    → IsSubsequence (steps_by p (wanted - steps) ++ xs) (moves_left p left rest) → IsSubsequence (steps_by p wanted ++ xs) (moves_left p steps (first ∷ rest))
taken_all p steps wanted left xs first rest more by h =
    let whole : wanted ≡ steps + (wanted - steps) = omega (arith, more) in
    let split = ap (steps_by p) whole ∙ steps_split p steps (wanted - steps) in
    let there = sub_front (steps_by p steps) (steps_by p (wanted - steps) ++ xs) (moves_by p first ++ moves_of p rest) (by (steps_by p (wanted - steps) ++ xs) (moves_of p rest) h) in
    subst (λ ms. IsSubsequence ms (moves_left p steps (first ∷ rest))) (sym (ap (λ ms. ms ++ xs) split ∙ append_assoc (steps_by p steps) (steps_by p (wanted - steps)) xs)) there

-- there are as many left as are taken
pub taken_some : (p steps wanted : ℕ) (xs lines : List Line) → wanted ≤ steps → IsSubsequence xs (moves_left p (steps - wanted) lines) → IsSubsequence (steps_by p wanted ++ xs) (moves_left p steps lines)
taken_some p steps wanted xs lines few h =
    let whole : steps ≡ wanted + (steps - wanted) = omega (arith, few) in
    let split = ap (steps_by p) whole ∙ steps_split p wanted (steps - wanted) in
    let there = sub_front (steps_by p wanted) xs (moves_left p (steps - wanted) lines) h in
    subst (λ ms. IsSubsequence (steps_by p wanted ++ xs) ms) (sym (ap (λ ms. ms ++ moves_of p lines) split ∙ append_assoc (steps_by p wanted) (steps_by p (steps - wanted)) (moves_of p lines))) there

-- one more line
pub taken_line : (p : ℕ) (done : List Line) (line : Line) (xs : List Line) (all : List Line) → IsSubsequence (moves_of p done ++ (moves_by p line ++ xs)) all → IsSubsequence (moves_of p (done ++ line ∷ []) ++ xs) all
taken_line p done line xs all h =
    subst (λ ms. IsSubsequence ms all) (sym (ap (λ ms. ms ++ xs) (moves_append p done (line ∷ []) ∙ ap (λ ms. moves_of p done ++ ms) (append-nil (moves_by p line))) ∙ append_assoc (moves_of p done) (moves_by p line) xs)) h
