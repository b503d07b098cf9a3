use Rattle.std.proofs.Common.{◌≡◌, ℕ, ◌+◌, ◌<◌, eqb, true, List, ◌∷◌, ◌++◌, length, get_or, take, drop, Some, position, sym, ap, ◌∙◌, subst, arith, add-one, drop-cons}
use Rattle.std.proofs.lemmas.Bool.Decides.{nat_tests}
use Rattle.std.proofs.lemmas.List.{take-append-drop}
use Rattle.std.proofs.lemmas.List.Quantifiers.{position-Some}
use Rattle.algorithm_texts.proofs.RefusedLines.{first_free, none_free}
use Rattle.algorithm_texts.proofs.drafts.split_line.Goals as goal

feed : (b : ℕ) → eqb b 10 ≡ true → b ≡ 10
feed b e = grind (arith, nat_tests)

line_split : (xs : List ℕ) (i : ℕ) → position (λ b. eqb b 10) xs ≡ Some i → xs ≡ take i xs ++ (10 ∷ drop (i + 1) xs)
line_split xs i e =
    let h = position-Some (λ b. eqb b 10) xs i 0 e in
    let within : i < length xs = h.0 in
    let ten : get_or xs i 0 ≡ 10 = feed (get_or xs i 0) h.1 in
    let rest : drop i xs ≡ get_or xs i 0 ∷ drop (i + 1) xs = rw (add-one, drop-cons xs i 0) in
    sym (take-append-drop i xs) ∙ ap (λ ys. take i xs ++ ys) rest ∙ ap (λ (b : ℕ). take i xs ++ (b ∷ drop (i + 1) xs)) ten

pub tail-requires : goal.tail-requires
tail-requires c =
    let h = position-Some (λ b. eqb b 10) c.args.bytes.now c.in_ok-end.end 0 (sym c.in_ok-end.ensures) in
    let within : c.in_ok-end.end < length c.args.bytes.now = h.0 in
    omega arith

pub returns-clause-parts : goal.returns-clause-parts
returns-clause-parts c =
    subst (λ rest. c.args.bytes.now ≡ take c.in_ok-end.end c.args.bytes.now ++ (10 ∷ rest)) (sym c.tail.ensures) (line_split c.args.bytes.now c.in_ok-end.end (sym c.in_ok-end.ensures))

pub returns-clause-first : goal.returns-clause-first
returns-clause-first c = first_free c.args.bytes.now c.in_ok-end.end (sym c.in_ok-end.ensures)

pub returns-in_err-end-clause-none : goal.returns-in_err-end-clause-none
returns-in_err-end-clause-none c = rw c.from_residual.ensures (none_free c.args.bytes.now (sym c.line_end.ensures ∙ c.in_err-end.was))
