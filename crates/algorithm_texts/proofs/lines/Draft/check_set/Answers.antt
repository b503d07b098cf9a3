use Rattle.std.proofs.Common.{◌≡◌, ℕ, ◌<◌, length, string_bytes, inr, subst, arith}
use Rattle.std.specs.Prelude.{IfSome}
use Rattle.std.proofs.lemmas.List.{length-map}
use Rattle.std.proofs.lemmas.Option.{MatchOption-at_some, MatchOption-at_none}
use Rattle.algorithm_texts.specs.Drafts.{draft_view}
use Rattle.algorithm_texts.specs.Runs.{ReadsUnset}
use Rattle.algorithm_texts.proofs.RunChecks.{unset_on}
use Rattle.algorithm_texts.proofs.RunFaults.{NoneBefore, none_before, unset_first}
use Rattle.algorithm_texts.proofs.lines.Draft.check_set.Goals as goal

pub loop-name-preserved : goal.loop-name-preserved
loop-name-preserved c =
    let d = draft_view c.args.self.now in (
      unset_on d c.args.call c.loop-name.first c.in_ok-unset.unset c.earlier-first.result c.loop-name.name c.loop-name.invariant.0 c.in_ok-unset.ensures.reads
          c.earlier-first.ensures.none c.earlier-first.ensures.some,
      none_before d c.args.call c.loop-name.first c.in_ok-unset.unset c.earlier-first.result c.loop-name.name c.loop-name.invariant.0 c.loop-name.invariant.1 c.in_ok-unset.ensures.reads
          c.in_ok-unset.ensures.first c.earlier-first.ensures.least,
    )

pub returns-in-None-clause-ok : goal.returns-in-None-clause-ok
returns-in-None-clause-ok c = λ name at less.
    let d = draft_view c.args.self.now in
    let count = length-map c.args.self.now.algorithm.names.items (λ n. string_bytes n) in
    MatchOption-at_none ((k x : ℕ) → k < c.loop-name.name → ReadsUnset d c.args.call k x → ⊥) (λ x. (k : ℕ) × (k < c.loop-name.name) × ReadsUnset d c.args.call k x)
    c.in-None.is c.loop-name.invariant.0 name at (omega (arith, less, count, c.loop-name-test.false, c.len-name-end.ensures))

pub returns-in-Some-clause-err : goal.returns-in-Some-clause-err
returns-in-Some-clause-err c =
    let d = draft_view c.args.self.now in
    let count = length-map c.args.self.now.algorithm.names.items (λ n. string_bytes n) in
    let w = MatchOption-at_some ((k x : ℕ) → k < c.loop-name.name → ReadsUnset d c.args.call k x → ⊥) (λ x. (k : ℕ) × (k < c.loop-name.name) × ReadsUnset d c.args.call k x)
    c.in-Some.place c.in-Some.is c.loop-name.invariant.0 in
    let less = w.1 in
    inr (λ set. set w.0 c.in-Some.place (omega (arith, less, count, c.loop-name.auto.name-end, c.len-name-end.ensures)) w.2)

pub returns-in-Some-clause-first : goal.returns-in-Some-clause-first
returns-in-Some-clause-first c =
    let d = draft_view c.args.self.now in
    let count = length-map c.args.self.now.algorithm.names.items (λ n. string_bytes n) in
    let w = MatchOption-at_some ((k x : ℕ) → k < c.loop-name.name → ReadsUnset d c.args.call k x → ⊥) (λ x. (k : ℕ) × (k < c.loop-name.name) × ReadsUnset d c.args.call k x)
    c.in-Some.place c.in-Some.is c.loop-name.invariant.0 in
    let before : NoneBefore d c.args.call c.loop-name.name c.in-Some.place =
    subst (λ o. IfSome o (NoneBefore d c.args.call c.loop-name.name)) c.in-Some.is c.loop-name.invariant.1 in
    let all : c.loop-name.name ≡ length d.names = omega (arith, count, c.loop-name.auto.name-end, c.loop-name-test.false, c.len-name-end.ensures) in
    inr (unset_first d c.args.call w.0 c.loop-name.name c.in-Some.place c.fault_at.result w.1 w.2 all before c.fault_at.ensures)
