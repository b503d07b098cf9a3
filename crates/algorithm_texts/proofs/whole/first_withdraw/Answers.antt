use Rattle.std.proofs.Common.{length, map, refl, sym, ◌∙◌, arith}
use Rattle.std.proofs.lemmas.Bool.{both_ways}
use Rattle.std.proofs.lemmas.Option.{slice_get_read}
use Rattle.algorithm_texts.specs.Drafts.{line_of}
use Rattle.algorithm_texts.specs.TextFaults.{StaysAt}
use Rattle.algorithm_texts.specs.Usage.{may_withdraw, uses, passes_at}
use Rattle.algorithm_texts.proofs.CallFaults.{all_stay, any_passed, line_number, withdraw_here}
use Rattle.algorithm_texts.proofs.RunMarks.{below_next}
use Rattle.algorithm_texts.proofs.whole.first_withdraw.Goals as goal

pub returns-then-may_withdraw-clause-first : goal.returns-then-may_withdraw-clause-first
returns-then-may_withdraw-clause-first c =
    let lines = c.args.lines.now in
    let i = c.loop-line.line-index in
    let line = c.line-item.result in
    let there = slice_get_read lines (length lines) i line refl c.loop-line-test.true c.line-item.is in (
      i,
      record {
        fails = λ stays. both_ways (passes_at may_withdraw (uses (map line_of lines)) i) stays
            (withdraw_here lines i line there ∙ sym c.may_withdraw.ensures ∙ c.if-may_withdraw.true);
        before = c.loop-line.invariant.none;
      },
      sym (line_number lines i line there),
    )

pub loop-line-preserved : goal.loop-line-preserved
loop-line-preserved c =
    let lines = c.args.lines.now in
    let i = c.loop-line.line-index in
    let line = c.line-item.result in
    let there = slice_get_read lines (length lines) i line refl c.loop-line-test.true c.line-item.is in
    let none = sym c.may_withdraw.ensures ∙ c.if-may_withdraw.false in
    record {
      any = any_passed (λ l. may_withdraw l.form) lines i line c.loop-line-test.true c.line-item.is none ∙ c.loop-line.invariant.any;
      none = λ k less. below_next (λ x. StaysAt (map line_of lines) x) 0 i (λ x a b. c.loop-line.invariant.none x b) (withdraw_here lines i line there ∙ none) k (omega arith) less;
    }

pub returns-clause-first : goal.returns-clause-first
returns-clause-first c = all_stay c.args.lines.now c.loop-line.line-index c.loop-line-test.false c.loop-line.invariant.none
