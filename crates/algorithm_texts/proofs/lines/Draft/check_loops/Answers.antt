use Rattle.std.proofs.Common.{◌≡◌, ◌<◌, true, length, string_bytes, sym, ◌∙◌, arith}
use Rattle.std.proofs.lemmas.Bool.{both_ways}
use Rattle.std.proofs.lemmas.List.{length-map}
use Rattle.algorithm_texts.specs.Drafts.{draft_view}
use Rattle.algorithm_texts.specs.Lawful.{HasLoop}
use Rattle.algorithm_texts.specs.Usage.{sets, uses, passes_at}
use Rattle.algorithm_texts.proofs.RunMarks.{below_next}
use Rattle.algorithm_texts.proofs.lines.Draft.check_loops.Goals as goal
use Rattle.algorithm_texts.proofs.lines.Draft.check_loops.Goals.{else-uses_at-via-then-uses_at+else-has_line, else-uses_at-via-else-uses_at}

pub loop-name-preserved : goal.loop-name-preserved
loop-name-preserved c = λ name less.
    below_next (λ k. passes_at (sets k) (uses (draft_view c.args.self.now).lines) c.args.place ≡ true → HasLoop (uses (draft_view c.args.self.now).lines) c.args.call k → ⊥) 0 c.loop-name.name
    (λ k l. c.loop-name.invariant k)
    (λ h loop. elim c.else-uses_at.branch [
      | else-uses_at-via-then-uses_at+else-has_line w ↦ both_ways w.has_line.result w.if-has_line.false (w.has_line.ensures.1 loop)
      | else-uses_at-via-else-uses_at w ↦ both_ways c.uses_at.result w.if-uses_at.false (c.uses_at.ensures ∙ h)
    ])
    name (omega arith) less

pub returns-clause-ok : goal.returns-clause-ok
returns-clause-ok c = λ name less.
    let count = length-map c.args.self.now.algorithm.names.items (λ n. string_bytes n) in
    c.loop-name.invariant name (omega (arith, less, count, c.loop-name-test.false, c.len-name-end.ensures))

pub returns-then-has_line-clause-err : goal.returns-then-has_line-clause-err
returns-then-has_line-clause-err c = λ h.
    let count = length-map c.args.self.now.algorithm.names.items (λ n. string_bytes n) in
    let less : c.loop-name.name < length (draft_view c.args.self.now).names = omega (arith, count, c.loop-name-test.true, c.len-name-end.ensures) in
    h c.loop-name.name less (sym c.uses_at.ensures ∙ c.if-uses_at.true) (c.has_line.ensures.0 c.if-has_line.true)
