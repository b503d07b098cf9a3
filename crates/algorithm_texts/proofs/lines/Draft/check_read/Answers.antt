use Rattle.std.proofs.Common.{◌≡◌, ◌<◌, true, length, string_bytes, sym, ◌∙◌, arith}
use Rattle.std.proofs.lemmas.Bool.{both_ways}
use Rattle.std.proofs.lemmas.List.{length-map}
use Rattle.algorithm_texts.specs.Drafts.{draft_view}
use Rattle.algorithm_texts.specs.Lawful.{IsKnown}
use Rattle.algorithm_texts.specs.Usage.{reads, uses, passes_at}
use Rattle.algorithm_texts.proofs.RunMarks.{below_next}
use Rattle.algorithm_texts.proofs.lines.Draft.check_read.Goals as goal
use Rattle.algorithm_texts.proofs.lines.Draft.check_read.Goals.{else-uses_at-via-then-uses_at+else-not-is_known, else-uses_at-via-else-uses_at}

pub loop-name-preserved : goal.loop-name-preserved
loop-name-preserved c = λ name less.
    below_next (λ k. passes_at (reads k) (uses (draft_view c.args.self.now).lines) c.args.place ≡ true
    → IsKnown (uses (draft_view c.args.self.now).lines) c.args.call (draft_view c.args.self.now).lasting k c.args.place) 0 c.loop-name.name (λ k l. c.loop-name.invariant k)
    (λ h. elim c.else-uses_at.branch [
      | else-uses_at-via-then-uses_at+else-not-is_known w ↦ w.is_known.ensures.0 w.if-not-is_known.false
      | else-uses_at-via-else-uses_at w ↦ absurd (both_ways c.uses_at.result w.if-uses_at.false (c.uses_at.ensures ∙ h))
    ])
    name (omega arith) less

pub returns-clause-ok : goal.returns-clause-ok
returns-clause-ok c = λ name less.
    let count = length-map c.args.self.now.algorithm.names.items (λ n. string_bytes n) in
    c.loop-name.invariant name (omega (arith, less, count, c.loop-name-test.false, c.len-name-end.ensures))

pub returns-then-not-is_known-clause-err : goal.returns-then-not-is_known-clause-err
returns-then-not-is_known-clause-err c = λ h.
    let count = length-map c.args.self.now.algorithm.names.items (λ n. string_bytes n) in
    let less : c.loop-name.name < length (draft_view c.args.self.now).names = omega (arith, count, c.loop-name-test.true, c.len-name-end.ensures) in
    both_ways c.is_known.result c.if-not-is_known.true (c.is_known.ensures.1 (h c.loop-name.name less (sym c.uses_at.ensures ∙ c.if-uses_at.true)))
