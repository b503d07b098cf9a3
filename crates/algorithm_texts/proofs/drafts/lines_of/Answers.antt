use Rattle.std.proofs.Common.{◌≡◌, ◌+◌, ◌≤◌, ◌<◌, ℕ, ◌++◌, [], length, map, ap, ◌∙◌, subst, inl, inr, arith, rules}
use Rattle.std.proofs.lemmas.Result.{err_from_is_err_and}
use Rattle.std.proofs.lemmas.Grind.{common_steps}
use Rattle.std.proofs.lemmas.List.{length-map}
use Rattle.algorithms.specs.Faults.{fault_of}
use Rattle.algorithms.specs.declared.fault.AlgorithmFault.{AlgorithmFault}
use Rattle.algorithms.specs.declared.fault.ReadFault.TheVariants.{TooBig}
use Rattle.algorithm_texts.specs.TextFaults.{IsFaultOfLines, IsFaultOfTokens, OrMemory}
use Rattle.algorithm_texts.specs.TextLines.{and_line, spoken_of, IsRefusalOf}
use Rattle.algorithm_texts.proofs.RefusedLines.{line_refused, many_refused, end_refused}
use Rattle.algorithm_texts.proofs.FirstFaults.{line_at_fault}
use Rattle.algorithm_texts.proofs.RunFaults.{part_or_memory}
use Rattle.algorithm_texts.proofs.SpokenLines.{so_far_more}
use Rattle.algorithm_texts.proofs.drafts.lines_of.Goals as goal

pub loop-line-preserved : goal.loop-line-preserved
loop-line-preserved c =
    let filled = c.in_ok-filled.filled in
    let old = c.loop-line.lines.items in
    let now = c.add_filled.new.lines.items in
    let following : c.saturating_add-number.result ≡ c.loop-line.number + 1 = first_of (search rules, grind (arith, common_steps, c.in_ok-filled.ensures.few)) in
    let added = c.in_ok-add_filled.ensures.added ∙ ap (λ (n : ℕ). map spoken_of old ++ and_line n filled.tokens.all.items filled.tokens.answer.items []) c.in_ok-filled.ensures.number in
    so_far_more c.args.text.now c.loop-line.rest.now c.in-Some.line.now c.in-Some.after.now c.loop-line.number c.saturating_add-number.result (map spoken_of old) (map spoken_of now) filled.tokens.all.items
    filled.tokens.answer.items c.loop-line.invariant c.in-Some.ensures.parts c.in_ok-filled.ensures.says c.in_ok-filled.ensures.few c.in_ok-filled.ensures.short following added
    (omega (arith, length-map now spoken_of, c.in_ok-add_filled.ensures.few (omega (arith, length-map old spoken_of, c.loop-line.invariant.few_filled))))

pub returns-in_err-filled-clause-err : goal.returns-in_err-filled-clause-err
returns-in_err-filled-clause-err c =
    let p = err_from_is_err_and c.from_residual.result c.from_residual.ensures.1 in
    rw (p.1, p.2)
    (line_refused c.in_err-filled.field-0.0 c.args.text.now c.loop-line.rest.now c.in-Some.line.now c.in-Some.after.now c.loop-line.number (map spoken_of c.loop-line.lines.items) c.loop-line.invariant
    c.in-Some.ensures.first c.in-Some.ensures.parts c.in_err-filled.ensures.err)

pub returns-in_err-add_filled-clause-err : goal.returns-in_err-add_filled-clause-err
returns-in_err-add_filled-clause-err c =
    let p = err_from_is_err_and c.from_residual-in_err-add_filled.result c.from_residual-in_err-add_filled.ensures.1 in
    let filled = c.in_ok-filled.filled in
    let said = map spoken_of c.loop-line.lines.items in
    rw (p.1, p.2)
    (many_refused c.in_err-add_filled.field-0.0 c.args.text.now c.loop-line.rest.now c.in-Some.line.now c.in-Some.after.now c.loop-line.number said filled.tokens.all.items filled.tokens.answer.items
    c.loop-line.invariant c.in-Some.ensures.first c.in-Some.ensures.parts c.in_ok-filled.ensures.says
    (subst (λ (n : ℕ). IsRefusalOf c.in_err-add_filled.field-0.0 (length (said ++ and_line n filled.tokens.all.items filled.tokens.answer.items []) ≤ 1024)) c.in_ok-filled.ensures.number
    c.in_err-add_filled.ensures.err))

pub returns-in_err-filled-clause-first : goal.returns-in_err-filled-clause-first
returns-in_err-filled-clause-first c =
    let fault = c.in_err-filled.field-0.0 in
    part_or_memory c.from_residual.result fault (IsFaultOfTokens c.loop-line.number c.in-Some.line.now) (IsFaultOfLines c.args.text.now) c.from_residual.ensures.1
    (λ h. line_at_fault c.args.text.now c.loop-line.rest.now c.in-Some.line.now c.in-Some.after.now c.loop-line.number (map spoken_of c.loop-line.lines.items) fault c.loop-line.invariant
    c.in-Some.ensures.parts c.in-Some.ensures.first (inl h)) c.in_err-filled.ensures.first

pub returns-in_err-add_filled-clause-first : goal.returns-in_err-add_filled-clause-first
returns-in_err-add_filled-clause-first c =
    let fault = c.in_err-add_filled.field-0.0 in
    let filled = c.in_ok-filled.filled in
    let said = map spoken_of c.loop-line.lines.items in
    let read = c.in_ok-filled.ensures in
    let Many : ℕ → AlgorithmFault → Type 0 = λ n f. (1024 < length (said ++ and_line n filled.tokens.all.items filled.tokens.answer.items [])) × (f ≡ fault_of n TooBig) in
    part_or_memory c.from_residual-in_err-add_filled.result fault (Many c.loop-line.number) (IsFaultOfLines c.args.text.now) c.from_residual-in_err-add_filled.ensures.1
    (λ h. line_at_fault c.args.text.now c.loop-line.rest.now c.in-Some.line.now c.in-Some.after.now c.loop-line.number said fault c.loop-line.invariant
    c.in-Some.ensures.parts c.in-Some.ensures.first (inr (read.few, read.short, filled.tokens.all.items, filled.tokens.answer.items, read.says, h.0, h.1)))
    (subst (λ (n : ℕ). OrMemory fault (Many n fault)) read.number c.in_err-add_filled.ensures.first)

pub returns-else-is_empty-clause-err : goal.returns-else-is_empty-clause-err
returns-else-is_empty-clause-err c =
    let rest = c.loop-line.rest.now in
    let some : 0 < length c.loop-line.rest.now = first_of (search rules, grind (arith, common_steps)) in
    inr (end_refused c.args.text.now rest c.loop-line.number (map spoken_of c.loop-line.lines.items) c.loop-line.invariant c.in_default.ensures.none some)

pub returns-else-is_empty-clause-first : goal.returns-else-is_empty-clause-first
returns-else-is_empty-clause-first c =
    let some : 0 < length c.loop-line.rest.now = first_of (search rules, grind (arith, common_steps)) in
    inr (record {
      number = c.loop-line.number;
      rest = c.loop-line.rest.now;
      said = map spoken_of c.loop-line.lines.items;
      before = c.loop-line.invariant;
      next = inl (some, c.in_default.ensures.none, c.at.ensures);
    })
