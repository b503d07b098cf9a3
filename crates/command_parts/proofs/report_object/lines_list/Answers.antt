use Rattle.std.proofs.Common.{◌≡◌, ◌-◌, ℕ, eqb, length, take, ap, ◌∙◌, arith, rules}
use Rattle.std.proofs.lemmas.Grind.{common_steps}
use Rattle.std.proofs.lemmas.Iterator.Consumers.{YieldsList-end}
use Rattle.std.proofs.lemmas.Iterator.Splits.{YieldsList-from_slice_split}
use Rattle.std.specs.List.{slice_split}
use Rattle.std.specs.Slice.Iter.{split_rest, split_done, split_callee}
use borrow.Author.Tests.{tests}
use Rattle.command_parts.specs.ReportObjects.{list_text}
use Rattle.command_parts.proofs.report_object.lines_list.Goals as goal

pub returns : goal.returns
returns c =
    let t = YieldsList-end (YieldsList-from_slice_split _ (λ b. eqb b 10) _ (ap split_rest c.into_iter-line-iterator.ensures.into_iter_gives ∙ c.split-line-items.ensures.rest)
    (ap split_done c.into_iter-line-iterator.ensures.into_iter_gives ∙ c.split-line-items.ensures.done) (ap split_callee c.into_iter-line-iterator.ensures.into_iter_gives ∙ c.split-line-items.ensures.closure)
    (λ x b q k. search (rules, tests))) c.loop-line.yielded _ c.loop-line.yielded_by _ _ c.in-None.is c.next.ensures.steps in
    let end : c.saturating_sub-end.result ≡ length c.args.report.now - 1 = first_of (search rules, grind (arith, common_steps)) in
    c.loop-line.invariant ∙ (ap list_text t.0 ∙ ap (λ (n : ℕ). list_text (slice_split (λ b. eqb b 10) (take n c.args.report.now))) end)
