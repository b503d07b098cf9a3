use Rattle.std.proofs.Common.{◌≡◌, ◌+◌, true, length, sym, ap, ◌∙◌, subst, arith}
use Rattle.std.proofs.lemmas.List.{with_items_is}
use Rattle.algorithm_texts.specs.Drafts.{draft_view}
use Rattle.algorithm_texts.specs.FinishedDrafts.{is_in}
use Rattle.algorithm_texts.proofs.RunMarks.{first_in, first_marked, comes_other, comes_marked, length-marks_from}
use Rattle.algorithm_texts.proofs.lines.Draft.reached_places.Goals as goal

pub returns-clause-size : goal.returns-clause-size
returns-clause-size c =
    let begun = c.as_mut_slice.ensures.value ∙ c.in_ok-marks.ensures in
    ap length (with_items_is c.in_ok-marks.marks c.spread.new.marks (c.spread.ensures.size ∙ c.as_mut_slice.ensures.len))
    ∙ c.spread.ensures.size ∙ ap length begun ∙ length-marks_from (length (draft_view c.args.self.now).lines + 1) c.args.call.«from» true

pub returns-clause-comes : goal.returns-clause-comes
returns-clause-comes c = λ at h.
    let d = draft_view c.args.self.now in
    let begun = c.as_mut_slice.ensures.value ∙ c.in_ok-marks.ensures in
    let now = with_items_is c.in_ok-marks.marks c.spread.new.marks (c.spread.ensures.size ∙ c.as_mut_slice.ensures.len) in
    comes_other d c.args.call c.args.runs (λ first. is_in c.as_mut_slice.result.now first ≡ true) (λ first. first ≡ c.args.call.«from»)
    (λ first g. first_in (length d.lines + 1) c.args.call.«from» first (subst (λ ms. is_in ms first ≡ true) begun g)) at
    (c.spread.ensures.comes at (subst (λ ms. is_in ms at ≡ true) now h))

pub returns-clause-all : goal.returns-clause-all
returns-clause-all c = λ at within h.
    let d = draft_view c.args.self.now in
    let begun = c.as_mut_slice.ensures.value ∙ c.in_ok-marks.ensures in
    let now = with_items_is c.in_ok-marks.marks c.spread.new.marks (c.spread.ensures.size ∙ c.as_mut_slice.ensures.len) in
    let size = c.spread.ensures.size ∙ ap length begun ∙ length-marks_from (length d.lines + 1) c.args.call.«from» true in
    subst (λ ms. is_in ms at ≡ true) (sym now)
    (comes_marked d c.args.call c.args.runs (λ first. first ≡ c.args.call.«from») c.spread.new.marks size c.spread.ensures.closed
    (λ first l e. c.spread.ensures.kept first (subst (λ ms. is_in ms first ≡ true) (sym begun) (first_marked (length d.lines + 1) c.args.call.«from» first e (omega (arith, l)))))
    at within h)
