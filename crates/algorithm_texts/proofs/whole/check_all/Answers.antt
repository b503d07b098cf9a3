use Rattle.std.proofs.Common.{◌≡◌, true, sym, ◌∙◌, subst, replicate, false}
use Rattle.std.proofs.lemmas.List.{with_items_is}
use Rattle.algorithm_texts.specs.Drafts.{draft_view}
use Rattle.algorithm_texts.specs.FinishedDrafts.{is_in}
use Rattle.algorithm_texts.specs.UnreachedLines.{MarksRuns}
use Rattle.algorithm_texts.proofs.RunMarks.{none_in}
use Rattle.algorithm_texts.proofs.whole.check_all.Goals as goal

pub check_kinds-requires-clause-none : goal.check_kinds-requires-clause-none
check_kinds-requires-clause-none c = λ at h.
    let zeros : c.in_ok-marks.marks.items ≡ replicate c.len.result false = c.in_ok-marks.ensures.items_if_clones_equal (λ y e. e) in
    none_in c.len.result at (subst (λ ms. is_in ms at ≡ true) (c.as_mut_slice.ensures.value ∙ zeros) h)

pub returns-clause-marks : goal.returns-clause-marks
returns-clause-marks c =
    subst (λ ms. MarksRuns (draft_view c.args.draft.now) ms)
    (sym (with_items_is c.in_ok-marks.marks c.check_kinds.new.marks (c.check_kinds.ensures.size ∙ c.as_mut_slice.ensures.len))) c.in_ok-check_kinds.ensures.marks
