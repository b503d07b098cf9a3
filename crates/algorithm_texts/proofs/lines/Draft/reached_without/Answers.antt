use Rattle.std.proofs.Common.{◌≡◌, ◌⊎◌, ℕ, ◌+◌, true, length, leb, Some, refl, sym, ap, ◌∙◌, subst}
use Rattle.std.proofs.lemmas.List.{with_items_is}
use Rattle.std.specs.Vec.{with_items}
use Rattle.algorithm_texts.specs.declared.flow.RunKind.TheVariants.{Without}
use Rattle.algorithm_texts.specs.Drafts.{draft_view}
use Rattle.algorithm_texts.specs.FinishedDrafts.{is_in}
use Rattle.algorithm_texts.specs.Marks.{KeepsMarks, past_marked}
use Rattle.algorithm_texts.specs.Runs.{HasNot}
use Rattle.algorithm_texts.proofs.RunMarks.{comes_marked, comes_other, start_marked, start_not, length-marks_from}
use Rattle.algorithm_texts.proofs.lines.Draft.reached_without.Goals as goal

pub returns-clause-comes : goal.returns-clause-comes
returns-clause-comes c = λ at h.
    let d = draft_view c.args.self.now in
    let items = c.in_ok-marks.marks.items in
    let past = c.mark_past.new.marks in
    let marks = c.spread.new.marks in
    let one = with_items_is c.in_ok-marks.marks past (c.mark_past.ensures.size ∙ c.as_mut_slice.ensures.len) in
    let before = c.as_mut_slice-2.ensures.value ∙ one in
    let now = with_items_is (with_items c.in_ok-marks.marks past) marks (c.spread.ensures.size ∙ c.as_mut_slice-2.ensures.len) in
    let comes : (way : ℕ) → is_in past way ≡ true → (is_in items way ≡ true) ⊎ ((x : ℕ) × (past_marked d c.args.call c.args.name c.args.reached.now x ≡ Some way)) =
    subst (λ ms. (way : ℕ) → is_in past way ≡ true → (is_in ms way ≡ true) ⊎ ((x : ℕ) × (past_marked d c.args.call c.args.name c.args.reached.now x ≡ Some way)))
    c.as_mut_slice.ensures.value c.mark_past.ensures.comes in
    comes_other d c.args.call (Without c.args.name) (λ first. is_in c.as_mut_slice-2.result.now first ≡ true) (HasNot d c.args.call c.args.name)
    (λ first g. start_not d c.args.call c.args.name c.args.reached.now items past (length d.lines + 1) c.in_ok-marks.ensures c.requires comes first
    (subst (λ ms. is_in ms first ≡ true) before g)) at
    (c.spread.ensures.comes at (subst (λ ms. is_in ms at ≡ true) now h))

pub returns-clause-all : goal.returns-clause-all
returns-clause-all c = λ at within h.
    let d = draft_view c.args.self.now in
    let items = c.in_ok-marks.marks.items in
    let past = c.mark_past.new.marks in
    let marks = c.spread.new.marks in
    let one = with_items_is c.in_ok-marks.marks past (c.mark_past.ensures.size ∙ c.as_mut_slice.ensures.len) in
    let before = c.as_mut_slice-2.ensures.value ∙ one in
    let now = with_items_is (with_items c.in_ok-marks.marks past) marks (c.spread.ensures.size ∙ c.as_mut_slice-2.ensures.len) in
    let long = c.mark_past.ensures.size ∙ ap length (c.as_mut_slice.ensures.value ∙ c.in_ok-marks.ensures) ∙ length-marks_from (length d.lines + 1) c.args.call.«from» (leb d.lasting c.args.name) in
    let kept : KeepsMarks items past = subst (λ ms. KeepsMarks ms past) c.as_mut_slice.ensures.value c.mark_past.ensures.kept in
    let keeps : KeepsMarks past marks = subst (λ ms. KeepsMarks ms marks) before c.spread.ensures.kept in
    subst (λ ms. is_in ms at ≡ true) (sym now)
    (comes_marked d c.args.call (Without c.args.name) (HasNot d c.args.call c.args.name) marks (c.spread.ensures.size ∙ ap length before ∙ long) c.spread.ensures.closed
    (start_marked d c.args.call c.args.name c.args.reached.now items past marks (length d.lines + 1) refl c.in_ok-marks.ensures kept c.mark_past.ensures.marked long keeps c.requires.all)
    at within h)
