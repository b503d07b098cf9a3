use Rattle.std.proofs.Common.{◌≡◌, ◌+◌, true, false, length, sym, ap, ◌∙◌, subst, inl, inr, arith}
use Rattle.std.proofs.lemmas.List.{with_items_is}
use Rattle.std.specs.Vec.{with_items}
use Rattle.algorithm_texts.specs.declared.flow.RunKind.TheVariants.{Forward}
use Rattle.algorithm_texts.specs.Drafts.{draft_view}
use Rattle.algorithm_texts.specs.FinishedDrafts.{is_in}
use Rattle.algorithm_texts.specs.Runs.{leads_to, ways_from}
use Rattle.algorithm_texts.proofs.RunMarks.{comes_marked, comes_other, length-marks_from, none_in}
use Rattle.algorithm_texts.proofs.RoundMarks.{back_led, led_back}
use Rattle.algorithm_texts.proofs.lines.Draft.comes_back.Goals as goal

pub returns-clause-yes : goal.returns-clause-yes
returns-clause-yes c = λ back.
    let d = draft_view c.args.self.now in
    let led = c.follow.new.places in
    let one = with_items_is c.in_ok-marks.marks led (c.follow.ensures.size ∙ c.as_mut_slice.ensures.len) in
    let before = c.as_mut_slice-2.ensures.value ∙ one in
    let now = c.as_slice.ensures.value ∙ with_items_is (with_items c.in_ok-marks.marks led) c.spread.new.marks (c.spread.ensures.size ∙ c.as_mut_slice-2.ensures.len) in
    led_back d c.args.call c.args.place
    (comes_other d c.args.call Forward (λ first. is_in c.as_mut_slice-2.result.now first ≡ true) (λ first. leads_to (ways_from d c.args.call Forward c.args.place) first ≡ true)
    (λ first g. elim (c.follow.ensures.comes first (subst (λ ms. is_in ms first ≡ true) before g)) [
      | inl old ↦ absurd (none_in (length d.lines + 1) first (subst (λ ms. is_in ms first ≡ true) (c.as_mut_slice.ensures.value ∙ c.in_ok-marks.ensures) old))
      | inr leads ↦ leads
    ]) c.args.place
    (c.spread.ensures.comes c.args.place (subst (λ ms. is_in ms c.args.place ≡ true) now (sym c.is_in.ensures ∙ back))))

pub returns-clause-no : goal.returns-clause-no
returns-clause-no c = λ back.
    let d = draft_view c.args.self.now in
    let led = c.follow.new.places in
    let marks = c.spread.new.marks in
    let one = with_items_is c.in_ok-marks.marks led (c.follow.ensures.size ∙ c.as_mut_slice.ensures.len) in
    let before = c.as_mut_slice-2.ensures.value ∙ one in
    let now = c.as_slice.ensures.value ∙ with_items_is (with_items c.in_ok-marks.marks led) marks (c.spread.ensures.size ∙ c.as_mut_slice-2.ensures.len) in
    let long = c.follow.ensures.size ∙ ap length (c.as_mut_slice.ensures.value ∙ c.in_ok-marks.ensures) ∙ length-marks_from (length d.lines + 1) c.args.call.«from» false in
    let size : length marks ≡ length d.lines + 1 = c.spread.ensures.size ∙ ap length before ∙ long in
    let b = back_led d c.args.call c.args.place back in
    let line = b.1 in
    c.is_in.ensures
    ∙ subst (λ ms. is_in ms c.args.place ≡ true) (sym now)
    (comes_marked d c.args.call Forward (λ first. leads_to (ways_from d c.args.call Forward c.args.place) first ≡ true) marks size c.spread.ensures.closed
    (λ first within leads. c.spread.ensures.kept first (subst (λ ms. is_in ms first ≡ true) (sym before) (c.follow.ensures.marked first leads (omega (arith, within, long)))))
    c.args.place (omega (arith, line)) b.0)
