use Rattle.std.proofs.Common.{◌≡◌, ℕ, ◌<◌, ◌≤◌, Bool, true, false, List, ◌&&◌, length, get_or, Some, slice_get, position, refl, sym, ap, ◌∙◌, subst, arith}
use Rattle.std.specs.Prelude.{bytes_eq}
use Rattle.std.proofs.lemmas.Bool.{both_ways}
use Rattle.std.proofs.lemmas.Option.{get_or_from_slice_get, slice_get_read}
use Rattle.algorithm_texts.specs.declared.lines.CallRead.{CallRead}
use Rattle.algorithm_texts.specs.declared.lines.Label.{Label}
use Rattle.algorithm_texts.specs.FinishedDrafts.{is_label_in}
use Rattle.algorithm_texts.specs.TextFaults.{LabelNewAt}
use Rattle.algorithm_texts.proofs.Fits.{label_new, labels_differ, first_of_name}
use Rattle.algorithm_texts.proofs.RunMarks.{below_next}
use Rattle.algorithm_texts.proofs.lines.Draft.check_labels.Goals as goal
use Rattle.algorithm_texts.proofs.lines.Draft.check_labels.Goals.{else-is_in-via-then-is_in+else-not-is_first, else-is_in-via-else-is_in}

pub loop-at-preserved : goal.loop-at-preserved
loop-at-preserved c = λ j b less.
    let labels = c.args.self.now.labels.items in
    let label = c.label-item.result in
    let there : label ≡ get_or labels c.loop-at.at label = c.label-item.is ∙ ap (λ ls. get_or ls c.loop-at.at label) c.deref-label-items.ensures.value in
    below_next (λ i. (a : Label) → slice_get labels i ≡ Some a → is_label_in c.args.call a ≡ true
    → position (λ other. bytes_eq other.name a.name && is_label_in c.args.call other) labels ≡ Some i) 0 c.loop-at.at (λ i l k a. c.loop-at.invariant i a k)
    (λ a e h.
    let same : label ≡ a = there ∙ get_or_from_slice_get labels c.loop-at.at a label e in
    elim c.else-is_in.branch [
      | else-is_in-via-then-is_in+else-not-is_first w ↦
          let first : position (λ other. bytes_eq other.name label.name && is_label_in c.args.call other) labels ≡ Some c.loop-at.at =
          subst (λ ls. position (λ other. bytes_eq other.name label.name && is_label_in c.args.call other) ls ≡ Some c.loop-at.at) w.as_slice.ensures.value
          (subst (λ name. position (λ other. bytes_eq other.name name && is_label_in c.args.call other) w.as_slice.result.now ≡ Some c.loop-at.at) w.as_bytes.ensures.letters
          (w.is_first.ensures.0 w.if-not-is_first.false)) in
          subst (λ x. position (λ other. bytes_eq other.name x.name && is_label_in c.args.call other) labels ≡ Some c.loop-at.at) same first
      | else-is_in-via-else-is_in w ↦ absurd (both_ways c.is_in.result w.if-is_in.false (c.is_in.ensures ∙ ap (is_label_in c.args.call) same ∙ h))
    ])
    j (omega arith) less b

pub returns-clause-ok : goal.returns-clause-ok
returns-clause-ok c =
    labels_differ c.args.self.now.labels.items c.args.call c.loop-at.at
    (subst (λ ls. length ls ≤ c.loop-at.at) c.deref-label-items.ensures.value c.loop-at-test.false) c.loop-at.invariant

unfirst : (labels : List Label) (call : CallRead) (at : ℕ) (label : Label) (first : Bool) → at < length labels → label ≡ get_or labels at label → is_label_in call label ≡ true
    → ((position (λ other. bytes_eq other.name label.name && is_label_in call other) labels ≡ Some at) → first ≡ true) → first ≡ false → LabelNewAt labels call at → ⊥
unfirst labels call at label first within there inside f none new =
    both_ways first none (f (first_of_name labels call at label new (slice_get_read labels (length labels) at label refl within there) inside))

pub returns-then-not-is_first-clause-first : goal.returns-then-not-is_first-clause-first
returns-then-not-is_first-clause-first c =
    let labels = c.args.self.now.labels.items in
    let label = c.label-item.result in
    let there : label ≡ get_or labels c.loop-at.at label = c.label-item.is ∙ ap (λ ls. get_or ls c.loop-at.at label) c.deref-label-items.ensures.value in
    let within : c.loop-at.at < length labels = subst (λ ls. c.loop-at.at < length ls) c.deref-label-items.ensures.value c.loop-at-test.true in
    record {
      at = c.loop-at.at;
      label = label;
      there = slice_get_read labels (length labels) c.loop-at.at label refl within there;
      first = record {
        fails = unfirst labels c.args.call c.loop-at.at label c.is_first.result within there (sym c.is_in.ensures ∙ c.if-is_in.true)
            (λ first. c.is_first.ensures.1
            (subst (λ ls. position (λ other. bytes_eq other.name c.as_bytes.result.now && is_label_in c.args.call other) ls ≡ Some c.loop-at.at) (sym c.as_slice.ensures.value)
            (subst (λ name. position (λ other. bytes_eq other.name name && is_label_in c.args.call other) labels ≡ Some c.loop-at.at) (sym c.as_bytes.ensures.letters) first)))
            c.if-not-is_first.true;
        before = label_new labels c.args.call c.loop-at.at (λ j b less. c.loop-at.invariant j b less);
      };
      named = c.at.ensures;
    }

pub returns-then-not-is_first-clause-err : goal.returns-then-not-is_first-clause-err
unfolding returns-then-not-is_first-clause-first
returns-then-not-is_first-clause-err c = λ differ.
    (returns-then-not-is_first-clause-first c).first.fails (λ i a b. differ i c.loop-at.at a b)
