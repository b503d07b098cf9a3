use Rattle.std.proofs.Common.{◌≡◌, ◌+◌, ◌||◌, sym, ap, ◌∙◌, subst}
use Rattle.algorithm_texts.specs.Drafts.{draft_view}
use Rattle.algorithm_texts.proofs.RoundMarks.{TakenOut, taken_first, taken_on, taken_all, taken_count}
use Rattle.algorithm_texts.proofs.lines.Draft.take_out.Goals as goal
use Rattle.algorithm_texts.proofs.lines.Draft.take_out.Goals.{then-take_loose, else-take_loose}

pub loop-place-init : goal.loop-place-init
loop-place-init c = taken_first (draft_view c.args.self.now) c.args.call c.args.left.now

pub loop-place-preserved : goal.loop-place-preserved
loop-place-preserved c =
    let d = draft_view c.args.self.now in
    let same : c.if-take_loose.fewer ≡ (c.take_loose.result || c.loop-place.fewer) = elim c.if-take_loose.branch [
      | then-take_loose w ↦ w.fewer-is ∙ w.if-take_loose.true ∙ sym (ap (λ b. b || c.loop-place.fewer) w.if-take_loose.true)
      | else-take_loose w ↦ w.fewer-is ∙ sym (ap (λ b. b || c.loop-place.fewer) w.if-take_loose.false)
    ] in
    subst (λ b. TakenOut d c.args.call c.args.left.now c.take_loose.new.left (c.loop-place.place + 1) b) (sym same)
    (subst (λ ms. TakenOut d c.args.call c.args.left.now ms (c.loop-place.place + 1) (c.take_loose.result || c.loop-place.fewer)) (sym c.take_loose.ensures.left)
    (taken_on d c.args.call c.args.left.now c.loop-place.left c.follow_all.new.followed c.loop-place.place c.loop-place.fewer c.take_loose.result c.loop-place.invariant
    c.follow_all.ensures.marked (c.follow_all.ensures.size ∙ c.requires) c.take_loose.ensures.took))

pub returns-clause-progress : goal.returns-clause-progress
returns-clause-progress c =
    taken_all (draft_view c.args.self.now) c.args.call c.args.left.now c.loop-place.left c.loop-place.place c.loop-place.fewer c.loop-place.invariant c.loop-place-test.false

pub returns-clause-count : goal.returns-clause-count
returns-clause-count c =
    taken_count (draft_view c.args.self.now) c.args.call c.args.left.now c.loop-place.left c.loop-place.place c.loop-place.fewer c.loop-place.invariant
