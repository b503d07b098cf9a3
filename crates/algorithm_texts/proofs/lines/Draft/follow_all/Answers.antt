use Rattle.std.proofs.Common.{◌+◌, length, sym, ◌∙◌, subst, refl}
use Rattle.std.proofs.lemmas.Bool.{both_ways}
use Rattle.algorithm_texts.specs.Drafts.{draft_view}
use Rattle.algorithm_texts.proofs.RoundMarks.{Followed, followed_on}
use Rattle.algorithm_texts.proofs.lines.Draft.follow_all.Goals as goal
use Rattle.algorithm_texts.proofs.lines.Draft.follow_all.Goals.{then-is_in, else-is_in}

pub loop-place-preserved : goal.loop-place-preserved
loop-place-preserved c =
    let d = draft_view c.args.self.now in
    elim c.if-is_in.branch [
      | then-is_in w ↦
          subst (λ ms. Followed d c.args.call c.args.left.now (length c.unmark_all.new.marks) ms (c.loop-place.place + 1)) (sym w.followed-is)
          (followed_on d c.args.call c.args.left.now (length c.unmark_all.new.marks) c.loop-place.followed w.follow.new.places c.loop-place.place c.loop-place.invariant
          w.follow.ensures.size w.follow.ensures.kept (λ h. w.follow.ensures.marked))
      | else-is_in w ↦
          subst (λ ms. Followed d c.args.call c.args.left.now (length c.unmark_all.new.marks) ms (c.loop-place.place + 1)) (sym w.followed-is)
          (followed_on d c.args.call c.args.left.now (length c.unmark_all.new.marks) c.loop-place.followed c.loop-place.followed c.loop-place.place c.loop-place.invariant
          refl (λ at h. h) (λ h. absurd (both_ways c.is_in.result w.if-is_in.false (c.is_in.ensures ∙ h))))
    ]
