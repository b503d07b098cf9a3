use Rattle.std.proofs.Common.{◌+◌, sym, ◌∙◌, subst}
use Rattle.algorithm_texts.specs.Drafts.{draft_view}
use Rattle.algorithm_texts.proofs.RunMarks.{PastMarked, past_first, past_on, past_skip, past_all}
use Rattle.algorithm_texts.proofs.lines.Draft.mark_past.Goals as goal
use Rattle.algorithm_texts.proofs.lines.Draft.mark_past.Goals.{in-Some, in_default}

pub loop-place-init : goal.loop-place-init
loop-place-init c = past_first (draft_view c.args.self.now) c.args.call c.args.name c.args.reached.now c.args.marks.now

pub loop-place-preserved : goal.loop-place-preserved
loop-place-preserved c = elim c.match-past_marked.branch [
  | in-Some w ↦
      subst (λ ms. PastMarked (draft_view c.args.self.now) c.args.call c.args.name c.args.reached.now c.args.marks.now ms (c.loop-place.place + 1)) (sym (w.marks-is ∙ w.mark.ensures))
      (past_on (draft_view c.args.self.now) c.args.call c.args.name c.args.reached.now c.args.marks.now c.loop-place.marks c.loop-place.place w.in-Some.way c.loop-place.invariant
      (sym c.past_marked.ensures ∙ w.in-Some.is))
  | in_default w ↦
      subst (λ ms. PastMarked (draft_view c.args.self.now) c.args.call c.args.name c.args.reached.now c.args.marks.now ms (c.loop-place.place + 1)) (sym w.marks-is)
      (past_skip (draft_view c.args.self.now) c.args.call c.args.name c.args.reached.now c.args.marks.now c.loop-place.marks c.loop-place.place c.loop-place.invariant
      (sym c.past_marked.ensures ∙ w.in_default.is))
]

pub returns-clause-marked : goal.returns-clause-marked
returns-clause-marked c =
    past_all (draft_view c.args.self.now) c.args.call c.args.name c.args.reached.now c.args.marks.now c.loop-place.marks c.loop-place.place c.loop-place.invariant c.loop-place-test.false

pub returns-clause-comes : goal.returns-clause-comes
returns-clause-comes c = c.loop-place.invariant.comes
