use Rattle.std.proofs.Common.{◌≡◌, None, sym, ◌∙◌}
use Rattle.algorithm_texts.specs.Drafts.{draft_view}
use Rattle.algorithm_texts.specs.Marks.{free_way}
use Rattle.algorithm_texts.proofs.RunMarks.{below_next, none_everywhere}
use Rattle.algorithm_texts.proofs.lines.Draft.next_free.Goals as goal

pub loop-place-preserved : goal.loop-place-preserved
loop-place-preserved c =
    below_next (λ at. free_way (draft_view c.args.self.now) c.args.call c.args.runs c.args.marks.now at ≡ None) c.args.call.«from» c.loop-place.place c.loop-place.invariant
    (sym c.free_way.ensures ∙ c.in_default.is)

pub returns : goal.returns
returns c = none_everywhere (draft_view c.args.self.now) c.args.call c.args.runs c.args.marks.now c.loop-place.place c.loop-place.invariant c.loop-place-test.false
