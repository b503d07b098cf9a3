use Rattle.std.proofs.Common.{map, ◌∙◌, arith}
use Rattle.std.proofs.lemmas.List.{length-map}
use Rattle.algorithm_texts.specs.Drafts.{line_of}
use Rattle.algorithm_texts.proofs.Endings.{front_none, front_more, front_all}
use Rattle.algorithm_texts.proofs.marks.end_unmarked.Goals as goal

pub loop-place-init : goal.loop-place-init
loop-place-init c = front_none c.args.marks.now (map line_of c.args.lines.now.items)

pub loop-place-preserved : goal.loop-place-preserved
loop-place-preserved c = c.end_at.ensures ∙ front_more c.loop-place.place c.args.marks.now (map line_of c.args.lines.now.items) (map line_of c.loop-place.lines.items) c.loop-place.invariant

pub returns : goal.returns
returns c =
    c.loop-place.invariant
    ∙ front_all c.loop-place.place c.args.marks.now (map line_of c.args.lines.now.items)
    (omega (arith, length-map c.args.lines.now.items line_of, c.loop-place-test.false, c.len-place-end.ensures))
