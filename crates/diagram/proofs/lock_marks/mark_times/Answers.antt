use Rattle.std.proofs.Common.{◌≡◌, ◌∷◌, ◌++◌, ℕ, List, [], map, subst, arith}
use Rattle.std.proofs.lemmas.List.{replicate_more}
use Rattle.diagram.specs.LockMarks.{MarksRows, memory_of_row}
use Rattle.diagram.proofs.Common.{DiagramRow, replicate}
use Rattle.diagram.proofs.LockMarks.{both_marked, none_marked, one_marked}
use Rattle.diagram.proofs.lock_marks.mark_times.Goals as goal

pub loop-init : goal.loop-init
loop-init c = λ run copies. none_marked c.args.layout.now run c.args.marks.now.items c.args.copies.now copies

pub loop-preserved : goal.loop-preserved
loop-preserved c = λ run copies.
    let l = c.args.layout.now in
    let row = c.args.row.now in
    let n = c.loop.counter in
    let before = c.loop.invariant run copies in
    let seen = run ++ map memory_of_row (replicate n row) in
    let one = one_marked l seen row c.loop.marks.items c.push.new.self.items c.mark_act.new.copies c.mark_act.result (c.mark_act.ensures.marked seen before.copies_are) c.in_ok-push.ensures.items
    (c.mark_act.ensures.copies seen before.copies_are) in
    subst (λ (rows : List DiagramRow). MarksRows l run rows c.args.marks.now.items c.push.new.self.items c.mark_act.new.copies) (replicate_more n row)
    (both_marked l run (replicate n row) (row ∷ []) c.args.marks.now.items c.loop.marks.items c.push.new.self.items c.loop.copies c.mark_act.new.copies before one)

pub returns : goal.returns
returns c = λ run copies.
    let last : c.loop.counter ≡ c.args.times = omega (arith, c.loop-test.false, c.loop.auto.counter-end) in
    subst (λ (n : ℕ). MarksRows c.args.layout.now run (replicate n c.args.row.now) c.args.marks.now.items c.loop.marks.items c.loop.copies) last (c.loop.invariant run copies)
