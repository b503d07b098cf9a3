use Rattle.std.proofs.Common.{◌≡◌, ℕ, ◌+◌, ◌∷◌, ◌++◌, [], List, map, take, ap, subst, sym, ◌∙◌, arith}
use Rattle.algorithms.specs.remote_references.CopyRows.{AreCopiesAfter}
use Rattle.diagram.specs.LockMarks.{marks_of_rows, MarksRows, memory_of_row}
use Rattle.diagram.proofs.Common.{DiagramRow, events_in, events_shown, row_of, take_all, take_more}
use Rattle.diagram.proofs.LockMarks.{both_marked, shown_more}
use Rattle.diagram.proofs.lock_marks.mark_rows.Goals as goal

pub loop-row-init : goal.loop-row-init
loop-row-init c =
    record {
      marks = c.new-marks.ensures.items;
      copies_are = subst (λ (n : ℕ). AreCopiesAfter n [] c.in_ok-copies.copies) c.lock_declarations.ensures c.in_ok-copies.ensures;
    }

pub loop-row-preserved : goal.loop-row-preserved
loop-row-preserved c =
    let i = c.loop-row.row-index in
    let rows = c.args.rows.now in
    let item = c.row-item.result in
    let l = c.args.layout.now in
    let more : take (i + 1) rows ≡ take i rows ++ item ∷ [] = take_more rows i item c.loop-row-test.true ∙ ap (λ x. take i rows ++ x ∷ []) (sym c.row-item.is) in
    let before = map row_of (events_in (take i rows)) in
    let shown = map row_of (events_shown item.p item.act) in
    let first = c.loop-row.invariant in
    let marks = c.mark_shown.new.marks.items in
    let after = c.mark_shown.new.copies in
    subst (λ (rs : List DiagramRow). MarksRows l [] rs [] marks after) (shown_more rows i item more)
    (both_marked l [] before shown [] c.loop-row.marks.items marks c.loop-row.copies after first (c.in_ok-mark_shown.ensures (map memory_of_row before) first.copies_are))

pub returns : goal.returns
returns c =
    let rows = c.args.rows.now in
    c.loop-row.invariant.marks
    ∙ ap (λ (rs : List DiagramRow). marks_of_rows c.args.layout.now [] (map row_of (events_in rs))) (take_all c.loop-row.row-index rows (omega (arith, c.loop-row-test.false)))
