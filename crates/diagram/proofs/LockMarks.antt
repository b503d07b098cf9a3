-- The marks of rows, one after another.
use Rattle.std.proofs.Common.{◌≡◌, ℕ, ◌+◌, List, [], ◌∷◌, ◌++◌, map, take, Option, refl, sym, ap, subst, ◌∙◌, append_assoc, append-nil}
use Rattle.std.proofs.lemmas.List.{map-append}
use Rattle.redomail.specs.declared.layout.Layout.{Layout}
use Rattle.algorithms.specs.declared.remote_references.memory_event.MemoryEvent.{MemoryEvent}
use Rattle.algorithms.specs.remote_references.CopyRows.{CopyRows, AreCopiesAfter}
use Rattle.diagram.specs.declared.remote_marks.RemoteMarks.{RemoteMarks}
use Rattle.passages.specs.LockMemory.{lock_declarations}
use Rattle.diagram.specs.LockMarks.{marks_of_act, marks_of_rows, MarksRows, memory_of_row}
use Rattle.diagram.proofs.Common.{DiagramEvent, DiagramRow, events_in, events_shown, flat_map-append, flat_map-cons, row_of}
use Rattle.diagram.proofs.Steps.{rows_both}

marks_both : (l : Layout) (run : List MemoryEvent) (rows more : List DiagramRow)
    → marks_of_rows l run (rows ++ more) ≡ marks_of_rows l run rows ++ marks_of_rows l (run ++ map memory_of_row rows) more
marks_both l run [] more = ap (λ (seen : List MemoryEvent). marks_of_rows l seen more) (sym (append-nil run))
marks_both l run (row ∷ rows) more =
    let next = run ++ memory_of_row row ∷ [] in
    ap (λ (marks : List (Option RemoteMarks)). marks_of_act l run row.p row.act ∷ marks)
    (marks_both l next rows more
    ∙ ap (λ (seen : List MemoryEvent). marks_of_rows l next rows ++ marks_of_rows l seen more) (append_assoc run (memory_of_row row ∷ []) (map memory_of_row rows)))

-- rows, and then others
pub both_marked : (l : Layout) (run : List MemoryEvent) (rows more : List DiagramRow) (before mid now : List (Option RemoteMarks)) (copies after : CopyRows)
    → MarksRows l run rows before mid copies → MarksRows l (run ++ map memory_of_row rows) more mid now after → MarksRows l run (rows ++ more) before now after
both_marked l run rows more before mid now copies after first second =
    let seen = run ++ map memory_of_row rows in
    record {
      marks = second.marks
          ∙ ap (λ (marks : List (Option RemoteMarks)). marks ++ marks_of_rows l seen more) first.marks
          ∙ append_assoc before (marks_of_rows l run rows) (marks_of_rows l seen more)
          ∙ ap (λ (marks : List (Option RemoteMarks)). before ++ marks) (sym (marks_both l run rows more));
      copies_are = subst (λ (events : List MemoryEvent). AreCopiesAfter (lock_declarations l) events after)
          (append_assoc run (map memory_of_row rows) (map memory_of_row more)
          ∙ ap (λ (events : List MemoryEvent). run ++ events) (sym (map-append memory_of_row rows more))) second.copies_are;
    }

-- one row
pub one_marked : (l : Layout) (run : List MemoryEvent) (row : DiagramRow) (before now : List (Option RemoteMarks)) (after : CopyRows) (marks : Option RemoteMarks)
    → marks ≡ marks_of_act l run row.p row.act → now ≡ before ++ marks ∷ [] → AreCopiesAfter (lock_declarations l) (run ++ memory_of_row row ∷ []) after
    → MarksRows l run (row ∷ []) before now after
one_marked l run row before now after marks is put copies = record { marks = put ∙ ap (λ (m : Option RemoteMarks). before ++ m ∷ []) is; copies_are = copies }

-- no row
pub none_marked : (l : Layout) (run : List MemoryEvent) (marks : List (Option RemoteMarks)) (copies : CopyRows)
    → AreCopiesAfter (lock_declarations l) run copies → MarksRows l run [] marks marks copies
none_marked l run marks copies are =
    record {
      marks = sym (append-nil marks);
      copies_are = subst (λ (events : List MemoryEvent). AreCopiesAfter (lock_declarations l) events copies) (sym (append-nil run)) are;
    }

-- what the first rows show, and what the next one shows
pub shown_more : (rows : List DiagramRow) (i : ℕ) (item : DiagramRow) → take (i + 1) rows ≡ take i rows ++ item ∷ []
    → map row_of (events_in (take i rows)) ++ map row_of (events_shown item.p item.act) ≡ map row_of (events_in (take (i + 1) rows))
shown_more rows i item more =
    sym
    (ap (λ (rs : List DiagramRow). map row_of (events_in rs)) more
    ∙ ap (λ (es : List DiagramEvent). map row_of es) (flat_map-append (λ row. events_shown row.p row.act) (take i rows) (item ∷ []))
    ∙ rows_both (events_in (take i rows)) (events_in (item ∷ []))
    ∙ ap (λ (es : List DiagramEvent). map row_of (events_in (take i rows)) ++ map row_of es)
    (flat_map-cons (λ row. events_shown row.p row.act) item [] ∙ append-nil (events_shown item.p item.act)))
