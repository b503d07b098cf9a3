-- Texts that are not empty. Out of memory before such a text leaves some of it to write.
use Rattle.std.proofs.Common.{◌≡◌, ℕ, ◌+◌, ◌-◌, Bool, List, [], ◌∷◌, ◌++◌, map, codes, Option, get_or, refl}
use Rattle.diagram.proofs.Common.{append_none, none_after, DiagramRow, LifelinePhase, Rest, End, DiagramEvent, row_of, row_spelled, rows_spelled, top_in, end_in, LifelineView}
use Rattle.redomail.specs.declared.layout.Layout.{Layout}
use Rattle.diagram.specs.declared.diagram_layout.DiagramLayout.{DiagramLayout}
use Rattle.diagram.specs.declared.diagram_layout.Style.{Style}
use Rattle.diagram.specs.declared.diagram_layout.Style.TheVariants.{Text, Svg}
use Rattle.diagram.specs.Columns.{end_line}
use Rattle.diagram.specs.Drawings.{row_spelled_in, spelled_from}
use Rattle.diagram.specs.declared.remote_marks.RemoteMarks.{RemoteMarks}
use Rattle.diagram.specs.Followed.{access_of, place_line, row_text, reports_by}
use Rattle.diagram.specs.MarkedRuns.{MarkedStepsState, last_marks, marked_row_text, marked_rows_text, marked_run_text, marked_steps_with, steps_at_start}
use Rattle.diagram.specs.Pictures.{around, bottom_of, class_of, far_from, group_at, group_end, head_picture, at_most_greatest, keys, last_picture, left_of, lifeline_tops, line_looks, mailbox_if, measured, paper, right_of, row_picture, text_looks, top_picture, viewed, x_of}
use Rattle.diagram.specs.RemoteMarks.{marks_text}
use Rattle.diagram.specs.ShownRows.{ShownRowState}

pub cons_some : {A : Type 0} (x : A) (xs : List A) → x ∷ xs ≡ [] → ⊥
cons_some x xs e = absurd cc

pub front_none : {A : Type 0} (xs ys : List A) → xs ++ ys ≡ [] → xs ≡ []
front_none [] ys e = refl
front_none (x ∷ xs) ys e = absurd cc

-- ---- a picture

group_end_some : group_end ≡ [] → ⊥
group_end_some e = cons_some 10 [] (none_after (codes "</g>") (10 ∷ []) e)

last_some : (y : ℕ) (end : End) → last_picture y end ≡ [] → ⊥
last_some y end e =
    cons_some 10 []
    (none_after (codes "</text></svg>") (10 ∷ [])
    (none_after (around (codes "<text x='20' y='") y (codes "'>") ++ end_line end) (codes "</text></svg>" ++ 10 ∷ []) e))

picture_some : (procs y below : ℕ) (marked : Bool) (row : ShownRowState) → row_picture procs y below marked row ≡ [] → ⊥
picture_some procs y below marked row e =
    group_end_some (none_after (group_at (x_of row.p) y ++ left_of row below ++ right_of row (far_from procs row.p) marked) group_end e)

looks_some : text_looks ≡ [] → ⊥
unfolding text_looks
looks_some e = absurd cc

head_some : (wide high : ℕ) → head_picture wide high ≡ [] → ⊥
unfolding head_picture
head_some wide high e =
    let front = measured wide high ++ viewed wide high in
    looks_some
    (none_after front text_looks
    (append_none (front ++ text_looks) line_looks
    (append_none (front ++ text_looks ++ line_looks) paper
    (append_none (front ++ text_looks ++ line_looks ++ paper) keys e))))

top_picture_some : (mailbox : Bool) (procs bottom : ℕ) (phases : List LifelinePhase) → top_picture mailbox procs bottom phases ≡ [] → ⊥
top_picture_some mailbox procs bottom phases e =
    let head = head_picture (x_of procs + 300) (at_most_greatest (bottom + 40)) in
    let box = mailbox_if mailbox (x_of procs) (bottom - 80) in
    head_some (x_of procs + 300) (at_most_greatest (bottom + 40)) (append_none head box (append_none (head ++ box) (lifeline_tops (bottom - 80) 0 phases) e))

-- ---- a drawing

pub end_some : (style : Style) (d : DiagramLayout) (end : End) → end_in style d end ≡ [] → ⊥
end_some Text d end e = cons_some _ _ (none_after _ _ e)
end_some Svg d end e = last_some (at_most_greatest (bottom_of d.rows + 24)) end e

row_in_some : (style : Style) (d : DiagramLayout) (state : LifelineView) (row : ShownRowState) → row_spelled_in style d state row ≡ [] → ⊥
row_in_some Text d state row e = cons_some _ _ (none_after _ _ e)
row_in_some Svg d state row e = picture_some _ _ _ _ row e

pub row_some : (d : DiagramLayout) (state : LifelineView) (row : ShownRowState) → row_spelled d state row ≡ [] → ⊥
row_some d state row e = row_in_some d.style d state row e

-- the part above the rows
pub top_some : (style : Style) (mailbox : Bool) (d : DiagramLayout) (phases : List LifelinePhase) → top_in style mailbox d phases ≡ [] → ⊥
top_some Text mailbox d phases e = cons_some _ _ (none_after _ _ e)
top_some Svg mailbox d phases e = top_picture_some mailbox d.layout.procs (bottom_of d.rows) phases e

pub drawing_some : (mailbox : Bool) (d : DiagramLayout) (state : LifelineView) (rows : List ShownRowState) (end : End) → spelled_from mailbox d state rows end ≡ [] → ⊥
unfolding spelled_from
drawing_some mailbox d state rows end e =
    top_some d.style mailbox d state.phases (append_none (top_in d.style mailbox d state.phases) (rows_spelled d state rows ++ end_in d.style d end) e)

-- ---- a run step by step

pub reported_some : (l : Layout) (phases : List LifelinePhase) (marks : Option RemoteMarks) (row : DiagramRow) → row_text l phases marks row ≡ [] → ⊥
unfolding row_text place_line
reported_some l phases marks row e =
    cons_some 10 []
    (none_after (around (codes "at ") row.p (codes " ") ++ class_of (get_or phases row.p Rest) ++ access_of l row.p row.act ++ marks_text marks) (10 ∷ [])
    (append_none (place_line l phases marks row) (reports_by row.p row.act) e))

rows_some : (l : Layout) (steps : MarkedStepsState) (events : List DiagramEvent) → (events ≡ [] → ⊥) → marked_rows_text l steps (map row_of events) ≡ [] → ⊥
rows_some l steps [] some e = some refl
rows_some l steps (x ∷ xs) some e =
    let next = marked_steps_with steps (row_of x) in
    reported_some l next.lifelines.phases (last_marks next) (row_of x)
    (append_none (marked_row_text l next (row_of x)) (marked_rows_text l next (map row_of xs)) e)

pub followed_some : (l : Layout) (first : LifelinePhase) (events : List DiagramEvent) → (events ≡ [] → ⊥) → marked_run_text l first events ≡ [] → ⊥
followed_some l first events some e = rows_some l (steps_at_start l first events) events some e

pub followed_none : (l : Layout) (first : LifelinePhase) (events : List DiagramEvent) → events ≡ [] → marked_run_text l first events ≡ []
followed_none l first events none = rw none refl
