-- A run as lines of JSON: lines whose end is taken away, lines one after another, and how a run ends.
use Rattle.std.proofs.Common.{◌≡◌, ℕ, List, [], ◌∷◌, ◌++◌, map, Option, Some, None, Result, Ok, Err, refl, sym, ap, subst, ◌∙◌, append_assoc}
use Rattle.diagram.proofs.Common.{append-nil, flat_map-cons, append_none, none_after, Refusal, State, Image, ReplayFault, Verdict, Tape, Writes, Begins, BreaksOff, Part, deeds_of, verdict_on}
use Rattle.diagram.proofs.Common.{begins_further, begins_wider, breaks_further, breaks_wider, breaks_nothing, DiagramRow, End, Judged, Refused, LifelinePhase, WritesText, EndsAs, IsJudged, DiagramEvent, row_of, events_in, events_shown, layout_of}
use Rattle.redomail.specs.declared.layout.Layout.{Layout}
use Rattle.rmeworld.specs.ImageText.{image_line}
use Rattle.schedule.specs.declared.replays.verdict.Verdict.TheVariants.{Fine, Against}
use Rattle.schedule.specs.declared.texts.head.Head.{Head}
use Rattle.schedule.specs.declared.replays.replay_fault.ReplayFault.TheVariants as faults
use Rattle.diagram.proofs.NotEmpty.{cons_some}
use Rattle.diagram.proofs.Steps.{rows_both}
use Rattle.diagram.specs.StepLines.{EndingLines, FollowsAsLines, PlayedState, StepObject, all_lines, against_text, fault_text, first_lines, format_line, last_lines, object_line, object_of, object_lines, objects_of, objects_on, step_place, played_with, played_after, step_lines, verdict_object}

-- a text and one byte more, after what was there: without that byte it is what was there and the text
pub unended : (old mid new text : List ℕ) (last : ℕ) → mid ≡ old ++ (text ++ last ∷ []) → ((front : List ℕ) (x : ℕ) → mid ≡ front ++ x ∷ [] → new ≡ front) → new ≡ old ++ text
unended old mid new text last is cut = cut (old ++ text) last (is ∙ sym (append_assoc old text (last ∷ [])))

-- ---- lines that are not empty

pub line_some : (l : Layout) (object : StepObject) → object_line l object ≡ [] → ⊥
unfolding object_line step_place
line_some l object e = cons_some _ _ e

pub first_some : (image : Image) → first_lines image ≡ [] → ⊥
unfolding first_lines format_line
first_some image e = cons_some _ _ e

verdict_some : (verdict : Verdict) → verdict_object verdict ≡ [] → ⊥
unfolding against_text fault_text
verdict_some Fine e = cons_some _ _ e
verdict_some (Against at fault) e = cons_some _ _ e

pub last_some : (image : Image) (verdict : Verdict) → last_lines image verdict ≡ [] → ⊥
unfolding last_lines
last_some image verdict e = verdict_some verdict (none_after (image_line image) (verdict_object verdict) e)

pub steps_some : (head : Head) (first : LifelinePhase) (image : Image) (events : List DiagramEvent) → step_lines head first image events ≡ [] → ⊥
steps_some head first image events e = first_some image (append_none (first_lines image) (object_lines (layout_of head) (objects_on head first image events)) e)

-- ---- lines one after another

pub objects_both : (l : Layout) (played : PlayedState) (rows more : List DiagramRow)
    → object_lines l (objects_of played (rows ++ more)) ≡ object_lines l (objects_of played rows) ++ object_lines l (objects_of (played_after played rows) more)
objects_both l played [] more = refl
objects_both l played (row ∷ rows) more =
    ap (λ (t : List ℕ). object_line l (object_of (played_with played row) row) ++ t) (objects_both l (played_with played row) rows more)
    ∙ sym
    (append_assoc (object_line l (object_of (played_with played row) row)) (object_lines l (objects_of (played_with played row) rows))
    (object_lines l (objects_of (played_after (played_with played row) rows) more)))

-- what a row shows, and what the rows after it show
pub objects_more : (l : Layout) (played : PlayedState) (row : DiagramRow) (rows : List DiagramRow)
    → object_lines l (objects_of played (map row_of (events_in (row ∷ rows))))
    ≡ object_lines l (objects_of played (map row_of (events_shown row.p row.act)))
    ++ object_lines l (objects_of (played_after played (map row_of (events_shown row.p row.act))) (map row_of (events_in rows)))
objects_more l played row rows =
    ap (λ (es : List DiagramEvent). object_lines l (objects_of played (map row_of es))) (flat_map-cons (λ row. events_shown row.p row.act) row rows)
    ∙ ap (λ (rs : List DiagramRow). object_lines l (objects_of played rs)) (rows_both (events_shown row.p row.act) (events_in rows))
    ∙ objects_both l played (map row_of (events_shown row.p row.act)) (map row_of (events_in rows))

-- ---- the end

-- the last two lines are not written as a whole
pub not_ended : (t u : Tape) (image : Image) (verdict : Verdict) (fault : ReplayFault) → WritesText {A = Unit {0}} t u (last_lines image verdict) (Err fault)
    → EndingLines t u image (Judged verdict) (Err fault)
not_ended t u image verdict faults.Write h = h
not_ended t u image verdict faults.OutOfMemory h = h
not_ended t u image verdict _ h = absurd h

module _ {S : Type 0} (t u : Tape) (start : State) (image_of : S → Image) (run : Part S (ℕ × Refusal)) (steps : List ℕ) where
  begins_all : (o : Option (ℕ × Refusal)) → Begins t.taken u.taken steps → Begins t.taken u.taken (all_lines start image_of run o steps)
  begins_all None h = begins_wider t.taken u.taken steps (last_lines (image_of run.left) (verdict_on start (deeds_of run.reports))) h
  begins_all (Some refusal) h = h

  breaks_all : (o : Option (ℕ × Refusal)) → BreaksOff t.taken u.taken steps → BreaksOff t.taken u.taken (all_lines start image_of run o steps)
  breaks_all None h = breaks_wider t.taken u.taken steps (last_lines (image_of run.left) (verdict_on start (deeds_of run.reports))) h
  breaks_all (Some refusal) h = h

  -- the steps are not written as a whole
  pub lines_fail : (fault : ReplayFault) → WritesText {A = Unit {0}} t u steps (Err fault) → FollowsAsLines t u start image_of run steps (Err fault)
  lines_fail faults.Write h = (begins_all run.refused h.0, h.1)
  lines_fail faults.OutOfMemory h = (breaks_all run.refused h.0, h.1)
  lines_fail _ h = absurd h

-- out of memory before any of the lines is written
pub no_lines : {S : Type 0} (t : Tape) (start : State) (image_of : S → Image) (run : Part S (ℕ × Refusal)) (steps : List ℕ) → (steps ≡ [] → ⊥)
    → FollowsAsLines t t start image_of run steps (Err faults.OutOfMemory)
no_lines t start image_of run steps some = (breaks_all t t start image_of run steps run.refused (breaks_nothing t.taken steps some), refl)

-- the steps are written, and then the end
pub lines_end : {S : Type 0} (t u v : Tape) (start : State) (image_of : S → Image) (run : Part S (ℕ × Refusal)) (s : S) (steps : List ℕ) (end : End) (r : Result Verdict ReplayFault)
    → Writes t u steps → EndingLines u v (image_of s) end r → EndsAs start run end → (IsJudged end → s ≡ run.left) → FollowsAsLines t v start image_of run steps r
lines_end {S = S} t u v start image_of run s steps (Judged verdict) (Ok said) written h ends left =
    let last : last_lines (image_of s) verdict ≡ last_lines (image_of run.left) (verdict_on start (deeds_of run.reports)) =
    ap (λ (x : S). last_lines (image_of x) verdict) (left tt) ∙ ap (λ (x : Verdict). last_lines (image_of run.left) x) ends.1 in (
      ends.0,
      h.0 ∙ ends.1,
      record {
        taken = h.1.taken ∙ ap (λ (xs : List ℕ). u.taken ++ xs) last ∙ ap (λ (xs : List ℕ). xs ++ last_lines (image_of run.left) (verdict_on start (deeds_of run.reports))) written.taken
            ∙ append_assoc t.taken steps (last_lines (image_of run.left) (verdict_on start (deeds_of run.reports)));
        fine = h.1.fine ∙ written.fine;
      },
    )
lines_end {S = S} t u v start image_of run s steps (Judged verdict) (Err faults.Write) written h ends left =
    let last : last_lines (image_of s) verdict ≡ last_lines (image_of run.left) (verdict_on start (deeds_of run.reports)) =
    ap (λ (x : S). last_lines (image_of x) verdict) (left tt) ∙ ap (λ (x : Verdict). last_lines (image_of run.left) x) ends.1 in
    let begins = begins_further t.taken u.taken v.taken steps (last_lines (image_of s) verdict) written.taken h.0 in (
      subst (λ o. Begins t.taken v.taken (all_lines start image_of run o steps)) (sym ends.0) (subst (λ (xs : List ℕ). Begins t.taken v.taken (steps ++ xs)) last begins),
      rw (← written.fine) h.1,
    )
lines_end {S = S} t u v start image_of run s steps (Judged verdict) (Err faults.OutOfMemory) written h ends left =
    let last : last_lines (image_of s) verdict ≡ last_lines (image_of run.left) (verdict_on start (deeds_of run.reports)) =
    ap (λ (x : S). last_lines (image_of x) verdict) (left tt) ∙ ap (λ (x : Verdict). last_lines (image_of run.left) x) ends.1 in
    let breaks = breaks_further t.taken u.taken v.taken steps (last_lines (image_of s) verdict) written.taken h.0 in (
      subst (λ o. BreaksOff t.taken v.taken (all_lines start image_of run o steps)) (sym ends.0) (subst (λ (xs : List ℕ). BreaksOff t.taken v.taken (steps ++ xs)) last breaks),
      h.1 ∙ written.fine,
    )
lines_end t u v start image_of run s steps (Refused line number verdict) (Err (faults.Refused at purpose)) written h ends left =
    (record { taken = h.2.taken ∙ append-nil u.taken ∙ written.taken; fine = h.2.fine ∙ written.fine }, rw (h.0, h.1) ends.0)
lines_end t u v start image_of run s steps (Refused line number verdict) (Err faults.Write) written h ends left = (
  subst (λ o. Begins t.taken v.taken (all_lines start image_of run o steps)) (sym ends.0.1)
      ([], record { front = steps; written = h.0 ∙ written.taken; left = sym (append-nil steps) }),
  rw (← written.fine) h.1,
)
lines_end t u v start image_of run s steps _ _ written h ends left = absurd h
