-- The steps of lines, one line after another, are those of their run.
use Rattle.std.proofs.Common.{◌≡◌, ℕ, ◌+◌, List, [], ◌∷◌, ◌++◌, map, Option, Some, None, refl, sym, ap, ◌∙◌}
use Rattle.redomail.specs.declared.layout.Layout.{Layout}
use Rattle.rmeworld.specs.Replayed.{world_behaviour}
use Rattle.diagram.proofs.Common.{DiagramRow, DiagramEvent, LifelinePhase, Line, Refusal, events_of, events_on, run_text, line_on, phases_after, row_of, rows_text, run_on}
use Rattle.diagram.proofs.RunEvents.{line_ends, line_goes_on, lines_none}
use Rattle.diagram.proofs.Steps.{rows_both, reported_both}
use Rattle.diagram.specs.LastSteps.{LastStepsState, last_steps_after, last_steps_after_rows, last_steps_with}
use Rattle.diagram.specs.DiagramLayouts.{layout_of}
use Rattle.diagram.specs.LockSimulations.{LockSimulationState, lock_semantics, lock_with, steps_reported}
use Rattle.diagram.specs.Semantics.{lines_on}
use Rattle.diagram.specs.Sessions.{lines_text}
use Rattle.schedule.specs.declared.texts.head.Head.{Head}

-- what rows show of the phases
phases_seen : (last : LastStepsState) (rows : List DiagramRow) → (last_steps_after_rows last rows).phases ≡ phases_after last.phases rows
phases_seen last [] = refl
phases_seen last (row ∷ rows) = phases_seen (last_steps_with last row) rows

-- events, and then others
followed_both : (l : Layout) (last : LastStepsState) (es fs : List DiagramEvent)
    → run_text l last.phases (es ++ fs) ≡ run_text l last.phases es ++ run_text l (last_steps_after last es).phases fs
followed_both l last es fs =
    ap (λ (rows : List DiagramRow). rows_text l last.phases rows) (rows_both es fs) ∙ reported_both l last.phases (map row_of es) (map row_of fs)
    ∙ ap (λ (phases : List LifelinePhase). run_text l last.phases es ++ run_text l phases fs) (sym (phases_seen last (map row_of es)))

-- no line is refused where none of the run is
first_accepted : (k : ℕ) (w : LockSimulationState) (line : Line) (lines : List Line) (o : Option Refusal) → (line_on world_behaviour w.world line).refused ≡ o
    → (run_on world_behaviour k w.world (line ∷ lines)).refused ≡ None → o ≡ None
first_accepted k w line lines None is accepted = refl
first_accepted k w line lines (Some e) is accepted =
    absurd (let no : None ≡ Some (k, e) = sym accepted ∙ (line_ends world_behaviour k w.world line (line ∷ lines) lines e refl is).1 in cc)

pub reported_of_run : (head : Head) (k : ℕ) (w : LockSimulationState) (lines : List Line) → (run_on world_behaviour k w.world lines).refused ≡ None
    → lines_text lock_semantics head w lines ≡ run_text (layout_of head) w.last_steps.phases (events_on world_behaviour w.world lines)
reported_of_run head k w [] accepted = sym (ap (λ (es : List DiagramEvent). run_text (layout_of head) w.last_steps.phases es) (lines_none world_behaviour k w.world).0)
reported_of_run head k w (line ∷ lines) accepted =
    let l : Layout = layout_of head in
    let next = lock_with w line in
    let first = first_accepted k w line lines (line_on world_behaviour w.world line).refused refl accepted in
    let more = line_goes_on world_behaviour k w.world next.world line (line ∷ lines) lines refl first refl in
    ap (λ (t : List ℕ). steps_reported l w line ++ t) (reported_of_run head (k + 1) next lines (sym more.1 ∙ accepted))
    ∙ sym (followed_both l w.last_steps (events_of world_behaviour w.world line) (events_on world_behaviour next.world lines))
    ∙ ap (λ (es : List DiagramEvent). run_text l w.last_steps.phases es) (sym more.0)

pub world_of_run : (k : ℕ) (w : LockSimulationState) (lines : List Line) → (run_on world_behaviour k w.world lines).refused ≡ None
    → (lines_on lock_with w lines).world ≡ (run_on world_behaviour k w.world lines).left
world_of_run k w [] accepted = sym (lines_none world_behaviour k w.world).2
world_of_run k w (line ∷ lines) accepted =
    let next = lock_with w line in
    let first = first_accepted k w line lines (line_on world_behaviour w.world line).refused refl accepted in
    let more = line_goes_on world_behaviour k w.world next.world line (line ∷ lines) lines refl first refl in
    world_of_run (k + 1) next lines (sym more.1 ∙ accepted) ∙ sym more.2
