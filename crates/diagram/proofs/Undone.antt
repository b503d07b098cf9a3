-- A session shows the simulation of its schedule, and goes back and on again.
use Rattle.std.proofs.Common.{◌≡◌, ℕ, ◌-◌, ◌<◌, List, [], ◌∷◌, ◌++◌, length, take, Option, Some, None, Result, Ok, Err, refl, sym, ap, ◌∙◌, arith}
use Rattle.std.proofs.lemmas.List.{length-append}
use Rattle.std.proofs.lemmas.Option.{slice_get-get_or}
use Rattle.std.proofs.Math.Seq.{get_or-append_seam, take-append_seam}
use Rattle.std.specs.Prelude.{slice_get}
use Rattle.schedule.specs.declared.lines.fault.LineFault.{LineFault}
use Rattle.schedule.specs.declared.texts.head.Head.{Head}
use Rattle.schedule.specs.Schedules.{Scheduled, head_of}
use Rattle.diagram.proofs.Common.{Line, Step}
use Rattle.diagram.specs.declared.session.request.Request.{Request}
use Rattle.diagram.specs.declared.session.request.Request.TheVariants as requests
use Rattle.diagram.specs.Semantics.{Semantics, lines_on}
use Rattle.diagram.specs.Sessions.{IsOfSchedule, SessionState, after_redo, after_request, after_undo, answered_by, at_schedule, last_line, played, played_by, redone_by, refusal_in, request_in, session_after, without_last_line, taken, undone_by, way_of, without_last}

-- ---- lines

before_last : (lines : List Line) (line : Line) → length (lines ++ line ∷ []) - 1 ≡ length lines
before_last lines line = omega (arith, length-append lines (line ∷ []))

last_at : (lines : List Line) (line : Line) → last_line (lines ++ line ∷ []) ≡ Some line
last_at lines line =
    let all = lines ++ line ∷ [] in
    let within : length lines < length all = omega (arith, length-append lines (line ∷ [])) in
    ap (λ (i : ℕ). slice_get all i) (before_last lines line) ∙ slice_get-get_or all (length lines) line within ∙ ap Some (get_or-append_seam lines line [] line)

without_at : (lines : List Line) (line : Line) → without_last (lines ++ line ∷ []) ≡ lines
without_at lines line = ap (λ (i : ℕ). take i (lines ++ line ∷ [])) (before_last lines line) ∙ take-append_seam lines (line ∷ [])

-- one line after others
lines_last : {S : Type 0} (after : S → Line → S) (s : S) (lines : List Line) (line : Line) → lines_on after s (lines ++ line ∷ []) ≡ after (lines_on after s lines) line
lines_last after s [] line = refl
lines_last after s (x ∷ lines) line = lines_last after (after s x) lines line

-- a schedule begins in the same state whatever was played before
module _ {S : Type 0} (b : Semantics S) (begins_after : (s : S) (line : Line) (head : Head) → b.first (b.after s line) head ≡ b.first s head) (begins_again : (s : S) (before head : Head) → b.first (b.first s before) head ≡ b.first s head) where
  begins_lines : (s : S) (lines : List Line) (head : Head) → b.first (lines_on b.after s lines) head ≡ b.first s head
  begins_lines s [] head = refl
  begins_lines s (line ∷ lines) head = begins_lines (b.after s line) lines head ∙ begins_after s line head

  -- ---- the simulation of the schedule

  is_at : (s : S) (schedule : Scheduled) (undone : List Line) → IsOfSchedule b (at_schedule b s schedule undone)
  is_at s schedule undone =
      let head = head_of schedule in
      ap (λ t. lines_on b.after t schedule.lines) (sym (begins_lines (b.first s head) schedule.lines head ∙ begins_again s head head))

  kept_played : (session : SessionState S) (undone : List Line) (line : Line) (number : Option ℕ) → IsOfSchedule b session → IsOfSchedule b (played_by b session undone line number)
  kept_played session undone line None h =
      let head = head_of session.schedule in
      let lines = session.schedule.lines in
      ap (λ t. b.after t line) h ∙ sym (lines_last b.after (b.first session.simulation head) lines line)
      ∙ ap (λ t. lines_on b.after t (lines ++ line ∷ [])) (sym (begins_after session.simulation line head))
  kept_played session undone line (Some number) h = h

  kept_undone : (session : SessionState S) (line : Option Line) → IsOfSchedule b session → IsOfSchedule b (undone_by b session line)
  kept_undone session None h = h
  kept_undone session (Some line) h = is_at session.simulation (without_last_line session.schedule) (session.undone ++ line ∷ [])

  kept_redone : (session : SessionState S) (line : Option Line) → IsOfSchedule b session → IsOfSchedule b (redone_by b session line)
  kept_redone session None h = h
  kept_redone session (Some line) h = kept_played session (without_last session.undone) line (refusal_in b session line) h

  kept_answered : (session : SessionState S) (p : ℕ) (count : Option ℕ) → IsOfSchedule b session → IsOfSchedule b (answered_by b session p count)
  kept_answered session p None h = h
  kept_answered session p (Some n) h = kept_played session [] (Step p n) (refusal_in b session (Step p n)) h

  kept : (session : SessionState S) (request : Result Request LineFault) → IsOfSchedule b session → IsOfSchedule b (after_request b session request)
  kept session (Ok (requests.Play line)) h = kept_played session [] line (refusal_in b session line) h
  kept session (Ok requests.Undo) h = kept_undone session (last_line session.schedule.lines) h
  kept session (Ok requests.Redo) h = kept_redone session (last_line session.undone) h
  kept session (Ok (requests.ToAnswer p)) h = kept_answered session p (way_of b session p) h
  kept session (Ok requests.Save) h = h
  kept session (Ok requests.Help) h = h
  kept session (Ok requests.Quit) h = h
  kept session (Err fault) h = h

  kept_all : (session : SessionState S) (inputs : List (List ℕ)) → IsOfSchedule b session → IsOfSchedule b (session_after b session inputs)
  kept_all session [] h = h
  kept_all session (line ∷ inputs) h = kept_all (after_request b session (request_in session line)) inputs (kept session (request_in session line) h)

  -- whatever lines a session was given
  pub shows_schedule : (s : S) (schedule : Scheduled) (inputs : List (List ℕ)) → IsOfSchedule b (session_after b (at_schedule b s schedule []) inputs)
  shows_schedule s schedule inputs = kept_all (at_schedule b s schedule []) inputs (is_at s schedule [])

  -- ---- back, and on again

  -- undo after a line that was taken
  undo_taken : (session : SessionState S) (undone : List Line) (line : Line) → IsOfSchedule b session → after_undo b (taken b session undone line) ≡ record session { undone = undone ++ line ∷ [] }
  undo_taken session undone line h =
      let lines = session.schedule.lines in
      let now : SessionState S = taken b session undone line in
      let back : List Line = undone ++ line ∷ [] in
      ap (λ (last : Option Line). undone_by b now last) (last_at lines line)
      ∙ ap (λ (ls : List Line). at_schedule b now.simulation (record session.schedule { lines = ls }) back) (without_at lines line)
      ∙ ap (λ (s : S). record { schedule = session.schedule; undone = back; simulation = lines_on b.after s lines }) (begins_after session.simulation line (head_of session.schedule))
      ∙ ap (λ (s : S). record { schedule = session.schedule; undone = back; simulation = s }) (sym h)

  pub undo_played : (session : SessionState S) (undone : List Line) (line : Line) → IsOfSchedule b session → refusal_in b session line ≡ None
      → after_undo b (played b session undone line) ≡ record session { undone = undone ++ line ∷ [] }
  undo_played session undone line h accepted =
      ap (λ (number : Option ℕ). after_undo b (played_by b session undone line number)) accepted ∙ undo_taken session undone line h

  pub redo_undone : (session : SessionState S) (undone : List Line) (line : Line) → IsOfSchedule b session → refusal_in b session line ≡ None
      → after_redo b (after_undo b (played b session undone line)) ≡ played b session undone line
  redo_undone session undone line h accepted =
      let before : SessionState S = record session { undone = undone ++ line ∷ [] } in
      ap (after_redo b) (undo_played session undone line h accepted)
      ∙ ap (λ (last : Option Line). redone_by b before last) (last_at undone line)
      ∙ ap (λ (number : Option ℕ). played_by b before (without_last (undone ++ line ∷ [])) line number) accepted
      ∙ ap (λ (ls : List Line). played_by b before ls line None) (without_at undone line)
      ∙ sym (ap (λ (number : Option ℕ). played_by b session undone line number) accepted)
