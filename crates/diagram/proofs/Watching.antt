-- A simulation, line after line.
use Rattle.std.proofs.Common.{◌≡◌, ℕ, true, List, ◌∷◌, ◌++◌, Some, Result, Err, refl, sym, ap, ◌∙◌}
use Rattle.rmecore.specs.declared.own.Own.{Own}
use Rattle.rmeworld.specs.Replayed.{world_behaviour}
use Rattle.rmeworld.specs.WorldState.{WorldState}
use Rattle.schedule.specs.declared.lines.fault.LineFault.{LineFault}
use Rattle.schedule.specs.Numbers.{number_of}
use Rattle.schedule.specs.Words.{words_of}
use Rattle.diagram.proofs.Common.{Line, codes, events_of, line_on}
use Rattle.diagram.specs.declared.session.request.Request.{Request}
use Rattle.diagram.specs.LastSteps.{LastStepsState, last_steps_after}
use Rattle.diagram.specs.Requests.{request_at}
use Rattle.diagram.specs.LockSimulations.{LockSimulationState, lock_with}
use Rattle.diagram.specs.Semantics.{Semantics, lines_on}
use Rattle.diagram.specs.Sessions.{SessionState, fault_text, next_number, request_in, text_of_request}
use Rattle.diagram.specs.Standings.{holder, is_inside}

-- one line was played, and the others are left
pub lines_next : {S : Type 0} (after : S → Line → S) (s t : S) (line : Line) (lines rest : List Line) → lines ≡ line ∷ rest → t ≡ after s line → lines_on after t rest ≡ lines_on after s lines
lines_next after s t line lines rest is left = rw (is, left) refl

pub lock_next : (lock : LockSimulationState) (world : WorldState) (last : LastStepsState) (line : Line) (lines rest : List Line) → lines ≡ line ∷ rest
    → world ≡ (line_on world_behaviour lock.world line).left → last ≡ last_steps_after lock.last_steps (events_of world_behaviour lock.world line)
    → lines_on lock_with (record { world = world; last_steps = last }) rest ≡ lines_on lock_with lock lines
lock_next lock world last line lines rest is left after = rw (is, left, after) refl

-- the first process is inside
pub holder_here : (p : ℕ) (own : Own) (owns : List Own) → is_inside own ≡ true → Some p ≡ holder p (own ∷ owns)
holder_here p own owns is = rw is refl

-- a line that can't be read is answered by its fault
pub fault_reported : {S : Type 0} (b : Semantics S) (session : SessionState S) (line : List ℕ) (fault : LineFault) (old new : List ℕ) (w n k : ℕ) → request_at w (words_of line) ≡ Err fault
    → w ≡ session.schedule.width → n ≡ next_number session → k ≡ number_of fault → new ≡ old ++ fault_text n (codes "fault ") k → new ≡ old ++ text_of_request b session (request_in session line)
fault_reported b session line fault old new w n k asked same next number is =
    let e : request_in session line ≡ Err fault = ap (λ (x : ℕ). request_at x (words_of line)) (sym same) ∙ asked in
    is ∙ ap (λ (x : ℕ). old ++ fault_text x (codes "fault ") k) next ∙ ap (λ (x : ℕ). old ++ fault_text (next_number session) (codes "fault ") x) number
    ∙ ap (λ (r : Result Request LineFault). old ++ text_of_request b session r) (sym e)
