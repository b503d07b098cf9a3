-- The rows that hear a run are those of its events.
use Rattle.std.proofs.Common.{◌≡◌, ℕ, List, [], ◌∷◌, Option, Some, None, Result, Ok, Err, refl, sym, ap, ◌∙◌}
use Rattle.rmecore.specs.Refused.{number_of}
use Rattle.rmecore.specs.declared.refusal.Refusal.TheVariants as refusals
use Rattle.schedule.proofs.Playing.{unnumbered}
use Rattle.schedule.specs.declared.player.play_stop.PlayStop.{PlayStop}
use Rattle.schedule.specs.declared.player.play_stop.PlayStop.TheVariants as play_stops
use Rattle.schedule.specs.declared.texts.fault.OutOfMemory.{OutOfMemory}
use Rattle.schedule.specs.Effects.{HearsAll, BreaksOffAt}
use Rattle.schedule.specs.Fragments.{itself, run_on as run_by}
use Rattle.schedule.specs.Plays.{PlaysOn as RunPlays}
use Rattle.diagram.proofs.Common.{Behaviour, Refusal, Line, Part, run_on, transitions_of, DiagramRow, DiagramStop, DiagramEvent, events_on, CollectsRun}
use Rattle.diagram.proofs.NotEmpty.{cons_some}
use Rattle.diagram.proofs.RunEvents.{run_left, run_refused}
use Rattle.diagram.specs.declared.row_collector.Rows.{Rows}
use Rattle.diagram.specs.Repetitions.{with_events}
use Rattle.diagram.specs.RowCollections.{stop_by, stop_of}
use Rattle.diagram.specs.RowEffects.{row_effects}

rows_heard : (first now : Rows) (events : List DiagramEvent) → HearsAll row_effects.hears first events now → now.rows.items ≡ with_events first.rows.items events
rows_heard first now [] same = ap (λ (rows : Rows). rows.rows.items) same
rows_heard first now (event ∷ events) all = rows_heard all.0 now events all.2 ∙ ap (λ (rows : List DiagramRow). with_events rows events) all.1

-- what breaks off at an event has one
pub some_event : {L : Type 0} (hears : L → DiagramEvent → L → Type 0) (at : L → DiagramEvent → Type 0) (first : L) (events : List DiagramEvent) → BreaksOffAt hears at first events → events ≡ [] → ⊥
some_event hears at first [] breaks none = absurd breaks
some_event hears at first (event ∷ events) breaks none = cons_some event events none

-- the answer of a run
abbrev pub stops_of : Result (Unit {0}) (ℕ × PlayStop Refusal OutOfMemory) → Result (Unit {0}) (ℕ × DiagramStop)
stops_of (Ok x) = Ok x
stops_of (Err stop) = Err (stop.0, stop_of stop.1)

refused_at : {S : Type 0} (before now : List DiagramRow) (events : List DiagramEvent) (run : Part S (ℕ × Refusal)) (s : S) (line : ℕ) (refusal : Refusal) (number : Option ℕ) → number_of refusal ≡ number
    → (refusal ≡ refusals.OutOfMemory → ⊥) → now ≡ with_events before events → run.refused ≡ Some (line, refusal) → s ≡ run.left
    → CollectsRun {S = S} {A = Unit {0}} before now events run s (Err (line, stop_by number))
refused_at before now events run s line refusal None is some rows refused stands = absurd (some (unnumbered refusal is))
refused_at before now events run s line refusal (Some number) is some rows refused stands = (rows, (refusal, refused, is), stands)

module _ {S : Type 0} (b : Behaviour S) where
  pub collected : (first now : Rows) (s t : S) (lines : List Line) (r : Result (Unit {0}) (ℕ × PlayStop Refusal OutOfMemory))
      → RunPlays (transitions_of b) row_effects first now (run_by (transitions_of b) itself 2 s lines) t r
      → CollectsRun first.rows.items now.rows.items (events_on b s lines) (run_on b 2 s lines) t (stops_of r)
  unfolding events_on
  collected first now s t lines (Ok x) is = (rows_heard first now _ is.hears, run_refused b 2 s lines ∙ is.refused_is, is.stands ∙ sym (run_left b 2 s lines))
  collected first now s t lines (Err (line, play_stops.Refused refusal)) is =
      refused_at first.rows.items now.rows.items (events_on b s lines) (run_on b 2 s lines) t line refusal (number_of refusal) refl is.1 (rows_heard first now _ is.0.hears) (run_refused b 2 s lines ∙ is.0.refused_is) (is.0.stands ∙ sym (run_left b 2 s lines))
  collected first now s t lines (Err (line, play_stops.OutOfMemory)) is = some_event row_effects.hears _ first _ is
  collected first now s t lines (Err (line, play_stops.Stopped stop)) is = some_event row_effects.hears _ first _ is
