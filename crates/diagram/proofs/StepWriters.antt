-- The steps of a line are written, one after another.
use Rattle.std.proofs.Common.{◌≡◌, ℕ, List, [], ◌∷◌, ◌++◌, Option, Some, None, Result, Ok, Err, IfSome, inl, inr, refl, sym, ap, ◌∙◌}
use Rattle.rmecore.specs.Refused.{number_of}
use Rattle.redomail.specs.declared.layout.Layout.{Layout}
use Rattle.schedule.specs.declared.player.play_stop.PlayStop.{PlayStop}
use Rattle.schedule.specs.declared.player.play_stop.PlayStop.TheVariants.{Refused, OutOfMemory, Stopped}
use Rattle.schedule.specs.declared.texts.fault.OutOfMemory.{OutOfMemory as NoMemory}
use Rattle.schedule.specs.Effects.{HearsAll, BreaksOffAt}
use Rattle.schedule.specs.Fragments.{itself, line_on as line_by}
use Rattle.schedule.specs.Plays.{Plays}
use Rattle.schedule.specs.Transitions.{IsLoud}
use Rattle.diagram.proofs.Common.{append-nil, Behaviour, Refusal, Line, transitions_of, DiagramEvent, events_of, run_text}
use Rattle.diagram.proofs.RowCollections.{some_event}
use Rattle.diagram.proofs.RunEvents.{line_refused, same_left, same_refused}
use Rattle.diagram.proofs.Seen.{seen_event}
use Rattle.diagram.specs.declared.session.line_play.StepWriter.{StepWriter}
use Rattle.diagram.specs.LastSteps.{LastStepsState, last_steps_after, number_refused, IsNumberOf}
use Rattle.diagram.specs.StepWriters.{KeepsPlaces, WritesEvent, WritesLine, step_effects}

no_change : (writer : StepWriter) → KeepsPlaces writer writer
no_change writer = record { layout = refl; last_steps = refl; out = refl }

same_as : (a b c : StepWriter) → KeepsPlaces a b → KeepsPlaces b c → KeepsPlaces a c
same_as a b c one more = record { layout = more.layout ∙ one.layout; last_steps = more.last_steps ∙ one.last_steps; out = more.out ∙ one.out }

-- these events are written
record Written (first now : StepWriter) (events : List DiagramEvent) : Type 0 where
  same : KeepsPlaces first now
  text : now.out.now.items ≡ first.out.now.items ++ run_text first.layout first.last_steps.now.phases events
  last_steps : now.last_steps.now ≡ last_steps_after first.last_steps.now events

all_written : (first now : StepWriter) (events : List DiagramEvent) → HearsAll WritesEvent first events now → Written first now events
all_written first now [] same = rw same (record { same = no_change first; text = sym (append-nil first.out.now.items); last_steps = refl })
all_written first now (event ∷ events) all =
    let next = all.0 in
    let one = all.1 in
    let more = all_written next now events all.2 in
    record {
      same = same_as first next now one.same more.same;
      text = more.text
          ∙ ap (λ (l : Layout). next.out.now.items ++ run_text l next.last_steps.now.phases events) one.same.layout
          ∙ ap (λ (last : LastStepsState). next.out.now.items ++ run_text first.layout last.phases events) one.last_steps
          ∙ seen_event first.layout first.last_steps.now event events first.out.now.items next.out.now.items one.text;
      last_steps = more.last_steps ∙ ap (λ (last : LastStepsState). last_steps_after last events) one.last_steps;
    }

-- some events were written, and then this ends it
same_in : (at : StepWriter → DiagramEvent → Type 0) (now : StepWriter) → ((next : StepWriter) (event : DiagramEvent) → at next event → KeepsPlaces next now)
    → (first : StepWriter) (events : List DiagramEvent) → BreaksOffAt WritesEvent at first events → KeepsPlaces first now
same_in at now last first [] breaks = absurd breaks
same_in at now last first (event ∷ events) (inl here) = last first event here
same_in at now last first (event ∷ events) (inr later) = same_as first later.0 now later.1.same (same_in at now last later.0 events later.2)

module _ {S : Type 0} (b : Behaviour S) where
  -- all of a line was played
  pub line_written : {A : Type 0} (first now : StepWriter) (s t : S) (line : Line) (x : Unit {0})
      → Plays (transitions_of b) step_effects first now (line_by (transitions_of b) itself s line) t (Ok x) → WritesLine {S = S} {A = A} b first now s t line (Ok None)
  unfolding events_of
  line_written first now s t line x is =
      let all = all_written first now _ is.hears in
      record {
        same = all.same;
        refused = ap number_refused (sym (same_refused b s line ∙ is.refused_is));
        text = all.text;
        last_steps = all.last_steps;
        left_is = is.stands ∙ sym (same_left b s line);
        unchanged = tt;
        memory = tt;
      }

  -- the line is refused
  refused_written : {A : Type 0} (first now : StepWriter) (s t : S) (line : Line) (e : Refusal) (number : Option ℕ)
      → Plays {A = Unit {0}} (transitions_of b) step_effects first now (line_by (transitions_of b) itself s line) t (Err (Refused e)) → number ≡ number_of e
      → WritesLine {S = S} {A = A} b first now s t line (Ok number)
  unfolding events_of
  refused_written first now s t line e number is same =
      let all = all_written first now _ is.0.hears in
      let none = line_refused b s line e is.0.refused_is in
      let silent = none.0 in
      record {
        same = all.same;
        refused = same ∙ ap number_refused (sym (same_refused b s line ∙ is.0.refused_is));
        text = all.text;
        last_steps = all.last_steps;
        left_is = is.0.stands ∙ sym (same_left b s line);
        unchanged = unchanged_of number (
          all.text ∙ ap (λ (events : List DiagramEvent). first.out.now.items ++ run_text first.layout first.last_steps.now.phases events) silent ∙ append-nil first.out.now.items,
          all.last_steps ∙ ap (λ (events : List DiagramEvent). last_steps_after first.last_steps.now events) silent,
          is.0.stands ∙ none.1,
        );
        memory = tt;
      }
    where
      unchanged_of : {P : Type 0} (o : Option ℕ) → P → IfSome o (λ k. P)
      unchanged_of None h = tt
      unchanged_of (Some k) h = h

  -- or it is not played to its end
  pub stop_written : {A : Type 0} (first now : StepWriter) (s t : S) (line : Line) (stop : PlayStop Refusal NoMemory) (r : Result (Option ℕ) A)
      → Plays {A = Unit {0}} (transitions_of b) step_effects first now (line_by (transitions_of b) itself s line) t (Err stop) → IsNumberOf stop r → WritesLine b first now s t line r
  unfolding events_of
  stop_written first now s t line (Refused e) (Ok number) is same = refused_written first now s t line e number is same
  stop_written first now s t line (Refused e) (Err x) is same = absurd same
  stop_written first now s t line OutOfMemory (Ok number) is same = absurd same
  stop_written first now s t line OutOfMemory (Err x) is same =
      record {
        same = same_in (λ next event. (now ≡ next) × IsLoud (transitions_of b) event) now (λ next event at. rw at.0 (no_change next)) first _ is;
        refused = tt;
        text = tt;
        last_steps = tt;
        left_is = tt;
        unchanged = tt;
        memory = some_event WritesEvent _ first _ is;
      }
  stop_written first now s t line (Stopped stop) (Ok number) is same = absurd same
  stop_written first now s t line (Stopped stop) (Err x) is same =
      record {
        same = same_in (λ next event. KeepsPlaces next now) now (λ next event at. at) first _ is;
        refused = tt;
        text = tt;
        last_steps = tt;
        left_is = tt;
        unchanged = tt;
        memory = some_event WritesEvent _ first _ is;
      }
