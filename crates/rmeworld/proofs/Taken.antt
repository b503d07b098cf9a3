-- A step that the code of a world takes is the definition's.
use Rattle.std.proofs.Common.{◌≡◌, ℕ, ◌<◌, ◌++◌, slice_index_or, slice_set, Some, IfSome, sym, ap, ◌∙◌, subst}
use Rattle.rmeworld.proofs.Common.{Access, Tally, kind_of, word_of, carried_value, tally_after_step, Stepped, Advances, script_state_of, IsWorld, world_event, words_by, cells_by, the_deed, stepped_if}
use Rattle.rmeworld.proofs.Common.{advanced_if, advanced_by, prospect_of, MachineState, outcome, IsLeast, IsAllowed, process_state_of, machine_after_step as machine_state_stepped, next_access, process_state_after, StoresOwn, reading}
use Rattle.rmeworld.proofs.Common.{event_deeds, WorldState, machine_state_at, global_state_of}
use Rattle.rmeworld.specs.declared.outcome.Outcome.{Outcome}
use Rattle.rmeworld.specs.Replayed.{stepped_by}
use Rattle.rmeworld.proofs.Ordered.{allowed, owns}
use Rattle.rmeworld.proofs.Worlds.{found, tally_found, deeds_are, world_step}
use Rattle.rmeworld.proofs.WorldSteps.{IsStep, step_takes}
use Rattle.rmeworld.proofs.WorldTallies.{no_glance, answered_step}

-- p's next access, and its word's value
pub record IsNext (s : WorldState) (p : ℕ) (a : Access) (v : ℕ) : Type 0 where
  pub below : p < s.layout.procs
  pub access : next_access (machine_state_at s.processes p) ≡ Some a
  pub least : IsLeast (machine_state_at s.processes p) a
  pub found : v ≡ reading (global_state_of s) (word_of a)

-- its report, from its effects for the process
abbrev pub reports_by : WorldState → ℕ → Access → ℕ → Outcome → Stepped
reports_by s p a v o =
    record {
      happened = record { kind = kind_of a; word = word_of a; value = carried_value a v; outer = o.progress.outer; done = o.progress.done };
      deed = the_deed (prospect_of s p a o);
      answer = o.answer;
    }

-- The process was fed and its step counted, the word was stored, the deeds were noted, and this is the report.
pub record Fed (s : WorldState) (p : ℕ) (a : Access) (v : ℕ) (o : Outcome) (reports : Stepped) (new : WorldState) : Type 0 where
  pub before : MachineState
  pub after : MachineState
  pub tally : Tally
  pub here : before ≡ slice_index_or s.processes p before
  pub there : tally ≡ slice_index_or s.tallies p tally
  pub exact : after ≡ machine_state_stepped before v
  pub process_state : process_state_of after ≡ process_state_after before (next_access before) v
  pub what : o ≡ outcome before (next_access before) v
  pub layout : new.layout ≡ s.layout
  pub limit : new.limit ≡ s.limit
  pub words : new.words ≡ words_by s.words a
  pub cells : new.cells ≡ cells_by s.cells a
  pub processes : new.processes ≡ slice_set s.processes p after
  pub tallies : new.tallies ≡ slice_set s.tallies p (tally_after_step tally o.progress.blocked)
  pub history : new.history ≡ s.history ++ prospect_of s p a o
  pub tells : reports ≡ reports_by s p a v o

module _ {s : WorldState} {p : ℕ} {a : Access} {v : ℕ} {o : Outcome} {reports : Stepped} {new : WorldState} (world : IsWorld s) (next : IsNext s p a v) (fed : Fed s p a v o reports new) where
  abbrev machine_state : MachineState
  machine_state = machine_state_at s.processes p

  abbrev value : ℕ
  value = reading (global_state_of s) (word_of a)

  here : machine_state ≡ fed.before
  here = found s p fed.before world next.below fed.here

  after : fed.after ≡ machine_state_stepped machine_state value
  after = fed.exact ∙ (λ i. machine_state_stepped (sym here i) (next.found i))

  what : o ≡ outcome machine_state (Some a) value
  what = fed.what ∙ (λ i. outcome (sym here i) (next_access (sym here i)) (next.found i)) ∙ ap (λ x. outcome machine_state x value) next.access

  own : StoresOwn machine_state.index a
  own = subst (λ x. IfSome x (StoresOwn machine_state.index)) next.access (owns machine_state)

  noted : prospect_of s p a o ≡ event_deeds s.layout (global_state_of s) (world_event s p a)
  noted = ap (prospect_of s p a) what ∙ deeds_are s p a machine_state.index world.configured next.below own next.access

  step : IsStep s p a
  step =
      record {
        filled = world.filled;
        configured = world.configured;
        below = next.below;
        next = next.access;
        allowed = subst (λ x. IfSome x (IsAllowed machine_state)) next.access (allowed machine_state);
        own = own;
        goes = ap process_state_of (sym after) ∙ fed.process_state ∙ (λ i. process_state_after (sym here i) (next_access (sym here i)) (next.found i));
      }

  is : new ≡ advanced_by s p a
  is =
      let tallies = fed.tallies ∙ (λ i. slice_set s.tallies p (tally_after_step (sym (tally_found s p fed.tally world next.below fed.there) i) (what i).progress.blocked)) in
      let processes = fed.processes ∙ ap (slice_set s.processes p) after in
      let history = fed.history ∙ ap (λ ds. s.history ++ ds) noted in
      λ i. record { layout = fed.layout i; limit = fed.limit i; words = fed.words i; cells = fed.cells i; processes = processes i; tallies = tallies i; history = history i }

  tells : reports ≡ stepped_by s p a
  tells = fed.tells ∙ (λ i. record {
    happened = record { kind = kind_of a; word = word_of a; value = carried_value a (next.found i); outer = (what i).progress.outer; done = (what i).progress.done };
    deed = the_deed (noted i);
    answer = (what i).answer;
  })

  pub stays : IsWorld new
  stays = subst IsWorld (sym is) (world_step s p a world step)

  pub takes : Advances s p reports new
  takes =
      let configuration = world.configured.configurations p next.below in
      subst (λ x. Advances s p x new) (sym tells) (subst (Advances s p (stepped_by s p a)) (sym is) (record {
        step = step_takes s p a step;
        kind = no_glance machine_state.limit machine_state.index machine_state.lock (script_state_of machine_state.script_state) a next.access;
        least = λ word x some. next.least word x (rw (configuration.0, configuration.1, configuration.2) some);
        reports = ap (stepped_if s p) (sym next.access);
        ok = ap (advanced_if s p) (sym next.access);
        taken = answered_step s p a step world.tallied;
      }))
