use Rattle.std.proofs.Common.{◌≡◌, ◌≢◌, List, Result, ◌∙◌, inl, inr, subst}
use Rattle.schedule.specs.Schedules.{spelling}
use Rattle.schedule.specs.Tapes.{Tape}
use Rattle.explorer.specs.Paths.{IsNumberOfStates}
use Rattle.explorer.specs.Stuck.{LeadsToStuck, IsShortestToStuck, IsNeverStuck}
use Rattle.crashlab.specs.declared.variants.variant.Variant.TheVariants.{Right}
use Rattle.crashlab.specs.declared.space.moves.Move.{Move}
use Rattle.crashlab.specs.space.SearchStateWords.{search_state_words}
use Rattle.crashlab.specs.space.Spaces.{first_search_state, rules}
use Rattle.lock_explorer.specs.FoundPaths.{IsFoundIn, IsShortestPath, NoneIsFound}
use Rattle.cli.specs.declared.arguments.args.ExploreArgs.{ExploreArgs}
use Rattle.lock_commands.specs.Explores.{StuckEnds, calls_of, crash_counts, layout_of, schedule_of}
use Rattle.command_parts.specs.declared.ending.Ending.{Ending}
use Rattle.command_parts.specs.declared.fault.CommandFault.{CommandFault}
use Rattle.command_parts.specs.Endings.{Prints}
use Rattle.lock_commands.proofs.stuck.tell_stuck.Goals as goal

module _ (args : ExploreArgs) (before now : Tape) (path moves_path : List Move) (r : Result Ending CommandFault) (same : moves_path ≡ path) (prints : Prints 1 (spelling (schedule_of args moves_path)) before now r) where
  path_prints : Prints 1 (spelling (schedule_of args path)) before now r
  path_prints = subst (λ p. Prints 1 (spelling (schedule_of args p)) before now r) same prints

  ends_wrong :
      args.variant ≢ Right → IsFoundIn args.variant (layout_of args) args.limit (crash_counts args) (calls_of args) path → IsShortestPath args.variant (layout_of args) args.limit (crash_counts args) (calls_of args) path
      → StuckEnds args before now r
  ends_wrong wrong found least = inl (record { wrong = wrong; path = path; found = found; least = least; prints = path_prints })

  ends_stuck :
      NoneIsFound args.variant (layout_of args) args.limit (crash_counts args) (calls_of args) → LeadsToStuck (rules search_state_words) (first_search_state args.variant (layout_of args) args.limit (crash_counts args) (calls_of args)) path
      → IsShortestToStuck (rules search_state_words) (first_search_state args.variant (layout_of args) args.limit (crash_counts args) (calls_of args)) path → StuckEnds args before now r
  ends_stuck none stuck least = inr (inl (record { none = none; path = path; stuck = stuck; least = least; prints = path_prints }))

pub returns-in-Ok-Fault-clause-ends : goal.returns-in-Ok-Fault-clause-ends
returns-in-Ok-Fault-clause-ends g c =
    let o : ExploreArgs = c.args.args.now in
    let calls = c.deref.ensures.value ∙ c.in_ok-calls.ensures.listed in
    let found = rw c.in-Ok-Fault.field-0-is at (rw c.in-Ok-Fault.is at c.stuck_schedule-found.ensures.found) in
    let least = rw c.in-Ok-Fault.field-0-is at (rw c.in-Ok-Fault.is at c.stuck_schedule-found.ensures.shortest) in
    ends_wrong o _ _ c.in-Ok-Fault.path.items _ c.tell_path.result c.deref-in-Ok-Fault.ensures.value c.tell_path.ensures.prints
    (λ right. rw c.in-Ok-Fault.field-0-is at (rw c.in-Ok-Fault.is at (c.stuck_schedule-found.ensures.right right)))
    (subst (λ calls. IsFoundIn o.variant (layout_of o) o.limit (crash_counts o) calls c.in-Ok-Fault.path.items) calls (subst (λ counts. IsFoundIn o.variant (layout_of o) o.limit counts c.deref.result.now c.in-Ok-Fault.path.items) c.counts_of.ensures (subst (λ layout. IsFoundIn o.variant layout o.limit c.counts_of.result c.deref.result.now c.in-Ok-Fault.path.items) c.in_ok-layout.ensures.layout found)))
    (subst (λ calls. IsShortestPath o.variant (layout_of o) o.limit (crash_counts o) calls c.in-Ok-Fault.path.items) calls (subst (λ counts. IsShortestPath o.variant (layout_of o) o.limit counts c.deref.result.now c.in-Ok-Fault.path.items) c.counts_of.ensures (subst (λ layout. IsShortestPath o.variant layout o.limit c.counts_of.result c.deref.result.now c.in-Ok-Fault.path.items) c.in_ok-layout.ensures.layout least)))

pub returns-in-Ok-Stuck-clause-ends : goal.returns-in-Ok-Stuck-clause-ends
returns-in-Ok-Stuck-clause-ends g c =
    let o : ExploreArgs = c.args.args.now in
    let calls = c.deref.ensures.value ∙ c.in_ok-calls.ensures.listed in
    let none = rw c.in-Ok-Stuck.field-0-is at (rw c.in-Ok-Stuck.is at c.stuck_schedule-found.ensures.clean) in
    let stuck = rw c.in-Ok-Stuck.field-0-is at (rw c.in-Ok-Stuck.is at c.stuck_schedule-found.ensures.stuck) in
    let least = rw c.in-Ok-Stuck.field-0-is at (rw c.in-Ok-Stuck.is at c.stuck_schedule-found.ensures.shortest_stuck) in
    ends_stuck o _ _ c.in-Ok-Stuck.path.items _ c.tell_path-in-Ok-Stuck.result c.deref-in-Ok-Stuck.ensures.value c.tell_path-in-Ok-Stuck.ensures.prints
    (subst (λ calls. NoneIsFound o.variant (layout_of o) o.limit (crash_counts o) calls) calls (subst (λ counts. NoneIsFound o.variant (layout_of o) o.limit counts c.deref.result.now) c.counts_of.ensures (subst (λ layout. NoneIsFound o.variant layout o.limit c.counts_of.result c.deref.result.now) c.in_ok-layout.ensures.layout none)))
    (subst (λ calls. LeadsToStuck (rules search_state_words) (first_search_state o.variant (layout_of o) o.limit (crash_counts o) calls) c.in-Ok-Stuck.path.items) calls (subst (λ counts. LeadsToStuck (rules search_state_words) (first_search_state o.variant (layout_of o) o.limit counts c.deref.result.now) c.in-Ok-Stuck.path.items) c.counts_of.ensures (subst (λ layout. LeadsToStuck (rules search_state_words) (first_search_state o.variant layout o.limit c.counts_of.result c.deref.result.now) c.in-Ok-Stuck.path.items) c.in_ok-layout.ensures.layout stuck)))
    (subst (λ calls. IsShortestToStuck (rules search_state_words) (first_search_state o.variant (layout_of o) o.limit (crash_counts o) calls) c.in-Ok-Stuck.path.items) calls (subst (λ counts. IsShortestToStuck (rules search_state_words) (first_search_state o.variant (layout_of o) o.limit counts c.deref.result.now) c.in-Ok-Stuck.path.items) c.counts_of.ensures (subst (λ layout. IsShortestToStuck (rules search_state_words) (first_search_state o.variant layout o.limit c.counts_of.result c.deref.result.now) c.in-Ok-Stuck.path.items) c.in_ok-layout.ensures.layout least)))

pub returns-in-Ok-NeverStuck-clause-ends : goal.returns-in-Ok-NeverStuck-clause-ends
returns-in-Ok-NeverStuck-clause-ends g c =
    let o : ExploreArgs = c.args.args.now in
    let calls = c.deref.ensures.value ∙ c.in_ok-calls.ensures.listed in
    let none = rw c.in-Ok-NeverStuck.field-0-is at (rw c.in-Ok-NeverStuck.is at c.stuck_schedule-found.ensures.clean) in
    let never = rw c.in-Ok-NeverStuck.field-0-is at (rw c.in-Ok-NeverStuck.is at c.stuck_schedule-found.ensures.never) in
    let number = rw c.in-Ok-NeverStuck.field-0-is at (rw c.in-Ok-NeverStuck.is at c.stuck_schedule-found.ensures.states) in
    inr (inr (inl (record {
      none = subst (λ calls. NoneIsFound o.variant (layout_of o) o.limit (crash_counts o) calls) calls (subst (λ counts. NoneIsFound o.variant (layout_of o) o.limit counts c.deref.result.now) c.counts_of.ensures (subst (λ layout. NoneIsFound o.variant layout o.limit c.counts_of.result c.deref.result.now) c.in_ok-layout.ensures.layout none));
      never = subst (λ calls. IsNeverStuck (rules search_state_words) (first_search_state o.variant (layout_of o) o.limit (crash_counts o) calls)) calls (subst (λ counts. IsNeverStuck (rules search_state_words) (first_search_state o.variant (layout_of o) o.limit counts c.deref.result.now)) c.counts_of.ensures (subst (λ layout. IsNeverStuck (rules search_state_words) (first_search_state o.variant layout o.limit c.counts_of.result c.deref.result.now)) c.in_ok-layout.ensures.layout never));
      states = c.in-Ok-NeverStuck.states;
      number = subst (λ calls. IsNumberOfStates (rules search_state_words) (first_search_state o.variant (layout_of o) o.limit (crash_counts o) calls) c.in-Ok-NeverStuck.states) calls (subst (λ counts. IsNumberOfStates (rules search_state_words) (first_search_state o.variant (layout_of o) o.limit counts c.deref.result.now) c.in-Ok-NeverStuck.states) c.counts_of.ensures (subst (λ layout. IsNumberOfStates (rules search_state_words) (first_search_state o.variant layout o.limit c.counts_of.result c.deref.result.now) c.in-Ok-NeverStuck.states) c.in_ok-layout.ensures.layout number));
      prints = c.tell_never.ensures.prints;
    })))
