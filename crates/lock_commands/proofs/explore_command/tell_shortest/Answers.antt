use Rattle.std.proofs.Common.{◌≡◌, ◌≢◌, ◌≤◌, List, length, Result, ◌∙◌, inl, inr, subst}
use Rattle.schedule.specs.Tapes.{Tape}
use Rattle.explorer.specs.Paths.{IsNumberOfStates}
use Rattle.crashlab.specs.space.Spaces.{first_search_state, rules}
use Rattle.crashlab.specs.declared.variants.variant.Variant.TheVariants.{Right}
use Rattle.crashlab.specs.declared.space.moves.Move.{Move}
use Rattle.lock_explorer.specs.Keys.{key_by}
use Rattle.lock_explorer.specs.FoundPaths.{IsFoundIn, IsShortestPath, NoneOfAtMost, NoneIsFound}
use Rattle.schedule.specs.Schedules.{spelling}
use Rattle.cli.specs.declared.arguments.args.ExploreArgs.{ExploreArgs}
use Rattle.lock_commands.specs.Explores.{ShortestEnds, calls_of, crash_counts, layout_of, schedule_of}
use Rattle.command_parts.specs.declared.ending.Ending.{Ending}
use Rattle.command_parts.specs.declared.fault.CommandFault.{CommandFault}
use Rattle.command_parts.specs.Endings.{Prints}
use Rattle.lock_commands.proofs.explore_command.tell_shortest.Goals as goal

ends_least :
    (args : ExploreArgs) (before now : Tape) (path moves_path : List Move) (r : Result Ending CommandFault) → moves_path ≡ path → args.variant ≢ Right → IsFoundIn args.variant (layout_of args) args.limit (crash_counts args) (calls_of args) path
    → IsShortestPath args.variant (layout_of args) args.limit (crash_counts args) (calls_of args) path → length path ≤ args.moves
    → Prints 1 (spelling (schedule_of args moves_path)) before now r → ShortestEnds args before now r
ends_least args before now path moves_path r same wrong found least few prints =
    inl (record { wrong = wrong; path = path; found = found; least = least; few = few; prints = subst (λ p. Prints 1 (spelling (schedule_of args p)) before now r) same prints })

pub returns-in-Ok-NoneWithin-clause-ends : goal.returns-in-Ok-NoneWithin-clause-ends
returns-in-Ok-NoneWithin-clause-ends g c =
    let o : ExploreArgs = c.args.args.now in
    let none = rw c.in-Ok-NoneWithin.field-0-is at (rw c.in-Ok-NoneWithin.is at c.shortest_schedule_in_parallel-found.ensures.none_within) in
    let calls = c.deref.ensures.value ∙ c.in_ok-calls.ensures.listed in
    inr (inl (record { none = subst (λ calls. NoneOfAtMost o.variant (layout_of o) o.limit (crash_counts o) calls o.moves) calls (subst (λ counts. NoneOfAtMost o.variant (layout_of o) o.limit counts c.deref.result.now o.moves) c.counts_of.ensures (subst (λ layout. NoneOfAtMost o.variant layout o.limit c.counts_of.result c.deref.result.now o.moves) c.in_ok-layout.ensures.layout none)); prints = c.tell_within.ensures.prints }))

pub returns-in-Ok-Nowhere-clause-ends : goal.returns-in-Ok-Nowhere-clause-ends
returns-in-Ok-Nowhere-clause-ends g c =
    let o : ExploreArgs = c.args.args.now in
    let none = rw c.in-Ok-Nowhere.field-0-is at (rw c.in-Ok-Nowhere.is at c.shortest_schedule_in_parallel-found.ensures.nowhere) in
    let number = rw c.in-Ok-Nowhere.field-0-is at (rw c.in-Ok-Nowhere.is at c.shortest_schedule_in_parallel-found.ensures.states) in
    let calls = c.deref.ensures.value ∙ c.in_ok-calls.ensures.listed in
    inr (inr (inl (record {
      none = subst (λ calls. NoneIsFound o.variant (layout_of o) o.limit (crash_counts o) calls) calls (subst (λ counts. NoneIsFound o.variant (layout_of o) o.limit counts c.deref.result.now) c.counts_of.ensures (subst (λ layout. NoneIsFound o.variant layout o.limit c.counts_of.result c.deref.result.now) c.in_ok-layout.ensures.layout none));
      states = c.in-Ok-Nowhere.states;
      number = subst (λ variables. IsNumberOfStates (rules (key_by variables)) (first_search_state o.variant (layout_of o) o.limit (crash_counts o) (calls_of o)) c.in-Ok-Nowhere.states) c.variables_of.ensures
          (subst (λ calls. IsNumberOfStates (rules (key_by c.variables_of.result)) (first_search_state o.variant (layout_of o) o.limit (crash_counts o) calls) c.in-Ok-Nowhere.states) calls (subst (λ counts. IsNumberOfStates (rules (key_by c.variables_of.result)) (first_search_state o.variant (layout_of o) o.limit counts c.deref.result.now) c.in-Ok-Nowhere.states) c.counts_of.ensures (subst (λ layout. IsNumberOfStates (rules (key_by c.variables_of.result)) (first_search_state o.variant layout o.limit c.counts_of.result c.deref.result.now) c.in-Ok-Nowhere.states) c.in_ok-layout.ensures.layout number)));
      prints = c.tell_all.ensures.prints;
    })))

pub returns-in-Ok-Path-clause-ends : goal.returns-in-Ok-Path-clause-ends
returns-in-Ok-Path-clause-ends g c =
    let o : ExploreArgs = c.args.args.now in
    let calls = c.deref.ensures.value ∙ c.in_ok-calls.ensures.listed in
    let found = rw c.in-Ok-Path.field-0-is at (rw c.in-Ok-Path.is at c.shortest_schedule_in_parallel-found.ensures.found) in
    let least = rw c.in-Ok-Path.field-0-is at (rw c.in-Ok-Path.is at c.shortest_schedule_in_parallel-found.ensures.shortest) in
    let few = rw c.in-Ok-Path.field-0-is at (rw c.in-Ok-Path.is at c.shortest_schedule_in_parallel-found.ensures.within) in
    ends_least o _ _ c.in-Ok-Path.path.items _ c.tell_path.result c.deref-in-Ok-Path.ensures.value
    (λ right. rw c.in-Ok-Path.field-0-is at (rw c.in-Ok-Path.is at (c.shortest_schedule_in_parallel-found.ensures.right right)))
    (subst (λ calls. IsFoundIn o.variant (layout_of o) o.limit (crash_counts o) calls c.in-Ok-Path.path.items) calls (subst (λ counts. IsFoundIn o.variant (layout_of o) o.limit counts c.deref.result.now c.in-Ok-Path.path.items) c.counts_of.ensures (subst (λ layout. IsFoundIn o.variant layout o.limit c.counts_of.result c.deref.result.now c.in-Ok-Path.path.items) c.in_ok-layout.ensures.layout found)))
    (subst (λ calls. IsShortestPath o.variant (layout_of o) o.limit (crash_counts o) calls c.in-Ok-Path.path.items) calls (subst (λ counts. IsShortestPath o.variant (layout_of o) o.limit counts c.deref.result.now c.in-Ok-Path.path.items) c.counts_of.ensures (subst (λ layout. IsShortestPath o.variant layout o.limit c.counts_of.result c.deref.result.now c.in-Ok-Path.path.items) c.in_ok-layout.ensures.layout least)))
    few c.tell_path.ensures.prints
