use Rattle.std.proofs.Common.{◌≡◌, map, ap, ◌∙◌, subst}
use Rattle.std.proofs.lemmas.Result.{err_from_is_err_and}
use Rattle.crashlab.specs.space.Numbered.{move_by}
use Rattle.crashlab.specs.space.Spaces.{moves_to_try}
use Rattle.lock_explorer.specs.Boards.{search_state_of}
use Rattle.schedule.specs.Schedules.{spelling}
use Rattle.cli.specs.declared.arguments.args.StatesTool.TheVariants.{Walk}
use Rattle.lock_commands.specs.Explores.{calls_of, schedule_of}
use Rattle.lock_commands.specs.States.{spelled_walk, state_lines, states_run}
use Rattle.command_parts.specs.StateTexts.{FindsWalk}
use Rattle.command_parts.proofs.StateSets.{walk_unread}
use Rattle.lock_commands.proofs.States.{lines_are}
use Rattle.command_parts.proofs.StatesEnds.{tool_ends, walk_written}
use Rattle.lock_commands.proofs.states_command.walk_command.Goals as goal

-- no walk was found
pub returns-in_err-numbers-clause-ends : goal.returns-in_err-numbers-clause-ends
returns-in_err-numbers-clause-ends g c =
    let p = err_from_is_err_and c.from_residual.result c.from_residual.ensures.1 in
    rw (p.1, p.2) (tool_ends (states_run c.args.args.now) Walk (g.R.Source.reading c.args.r.now) (g.R.Source.reading c.walk_of_input.new.r) (g.W.Sink.tape c.args.w.now) (g.W.Sink.tape c.args.w.now) _ c.requires.tool
    (walk_unread (g.R.Source.reading c.args.r.now) (g.R.Source.reading c.walk_of_input.new.r) (g.W.Sink.tape c.args.w.now) (state_lines c.args.args.now) (spelled_walk c.args.args.now.search) _ c.in_err-numbers.ensures.unread))

-- its schedule is written
pub returns-clause-ends : goal.returns-clause-ends
returns-clause-ends g c =
    let args = c.args.args.now in
    let numbers = c.in_ok-numbers.numbers.items in
    let lines = lines_are args (search_state_of c.args.here.now) c.args.machine.now c.args.form.now c.requires.start c.requires.machine c.requires.words c.requires.digits in
    let found = subst (λ lines. FindsWalk lines (g.R.Source.reading c.args.r.now) (g.R.Source.reading c.walk_of_input.new.r) numbers) lines c.in_ok-numbers.ensures.found in
    let calls : c.deref.result.now ≡ calls_of args.search = c.deref.ensures.value ∙ c.in_ok-calls.ensures.listed in
    let same : c.deref-2.result.now ≡ numbers = c.deref-2.ensures.value in
    let path : spelling (schedule_of args.search c.deref-3.result.now) ≡ spelled_walk args.search numbers =
    ap (λ ms. spelling (schedule_of args.search ms)) (c.deref-3.ensures.value ∙ c.in_ok-path.ensures ∙ (λ i. map (move_by (moves_to_try (calls i) args.search.procs (c.counts_of.ensures i))) (same i))) in
    tool_ends (states_run args) Walk (g.R.Source.reading c.args.r.now) (g.R.Source.reading c.walk_of_input.new.r) (g.W.Sink.tape c.args.w.now) (g.W.Sink.tape c.tell_path.new.w) c.tell_path.result c.requires.tool
    (walk_written (state_lines args) (spelled_walk args.search) numbers (spelling (schedule_of args.search c.deref-3.result.now)) (g.R.Source.reading c.args.r.now) (g.R.Source.reading c.walk_of_input.new.r) (g.W.Sink.tape c.args.w.now) (g.W.Sink.tape c.tell_path.new.w) c.tell_path.result found path c.tell_path.ensures.prints)
