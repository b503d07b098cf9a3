use Rattle.std.proofs.Common.{rules, refl, subst}
use Rattle.std.proofs.lemmas.Result.{err_from_is_err_and}
use Rattle.schedule.specs.Schedules.{spelling}
use Rattle.algorithm_explorer.specs.Boards.{search_state_of}
use Rattle.cli.specs.declared.arguments.args.StatesTool.TheVariants.{First, Expand, Lead, Home, Check, Walk}
use Rattle.algorithm_commands.specs.AlgorithmExplores.{schedule_of}
use Rattle.algorithm_commands.specs.AlgorithmStates.{algorithm_lines, algorithm_run}
use Rattle.state_streams.specs.declared.predecessors.Approach.TheVariants.{AnyMove, WayHome}
use Rattle.command_parts.specs.StateTexts.{CheckEnds, ExpandEnds, FindsWalk, FirstEnds, LeadEnds}
use Rattle.command_parts.proofs.StateSets.{walk_unread}
use Rattle.algorithm_commands.proofs.AlgorithmStates.{algorithm_lines_are}
use Rattle.command_parts.proofs.StatesEnds.{tool_ends, walk_written}
use Rattle.algorithm_commands.proofs.algorithm_states_command.carry_out_tool.Goals as goal

pub returns-in-First-clause-ends : goal.returns-in-First-clause-ends
returns-in-First-clause-ends g c = λ algorithm text live are.
    let lines = algorithm_lines_are algorithm text c.args.args.now live (search_state_of c.args.here.now) c.args.machine.now c.args.form.now are in
    tool_ends (algorithm_run algorithm text c.args.args.now live) First (g.R.Source.reading c.args.r.now) (g.R.Source.reading c.args.r.now) (g.W.Sink.tape c.args.w.now) (g.W.Sink.tape c.write_first.new.w) c.write_first.result c.in-First.is
    (refl, subst (λ lines. FirstEnds lines (g.W.Sink.tape c.args.w.now) (g.W.Sink.tape c.write_first.new.w) c.write_first.result) lines c.write_first.ensures.ends)

pub returns-in-Expand-clause-ends : goal.returns-in-Expand-clause-ends
returns-in-Expand-clause-ends g c = λ algorithm text live are.
    let lines = algorithm_lines_are algorithm text c.args.args.now live (search_state_of c.args.here.now) c.args.machine.now c.args.form.now are in
    tool_ends (algorithm_run algorithm text c.args.args.now live) Expand (g.R.Source.reading c.args.r.now) (g.R.Source.reading c.expand_input.new.r) (g.W.Sink.tape c.args.w.now) (g.W.Sink.tape c.expand_input.new.w) c.expand_input.result c.in-Expand.is
    (subst (λ lines. ExpandEnds lines (g.R.Source.reading c.args.r.now) (g.R.Source.reading c.expand_input.new.r) (g.W.Sink.tape c.args.w.now) (g.W.Sink.tape c.expand_input.new.w) c.expand_input.result) lines c.expand_input.ensures.ends)

pub returns-in-Lead-clause-ends : goal.returns-in-Lead-clause-ends
returns-in-Lead-clause-ends g c = λ algorithm text live are.
    let lines = algorithm_lines_are algorithm text c.args.args.now live (search_state_of c.args.here.now) c.args.machine.now c.args.form.now are in
    tool_ends (algorithm_run algorithm text c.args.args.now live) Lead (g.R.Source.reading c.args.r.now) (g.R.Source.reading c.lead_input.new.r) (g.W.Sink.tape c.args.w.now) (g.W.Sink.tape c.lead_input.new.w) c.lead_input.result c.in-Lead.is
    (subst (λ lines. LeadEnds AnyMove lines (g.R.Source.reading c.args.r.now) (g.R.Source.reading c.lead_input.new.r) (g.W.Sink.tape c.args.w.now) (g.W.Sink.tape c.lead_input.new.w) c.lead_input.result) lines c.lead_input.ensures.ends)

pub returns-in-Home-clause-ends : goal.returns-in-Home-clause-ends
returns-in-Home-clause-ends g c = λ algorithm text live are.
    let lines = algorithm_lines_are algorithm text c.args.args.now live (search_state_of c.args.here.now) c.args.machine.now c.args.form.now are in
    tool_ends (algorithm_run algorithm text c.args.args.now live) Home (g.R.Source.reading c.args.r.now) (g.R.Source.reading c.lead_input-in-Home.new.r) (g.W.Sink.tape c.args.w.now) (g.W.Sink.tape c.lead_input-in-Home.new.w) c.lead_input-in-Home.result c.in-Home.is
    (subst (λ lines. LeadEnds WayHome lines (g.R.Source.reading c.args.r.now) (g.R.Source.reading c.lead_input-in-Home.new.r) (g.W.Sink.tape c.args.w.now) (g.W.Sink.tape c.lead_input-in-Home.new.w) c.lead_input-in-Home.result) lines c.lead_input-in-Home.ensures.ends)

pub returns-in-Check-clause-ends : goal.returns-in-Check-clause-ends
returns-in-Check-clause-ends g c = λ algorithm text live are.
    let lines = algorithm_lines_are algorithm text c.args.args.now live (search_state_of c.args.here.now) c.args.machine.now c.args.form.now are in
    tool_ends (algorithm_run algorithm text c.args.args.now live) Check (g.R.Source.reading c.args.r.now) (g.R.Source.reading c.check_input.new.r) (g.W.Sink.tape c.args.w.now) (g.W.Sink.tape c.check_input.new.w) c.check_input.result c.in-Check.is
    (subst (λ lines. CheckEnds lines c.args.args.now.stream (g.R.Source.reading c.args.r.now) (g.R.Source.reading c.check_input.new.r) (g.W.Sink.tape c.args.w.now) (g.W.Sink.tape c.check_input.new.w) c.check_input.result) lines c.check_input.ensures.ends)

-- no walk was found
pub returns-in_err-path-in-Walk-clause-ends : goal.returns-in_err-path-in-Walk-clause-ends
returns-in_err-path-in-Walk-clause-ends g c = λ algorithm text live are.
    let lines = algorithm_lines_are algorithm text c.args.args.now live (search_state_of c.args.here.now) c.args.machine.now c.args.form.now are in
    let p = err_from_is_err_and c.from_residual.result c.from_residual.ensures.1 in
    rw (p.1, p.2) (tool_ends (algorithm_run algorithm text c.args.args.now live) Walk (g.R.Source.reading c.args.r.now) (g.R.Source.reading c.walk_of_input.new.r) (g.W.Sink.tape c.args.w.now) (g.W.Sink.tape c.args.w.now) _ c.in-Walk.is
    (walk_unread (g.R.Source.reading c.args.r.now) (g.R.Source.reading c.walk_of_input.new.r) (g.W.Sink.tape c.args.w.now) (algorithm_lines algorithm text c.args.args.now live) _ _ c.in_err-path-in-Walk.ensures.unread))

-- its schedule is written
pub returns-in_ok-path-in-Walk-clause-ends : goal.returns-in_ok-path-in-Walk-clause-ends
returns-in_ok-path-in-Walk-clause-ends g c = λ algorithm text live are.
    let lines = algorithm_lines_are algorithm text c.args.args.now live (search_state_of c.args.here.now) c.args.machine.now c.args.form.now are in
    let path = c.in_ok-path-in-Walk.path.items in
    let found = subst (λ lines. FindsWalk lines (g.R.Source.reading c.args.r.now) (g.R.Source.reading c.walk_of_input.new.r) path) lines c.in_ok-path-in-Walk.ensures.found in
    tool_ends (algorithm_run algorithm text c.args.args.now live) Walk (g.R.Source.reading c.args.r.now) (g.R.Source.reading c.walk_of_input.new.r) (g.W.Sink.tape c.args.w.now) (g.W.Sink.tape c.tell_path.new.w) c.tell_path.result c.in-Walk.is
    (walk_written (algorithm_lines algorithm text c.args.args.now live) _ path (spelling (schedule_of c.args.args.now.search c.deref.result.now)) (g.R.Source.reading c.args.r.now) (g.R.Source.reading c.walk_of_input.new.r) (g.W.Sink.tape c.args.w.now) (g.W.Sink.tape c.tell_path.new.w) c.tell_path.result found (search (rules, c.deref.ensures.value)) c.tell_path.ensures.prints)
