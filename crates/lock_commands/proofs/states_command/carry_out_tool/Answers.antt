use Rattle.std.proofs.Common.{refl, subst}
use Rattle.lock_explorer.specs.Boards.{search_state_of}
use Rattle.cli.specs.declared.arguments.args.StatesTool.TheVariants.{First, Expand, Lead, Home, Check}
use Rattle.lock_commands.specs.States.{states_run}
use Rattle.state_streams.specs.declared.predecessors.Approach.TheVariants.{AnyMove, WayHome}
use Rattle.command_parts.specs.StateTexts.{CheckEnds, ExpandEnds, FirstEnds, LeadEnds}
use Rattle.lock_commands.proofs.States.{lines_are}
use Rattle.command_parts.proofs.StatesEnds.{tool_ends}
use Rattle.lock_commands.proofs.states_command.carry_out_tool.Goals as goal

pub returns-in-First-clause-ends : goal.returns-in-First-clause-ends
returns-in-First-clause-ends g c =
    let args = c.args.args.now in
    let lines = lines_are args (search_state_of c.args.here.now) c.args.machine.now c.args.form.now c.requires.start c.requires.machine c.requires.words c.requires.digits in
    tool_ends (states_run args) First (g.R.Source.reading c.args.r.now) (g.R.Source.reading c.args.r.now) (g.W.Sink.tape c.args.w.now) (g.W.Sink.tape c.write_first.new.w) c.write_first.result c.in-First.is
    (refl, subst (λ lines. FirstEnds lines (g.W.Sink.tape c.args.w.now) (g.W.Sink.tape c.write_first.new.w) c.write_first.result) lines c.write_first.ensures.ends)

pub returns-in-Expand-clause-ends : goal.returns-in-Expand-clause-ends
returns-in-Expand-clause-ends g c =
    let args = c.args.args.now in
    let lines = lines_are args (search_state_of c.args.here.now) c.args.machine.now c.args.form.now c.requires.start c.requires.machine c.requires.words c.requires.digits in
    tool_ends (states_run args) Expand (g.R.Source.reading c.args.r.now) (g.R.Source.reading c.expand_input.new.r) (g.W.Sink.tape c.args.w.now) (g.W.Sink.tape c.expand_input.new.w) c.expand_input.result c.in-Expand.is
    (subst (λ lines. ExpandEnds lines (g.R.Source.reading c.args.r.now) (g.R.Source.reading c.expand_input.new.r) (g.W.Sink.tape c.args.w.now) (g.W.Sink.tape c.expand_input.new.w) c.expand_input.result) lines c.expand_input.ensures.ends)

pub returns-in-Lead-clause-ends : goal.returns-in-Lead-clause-ends
returns-in-Lead-clause-ends g c =
    let args = c.args.args.now in
    let lines = lines_are args (search_state_of c.args.here.now) c.args.machine.now c.args.form.now c.requires.start c.requires.machine c.requires.words c.requires.digits in
    tool_ends (states_run args) Lead (g.R.Source.reading c.args.r.now) (g.R.Source.reading c.lead_input.new.r) (g.W.Sink.tape c.args.w.now) (g.W.Sink.tape c.lead_input.new.w) c.lead_input.result c.in-Lead.is
    (subst (λ lines. LeadEnds AnyMove lines (g.R.Source.reading c.args.r.now) (g.R.Source.reading c.lead_input.new.r) (g.W.Sink.tape c.args.w.now) (g.W.Sink.tape c.lead_input.new.w) c.lead_input.result) lines c.lead_input.ensures.ends)

pub returns-in-Home-clause-ends : goal.returns-in-Home-clause-ends
returns-in-Home-clause-ends g c =
    let args = c.args.args.now in
    let lines = lines_are args (search_state_of c.args.here.now) c.args.machine.now c.args.form.now c.requires.start c.requires.machine c.requires.words c.requires.digits in
    tool_ends (states_run args) Home (g.R.Source.reading c.args.r.now) (g.R.Source.reading c.lead_input-in-Home.new.r) (g.W.Sink.tape c.args.w.now) (g.W.Sink.tape c.lead_input-in-Home.new.w) c.lead_input-in-Home.result c.in-Home.is
    (subst (λ lines. LeadEnds WayHome lines (g.R.Source.reading c.args.r.now) (g.R.Source.reading c.lead_input-in-Home.new.r) (g.W.Sink.tape c.args.w.now) (g.W.Sink.tape c.lead_input-in-Home.new.w) c.lead_input-in-Home.result) lines c.lead_input-in-Home.ensures.ends)

pub returns-in-Check-clause-ends : goal.returns-in-Check-clause-ends
returns-in-Check-clause-ends g c =
    let args = c.args.args.now in
    let lines = lines_are args (search_state_of c.args.here.now) c.args.machine.now c.args.form.now c.requires.start c.requires.machine c.requires.words c.requires.digits in
    tool_ends (states_run args) Check (g.R.Source.reading c.args.r.now) (g.R.Source.reading c.check_input.new.r) (g.W.Sink.tape c.args.w.now) (g.W.Sink.tape c.check_input.new.w) c.check_input.result c.in-Check.is
    (subst (λ lines. CheckEnds lines args.stream (g.R.Source.reading c.args.r.now) (g.R.Source.reading c.check_input.new.r) (g.W.Sink.tape c.args.w.now) (g.W.Sink.tape c.check_input.new.w) c.check_input.result) lines c.check_input.ensures.ends)
