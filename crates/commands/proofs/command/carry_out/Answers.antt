use Rattle.std.proofs.Common.{subst, sym, option_copied}
use Rattle.commands.specs.Commands.{CommandEnds, SessionEndsOf}
use Rattle.command_parts.specs.Devices.{devices}
use Rattle.commands.proofs.command.carry_out.Goals as goal

-- a replay ends as `replay_command` says
pub returns-in-Replay-clause-ends : goal.returns-in-Replay-clause-ends
returns-in-Replay-clause-ends g c =
    subst
    (λ command. CommandEnds command (option_copied c.args.image)
    (g.R.Source.reading c.args.r.now)
    (g.R.Source.reading c.replay_command.new.r)
    (g.W.Sink.tape c.args.w.now)
    (g.W.Sink.tape c.replay_command.new.w)
    c.replay_command.result)
    (sym c.in-Replay.is)
    c.replay_command.ensures.ends

-- a replay on an algorithm as `algorithm_replay_command` says
pub returns-in-ReplayAlgorithm-clause-ends : goal.returns-in-ReplayAlgorithm-clause-ends
returns-in-ReplayAlgorithm-clause-ends g c =
    subst
    (λ command. CommandEnds command (option_copied c.args.image)
    (g.R.Source.reading c.args.r.now)
    (g.R.Source.reading c.algorithm_replay_command.new.r)
    (g.W.Sink.tape c.args.w.now)
    (g.W.Sink.tape c.algorithm_replay_command.new.w)
    c.algorithm_replay_command.result)
    (sym c.in-ReplayAlgorithm.is)
    c.algorithm_replay_command.ensures.ends

-- a drawing as `draw_command` says
pub returns-in-Draw-clause-ends : goal.returns-in-Draw-clause-ends
returns-in-Draw-clause-ends g c =
    subst
    (λ command. CommandEnds command (option_copied c.args.image)
    (g.R.Source.reading c.args.r.now)
    (g.R.Source.reading c.draw_command.new.r)
    (g.W.Sink.tape c.args.w.now)
    (g.W.Sink.tape c.draw_command.new.w)
    c.draw_command.result)
    (sym c.in-Draw.is)
    (c.draw_command.ensures.ends, c.draw_command.ensures.reads)

-- a drawing on an algorithm as `algorithm_draw_command` says
pub returns-in-DrawAlgorithm-clause-ends : goal.returns-in-DrawAlgorithm-clause-ends
returns-in-DrawAlgorithm-clause-ends g c =
    subst
    (λ command. CommandEnds command (option_copied c.args.image)
    (g.R.Source.reading c.args.r.now)
    (g.R.Source.reading c.algorithm_draw_command.new.r)
    (g.W.Sink.tape c.args.w.now)
    (g.W.Sink.tape c.algorithm_draw_command.new.w)
    c.algorithm_draw_command.result)
    (sym c.in-DrawAlgorithm.is)
    c.algorithm_draw_command.ensures.ends

-- shrinking ends as `shrink_command` says
pub returns-in-Shrink-clause-ends : goal.returns-in-Shrink-clause-ends
returns-in-Shrink-clause-ends g c =
    subst
    (λ command. CommandEnds command (option_copied c.args.image)
    (g.R.Source.reading c.args.r.now)
    (g.R.Source.reading c.shrink_command.new.r)
    (g.W.Sink.tape c.args.w.now)
    (g.W.Sink.tape c.shrink_command.new.w)
    c.shrink_command.result)
    (sym c.in-Shrink.is)
    (c.shrink_command.ensures.ends, c.shrink_command.ensures.reads)

-- shrinking on an algorithm as `algorithm_shrink_command` says
pub returns-in-ShrinkAlgorithm-clause-ends : goal.returns-in-ShrinkAlgorithm-clause-ends
returns-in-ShrinkAlgorithm-clause-ends g c =
    subst
    (λ command. CommandEnds command (option_copied c.args.image)
    (g.R.Source.reading c.args.r.now)
    (g.R.Source.reading c.algorithm_shrink_command.new.r)
    (g.W.Sink.tape c.args.w.now)
    (g.W.Sink.tape c.algorithm_shrink_command.new.w)
    c.algorithm_shrink_command.result)
    (sym c.in-ShrinkAlgorithm.is)
    c.algorithm_shrink_command.ensures.ends

-- a session as `session_command` says
pub returns-in-Step-clause-ends : goal.returns-in-Step-clause-ends
returns-in-Step-clause-ends g c =
    subst
    (λ command. CommandEnds command (option_copied c.args.image)
    (g.R.Source.reading c.args.r.now)
    (g.R.Source.reading c.session_command.new.r)
    (g.W.Sink.tape c.args.w.now)
    (g.W.Sink.tape c.session_command.new.w)
    c.session_command.result)
    (sym c.in-Step.is)
    (option_copied c.args.start, g.F.Folder.used c.args.folder.now, g.F.Folder.used c.session_command.new.folder, c.session_command.ensures.ends)

pub returns-in-Step-clause-session : goal.returns-in-Step-clause-session
returns-in-Step-clause-session g c = λ is.
    subst
    (λ command. SessionEndsOf command (option_copied c.args.image) (option_copied c.args.start)
    (devices (g.R.Source.reading c.args.r.now) (g.F.Folder.used c.args.folder.now) (g.W.Sink.tape c.args.w.now))
    (devices (g.R.Source.reading c.session_command.new.r) (g.F.Folder.used c.session_command.new.folder) (g.W.Sink.tape c.session_command.new.w))
    c.session_command.result)
    (sym c.in-Step.is)
    c.session_command.ensures.ends

-- a session on an algorithm as `algorithm_session_command` says
pub returns-in-StepAlgorithm-clause-ends : goal.returns-in-StepAlgorithm-clause-ends
returns-in-StepAlgorithm-clause-ends g c =
    subst
    (λ command. CommandEnds command (option_copied c.args.image)
    (g.R.Source.reading c.args.r.now)
    (g.R.Source.reading c.algorithm_session_command.new.r)
    (g.W.Sink.tape c.args.w.now)
    (g.W.Sink.tape c.algorithm_session_command.new.w)
    c.algorithm_session_command.result)
    (sym c.in-StepAlgorithm.is)
    (option_copied c.args.start, g.F.Folder.used c.args.folder.now, g.F.Folder.used c.algorithm_session_command.new.folder, c.algorithm_session_command.ensures.ends)

pub returns-in-StepAlgorithm-clause-session : goal.returns-in-StepAlgorithm-clause-session
returns-in-StepAlgorithm-clause-session g c = λ is.
    subst
    (λ command. SessionEndsOf command (option_copied c.args.image) (option_copied c.args.start)
    (devices (g.R.Source.reading c.args.r.now) (g.F.Folder.used c.args.folder.now) (g.W.Sink.tape c.args.w.now))
    (devices (g.R.Source.reading c.algorithm_session_command.new.r) (g.F.Folder.used c.algorithm_session_command.new.folder) (g.W.Sink.tape c.algorithm_session_command.new.w))
    c.algorithm_session_command.result)
    (sym c.in-StepAlgorithm.is)
    c.algorithm_session_command.ensures.ends

-- `states` ends as `states_command` says
pub returns-in-States-clause-ends : goal.returns-in-States-clause-ends
returns-in-States-clause-ends g c =
    subst
    (λ command. CommandEnds command (option_copied c.args.image)
    (g.R.Source.reading c.args.r.now)
    (g.R.Source.reading c.states_command.new.r)
    (g.W.Sink.tape c.args.w.now)
    (g.W.Sink.tape c.states_command.new.w)
    c.states_command.result)
    (sym c.in-States.is)
    c.states_command.ensures.ends

-- `states` on an algorithm as `algorithm_states_command` says
pub returns-in-StatesAlgorithm-clause-ends : goal.returns-in-StatesAlgorithm-clause-ends
returns-in-StatesAlgorithm-clause-ends g c =
    subst
    (λ command. CommandEnds command (option_copied c.args.image)
    (g.R.Source.reading c.args.r.now)
    (g.R.Source.reading c.algorithm_states_command.new.r)
    (g.W.Sink.tape c.args.w.now)
    (g.W.Sink.tape c.algorithm_states_command.new.w)
    c.algorithm_states_command.result)
    (sym c.in-StatesAlgorithm.is)
    c.algorithm_states_command.ensures.ends
