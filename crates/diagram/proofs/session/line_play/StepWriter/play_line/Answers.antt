use Rattle.diagram.proofs.StepWriters.{line_written, stop_written}
use Rattle.diagram.proofs.session.line_play.StepWriter.play_line.Goals as goal

pub returns-in-Ok-clause-same_last_steps : goal.returns-in-Ok-clause-same_last_steps
returns-in-Ok-clause-same_last_steps g c = (line_written g.M.Machine.behaviour {A = Unit {0}} _ _ _ _ c.args.line.now c.in-Ok.field-0 c.in-Ok.ensures).same.last_steps

pub returns-in-Ok-clause-same_out : goal.returns-in-Ok-clause-same_out
returns-in-Ok-clause-same_out g c = (line_written g.M.Machine.behaviour {A = Unit {0}} _ _ _ _ c.args.line.now c.in-Ok.field-0 c.in-Ok.ensures).same.out

pub returns-in-Ok-clause-writes : goal.returns-in-Ok-clause-writes
returns-in-Ok-clause-writes g c = line_written g.M.Machine.behaviour _ _ _ _ c.args.line.now c.in-Ok.field-0 c.in-Ok.ensures

pub returns-in-Err-clause-same_last_steps : goal.returns-in-Err-clause-same_last_steps
returns-in-Err-clause-same_last_steps g c = (stop_written g.M.Machine.behaviour _ _ _ _ c.args.line.now c.in-Err.stop c.number_of.result c.in-Err.ensures c.number_of.ensures).same.last_steps

pub returns-in-Err-clause-same_out : goal.returns-in-Err-clause-same_out
returns-in-Err-clause-same_out g c = (stop_written g.M.Machine.behaviour _ _ _ _ c.args.line.now c.in-Err.stop c.number_of.result c.in-Err.ensures c.number_of.ensures).same.out

pub returns-in-Err-clause-writes : goal.returns-in-Err-clause-writes
returns-in-Err-clause-writes g c = stop_written g.M.Machine.behaviour _ _ _ _ c.args.line.now c.in-Err.stop c.number_of.result c.in-Err.ensures c.number_of.ensures
