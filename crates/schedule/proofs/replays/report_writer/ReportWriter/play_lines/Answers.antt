use Rattle.std.proofs.Common.{Ok, Err}
use Rattle.schedule.proofs.Playing.{run_of_reports}
use Rattle.schedule.proofs.replays.report_writer.ReportWriter.play_lines.Goals as goal

pub returns-in-Ok-clause-same_judge : goal.returns-in-Ok-clause-same_judge
returns-in-Ok-clause-same_judge g c = (run_of_reports g.M.Machine.behaviour g.W.Sink.tape _ _ 2 _ _ _ (Ok c.in-Ok.field-0) c.in-Ok.ensures).0.judge

pub returns-in-Ok-clause-same_reporter : goal.returns-in-Ok-clause-same_reporter
returns-in-Ok-clause-same_reporter g c = (run_of_reports g.M.Machine.behaviour g.W.Sink.tape _ _ 2 _ _ _ (Ok c.in-Ok.field-0) c.in-Ok.ensures).0.reporter

pub returns-in-Ok-clause-same_sink : goal.returns-in-Ok-clause-same_sink
returns-in-Ok-clause-same_sink g c = (run_of_reports g.M.Machine.behaviour g.W.Sink.tape _ _ 2 _ _ _ (Ok c.in-Ok.field-0) c.in-Ok.ensures).0.w

pub returns-in-Ok-clause-runs : goal.returns-in-Ok-clause-runs
returns-in-Ok-clause-runs g c = (run_of_reports g.M.Machine.behaviour g.W.Sink.tape _ _ 2 _ _ _ (Ok c.in-Ok.field-0) c.in-Ok.ensures).1

pub returns-in-Err-clause-same_judge : goal.returns-in-Err-clause-same_judge
returns-in-Err-clause-same_judge g c = (run_of_reports g.M.Machine.behaviour g.W.Sink.tape _ _ 2 _ _ _ (Err (c.in-Err.line, c.in-Err.stop)) c.in-Err.ensures).0.judge

pub returns-in-Err-clause-same_reporter : goal.returns-in-Err-clause-same_reporter
returns-in-Err-clause-same_reporter g c = (run_of_reports g.M.Machine.behaviour g.W.Sink.tape _ _ 2 _ _ _ (Err (c.in-Err.line, c.in-Err.stop)) c.in-Err.ensures).0.reporter

pub returns-in-Err-clause-same_sink : goal.returns-in-Err-clause-same_sink
returns-in-Err-clause-same_sink g c = (run_of_reports g.M.Machine.behaviour g.W.Sink.tape _ _ 2 _ _ _ (Err (c.in-Err.line, c.in-Err.stop)) c.in-Err.ensures).0.w

pub returns-in-Err-clause-runs : goal.returns-in-Err-clause-runs
returns-in-Err-clause-runs g c =
    rw c.fault_at.ensures (run_of_reports g.M.Machine.behaviour g.W.Sink.tape _ _ 2 _ _ _ (Err (c.in-Err.line, c.in-Err.stop)) c.in-Err.ensures).1
