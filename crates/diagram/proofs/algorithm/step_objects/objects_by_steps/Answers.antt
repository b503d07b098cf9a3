use Rattle.diagram.proofs.AlgorithmSteps.{lines_made}
use Rattle.diagram.proofs.algorithm.step_objects.objects_by_steps.Goals as goal

pub returns : goal.returns
returns c =
    let run = c.in_ok-recording.recording in
    lines_made c.args.monitor c.record_run.new.monitor c.args.schedule.now.lines run.events.items run.reports.items run.refused c.world.result.now c.objects_of.result
    c.in_ok-recording.ensures c.world.ensures c.objects_of.ensures.text c.objects_of.ensures.ended
