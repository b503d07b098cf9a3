use Rattle.diagram.specs.AlgorithmSteps.{report_member}
use Rattle.diagram.proofs.Joined.{joined_three}
use Rattle.diagram.proofs.algorithm.step_objects.put_report_member.Goals as goal

pub returns : goal.returns
unfolding report_member
returns c =
    joined_three c.put_text-2.result _ _ _ _ _ _ _ c.in_ok-put_text.ensures c.in_ok-put_reports_list.ensures c.put_text-2.ensures
