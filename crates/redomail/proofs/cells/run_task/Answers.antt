use Rattle.std.proofs.Common.{refl, ◌∙◌}
use Rattle.redomail.proofs.OnWay.{got_by, put_by, stops_at_get, stops_at_put, all_called, not_begun, on_way, kept_on_way, answered_at, is_done}
use Rattle.redomail.proofs.Results.{always_err}
use Rattle.redomail.proofs.cells.run_task.Goals as goal

pub loop-i-init : goal.loop-i-init
loop-i-init g c = record { by = not_begun _ _ _; calm = refl }

pub returns-in_err-word-in-Get-clause-kept : goal.returns-in_err-word-in-Get-clause-kept
returns-in_err-word-in-Get-clause-kept g c =
    kept_on_way _ _ _ (on_way _ _ _ _ _ c.get.ensures.same c.loop-i.invariant.by.reached)

pub loop-i-preserved-in-Get : goal.loop-i-preserved-in-Get
loop-i-preserved-in-Get g c = record {
  by = got_by _ _ _ _ _ _ _ _ _ _ _ c.in-Get.ensures c.in_ok-word-in-Get.ensures.word c.feed.ensures.left c.get.ensures.same c.get.ensures.called c.loop-i.invariant.by;
  calm = c.in_ok-word-in-Get.ensures.calm ∙ c.loop-i.invariant.calm;
}

pub returns-in_err-put-in-Put-clause-kept : goal.returns-in_err-put-in-Put-clause-kept
returns-in_err-put-in-Put-clause-kept g c =
    kept_on_way _ _ _ (on_way _ _ _ _ _ c.in_err-put-in-Put.ensures.same c.loop-i.invariant.by.reached)

pub loop-i-preserved : goal.loop-i-preserved
loop-i-preserved g c = record {
  by = put_by _ _ _ _ _ _ _ _ _ _ _ c.in-Put.ensures c.feed-in-Put.ensures.left c.in_ok-put-in-Put.ensures.word c.put.ensures.called c.loop-i.invariant.by;
  calm = c.in_ok-put-in-Put.ensures.calm ∙ c.loop-i.invariant.calm;
}

pub returns-in-Done-clause-kept : goal.returns-in-Done-clause-kept
returns-in-Done-clause-kept g c = kept_on_way _ _ _ (on_way _ _ _ _ _ refl c.loop-i.invariant.by.reached)

pub returns-in-Done-clause-answered : goal.returns-in-Done-clause-answered
returns-in-Done-clause-answered g c =
    answered_at _ _ _ _ _ (is_done _ _ c.in-Done.ensures) c.loop-i.invariant.by.reached

pub returns-in_err-word-in-Get-clause-cut : goal.returns-in_err-word-in-Get-clause-cut
returns-in_err-word-in-Get-clause-cut g c =
    always_err c.from_residual.result _ (stops_at_get _ _ _ _ _ _ _ _ _ c.in-Get.ensures c.get.ensures.same c.get.ensures.called c.loop-i.invariant.by)

pub returns-in_err-put-in-Put-clause-cut : goal.returns-in_err-put-in-Put-clause-cut
returns-in_err-put-in-Put-clause-cut g c =
    always_err c.from_residual-in_err-put-in-Put.result _ (stops_at_put _ _ _ _ _ _ _ _ _ _ c.in-Put.ensures c.in_err-put-in-Put.ensures.same c.put.ensures.called c.loop-i.invariant.by)

pub returns-in-Done-clause-counted : goal.returns-in-Done-clause-counted
returns-in-Done-clause-counted g c = all_called _ _ _ _ _ _ _ (is_done _ _ c.in-Done.ensures) c.loop-i.invariant.by
