use Rattle.std.proofs.Common.{subst, sym}
use Rattle.redomail.proofs.Common.{left_at, script_left, StepKept}
use Rattle.redomail.proofs.Keeps.{step_kept}
use Rattle.redomail.proofs.job.Job.feed.Goals as goal

pub returns-clause-kept : goal.returns-clause-kept
returns-clause-kept c =
    let j = c.self.inside in
    let x = c.args.value in
    subst (λ job. StepKept (script_left job) x (left_at j.layout j.sender c.go_on.new.self)) c.self.view_is
    (subst (StepKept (left_at j.layout j.sender j.stage) x) (sym c.go_on.ensures.left) (step_kept (left_at j.layout j.sender j.stage) x))
