use Rattle.std.proofs.Common.{ap, Err}
use Rattle.lock_commands.proofs.Runs.{lab_fails_so}
use Rattle.lock_commands.proofs.run_command.run_workers.Goals as goal

pub returns-in-Err-clause-failed : goal.returns-in-Err-clause-failed
returns-in-Err-clause-failed g c =
    lab_fails_so c.args.args.now c.spec_of.result _ c.in-Err.fault c.lab_fault.result c.spec_of.ensures c.requires c.lab_fault.ensures
    (λ e. c.in-Err.ensures.bad_spec.0 (ap Err e)) c.in-Err.ensures.ends
