use Rattle.std.proofs.Common.{refl}
use Rattle.commands.proofs.program.status_over.Goals as goal

pub returns-in-Ok-clause-runs : goal.returns-in-Ok-clause-runs
returns-in-Ok-clause-runs g c = λ is. c.program_from_start.ensures c.new-input.ensures.reading

pub returns-in-Err-clause-unbuffered : goal.returns-in-Err-clause-unbuffered
returns-in-Err-clause-unbuffered g c = λ is.
    record {
      same = refl;
      status_is = c.write_fault.ensures.status;
      said = _;
      says = _;
      reports = c.write_fault.ensures.line;
    }
