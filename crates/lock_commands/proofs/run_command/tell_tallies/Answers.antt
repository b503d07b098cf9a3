use Rattle.std.proofs.lemmas.Result.{err_from_is_err_and}
use Rattle.lock_commands.proofs.run_command.tell_tallies.Goals as goal

pub returns-in_err-write_lines-clause-reports : goal.returns-in_err-write_lines-clause-reports
returns-in_err-write_lines-clause-reports g c =
    let p = err_from_is_err_and c.from_residual.result c.from_residual.ensures.1 in
    record {
      status = c.status_of_tallies-status.result;
      few = c.status_of_tallies-status.ensures.either;
      fine = c.status_of_tallies-status.ensures.fine;
      prints = rw (p.1, p.2) c.in_err-write_lines.ensures.unwritten;
    }
