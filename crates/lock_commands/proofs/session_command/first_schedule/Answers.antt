use Rattle.std.proofs.Common.{rules, option_copied}
use Rattle.std.proofs.lemmas.Result.{err_from_is_err_and}
use Rattle.lock_commands.specs.Settings.{lock_machine}
use Rattle.command_parts.proofs.Beginning.{cant_play}
use Rattle.lock_commands.proofs.session_command.first_schedule.Goals as goal

pub returns-in_err-plays-clause-refused : goal.returns-in_err-plays-clause-refused
returns-in_err-plays-clause-refused g c =
    let p = err_from_is_err_and c.from_residual-in_err-plays.result c.from_residual-in_err-plays.ensures.1 in
    rw (p.1, p.2)
    (cant_play lock_machine (option_copied c.args.start)
    (g.R.Source.reading c.args.r.now)
    (g.R.Source.reading c.first_text.new.r) c.first_text.new.buffer.items c.in_ok-text.text.items c.in_ok-schedule.schedule _ c.in_ok-text.ensures.begins
    (search (rules, c.in_ok-schedule.ensures.read)) c.in_err-plays.ensures.refused)
