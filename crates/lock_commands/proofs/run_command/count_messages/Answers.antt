use Rattle.std.proofs.Common.{ap, ◌∙◌}
use Rattle.lock_commands.specs.Ends.{lab_for}
use Rattle.lock_commands.specs.Tallies.{tallies_by}
use Rattle.lock_commands.proofs.Tallies.{tallies_of_sent}
use Rattle.lock_commands.proofs.run_command.count_messages.Goals as goal

pub returns-clause-sent : goal.returns-clause-sent
returns-clause-sent g c =
    c.in_ok-tallies_of.ensures ∙ ap (tallies_by c.args.args.now.procs) c.deref.ensures.value ∙ tallies_of_sent (lab_for c.args.args.now) c.in_ok-result.result.messages.items c.in_ok-result.ensures.sent c.in_ok-result.ensures.few
