use Rattle.std.proofs.Common.{append_assoc, sym}
use Rattle.lock_commands.proofs.run_command.line_of_sender.Goals as goal

pub returns : goal.returns
returns c = simp (append_assoc, sym c.order_of-order.ensures) c.format.ensures.ok
