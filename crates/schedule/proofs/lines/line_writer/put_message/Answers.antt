use Rattle.std.proofs.Common.{append_assoc, rules}
use Rattle.schedule.proofs.LinesCommon.{decimal}
use Rattle.schedule.proofs.Spaced.{join_spaced}
use Rattle.schedule.proofs.lines.line_writer.put_message.Goals as goal

pub returns : goal.returns
returns c = rw (join_spaced (decimal c.args.seq) c.args.value.now) (search (rules, append_assoc))
