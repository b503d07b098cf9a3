use Rattle.redomail.specs.Left.{script_left}
use Rattle.rmeworld.proofs.Storing.{goes_on, replied}
use Rattle.rmeworld.proofs.process.in_place.reply_of.Goals as goal

pub returns-clause-done : goal.returns-clause-done
returns-clause-done c = replied (script_left c.args.job.now) c.reply.result c.reply.ensures

pub returns-clause-goes_on : goal.returns-clause-goes_on
returns-clause-goes_on c = λ none. goes_on (script_left c.args.job.now) c.reply.result c.reply.ensures none
