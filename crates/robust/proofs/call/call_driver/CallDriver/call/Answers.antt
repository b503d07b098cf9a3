use Rattle.robust.proofs.CallCommon.{called_counts, few_begun}
use Rattle.robust.proofs.call.call_driver.CallDriver.call.Goals as goal

pub returns-in-Ok-clause-table : goal.returns-in-Ok-clause-table
returns-in-Ok-clause-table g c =
    called_counts c.args.self.now c.begin.new.self c.serve.new.self c.args.call.now _ _ c.serve.result c.in-Ok.ensures.accepted.1 c.in-Ok.ensures.seat_view c.serve.ensures.answered

pub returns-in-Ok-clause-few : goal.returns-in-Ok-clause-few
returns-in-Ok-clause-few g c = λ none. few_begun c.args.self.now c.begin.new.self c.serve.new.self c.args.call.now c.in-Ok.ensures.accepted.1 c.serve.ensures.few
