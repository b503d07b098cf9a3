use Rattle.rmecore.proofs.Payments.{pays, fewer, fresh_start}
use Rattle.rmecore.proofs.laws.steps_of_a_call.Goals as goal

pub returns-clause-each : goal.returns-clause-each
returns-clause-each c = λ n limit p c' k i place kind word v steps below some not_glance reads h. (pays n p below limit c' k i place kind word v steps some not_glance reads h).0

pub returns-clause-answered : goal.returns-clause-answered
returns-clause-answered c = λ n limit p c' k i place kind word v steps below some not_glance reads h. (pays n p below limit c' k i place kind word v steps some not_glance reads h).1

pub returns-clause-most : goal.returns-clause-most
returns-clause-most c = fewer

pub returns-clause-fresh_start : goal.returns-clause-fresh_start
returns-clause-fresh_start c = fresh_start
