use Rattle.std.proofs.Common.{◌≡◌, ap}
use Rattle.one_lock.proofs.LabCommon.{AllSent, Member, fault_by}
use Rattle.table_runs.specs.declared.lab.lab_fault.LabFault.TheVariants.{Reply}
use Rattle.one_lock.proofs.Endings.{all_more, all_of, is_of_least}
use Rattle.one_lock.proofs.lab.crew.least_fault.Goals as goal

pub loop-p-preserved : goal.loop-p-preserved
loop-p-preserved g c = all_more (λ e. e ≡ AllSent) (λ d. d.ending) c.args.ended.now c.loop-p.p _ c.loop-p-test.true c.loop-p.invariant c.in-AllSent.is

pub returns-clause-none : goal.returns-clause-none
returns-clause-none g c = λ none. all_of (λ e. e ≡ AllSent) (λ d. d.ending) c.args.ended.now c.loop-p.p c.loop-p-test.false c.loop-p.invariant

pub returns-in-Fault-clause-least : goal.returns-in-Fault-clause-least
returns-in-Fault-clause-least g c =
    is_of_least (λ d. d.ending) c.args.ended.now c.loop-p.p _ (Member c.loop-p.p c.in-Fault.fault) c.loop-p-test.true c.loop-p.invariant (ap (fault_by c.loop-p.p) c.in-Fault.is)

pub returns-in-Refused-clause-least : goal.returns-in-Refused-clause-least
returns-in-Refused-clause-least g c =
    is_of_least (λ d. d.ending) c.args.ended.now c.loop-p.p _ (Reply c.loop-p.p c.in-Refused.reply) c.loop-p-test.true c.loop-p.invariant (ap (fault_by c.loop-p.p) c.in-Refused.is)
