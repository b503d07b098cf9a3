use Rattle.std.proofs.Common.{sym, ◌∙◌}
use Rattle.algorithm_texts.specs.Drafts.{draft_view}
use Rattle.algorithm_texts.proofs.RunFaults.{unreached, unreached_refused}
use Rattle.algorithm_texts.proofs.lines.Draft.check_reached.Goals as goal

pub returns-then-not-is_in-clause-first : goal.returns-then-not-is_in-clause-first
returns-then-not-is_in-clause-first c =
    unreached (draft_view c.args.self.now) c.args.call c.args.reached.now c.loop-place.place c.fault_at.result c.requires c.loop-place.auto.place c.loop-place-test.true
    (sym c.is_own_at.ensures ∙ c.if-is_own_at.true) (sym c.is_in.ensures ∙ c.if-not-is_in.true) c.loop-place.invariant c.fault_at.ensures

pub returns-then-not-is_in-clause-err : goal.returns-then-not-is_in-clause-err
returns-then-not-is_in-clause-err c =
    unreached_refused (draft_view c.args.self.now) c.args.call c.fault_at.result
    (unreached (draft_view c.args.self.now) c.args.call c.args.reached.now c.loop-place.place c.fault_at.result c.requires c.loop-place.auto.place c.loop-place-test.true
    (sym c.is_own_at.ensures ∙ c.if-is_own_at.true) (sym c.is_in.ensures ∙ c.if-not-is_in.true) c.loop-place.invariant c.fault_at.ensures)
