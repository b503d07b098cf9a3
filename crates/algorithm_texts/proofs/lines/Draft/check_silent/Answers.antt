use Rattle.std.proofs.Common.{sym, ◌∙◌}
use Rattle.algorithm_texts.specs.Drafts.{draft_view}
use Rattle.algorithm_texts.proofs.RunChecks.{within_at}
use Rattle.algorithm_texts.proofs.RunFaults.{seen_first}
use Rattle.algorithm_texts.proofs.lines.Draft.check_silent.Goals as goal

pub returns-then-is_seen_at-clause-first : goal.returns-then-is_seen_at-clause-first
returns-then-is_seen_at-clause-first c =
    seen_first (draft_view c.args.self.now) c.args.call c.args.silent.now c.loop-place.place c.fault_at.result
    (record {
      within = within_at c.args.call c.loop-place.place c.loop-place.auto.place c.loop-place-test.true;
      seen = sym c.is_seen_at.ensures ∙ c.if-is_seen_at.true;
      marked = sym c.is_in.ensures ∙ c.if-is_in.true;
    }) c.loop-place.invariant c.fault_at.ensures
