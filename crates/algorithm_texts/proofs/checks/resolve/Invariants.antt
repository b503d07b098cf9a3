use Rattle.std.proofs.Common.{◌≡◌, ℕ, map, drop}
use Rattle.std.specs.List.{find}
use Rattle.algorithm_texts.specs.Drafts.{line_of}
use Rattle.algorithm_texts.specs.FinishedDrafts.{jumps_led}
use Rattle.algorithm_texts.specs.TextFaults.{leads_nowhere, number_at}
use Rattle.algorithm_texts.proofs.checks.resolve.Given as goal

-- the gotos that are left lead where all do, the first lost one is among them, and lines keep their numbers
abbrev pub invariant-loop-jump : goal.invariant-loop-jump
invariant-loop-jump l = record {
  led : jumps_led l.labels l.blocks l.call (drop l.jump-index l.jumps) (map line_of l.lines.items)
      ≡ jumps_led l.labels l.blocks l.call l.jumps (map line_of l.initial.lines.items);
  left : find (leads_nowhere l.labels l.blocks l.call) (drop l.jump-index l.jumps) ≡ find (leads_nowhere l.labels l.blocks l.call) l.jumps;
  numbers : (k : ℕ) → number_at (map line_of l.lines.items) k ≡ number_at (map line_of l.initial.lines.items) k;
}
