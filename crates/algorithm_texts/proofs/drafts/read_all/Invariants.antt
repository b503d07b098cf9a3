use Rattle.std.proofs.Common.{◌≡◌, map, drop}
use Rattle.algorithms.specs.declared.fault.AlgorithmFault.{AlgorithmFault}
use Rattle.algorithm_texts.specs.Drafts.{draft_view}
use Rattle.algorithm_texts.specs.TextLines.{spoken_of}
use Rattle.algorithm_texts.specs.TextDrafts.{read_lines}
use Rattle.algorithm_texts.specs.TextFaults.{IsFaultOfForms}
use Rattle.algorithm_texts.proofs.drafts.read_all.Given as goal

-- the lines that are left make of the draft what all make, and the fault of those that are left is that of all
abbrev pub invariant-loop-line : goal.invariant-loop-line
invariant-loop-line l = record {
  made : read_lines (draft_view l.fn.draft) (map spoken_of l.lines) ≡ read_lines (draft_view l.draft) (map spoken_of (drop l.line-index l.lines));
  faults : (fault : AlgorithmFault) → IsFaultOfForms (draft_view l.draft) (map spoken_of (drop l.line-index l.lines)) fault
      → IsFaultOfForms (draft_view l.fn.draft) (map spoken_of l.lines) fault;
}
