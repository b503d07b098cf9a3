use Rattle.std.proofs.Common.{◌≡◌, true}
use Rattle.algorithm_texts.specs.FinishedDrafts.{is_in}
use Rattle.algorithm_texts.proofs.RunMarks.{MarkedSo}
use Rattle.algorithm_texts.proofs.flow.mark_all.Given as goal

-- the places so far are marked that are reached
abbrev pub invariant-loop-place : goal.invariant-loop-place
invariant-loop-place l = MarkedSo l.fn.call.«from» (λ at. is_in l.reached at ≡ true) l.initial.marks l.marks l.place
