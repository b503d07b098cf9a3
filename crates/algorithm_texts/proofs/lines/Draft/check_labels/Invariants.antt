use Rattle.std.proofs.Common.{◌≡◌, ℕ, ◌<◌, ◌&&◌, true, Some, slice_get, position}
use Rattle.std.specs.Prelude.{bytes_eq}
use Rattle.algorithm_texts.specs.declared.lines.Label.{Label}
use Rattle.algorithm_texts.specs.Drafts.{draft_view}
use Rattle.algorithm_texts.specs.FinishedDrafts.{is_label_in}
use Rattle.algorithm_texts.proofs.lines.Draft.check_labels.Given as goal

-- the labels so far are the first of their names
abbrev pub invariant-loop-at : goal.invariant-loop-at
invariant-loop-at l = (j : ℕ) (b : Label) → j < l.at → slice_get (draft_view l.self).labels j ≡ Some b → is_label_in l.call b ≡ true
    → position (λ label. bytes_eq label.name b.name && is_label_in l.call label) (draft_view l.self).labels ≡ Some j
