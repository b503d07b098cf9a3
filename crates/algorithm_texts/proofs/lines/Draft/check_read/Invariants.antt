use Rattle.std.proofs.Common.{◌≡◌, ℕ, ◌<◌, true}
use Rattle.algorithm_texts.specs.Drafts.{draft_view}
use Rattle.algorithm_texts.specs.Lawful.{IsKnown}
use Rattle.algorithm_texts.specs.Usage.{reads, uses, passes_at}
use Rattle.algorithm_texts.proofs.lines.Draft.check_read.Given as goal

-- the names so far are known where they are read
abbrev pub invariant-loop-name : goal.invariant-loop-name
invariant-loop-name l = (name : ℕ) → name < l.name → passes_at (reads name) (uses (draft_view l.self).lines) l.place ≡ true
    → IsKnown (uses (draft_view l.self).lines) l.call (draft_view l.self).lasting name l.place
