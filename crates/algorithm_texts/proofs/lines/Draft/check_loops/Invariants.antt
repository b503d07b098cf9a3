use Rattle.std.proofs.Common.{◌≡◌, ℕ, ◌<◌, true}
use Rattle.algorithm_texts.specs.Drafts.{draft_view}
use Rattle.algorithm_texts.specs.Lawful.{HasLoop}
use Rattle.algorithm_texts.specs.Usage.{sets, uses, passes_at}
use Rattle.algorithm_texts.proofs.lines.Draft.check_loops.Given as goal

-- the names so far are of no loop where they are set
abbrev pub invariant-loop-name : goal.invariant-loop-name
invariant-loop-name l = (name : ℕ) → name < l.name → passes_at (sets name) (uses (draft_view l.self).lines) l.place ≡ true
    → HasLoop (uses (draft_view l.self).lines) l.call name → ⊥
