use Rattle.std.proofs.Common.{ℕ, ◌<◌}
use Rattle.std.specs.Prelude.{IfSome, MatchOption}
use Rattle.algorithm_texts.specs.Drafts.{draft_view}
use Rattle.algorithm_texts.specs.Runs.{ReadsUnset}
use Rattle.algorithm_texts.proofs.RunFaults.{NoneBefore}
use Rattle.algorithm_texts.proofs.lines.Draft.check_set.Given as goal

-- the names so far are set before they are read, or one of them is not, and before that place each is
abbrev pub invariant-loop-name : goal.invariant-loop-name
invariant-loop-name l =
    MatchOption l.first ((name at : ℕ) → name < l.name → ReadsUnset (draft_view l.self) l.call name at → ⊥)
    (λ at. (name : ℕ) × (name < l.name) × ReadsUnset (draft_view l.self) l.call name at)
    × IfSome l.first (NoneBefore (draft_view l.self) l.call l.name)
