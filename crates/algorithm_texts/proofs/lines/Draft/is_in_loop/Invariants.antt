use Rattle.std.proofs.Common.{◌≡◌, true}
use Rattle.algorithm_texts.specs.Drafts.{draft_view}
use Rattle.algorithm_texts.specs.Usage.{uses}
use Rattle.algorithm_texts.proofs.Fits.{IsOpen}
use Rattle.algorithm_texts.proofs.lines.Draft.is_in_loop.Given as goal

abbrev pub invariant-loop-at : goal.invariant-loop-at
invariant-loop-at l = (l.inside ≡ true → IsOpen (uses (draft_view l.self).lines) l.fn.call l.name l.at) × (IsOpen (uses (draft_view l.self).lines) l.fn.call l.name l.at → l.inside ≡ true)
