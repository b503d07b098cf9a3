use Rattle.std.proofs.Common.{◌≡◌, ◌+◌, length, ◌∙◌, inl, inr, arith}
use Rattle.algorithm_texts.specs.Drafts.{draft_view}
use Rattle.algorithm_texts.proofs.RoundMarks.{round_local}
use Rattle.algorithm_texts.proofs.lines.Draft.mark_rounds.Goals as goal

pub returns-clause-rounds : goal.returns-clause-rounds
returns-clause-rounds c =
    c.take_all.ensures.rounds
    (λ at h.
    let l = round_local (draft_view c.args.self.now) c.args.call c.args.reached.now c.requires.reached at h in
    let line = l.1 in
    let size : length c.mark_local.new.left ≡ length (draft_view c.args.self.now).lines + 1 = c.mark_local.ensures.size ∙ c.requires.size in
    c.mark_local.ensures.marked at l.0 (omega (arith, line, size)))

pub returns-clause-local : goal.returns-clause-local
returns-clause-local c = λ at h. elim (c.mark_local.ensures.comes at (c.take_all.ensures.fewer at h)) [
  | inl k ↦ absurd (c.requires.none at k)
  | inr l ↦ l
]
