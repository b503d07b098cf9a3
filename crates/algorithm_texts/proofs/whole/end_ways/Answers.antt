use Rattle.std.proofs.Common.{◌≡◌, Bool, true, false, ◌&&◌, refl, sym, ◌∙◌}
use Rattle.std.proofs.lemmas.Bool.{false≢true, both_ways}
use Rattle.algorithm_texts.specs.Drafts.{draft_view}
use Rattle.algorithm_texts.specs.UnreachedLines.{entries_marked, lines_stay}
use Rattle.algorithm_texts.proofs.RunChecks.{stay_too}
use Rattle.algorithm_texts.proofs.whole.end_ways.Goals as goal

both : (a b : Bool) → (a && b) ≡ true → (a ≡ true) × (b ≡ true)
both true b h = (refl, h)
both false b h = absurd (false≢true h)

pub returns-clause-lines : goal.returns-clause-lines
returns-clause-lines c =
    let h = both _ _ (sym c.runs_stay.ensures ∙ c.if-not-runs_stay.false) in
    record { marks = c.args.marks.now; exact = c.requires; begin = h.0; stay = h.1; ended = c.end_unmarked.ensures }

pub returns-then-not-runs_stay-clause-err : goal.returns-then-not-runs_stay-clause-err
returns-then-not-runs_stay-clause-err c = λ lines e.
    let d = draft_view c.args.draft.now in
    let marks = c.args.marks.now in
    both_ways (entries_marked marks d.head.entries && lines_stay d.head.least marks 0 d.lines) (sym c.runs_stay.ensures ∙ c.if-not-runs_stay.true)
    (stay_too d marks e.marks c.requires e.exact e.begin e.stay)
