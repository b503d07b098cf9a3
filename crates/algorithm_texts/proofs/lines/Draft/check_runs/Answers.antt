use Rattle.std.proofs.Common.{sym, subst}
use Rattle.algorithm_texts.specs.Drafts.{draft_view}
use Rattle.algorithm_texts.specs.Marks.{MarksReached}
use Rattle.algorithm_texts.proofs.lines.Draft.check_runs.Goals as goal

pub check_places-requires : goal.check_places-requires
check_places-requires c =
    subst (λ ms. MarksReached (draft_view c.args.self.now) c.args.call ms) (sym c.as_slice.ensures.value)
    (record { size = c.in_ok-reached.ensures.size; comes = c.in_ok-reached.ensures.comes; all = c.in_ok-reached.ensures.all })

pub returns-clause-marks : goal.returns-clause-marks
returns-clause-marks c = record { size = c.in_ok-reached.ensures.size; comes = c.in_ok-reached.ensures.comes; all = c.in_ok-reached.ensures.all }
