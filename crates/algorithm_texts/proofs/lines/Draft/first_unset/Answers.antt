use Rattle.std.proofs.Common.{◌≡◌, true, sym, subst}
use Rattle.algorithm_texts.specs.Drafts.{draft_view}
use Rattle.algorithm_texts.specs.FinishedDrafts.{is_in}
use Rattle.algorithm_texts.proofs.RunChecks.{unset_of}
use Rattle.algorithm_texts.proofs.RunFaults.{unset_before}
use Rattle.algorithm_texts.proofs.lines.Draft.first_unset.Goals as goal

pub returns-clause-reads : goal.returns-clause-reads
returns-clause-reads c =
    let d = draft_view c.args.self.now in
    unset_of d c.args.call c.args.name c.as_slice.result.now
    (λ at h. c.in_ok-without.ensures.comes at (subst (λ ms. is_in ms at ≡ true) c.as_slice.ensures.value h))
    (λ at within h. subst (λ ms. is_in ms at ≡ true) (sym c.as_slice.ensures.value) (c.in_ok-without.ensures.all at within h))
    c.first_read.result c.first_read.ensures.reads

pub returns-clause-first : goal.returns-clause-first
returns-clause-first c =
    let d = draft_view c.args.self.now in
    unset_before d c.args.call c.args.name c.as_slice.result.now
    (λ at within h. subst (λ ms. is_in ms at ≡ true) (sym c.as_slice.ensures.value) (c.in_ok-without.ensures.all at within h))
    c.first_read.result c.first_read.ensures.first
