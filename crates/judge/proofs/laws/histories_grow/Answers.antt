use Rattle.std.proofs.Common.{◌∙◌, [], ◌∷◌, ap, Ok, lt-ltb}
use Rattle.judge.proofs.Common.{doer, and_then, lock_needs, mail_needs}
use Rattle.judge.proofs.Halves.{AllHold-append, judged-allowed}
use Rattle.judge.proofs.Histories.{judged_all-append}
use Rattle.judge.proofs.laws.histories_grow.Goals as goal

pub returns-clause-deed : goal.returns-clause-deed
returns-clause-deed c s deed below lock mail =
    judged-allowed s deed (lt-ltb (doer deed) s.procs below, AllHold-append (lock_needs s deed) (mail_needs s deed) lock mail)

pub returns-clause-grow : goal.returns-clause-grow
returns-clause-grow c s t u history deed leads next =
    judged_all-append s t history (deed ∷ []) leads ∙ ap (λ r. and_then r (λ v. Ok v)) next

pub returns-clause-go_on : goal.returns-clause-go_on
returns-clause-go_on c s t u history later leads next = judged_all-append s t history later leads ∙ next
