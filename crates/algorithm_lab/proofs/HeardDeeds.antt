-- What is reported, judged deed by deed.
use Rattle.std.proofs.Common.{ℕ, ◌+◌, ◌<◌, List, [], ◌∷◌, ◌++◌, length, get_or, take}
use Rattle.std.proofs.lemmas.List.{take_more}
use Rattle.schedule.proofs.Heard.{hears_both}
use Rattle.schedule.specs.RunningVerdicts.{RunningJudge, Hears}
use Rattle.algorithm_lab.proofs.Runs.{deeds_append}
use Rattle.algorithm_lab.specs.Runs.{deeds_of}
use Rattle.algorithm_lab.specs.declared.run_report.TextReport.{TextReport}

-- one more is judged
hears_one : (first mid now : RunningJudge) (reports : List TextReport) (one : TextReport) → Hears first (deeds_of reports) mid → Hears mid (deeds_of (one ∷ [])) now → Hears first (deeds_of (reports ++ one ∷ [])) now
hears_one first mid now reports one before after =
    rw (deeds_append reports (one ∷ [])) (hears_both first mid now (deeds_of reports) (deeds_of (one ∷ [])) before after)

-- the next one is judged
pub hears_next : (first mid now : RunningJudge) (reports : List TextReport) (i : ℕ) (d : TextReport) → i < length reports → Hears first (deeds_of (take i reports)) mid → Hears mid (deeds_of (get_or reports i d ∷ [])) now
    → Hears first (deeds_of (take (i + 1) reports)) now
hears_next first mid now reports i d within before after =
    rw (take_more reports i d within) (hears_one first mid now (take i reports) (get_or reports i d) before after)
