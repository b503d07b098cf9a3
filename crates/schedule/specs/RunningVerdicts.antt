-- The running verdict of a judge on the deeds of a run.
use Rattle.std.specs.Prelude.{◌≡◌, ℕ, List, [], ◌∷◌, ◌++◌, Result, Ok, Err}
use Rattle.rmecore.specs.declared.fault.Fault.{Fault}
use Rattle.redomail.specs.declared.deed.Deed.{Deed}
use Rattle.judge.specs.Table.{State, state_after_deed}
use Rattle.judge.specs.Kept.{Kept}
use Rattle.judge.specs.Stands.{Keeps}
use Rattle.schedule.specs.declared.replays.running_verdict.RunningVerdict.{RunningVerdict}
use Rattle.schedule.specs.declared.replays.verdict.Verdict.{Verdict}
use Rattle.schedule.specs.declared.replays.verdict.Verdict.TheVariants.{Fine, Against}
use Rattle.schedule.specs.Verdicts.{verdict_from}

-- before the first deed
abbrev pub first_running_verdict : RunningVerdict
first_running_verdict = record { number = 1; verdict = Fine }

-- a judge, and the running verdict on its answers
pub record RunningJudge : Type 0 where
  pub judge : Kept
  pub running_verdict : RunningVerdict

-- a judge with a running verdict
abbrev pub running_judge : Kept → RunningVerdict → RunningJudge
running_judge judge running_verdict = record { judge = judge; running_verdict = running_verdict }

-- the verdict after more deeds: the first that is not allowed decides
abbrev pub with_more : Verdict → ℕ → State → List Deed → Verdict
with_more Fine k s deeds = verdict_from k s deeds
with_more (Against at fault) k s deeds = Against at fault

-- unless it has refused a deed, the judge is in this state of the judge table
abbrev pub JudgeIsIn : RunningJudge → State → Type 0
JudgeIsIn b s = b.running_verdict.verdict ≡ Fine → Keeps b.judge s

-- the continuation where a deed is allowed, else this state
abbrev pub if_allowed : Result State Fault → (State → State) → State → State
if_allowed (Ok s) rest otherwise = rest s
if_allowed (Err fault) rest otherwise = otherwise

-- the state of the judge table after the deeds that come before the first that is not allowed
abbrev pub state_after_deeds : State → List Deed → State
state_after_deeds s [] = s
state_after_deeds s (d ∷ ds) = if_allowed (state_after_deed s d) (λ t. state_after_deeds t ds) s

-- the state after more deeds: after the first that is not allowed none is judged
abbrev pub heard_with : Verdict → State → List Deed → State
heard_with Fine s deeds = state_after_deeds s deeds
heard_with (Against at fault) s deeds = s

-- what giving these deeds to a judge makes of it and of its running verdict
abbrev pub Hears : RunningJudge → List Deed → RunningJudge → Type 0
Hears before deeds now =
    (s : State) → JudgeIsIn before s
    → (Keeps before.judge s → Keeps now.judge (heard_with before.running_verdict.verdict s deeds))
    × ((more : List Deed) → with_more before.running_verdict.verdict before.running_verdict.number s (deeds ++ more) ≡ with_more now.running_verdict.verdict now.running_verdict.number (heard_with before.running_verdict.verdict s deeds) more)
