-- A schedule that goes wrong on a variant, minimized.
use Rattle.std.specs.Prelude.{◌≡◌, ℕ, Option, Some, None, Result, Ok, Err}
use Rattle.rmecore.specs.declared.fault.Fault.{Fault}
use Rattle.rmecore.specs.declared.refusal.Refusal.{Refusal}
use Rattle.rmecore.specs.Refused.{number_of}
use Rattle.judge.specs.Table.{empty_state}
use Rattle.rmeworld.specs.WorldState.{new_refusal}
use Rattle.schedule.specs.declared.replays.verdict.Verdict.{Verdict}
use Rattle.schedule.specs.declared.replays.verdict.Verdict.TheVariants.{Fine, Against}
use Rattle.schedule.specs.declared.replays.replay_fault.ReplayFault.{ReplayFault}
use Rattle.schedule.specs.declared.replays.replay_fault.ReplayFault.TheVariants.{Refused, OutOfMemory}
use Rattle.schedule.specs.Schedules.{Scheduled}
use Rattle.schedule.specs.Wholes.{layout_of}
use Rattle.schedule.specs.Verdicts.{number_of_fault, verdict_on}
use Rattle.schedule.specs.Runs.{Part, deeds_of, run_on}
use Rattle.crashlab.specs.declared.variants.variant.Variant.{Variant}
use Rattle.crashlab.specs.variants.VariantWorlds.{VariantState, new_world, variant_behaviour}
use Rattle.crashlab.specs.minimization.Least.{IsShrunk}

-- ---- the run of a schedule and its verdict

-- the run of a schedule on a new world of the variant
unfoldable pub variant_run : Variant → Scheduled → Part VariantState (ℕ × Refusal)
variant_run variant schedule = run_on variant_behaviour 2 (new_world variant (layout_of schedule) schedule.limit) schedule.lines

-- a refusal of the header, or else of a line
abbrev pub at_header : Option Refusal → Option (ℕ × Refusal) → Option (ℕ × Refusal)
at_header None rest = rest
at_header (Some refusal) rest = Some (1, refusal)

-- the line that is refused: the header, where no world has the sizes
abbrev pub refusal_of : Variant → Scheduled → Option (ℕ × Refusal)
refusal_of variant schedule = at_header (new_refusal (layout_of schedule) schedule.limit) (variant_run variant schedule).refused

-- the verdict on the run of a schedule on the variant
abbrev pub verdict_of : Variant → Scheduled → Verdict
verdict_of variant schedule = verdict_on (empty_state schedule.procs schedule.cap) (deeds_of (variant_run variant schedule).reports)

-- the variant's world refuses nothing of the schedule, and the verdict on its run is against this number
pub record GoesWrong (variant : Variant) (number : ℕ) (schedule : Scheduled) : Type 0 where
  pub accepted : refusal_of variant schedule ≡ None
  pub at : ℕ
  pub fault : Fault
  pub verdict : verdict_of variant schedule ≡ Against at fault
  pub number_is : number_of_fault fault ≡ number

-- ---- minimized

-- what minimizing answers: none where all deeds are allowed, else a least schedule that goes wrong by the same number
abbrev pub Shrinks : Variant → Scheduled → Option Scheduled → Type 0
Shrinks variant schedule None = (refusal_of variant schedule ≡ None) × (verdict_of variant schedule ≡ Fine)
Shrinks variant schedule (Some least) = (number : ℕ) × GoesWrong variant number schedule × IsShrunk (GoesWrong variant number) schedule least

-- why it answers no schedule: the line that is refused, as a replay answers it
abbrev pub IsReason : Variant → Scheduled → ReplayFault → Type 0
IsReason variant schedule (Refused line number) = (refusal : Refusal) × (refusal_of variant schedule ≡ Some (line, refusal)) × (number_of refusal ≡ Some number)
IsReason variant schedule OutOfMemory = Unit {0}
IsReason variant schedule fault = ⊥

-- what playing it answers
abbrev pub PlayAnswers : Variant → Scheduled → Result Verdict ReplayFault → Type 0
PlayAnswers variant schedule (Ok verdict) = (refusal_of variant schedule ≡ None) × (verdict ≡ verdict_of variant schedule)
PlayAnswers variant schedule (Err fault) = IsReason variant schedule fault
