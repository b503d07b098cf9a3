-- What a hunt finds: a schedule whose deeds, on a new world of the variant, are legal but for the last.
use Rattle.std.specs.Prelude.{◌≡◌, ℕ, zero, suc, ◌+◌, ◌≤◌, Bool, true, false, if◌then◌else◌, List, [], ◌∷◌, ◌++◌, map, None, is_some, Err}
use Rattle.std.specs.List.{range_with_len}
use Rattle.rmecore.specs.declared.fault.Fault.{Fault}
use Rattle.redomail.specs.declared.deed.Deed.{Deed}
use Rattle.redomail.specs.declared.layout.Layout.{Layout}
use Rattle.judge.specs.Table.{empty_state}
use Rattle.judge.specs.Legal.{judged_all, IsLegal}
use Rattle.judge.specs.Kept.{Kept}
use Rattle.judge.specs.Stands.{StandsAfter}
use Rattle.rmeworld.specs.Replayed.{list_of}
use Rattle.schedule.specs.declared.lines.line.Line.{Line}
use Rattle.schedule.specs.declared.lines.line.Line.TheVariants.{Start, Step, Crash, CrashAll}
use Rattle.schedule.specs.Schedules.{Scheduled}
use Rattle.crashlab.specs.declared.variants.variant.Variant.{Variant}
use Rattle.crashlab.specs.variants.VariantWorlds.{VariantState, new_world, start_refusal, variant_after_start, advance_refusal, variant_step_report, variant_after_step, crash_refusal, crash_deed, variant_after_crash}

-- the sizes of a hunt's world (the hunt's drawing rule of docs/dev/surface.md)
abbrev pub hunt_layout : Layout
hunt_layout = record { procs = 3; cap = 64; width = 1 }

-- a new world of a hunt
abbrev pub first_world : Variant → VariantState
first_world variant = new_world variant hunt_layout 1000000

-- the next step of p ends its call
abbrev pub is_answered : VariantState → ℕ → Bool
is_answered s p = is_some (variant_step_report s p).answer

-- the world after a line; steps end with the answer of their call
abbrev pub after_steps : VariantState → ℕ → ℕ → VariantState
after_steps s p zero = s
after_steps s p (suc k) = if is_answered s p then variant_after_step s p else after_steps (variant_after_step s p) p k

-- the world after crashes of p and of the n - 1 processes after it
abbrev pub after_crashes : VariantState → ℕ → ℕ → VariantState
after_crashes s p zero = s
after_crashes s p (suc n) = after_crashes (variant_after_crash s p) (p + 1) n

-- the world after a line
abbrev pub after_line : VariantState → Line → VariantState
after_line s (Start p call) = variant_after_start s p call
after_line s (Step p k) = after_steps s p k
after_line s (Crash p) = variant_after_crash s p
after_line s CrashAll = after_crashes s 0 s.layout.procs

-- the deeds of a line
abbrev pub deeds_of_steps : VariantState → ℕ → ℕ → List Deed
deeds_of_steps s p zero = []
deeds_of_steps s p (suc k) = list_of (variant_step_report s p).deed ++ (if is_answered s p then [] else deeds_of_steps (variant_after_step s p) p k)

-- the deeds of a line
abbrev pub deeds_of_line : VariantState → Line → List Deed
deeds_of_line s (Start p call) = []
deeds_of_line s (Step p k) = deeds_of_steps s p k
deeds_of_line s (Crash p) = crash_deed p ∷ []
deeds_of_line s CrashAll = map crash_deed (range_with_len 0 s.layout.procs)

-- nothing of a line is refused
abbrev pub Unless : Bool → Type 0 → Type 0
Unless true P = Unit {0}
Unless false P = P

-- k steps of p, up to the answer of its call, are not refused
abbrev pub MaySteps : VariantState → ℕ → ℕ → Type 0
MaySteps s p zero = Unit {0}
MaySteps s p (suc k) = (advance_refusal s p ≡ None) × Unless (is_answered s p) (MaySteps (variant_after_step s p) p k)

-- nothing of a line is refused. A crash of all never is; a world has at most 64 processes
abbrev pub MayLine : VariantState → Line → Type 0
MayLine s (Start p call) = start_refusal s p call ≡ None
MayLine s (Step p k) = MaySteps s p k
MayLine s (Crash p) = crash_refusal s p ≡ None
MayLine s CrashAll = s.layout.procs ≤ 64

-- the same for a list of lines
abbrev pub after_lines : VariantState → List Line → VariantState
after_lines s [] = s
after_lines s (line ∷ lines) = after_lines (after_line s line) lines

-- the deeds of lines
abbrev pub deeds_of_lines : VariantState → List Line → List Deed
deeds_of_lines s [] = []
deeds_of_lines s (line ∷ lines) = deeds_of_line s line ++ deeds_of_lines (after_line s line) lines

-- nothing of lines is refused
abbrev pub MayLines : VariantState → List Line → Type 0
MayLines s [] = Unit {0}
MayLines s (line ∷ lines) = MayLine s line × MayLines (after_line s line) lines

-- a schedule of a hunt's world
pub record IsOfHunt (schedule : Scheduled) : Type 0 where
  pub procs : schedule.procs ≡ 3
  pub limit : schedule.limit ≡ 1000000
  pub cap : schedule.cap ≡ 64
  pub width : schedule.width ≡ 1

-- the schedule runs on a new world of the variant, and its deeds are legal but for the last, which the judge refuses
pub record IsFound (variant : Variant) (schedule : Scheduled) : Type 0 where
  pub size : IsOfHunt schedule
  pub runs : MayLines (first_world variant) schedule.lines
  pub before : List Deed
  pub last : Deed
  pub fault : Fault
  pub deeds : deeds_of_lines (first_world variant) schedule.lines ≡ before ++ last ∷ []
  pub legal : IsLegal 3 64 before
  pub refused : judged_all (empty_state 3 64) (before ++ last ∷ []) ≡ Err fault

-- a line of one move
abbrev pub IsOneMove : Line → Type 0
IsOneMove (Start p call) = Unit {0}
IsOneMove (Step p k) = k ≡ 1
IsOneMove (Crash p) = Unit {0}
IsOneMove CrashAll = Unit {0}

-- the last line is one move, and the deeds of the lines before it are legal: so the deed that is refused is that of the last
-- line, and nothing follows it
pub record EndsAtRefusal (variant : Variant) (schedule : Scheduled) : Type 0 where
  pub front : List Line
  pub last : Line
  pub lines : schedule.lines ≡ front ++ last ∷ []
  pub one : IsOneMove last
  pub legal : IsLegal 3 64 (deeds_of_lines (first_world variant) front)

-- a round so far: the world is the one after the schedule, and the judge was given the schedule's deeds
pub record IsPlayed (variant : Variant) (schedule : Scheduled) (world : VariantState) (judge : Kept) : Type 0 where
  pub size : IsOfHunt schedule
  pub runs : MayLines (first_world variant) schedule.lines
  pub reached : world ≡ after_lines (first_world variant) schedule.lines
  pub stands : StandsAfter (empty_state 3 64) (deeds_of_lines (first_world variant) schedule.lines) judge
