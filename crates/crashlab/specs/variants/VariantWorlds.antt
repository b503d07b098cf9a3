-- A world of a variant as a machine: why its calls are refused, what they answer, and what they leave
-- (Variants of docs/dev/surface.md). The memory is the world's.
use Rattle.std.specs.Prelude.{◌≡◌, ℕ, zero, suc, ◌+◌, ◌<◌, nat_lt, if◌then◌else◌, List, [], ◌∷◌, length, replicate, slice_index_or, slice_set, Option, Some, None}
use Rattle.rmecore.specs.Machine.{kind_of, word_of, carried_value}
use Rattle.rmecore.specs.Simulated.{zeros, own_at}
use Rattle.rmecore.specs.declared.access.Access.{Access}
use Rattle.rmecore.specs.declared.outer.Outer.TheVariants.{Crash}
use Rattle.rmecore.specs.declared.own.Own.{Own}
use Rattle.rmecore.specs.declared.refusal.Refusal.{Refusal}
use Rattle.rmecore.specs.declared.refusal.Refusal.TheVariants.{NoSuchProcess, NothingToDo}
use Rattle.redomail.specs.declared.deed.Deed.{Deed}
use Rattle.redomail.specs.declared.deed.Deed.TheVariants.{Outer}
use Rattle.redomail.specs.declared.layout.Layout.{Layout}
use Rattle.redomail.specs.Layout.{words_of, size}
use Rattle.rmeworld.specs.Behaviours.{Behaviour}
use Rattle.rmeworld.specs.declared.call.Call.{Call}
use Rattle.rmeworld.specs.declared.image.Image.{Image}
use Rattle.rmeworld.specs.declared.outcome.Outcome.{Outcome}
use Rattle.rmeworld.specs.declared.stepped.Stepped.{Stepped}
use Rattle.rmeworld.specs.Refused.{start_refusal as process_state_refusal}
use Rattle.rmeworld.specs.Replayed.{words_by, cells_by, mail_by, or_else, the_deed, no_step}
use Rattle.rmeworld.specs.MachineState.{IsSize, process_state_of}
use Rattle.rmeworld.specs.World.{reading_of}
use Rattle.crashlab.specs.declared.variants.variant.Variant.{Variant}
use Rattle.crashlab.specs.declared.variants.variant.Variant.TheVariants.{Right}
use Rattle.crashlab.specs.variants.VariantStands.{VariantMachineState, variant_resting, variant_crashed, variant_next_access, variant_stepped, variant_outcome, variant_started}

-- a world of a variant
pub record VariantState : Type 0 where
  pub variant : Variant
  pub layout : Layout
  pub limit : ℕ
  pub words : List Own
  pub cells : List ℕ
  pub processes : List VariantMachineState

-- the process at an index that has none
abbrev pub absent_variant_process : VariantMachineState
absent_variant_process = variant_resting Right (record { procs = 0; cap = 0; width = 0 }) 0 0

-- process p of a world
abbrev pub machine_state_at : List VariantMachineState → ℕ → VariantMachineState
machine_state_at processes p = slice_index_or processes p absent_variant_process

-- process p of a world of this variant and size
abbrev pub HasVariantConfiguration : Variant → Layout → ℕ → ℕ → VariantMachineState → Type 0
HasVariantConfiguration variant l limit p s = (s.variant ≡ variant) × (s.machine_state.layout ≡ l) × (s.machine_state.limit ≡ limit) × (s.machine_state.index ≡ p)

-- the lists are as long as the sizes say, and each process has its index
pub record IsVariantConfigured (s : VariantState) : Type 0 where
  pub sized : IsSize s.layout
  pub words_each : length s.words ≡ s.layout.procs
  pub cells_each : length s.cells ≡ size s.layout
  pub processes_each : length s.processes ≡ s.layout.procs
  pub configurations : (p : ℕ) → p < s.layout.procs → HasVariantConfiguration s.variant s.layout s.limit p (machine_state_at s.processes p)

-- this many processes at rest, from p on
abbrev pub at_rest_from : Variant → Layout → ℕ → ℕ → ℕ → List VariantMachineState
at_rest_from variant l limit p zero = []
at_rest_from variant l limit p (suc n) = variant_resting variant l limit p ∷ at_rest_from variant l limit (p + 1) n

-- a new world: all words are 0, and all processes at rest
abbrev pub new_world : Variant → Layout → ℕ → VariantState
new_world variant l limit =
    record {
      variant = variant;
      layout = l;
      limit = limit;
      words = replicate l.procs zeros;
      cells = replicate (size l) 0;
      processes = at_rest_from variant l limit 0 l.procs;
    }

-- why a start is refused (the refusals of `start` of docs/dev/surface.md)
abbrev pub start_refusal : VariantState → ℕ → Call → Option Refusal
start_refusal s p call =
    if nat_lt p s.layout.procs then process_state_refusal s.layout (process_state_of (machine_state_at s.processes p).machine_state) call else Some NoSuchProcess

-- the world after a start
abbrev pub variant_after_start : VariantState → ℕ → Call → VariantState
variant_after_start s p call = record s { processes = slice_set s.processes p (variant_started (machine_state_at s.processes p) call) }

-- the next step of p
abbrev pub access_at : VariantState → ℕ → Option Access
access_at s p = variant_next_access (machine_state_at s.processes p)

-- the next step of p, where there is a process p
abbrev pub next_of : VariantState → ℕ → Option Access
next_of s p = if nat_lt p s.layout.procs then access_at s p else None

-- a step is refused where there is none
abbrev pub unless_step : Option Access → Option Refusal
unless_step None = Some NothingToDo
unless_step (Some a) = None

-- why a step is refused
abbrev pub advance_refusal : VariantState → ℕ → Option Refusal
advance_refusal s p = if nat_lt p s.layout.procs then unless_step (access_at s p) else Some NoSuchProcess

-- the word that an access finds
abbrev pub found_by : VariantState → Access → ℕ
found_by s a = reading_of (own_at s.words) (words_of s.cells) (word_of a)

-- the outcome of a step of p
abbrev pub outcome_of : VariantState → ℕ → Access → Outcome
outcome_of s p a = variant_outcome (machine_state_at s.processes p) (found_by s a)

-- the deeds of a step: the lock's, or that of a put
abbrev pub deeds_of : VariantState → ℕ → Access → List Deed
deeds_of s p a = or_else (outcome_of s p a).progress.outer (mail_by s.layout p (words_of s.cells) a)

-- what a step of p answers
abbrev pub stepped_by : VariantState → ℕ → Access → Stepped
stepped_by s p a =
    record {
      happened = record { kind = kind_of a; word = word_of a; value = carried_value a (found_by s a); outer = (outcome_of s p a).progress.outer; done = (outcome_of s p a).progress.done };
      deed = the_deed (deeds_of s p a);
      answer = (outcome_of s p a).answer;
    }

-- the world after a step of p
abbrev pub advanced_by : VariantState → ℕ → Access → VariantState
advanced_by s p a =
    record s {
      words = words_by s.words a;
      cells = cells_by s.cells a;
      processes = slice_set s.processes p (variant_stepped (machine_state_at s.processes p) (found_by s a));
    }

-- the same for a step that there may not be
abbrev pub stepped_if : VariantState → ℕ → Option Access → Stepped
stepped_if s p None = no_step
stepped_if s p (Some a) = stepped_by s p a

-- the same for a step that there may not be
abbrev pub advanced_if : VariantState → ℕ → Option Access → VariantState
advanced_if s p None = s
advanced_if s p (Some a) = advanced_by s p a

-- what the next step of p answers
abbrev pub variant_step_report : VariantState → ℕ → Stepped
variant_step_report s p = stepped_if s p (access_at s p)

-- the world after the next step of p
abbrev pub variant_after_step : VariantState → ℕ → VariantState
variant_after_step s p = advanced_if s p (access_at s p)

-- why a crash is refused
abbrev pub crash_refusal : VariantState → ℕ → Option Refusal
crash_refusal s p = if nat_lt p s.layout.procs then None else Some NoSuchProcess

-- the deed of a crash
abbrev pub crash_deed : ℕ → Deed
crash_deed p = Outer (Crash p)

-- the world after a crash
abbrev pub variant_after_crash : VariantState → ℕ → VariantState
variant_after_crash s p = record s { processes = slice_set s.processes p (variant_crashed (machine_state_at s.processes p)) }

-- the words of the world, with the sizes
abbrev pub image_of : VariantState → Image
image_of s = record { cap = s.layout.cap; cells = s.cells; limit = s.limit; lock = s.words; version = 2; width = s.layout.width }

-- the whole machine
abbrev pub variant_behaviour : Behaviour VariantState
variant_behaviour =
    record {
      start_refusal = start_refusal;
      started = variant_after_start;
      advance_refusal = advance_refusal;
      stepped = variant_step_report;
      advanced = variant_after_step;
      crash_refusal = crash_refusal;
      crash_deed = λ s p. crash_deed p;
      crashed = variant_after_crash;
      image_of = image_of;
    }
