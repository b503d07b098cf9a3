-- The state of a simulated core as contracts see it, and the world ("World") that it is.
use Rattle.std.specs.Prelude.{◌≡◌, ℕ, ◌+◌, ◌-◌, ◌^◌, ◌<◌, ◌≤◌, min, Bool, ◌&&◌, nat_lt, nat_le, if◌then◌else◌, List, length, slice_index_or, Option, Some, None, IsSome}
use Rattle.rmecore.specs.Place.{Event, Steps, Place, next}
use Rattle.rmecore.specs.World.{World, May, after}
use Rattle.rmecore.specs.Machine.{Standing, absent_process, owner}
use Rattle.rmecore.specs.Refused.{start_refusal, is_idle}
use Rattle.rmecore.specs.declared.happened.Happened.{Happened}
use Rattle.rmecore.specs.declared.refusal.Refusal.{Refusal}
use Rattle.rmecore.specs.declared.refusal.Refusal.TheVariants.{BadProcs, BadLimit, NoSuchProcess, NothingToDo, OutOfMemory}
use Rattle.rmecore.specs.declared.tally.Tally.{Tally}
use Rattle.rmecore.specs.declared.core_call.CoreCall.{CoreCall}
use Rattle.rmecore.specs.declared.own.Own.{Own}
use Rattle.rmecore.specs.declared.word.Word.{Word}

-- a simulated core: its sizes, the lock words, the processes and their counts
pub record Simulated : Type 0 where
  pub procs : ℕ
  pub limit : ℕ
  pub words : List Own
  pub processes : List Standing
  pub tallies : List Tally

abbrev pub zeros : Own
zeros = record { choosing = 0; number = 0; inside = 0 }

-- the lock words of a process. Zeros for an index that is no process
abbrev pub own_at : List Own → ℕ → Own
own_at words p = slice_index_or words p zeros

-- the process at an index, its place and its counts
abbrev pub standing_at : List Standing → ℕ → Standing
standing_at processes p = slice_index_or processes p absent_process

abbrev pub place_at : List Standing → ℕ → Place
place_at processes p = (standing_at processes p).place

abbrev pub tally_at : List Tally → ℕ → Tally
tally_at tallies p = slice_index_or tallies p (record { steps = 0; blocked = 0; began = zeros })

-- the world of a core
abbrev pub world_of : Simulated → World
world_of s = record { words = own_at s.words; places = place_at s.processes }

-- process p of n, with this limit
abbrev pub HasConfiguration : ℕ → ℕ → ℕ → Standing → Type 0
HasConfiguration n limit p s = (s.procs ≡ n) × (s.limit ≡ limit) × (s.index ≡ p)

-- the lists have one member for each process, in the order of their indices
pub record IsConfigured (n limit : ℕ) (words : List Own) (processes : List Standing) (tallies : List Tally) : Type 0 where
  pub words_each : length words ≡ n
  pub processes_each : length processes ≡ n
  pub tallies_each : length tallies ≡ n
  pub configurations : (p : ℕ) → p < n → HasConfiguration n limit p (standing_at processes p)

-- the definition allows the event, and the new world is the one after it
pub record Takes (old : Simulated) (event : Event) (new : Simulated) : Type 0 where
  pub may : May old.procs old.limit (world_of old) event
  pub world : world_of new ≡ after old.procs old.limit (world_of old) event
  pub procs : new.procs ≡ old.procs
  pub limit : new.limit ≡ old.limit

-- the event of a step's report
abbrev pub event_of : ℕ → Happened → Event
event_of p h = Steps p h.kind h.word h.value

-- where "Step" leaves a choice of words, the one of the least process is taken
abbrev pub ChoosesLeast : Simulated → ℕ → Happened → Type 0
ChoosesLeast old p h = (word : Word) (v : ℕ) → IsSome (next old.procs old.limit p (place_at old.processes p) h.kind word v) → owner h.word ≤ owner word

-- the refusal of a start
abbrev pub refusal_at : Simulated → ℕ → CoreCall → Option Refusal
refusal_at s p call = if nat_lt p s.procs then start_refusal (place_at s.processes p) call else Some NoSuchProcess

-- the refusal of a step
abbrev pub step_refusal : Simulated → ℕ → Option Refusal
step_refusal s p = if nat_lt p s.procs then (if is_idle (place_at s.processes p) then Some NothingToDo else None) else Some NoSuchProcess

-- plus one, saturating at the greatest u64
abbrev pub one_more : ℕ → ℕ
one_more x = min (x + 1) (2 ^ 64 - 1)

-- the counts after one more step
abbrev pub tally_after_step : Tally → Bool → Tally
tally_after_step t blocked = record { steps = one_more t.steps; blocked = if blocked then one_more t.blocked else t.blocked; began = t.began }

-- the counts at the start of a call
abbrev pub new_tally : Own → Tally
new_tally own = record { steps = 0; blocked = 0; began = own }

-- the refusal for a core of this size. Out of memory is not among them
abbrev pub new_refusal : ℕ → ℕ → Option Refusal
new_refusal procs limit =
    if nat_lt 0 procs && nat_le procs 64
    then (if nat_lt 0 limit && nat_le limit (2 ^ 62) then None else Some BadLimit)
    else Some BadProcs

-- the refusal as a cause. Out of memory has none
abbrev pub cause : Refusal → Option Refusal
cause OutOfMemory = None
cause e = Some e
