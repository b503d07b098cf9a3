-- Words after a crash of every process, and the state of the abstract lock that they give. The words alone decide which
-- process is in its doorway, which waits and which crashed inside ("Restart table").
use Rattle.std.specs.Prelude.{◌≡◌, ◌≢◌, ℕ, zero, suc, ◌<◌, ◌≤◌, Bool, true, false, ◌&&◌, ◌⊎◌}
use Rattle.rmecore.specs.Place.{Dead, is_before}
use Rattle.rmecore.specs.World.{World}
use Rattle.rmecore.specs.AbstractLock.{Abstract, is_ready}
use Rattle.rmecore.specs.declared.phase.Phase.{Phase}
use Rattle.rmecore.specs.declared.phase.Phase.TheVariants.{Out, Door, Ready, DeadIn}
use Rattle.rmecore.specs.declared.own.Own.{Own}

-- one of the six rows of the restart table, with a number up to limit
pub record IsRow (limit : ℕ) (x : Own) : Type 0 where
  pub choosing : x.choosing ≤ 1
  pub number : x.number ≤ limit
  pub inside : x.inside ≤ 1
  pub row : (x.choosing ≡ 0) ⊎ (x.inside ≡ 0)

-- the process inside has the least pair of all that hold a number, so there is at most one
pub record IsLawful (n limit : ℕ) (words : ℕ → Own) : Type 0 where
  pub rows : (p : ℕ) → IsRow limit (words p)
  pub least : (p q : ℕ) → p < n → q < n → q ≢ p → 0 < (words p).number → 0 < (words p).inside → 0 < (words q).number → is_before (words p).number p (words q).number q ≡ true

-- every process has crashed, with these words
abbrev pub all_dead : (ℕ → Own) → World
all_dead words = record { words = words; places = λ p. Dead }

-- the phase of a crashed process, by its words
abbrev pub dead_phase : (choosing number inside : ℕ) → Phase
dead_phase zero zero i = Out
dead_phase (suc c) zero i = Door
dead_phase c (suc k) zero = Ready
dead_phase c (suc k) (suc i) = DeadIn

abbrev pub phase_by : Own → Phase
phase_by x = dead_phase x.choosing x.number x.inside

-- whether q with words y is ahead of p with words x, for p's phase
abbrev pub is_ahead : Phase → ℕ → Own → ℕ → Own → Bool
is_ahead Door p x q y = is_ready (phase_by y)
is_ahead Ready p x q y = is_ready (phase_by y) && is_before y.number q x.number p
is_ahead _ p x q y = false

-- "The start of an image", the lock's part: the phases of all processes, and their ahead sets
abbrev pub start_of : (ℕ → Own) → Abstract
start_of words = record { phase = λ p. phase_by (words p); ahead = λ p q. is_ahead (phase_by (words p)) p (words p) q (words q) }
