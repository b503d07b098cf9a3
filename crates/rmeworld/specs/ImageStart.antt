-- "The start of an image" for a judge.
use Rattle.std.specs.Prelude.{◌≡◌, ℕ, ◌⊎◌, length, map}
use Rattle.rmecore.specs.Lawful.{phase_by, start_of}
use Rattle.rmecore.specs.Simulated.{own_at}
use Rattle.rmecore.specs.declared.refusal.Refusal.{Refusal}
use Rattle.rmecore.specs.declared.refusal.Refusal.TheVariants.{BadImage, OutOfMemory}
use Rattle.redomail.specs.Layout.{words_of}
use Rattle.redomail.specs.Shape.{mailbox_of}
use Rattle.judge.specs.Starts.{is_ahead, state_of}
use Rattle.judge.specs.declared.start.Start.{Start}
use Rattle.rmeworld.specs.declared.image.Image.{Image}
use Rattle.rmeworld.specs.ImageRules.{layout_of, IsInsideByImage, IsLawfulImage, IsFirstBroken}

-- no process other than p is in the section
abbrev pub IsInAlone : Image → ℕ → Type 0
IsInAlone i p = (q : ℕ) → IsInsideByImage i q → q ≡ p

-- phases and ahead sets are those of the lock words, the mailbox is that of the data words with the process inside
pub record IsStartOf (i : Image) (s : Start) : Type 0 where
  pub procs : s.procs ≡ length i.lock
  pub cap : s.cap ≡ i.cap
  pub phases : s.phases ≡ map phase_by i.lock
  pub sets : length s.ahead ≡ length i.lock
  pub ahead : (p q : ℕ) → is_ahead s p q ≡ (start_of (own_at i.lock)).ahead p q
  pub mail : (p : ℕ) → IsInAlone i p → (state_of s).mail ≡ mailbox_of (layout_of i) p (words_of i.cells)

-- why an image has no start: its first broken rule, or out of memory
abbrev pub IsUnstarted : Image → Refusal → Type 0
IsUnstarted i e = ((rule : ℕ) × IsFirstBroken rule i × (e ≡ BadImage rule)) ⊎ (IsLawfulImage i × (e ≡ OutOfMemory))
