-- Remote memory references, the measure of mutual exclusion locks (Anderson, Kim, Herman: Shared-memory mutual exclusion: major
-- research trends since 1986, Distributed Computing 16, 2003).
use Rattle.std.specs.Prelude.{ℕ, Bool, false, not, ◌||◌, ◌==◌, if◌then◌else◌, List, Option, Some, None}
use Rattle.algorithms.specs.declared.access.WordAccess.{WordAccess}
use Rattle.algorithms.specs.declared.remote_references.memory_event.MemoryEvent.{MemoryEvent}
use Rattle.algorithms.specs.declared.remote_references.memory_model.MemoryModel.{MemoryModel}
use Rattle.algorithms.specs.declared.remote_references.memory_model.MemoryModel.TheVariants.{Distributed, WriteThrough, WriteBack}
use Rattle.algorithms.specs.remote_references.Copies.{stores_or_swaps, has_copy, has_exclusive_copy}

-- a word lives at one process, or at none
abbrev pub lives_at : Option ℕ → ℕ → Bool
lives_at None p = false
lives_at (Some home) p = home == p

-- p's copy is good for the access: a store or a swap needs an exclusive one
abbrev pub has_copy_for : ℕ → WordAccess → List MemoryEvent → Bool
has_copy_for p access run = if stores_or_swaps access then has_exclusive_copy p access.address run else has_copy p access.address run

-- Whether p's access is remote after this run, where its word has this home. Distributed: where the word does not live at p.
-- Write-through: a store or a swap always, a load where p has no copy. Write-back: where p has no copy that is good for it.
abbrev pub is_remote : MemoryModel → Option ℕ → List MemoryEvent → ℕ → WordAccess → Bool
is_remote Distributed home run p access = not (lives_at home p)
is_remote WriteThrough home run p access = stores_or_swaps access || not (has_copy p access.address run)
is_remote WriteBack home run p access = not (has_copy_for p access run)
