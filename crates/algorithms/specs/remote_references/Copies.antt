-- The copies of shared words in the caches of processes. A cache has room for all words, and loses them in a crash
-- (Golab, Ramaraju: Recoverable mutual exclusion, PODC 2016).
use Rattle.std.specs.Prelude.{ℕ, Bool, true, false, ◌&&◌, ◌||◌, ◌==◌, if◌then◌else◌, List, [], ◌∷◌, is_some}
use Rattle.std.specs.List.{flat_map}
use Rattle.algorithms.specs.declared.access.Address.{Address}
use Rattle.algorithms.specs.declared.access.WordAccess.{WordAccess}
use Rattle.algorithms.specs.declared.remote_references.memory_event.MemoryEvent.{MemoryEvent}
use Rattle.algorithms.specs.declared.remote_references.memory_event.MemoryEvent.TheVariants.{Access, Crash, CrashAll}

-- A swap counts as a store also where its guard does not hold: it needs its word for itself
abbrev pub stores_or_swaps : WordAccess → Bool
stores_or_swaps access = access.swaps || is_some access.stores

abbrev pub is_same_word : Address → Address → Bool
is_same_word a b = (a.declaration == b.declaration) && (a.index == b.index)

-- What an access of a word does to the copy that a process has of it: true, it gives one; false, it takes it. The process's own
-- access gives it a copy. Another's store takes it
abbrev pub copy_change : (own stores : Bool) → List Bool
copy_change true stores = true ∷ []
copy_change false true = false ∷ []
copy_change false false = []

-- The same of an exclusive copy. The process's own store makes its copy exclusive. Any access by another ends that
abbrev pub exclusive_change : (own stores : Bool) → List Bool
exclusive_change true true = true ∷ []
exclusive_change true false = []
exclusive_change false stores = false ∷ []

-- a crash takes all copies of its process
abbrev pub crash_change : (own : Bool) → List Bool
crash_change true = false ∷ []
crash_change false = []

-- what an event does to p's copy of a word
abbrev pub copy_changes : ℕ → Address → MemoryEvent → List Bool
copy_changes p word (Access q access) = if is_same_word access.address word then copy_change (q == p) (stores_or_swaps access) else []
copy_changes p word (Crash q) = crash_change (q == p)
copy_changes p word CrashAll = crash_change true

-- what it does to p's exclusive copy
abbrev pub exclusive_changes : ℕ → Address → MemoryEvent → List Bool
exclusive_changes p word (Access q access) = if is_same_word access.address word then exclusive_change (q == p) (stores_or_swaps access) else []
exclusive_changes p word (Crash q) = crash_change (q == p)
exclusive_changes p word CrashAll = crash_change true

-- the last of the changes, or what was before them
abbrev pub last_or : Bool → List Bool → Bool
last_or before [] = before
last_or before (change ∷ changes) = last_or change changes

-- After a run p has a copy of the word where the last event that gave or took one gave it. At the beginning nobody has any.
abbrev pub has_copy : ℕ → Address → List MemoryEvent → Bool
has_copy p word run = last_or false (flat_map (copy_changes p word) run)

-- the same of an exclusive copy
abbrev pub has_exclusive_copy : ℕ → Address → List MemoryEvent → Bool
has_exclusive_copy p word run = last_or false (flat_map (exclusive_changes p word) run)
