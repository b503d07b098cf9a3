-- Passages and super-passages of a process, and what they cost (Golab, Ramaraju: Recoverable mutual exclusion, PODC 2016). A passage
-- goes from a start of lock to the end of a call that leaves the process out, or to a crash of it. A super-passage goes on after
-- its crashes.
use Rattle.std.specs.Prelude.{◌≡◌, ℕ, ◌+◌, ◌≤◌, Bool, true, false, ◌&&◌, ◌==◌, if◌then◌else◌, List, [], ◌∷◌, ◌++◌, Option}
use Rattle.std.specs.List.{flat_map}
use Rattle.algorithms.specs.declared.access.Address.{Address}
use Rattle.algorithms.specs.declared.remote_references.memory_event.MemoryEvent.{MemoryEvent}
use Rattle.algorithms.specs.declared.remote_references.memory_event.MemoryEvent.TheVariants.{Access, Crash, CrashAll}
use Rattle.algorithms.specs.declared.remote_references.memory_model.MemoryModel.{MemoryModel}
use Rattle.algorithms.specs.declared.remote_references.memory_model.PassageKind.{PassageKind}
use Rattle.algorithms.specs.declared.remote_references.memory_model.PassageKind.TheVariants.{Passage, SuperPassage}
use Rattle.algorithms.specs.remote_references.RemoteReferences.{is_remote}

-- An event of a run with its calls: a process starts a lock, or does what memory sees. `leaves`: a call ends with it that leaves
-- its process out.
pub data CallEvent : Type 0 where
  Starts : (p : ℕ) → CallEvent
  Does : (event : MemoryEvent) → (leaves : Bool) → CallEvent

-- what memory sees of an event
abbrev pub memory_event : CallEvent → List MemoryEvent
memory_event (Starts p) = []
memory_event (Does event leaves) = event ∷ []

-- what memory sees of a run
abbrev pub memory_events : List CallEvent → List MemoryEvent
memory_events run = flat_map memory_event run

-- ---- costs

-- what is measured: the references of this process, in this model, where words have these homes
pub record CostMeasure : Type 0 where
  pub model : MemoryModel
  pub homes : Address → Option ℕ
  pub process : ℕ

-- A remote reference of the process counts 1. A blocked await counts each time that it is remote.
abbrev pub memory_cost : CostMeasure → List MemoryEvent → MemoryEvent → ℕ
memory_cost m run (Access p access) = if (p == m.process) && is_remote m.model (m.homes access.address) run p access then 1 else 0
memory_cost m run (Crash p) = 0
memory_cost m run CrashAll = 0

abbrev pub cost_of_event : CostMeasure → List CallEvent → CallEvent → ℕ
cost_of_event m run (Starts p) = 0
cost_of_event m run (Does event leaves) = memory_cost m (memory_events run) event

-- the remote references in the events after a run
abbrev pub cost_after : CostMeasure → List CallEvent → List CallEvent → ℕ
cost_after m run [] = 0
cost_after m run (event ∷ events) = cost_of_event m run event + cost_after m (run ++ event ∷ []) events

-- ---- passages

abbrev pub ends_by_crash : PassageKind → Bool
ends_by_crash Passage = true
ends_by_crash SuperPassage = false

-- whether this is the last event of p's passage
abbrev pub ends_passage : PassageKind → ℕ → CallEvent → Bool
ends_passage kind p (Starts q) = false
ends_passage kind p (Does (Access q access) leaves) = (q == p) && leaves
ends_passage kind p (Does (Crash q) leaves) = (q == p) && ends_by_crash kind
ends_passage kind p (Does CrashAll leaves) = ends_by_crash kind

-- no event before the last ends it
abbrev pub EndsAtLast : PassageKind → ℕ → List CallEvent → Type 0
EndsAtLast kind p events = (before after : List CallEvent) (event : CallEvent) → events ≡ before ++ event ∷ after → ends_passage kind p event ≡ true → after ≡ []

-- In this run p starts a lock after `before`, and these are the events of its passage, or the first of them. A lock that is started
-- within a passage begins a part of it, which costs no more.
pub record IsPassage (kind : PassageKind) (p : ℕ) (run before events : List CallEvent) : Type 0 where
  pub rest : List CallEvent
  pub parts : run ≡ (before ++ Starts p ∷ []) ++ (events ++ rest)
  pub lasts : EndsAtLast kind p events

-- a passage in this run costs k
pub record HasPassageOfCost (kind : PassageKind) (m : CostMeasure) (run : List CallEvent) (k : ℕ) : Type 0 where
  pub before : List CallEvent
  pub events : List CallEvent
  pub passage : IsPassage kind m.process run before events
  pub cost : cost_after m (before ++ Starts m.process ∷ []) events ≡ k

-- no passage in this run costs more
abbrev pub CostAtMost : PassageKind → CostMeasure → List CallEvent → ℕ → Type 0
CostAtMost kind m run most = (k : ℕ) → HasPassageOfCost kind m run k → k ≤ most
