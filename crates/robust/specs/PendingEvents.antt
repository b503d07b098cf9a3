-- The pending events of a process: what its next step carries.
use Rattle.std.specs.Prelude.{◌≡◌, Bool, true, false, List, [], ◌∷◌, Option, Some, None}
use Rattle.rmecore.specs.declared.kind.Kind.{Kind}
use Rattle.rmecore.specs.declared.word.Word.{Word}
use Rattle.rmeworld.specs.declared.call.Call.{Call}
use Rattle.table_runs.specs.declared.entry.Step.{Step}
use Rattle.robust.specs.declared.access.pending_events.PendingEvents.{PendingEvents}

-- the list isn't empty
abbrev pub is_there : {A : Type 0} → List A → Bool
is_there [] = false
is_there (x ∷ xs) = true

-- the first element, if there is one
abbrev pub head_of : {A : Type 0} → List A → Option A
head_of [] = None
head_of (x ∷ xs) = Some x

-- whether it has crashed since its last step
abbrev pub has_crashed : PendingEvents → Bool
has_crashed o = is_there o.crashed.items

-- the call that it has started since then
abbrev pub started_call : PendingEvents → Option Call
started_call o = head_of o.start.items

-- a step of this kind at this word, which carries the pending events
abbrev pub step_of : PendingEvents → Kind → Word → Step
step_of o kind word = record { crashed = has_crashed o; start = started_call o; kind = kind; word = word }

-- nothing is pending: neither a crash nor a start
abbrev pub AwaitsNothing : PendingEvents → Type 0
AwaitsNothing o = (has_crashed o ≡ false) × (started_call o ≡ None)
