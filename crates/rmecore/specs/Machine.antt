-- The private machine of one process: its next step at a place, and the step's deed and answer. Where "Step" leaves a
-- choice, the machine takes the least index.
use Rattle.std.specs.Prelude.{◌≡◌, true, ℕ, zero, suc, ◌+◌, ◌<◌, ◌≤◌, IsSome, Bool, false, not, ◌||◌, ◌==◌, nat_lt, if◌then◌else◌, List, [], ◌∷◌, Option, Some, None, unwrap_or}
use Rattle.rmecore.specs.Place.{Place, Rest, Dead, Reread, Opening, Door, Shutting, Wait, Inside, Leaving, Withdrawing, Unmarking, above, is_before, next}
use Rattle.rmecore.specs.World.{is_store, step_deed, write}
use Rattle.rmecore.specs.declared.core_done.CoreDone.{CoreDone}
use Rattle.rmecore.specs.declared.core_done.CoreDone.TheVariants.{In, InAgain, Spent, Out, Found as Finds, Withdrawn}
use Rattle.rmecore.specs.declared.found.Found.TheVariants.{Idle, Left, Doorway, Waiting, Inside as FoundInside}
use Rattle.rmecore.specs.declared.access.Access.{Access}
use Rattle.rmecore.specs.declared.access.Access.TheVariants.{Load, Store}
use Rattle.rmecore.specs.declared.progress.Progress.{Progress}
use Rattle.rmecore.specs.declared.scan.Scan.{Scan}
use Rattle.rmecore.specs.declared.scan.Scan.TheVariants.{Peeking, Waiting as Waits}
use Rattle.rmecore.specs.declared.stage.Stage.{Stage}
use Rattle.rmecore.specs.declared.stage.Stage.TheVariants.{Rest as AtRest, Dead as AtDead, ReadingChoosing, ReadingNumber, ReadingInside, Opening as AtOpening, Door as AtDoor, Shutting as AtShutting, Wait as AtWait, Inside as AtInside, Leaving as AtLeaving, Withdrawing as AtWithdrawing, Unmarking as AtUnmarking}
use Rattle.rmecore.specs.declared.core_call.CoreCall.{CoreCall}
use Rattle.rmecore.specs.declared.core_call.CoreCall.TheVariants.{Lock, Unlock}
use Rattle.rmecore.specs.declared.kind.Kind.{Kind}
use Rattle.rmecore.specs.declared.kind.Kind.TheVariants.{Reread as Rereads, Open as Opens, Peek as Peeks, Take as Takes, Shut as Shuts, Look as Looks, Weigh as Weighs, Mark as Marks, Drop as Drops}
use Rattle.rmecore.specs.declared.own.Own.{Own}
use Rattle.rmecore.specs.declared.word.Word.{Word}
use Rattle.rmecore.specs.declared.word.Word.TheVariants.{Choosing as ChoosingOf, Number as NumberOf, Inside as InsideOf, Data as DataAt}

abbrev pub first : List ℕ → Option ℕ
first [] = None
first (j ∷ js) = Some j

-- the place of a machine's stage, for process p of n
abbrev pub place_of : ℕ → ℕ → Stage → Place
place_of n p AtRest = Rest
place_of n p AtDead = Dead
place_of n p (ReadingChoosing call) = Reread call []
place_of n p (ReadingNumber call c) = Reread call (c ∷ [])
place_of n p (ReadingInside call c k) = Reread call (c ∷ k ∷ [])
place_of n p AtOpening = Opening
place_of n p (AtDoor i m) = Door (above n p i) m
place_of n p (AtShutting call k) = Shutting call k
place_of n p (AtWait k i looked) = Wait k (above n p i) (if looked then first (above n p i) else None)
place_of n p AtInside = Inside
place_of n p AtLeaving = Leaving
place_of n p AtWithdrawing = Withdrawing
place_of n p (AtUnmarking call) = Unmarking call

-- the next step. A scan takes the first of its list
abbrev pub access : ℕ → ℕ → Place → Option Access
access limit p (Reread call []) = Some (Load Rereads (ChoosingOf p))
access limit p (Reread call (c ∷ [])) = Some (Load Rereads (NumberOf p))
access limit p (Reread call (c ∷ k ∷ [])) = Some (Load Rereads (InsideOf p))
access limit p Opening = Some (Store Opens (ChoosingOf p) 1)
access limit p (Door (j ∷ js) m) = Some (Load Peeks (NumberOf j))
access limit p (Door [] m) = if nat_lt m limit then Some (Store Takes (NumberOf p) (m + 1)) else Some (Store Shuts (ChoosingOf p) 0)
access limit p (Shutting call k) = Some (Store Shuts (ChoosingOf p) 0)
access limit p (Wait k unpassed (Some j)) = Some (Load Weighs (NumberOf j))
access limit p (Wait k (j ∷ js) None) = Some (Load Looks (ChoosingOf j))
access limit p (Wait k [] None) = Some (Store Marks (InsideOf p) 1)
access limit p Leaving = Some (Store Drops (NumberOf p) 0)
access limit p Withdrawing = Some (Store Drops (NumberOf p) 0)
access limit p (Unmarking call) = Some (Store Marks (InsideOf p) 0)
access _ _ _ = None

-- the kind and the word of an access
abbrev pub kind_of : Access → Kind
kind_of (Load kind word) = kind
kind_of (Store kind word x) = kind

abbrev pub word_of : Access → Word
word_of (Load kind word) = word
word_of (Store kind word x) = word

-- the event's value: what a load read, or what a store writes
abbrev pub carried_value : Access → ℕ → ℕ
carried_value (Load kind word) v = v
carried_value (Store kind word x) v = x

-- the state of a process, as contracts see it
pub record Standing : Type 0 where
  pub procs : ℕ
  pub limit : ℕ
  pub index : ℕ
  pub place : Place

-- the default for an index that is no process
abbrev pub absent_process : Standing
absent_process = record { procs = 0; limit = 0; index = 0; place = Rest }

-- the next step of a process
abbrev pub next_access : Standing → Option Access
next_access s = access s.limit s.index s.place

-- the place after the step, by the definition
abbrev pub after_access : Standing → Option Access → ℕ → Place
after_access s None v = s.place
after_access s (Some a) v = unwrap_or (next s.procs s.limit s.index s.place (kind_of a) (word_of a) (carried_value a v)) s.place

-- a Recover's answer after its rereads, if it ends with them
abbrev pub recovery_answer : ℕ → ℕ → ℕ → Option CoreDone
recovery_answer (suc c) zero i = Some (Finds Doorway)
recovery_answer (suc c) (suc k) i = None
recovery_answer zero zero zero = Some (Finds Idle)
recovery_answer zero zero (suc i) = None
recovery_answer zero (suc k) zero = Some (Finds Waiting)
recovery_answer zero (suc k) (suc i) = Some (Finds FoundInside)

-- a Lock's answer after its rereads, if it ends with them
abbrev pub again : ℕ → ℕ → ℕ → Option CoreDone
again zero (suc k) (suc i) = Some InAgain
again _ _ _ = None

-- the answers of calls after their rereads, after a shut and after the mark is cleared
abbrev pub reread_answer : CoreCall → ℕ → ℕ → ℕ → Option CoreDone
reread_answer Lock c k i = again c k i
reread_answer _ c k i = recovery_answer c k i

abbrev pub shut_answer : CoreCall → Option CoreDone
shut_answer Lock = None
shut_answer _ = Some (Finds Waiting)

abbrev pub unmark_answer : CoreCall → Option CoreDone
unmark_answer Lock = None
unmark_answer Unlock = Some Out
unmark_answer _ = Some (Finds Left)

-- the call's answer, if this step ends the call
abbrev pub answer : Place → Kind → ℕ → Option CoreDone
answer (Reread call (c ∷ k ∷ [])) Rereads i = reread_answer call c k i
answer (Door unread m) Shuts v = Some Spent
answer (Shutting call k) Shuts v = shut_answer call
answer (Wait k unpassed looked) Marks v = Some In
answer (Unmarking call) Marks v = unmark_answer call
answer Withdrawing Drops v = Some Withdrawn
answer _ _ _ = None

-- "blocked": a look or a weigh that leaves the place as it is
abbrev pub is_blocked : ℕ → Place → Kind → ℕ → Bool
is_blocked p (Wait k unpassed None) Looks v = not (v == 0)
is_blocked p (Wait k unpassed (Some j)) Weighs v = not ((v == 0) || is_before k p v j)
is_blocked _ _ _ _ = false

-- no deed, no answer, not blocked
abbrev pub no_progress : Progress
no_progress = record { outer = None; done = None; blocked = false }

-- the effects of a step: its deed, the answer, and whether it was blocked
abbrev pub progress : Standing → Option Access → ℕ → Progress
progress s None v = no_progress
progress s (Some a) v =
    record {
      outer = step_deed s.index s.place (kind_of a) (carried_value a v);
      done = answer s.place (kind_of a) (carried_value a v);
      blocked = is_blocked s.index s.place (kind_of a) (carried_value a v);
    }

-- the process in its doorway
abbrev pub at_door : Standing → ℕ → ℕ → Standing
at_door s i m = record { procs = s.procs; limit = s.limit; index = s.index; place = place_of s.procs s.index (AtDoor i m) }

-- the process while it waits
abbrev pub at_wait : Standing → ℕ → ℕ → Bool → Standing
at_wait s k i looked = record { procs = s.procs; limit = s.limit; index = s.index; place = place_of s.procs s.index (AtWait k i looked) }

-- the process in a scan
abbrev pub at_scan : Standing → Scan → Standing
at_scan s (Peeking i m) = at_door s i m
at_scan s (Waits k i looked) = at_wait s k i looked

-- the process that a lock word belongs to. A data word has no owner, and counts as 0
abbrev pub owner : Word → ℕ
owner (ChoosingOf q) = q
owner (NumberOf q) = q
owner (InsideOf q) = q
owner (DataAt i) = 0

-- a lock word of one of n processes
abbrev pub InLock : ℕ → Word → Type 0
InLock n (ChoosingOf q) = q < n
InLock n (NumberOf q) = q < n
InLock n (InsideOf q) = q < n
InLock n (DataAt i) = ⊥

-- the next step may not touch a word of a lesser owner
abbrev pub IsLeast : Standing → Access → Type 0
IsLeast s a = (word : Word) (v : ℕ) → IsSome (next s.procs s.limit s.index s.place (kind_of a) word v) → owner (word_of a) ≤ owner word

-- "Step" allows the access, whatever a load reads
abbrev pub IsAllowed : Standing → Access → Type 0
IsAllowed s a = (v : ℕ) → IsSome (next s.procs s.limit s.index s.place (kind_of a) (word_of a) (carried_value a v))

-- the words after the step
abbrev pub words_performed : (ℕ → Own) → Access → ℕ → Own
words_performed words (Load kind word) = words
words_performed words (Store kind word x) = write words word x

-- a load has a kind that loads. A store has a kind that stores, and its word is the process's own
abbrev pub StoresOwn : ℕ → Access → Type 0
StoresOwn p (Load kind word) = is_store kind ≡ false
StoresOwn p (Store kind word x) = (is_store kind ≡ true) × (owner word ≡ p)
