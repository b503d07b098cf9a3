-- "Reply": the answer that the call's own events allow. Each row of the table: an answer, and the call's events from its first
-- to its last, in this order.
use Rattle.std.specs.Prelude.{◌≡◌, ◌≢◌, ℕ, zero, suc, ◌≤◌, Bool, true, false, List, [], ◌∷◌, ◌++◌, Some, IsSome, Contains}
use Rattle.rmecore.specs.Paid.{is_glance}
use Rattle.rmecore.specs.declared.found.Found.{Found as FoundOf}
use Rattle.rmecore.specs.declared.found.Found.TheVariants.{Idle, Left, Doorway, Waiting, Inside as FoundInside}
use Rattle.rmecore.specs.declared.kind.Kind.TheVariants.{Reread as Rereads, Peek as Peeks, Take as Takes, Shut as Shuts, Mark as Marks, Drop as Drops, Get as Gets, Put as Puts}
use Rattle.rmecore.specs.declared.word.Word.TheVariants.{Choosing as ChoosingOf, Number as NumberOf, Inside as InsideOf, Data as DataAt}
use Rattle.redomail.specs.declared.layout.Layout.{Layout}
use Rattle.redomail.specs.declared.reply.Reply.{Reply}
use Rattle.redomail.specs.declared.reply.Reply.TheVariants.{Ruined}
use Rattle.redomail.specs.declared.task.Task.TheVariants as task
use Rattle.redomail.specs.Script.{Script, Get as Asks, Put as Writes, Done}
use Rattle.redomail.specs.Tasks.{script, consistent}
use Rattle.rmeworld.specs.declared.answer.Answer.{Answer}
use Rattle.rmeworld.specs.declared.answer.Answer.TheVariants.{Clean, OwnerDied, NumbersSpent, NotRecoverable, Unlocked, Found, Mail, Withdrawn}
use Rattle.rmeworld.specs.declared.call.Call.{Call}
use Rattle.rmeworld.specs.declared.call.Call.TheVariants.{Lock, Unlock, Consistent, Recover, Append, Close, Get, Put, Withdraw}
use Rattle.rmeworld.specs.CallWalk.{next_or_same, answer_to, last_process_state}
use Rattle.rmeworld.specs.ProcessState.{ProcessState, WorldEvent, Begins, Moves, next_process_state}

-- the three rereads, with what they read
abbrev pub rereads : ℕ → ℕ → ℕ → ℕ → List WorldEvent
rereads p c k i = Moves p Rereads (ChoosingOf p) c ∷ Moves p Rereads (NumberOf p) k ∷ Moves p Rereads (InsideOf p) i ∷ []

-- the exit
abbrev pub exit : ℕ → List WorldEvent
exit p = Moves p Drops (NumberOf p) 0 ∷ Moves p Marks (InsideOf p) 0 ∷ []

-- an unmended holder puts ruined before its exit
abbrev pub ruining : ℕ → Bool → List WorldEvent
ruining p true = []
ruining p false = Moves p Puts (DataAt 0) 1 ∷ []

-- The events are an entry. True: they end with the mark. False: the three rereads found the process inside.
abbrev pub Enters : ℕ → Bool → List WorldEvent → Type 0
Enters p true es = (front : List WorldEvent) × (es ≡ front ++ Moves p Marks (InsideOf p) 1 ∷ [])
Enters p false es = (k : ℕ) × (i : ℕ) × (es ≡ rereads p 0 (suc k) (suc i))

-- the entry, and then the ruin check, which finds the lock not ruined
abbrev pub EntersSound : ℕ → Bool → List WorldEvent → Type 0
EntersSound p first es = (front : List WorldEvent) × (v : ℕ) × Enters p first front × (v ≢ 1) × (es ≡ front ++ Moves p Gets (DataAt 0) v ∷ [])

-- no number is taken
abbrev pub IsNoTake : WorldEvent → Type 0
IsNoTake (Moves p Takes word v) = ⊥
IsNoTake _ = Unit {0}

abbrev pub TakesNone : List WorldEvent → Type 0
TakesNone [] = Unit {0}
TakesNone (e ∷ es) = IsNoTake e × TakesNone es

-- a peek read this number
abbrev pub HasPeeked : ℕ → ℕ → List WorldEvent → Type 0
HasPeeked p v es = (j : ℕ) × Contains es (Moves p Peeks (NumberOf j) v)

-- "Restart table": what a recovery finds, and its steps after the rereads
abbrev pub found_by : ℕ → ℕ → ℕ → FoundOf
found_by (suc c) zero i = Doorway
found_by (suc c) (suc k) i = Waiting
found_by zero zero zero = Idle
found_by zero zero (suc i) = Left
found_by zero (suc k) zero = Waiting
found_by zero (suc k) (suc i) = FoundInside

abbrev pub mending : ℕ → ℕ → ℕ → ℕ → List WorldEvent
mending p (suc c) (suc k) i = Moves p Shuts (ChoosingOf p) 0 ∷ []
mending p zero zero (suc i) = Moves p Marks (InsideOf p) 0 ∷ []
mending p _ _ _ = []

-- the events are those of this script, in its order, up to this rest
abbrev pub PlaysScript : ℕ → Script Reply → List WorldEvent → Script Reply → Type 0
PlaysScript p s [] left = s ≡ left
PlaysScript p (Asks i rest) (e ∷ es) left = (v : ℕ) × (e ≡ Moves p Gets (DataAt i) v) × PlaysScript p (rest v) es left
PlaysScript p (Writes i v rest) (e ∷ es) left = (e ≡ Moves p Puts (DataAt i) v) × PlaysScript p rest es left
PlaysScript p (Done a) (e ∷ es) left = ⊥

-- The table. An unlock depends on whether the holder is mended.
abbrev pub HasEvents : Layout → ℕ → ℕ → Bool → Call → Answer → List WorldEvent → Type 0
HasEvents l limit p mended Lock Clean es = EntersSound p true es
HasEvents l limit p mended Lock OwnerDied es = EntersSound p false es
HasEvents l limit p mended Lock NotRecoverable es = (front : List WorldEvent) × (first : Bool) × Enters p first front × (es ≡ front ++ Moves p Gets (DataAt 0) 1 ∷ exit p)
HasEvents l limit p mended Lock NumbersSpent es =
    (front : List WorldEvent) × (v : ℕ) × TakesNone front × (limit ≤ v) × HasPeeked p v front × (es ≡ front ++ Moves p Shuts (ChoosingOf p) 0 ∷ [])
HasEvents l limit p mended Recover (Found found) es = (c : ℕ) × (k : ℕ) × (i : ℕ) × (found_by c k i ≡ found) × (es ≡ rereads p c k i ++ mending p c k i)
HasEvents l limit p mended Unlock Unlocked es = es ≡ ruining p mended ++ exit p
HasEvents l limit p mended Withdraw Withdrawn es = es ≡ Moves p Drops (NumberOf p) 0 ∷ []
HasEvents l limit p mended Consistent NotRecoverable es = (ruined : Bool) × PlaysScript p (consistent l p) es (Done (Ruined ruined))
HasEvents l limit p mended Consistent (Mail reply) es = PlaysScript p (consistent l p) es (Done reply)
HasEvents l limit p mended (Append seq value) (Mail reply) es = PlaysScript p (script l p (task.Append seq value)) es (Done reply)
HasEvents l limit p mended Close (Mail reply) es = PlaysScript p (script l p task.Close) es (Done reply)
HasEvents l limit p mended (Get i) (Mail reply) es = PlaysScript p (script l p (task.BoardGet i)) es (Done reply)
HasEvents l limit p mended (Put i v) (Mail reply) es = PlaysScript p (script l p (task.BoardPut i v)) es (Done reply)
HasEvents _ _ _ _ _ _ _ = ⊥

-- steps of p that are no glances, each allowed by the process state before it. Loads may read anything
abbrev pub IsMove : ℕ → WorldEvent → Type 0
IsMove p (Moves q kind word v) = (q ≡ p) × (is_glance kind ≡ false)
IsMove p _ = ⊥

abbrev pub Follow : Layout → ℕ → ℕ → ProcessState → List WorldEvent → Type 0
Follow l limit p process_state [] = Unit {0}
Follow l limit p process_state (e ∷ es) = IsMove p e × IsSome (next_process_state l limit process_state e) × Follow l limit p (next_or_same l limit process_state e) es

-- the law: a process starts a call that is allowed, and takes steps. If the last one has an answer, the steps are those of the
-- table
abbrev pub AnswersHaveTheirEvents : Type 0
AnswersHaveTheirEvents =
    (l : Layout) (limit p : ℕ) (process_state : ProcessState) (call : Call) (es : List WorldEvent) (e : WorldEvent) (a : Answer) → 1 ≤ limit → IsSome (next_process_state l limit process_state (Begins p call))
    → let first = next_or_same l limit process_state (Begins p call) in
    Follow l limit p first (es ++ e ∷ []) → answer_to (last_process_state l limit first es) e ≡ Some a → HasEvents l limit p process_state.mended call a (es ++ e ∷ [])
