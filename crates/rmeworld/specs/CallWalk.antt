-- "Own steps of a call": the steps of one call, from its process's own events alone.
use Rattle.std.specs.Prelude.{◌≡◌, ℕ, ◌+◌, ◌<◌, ◌≤◌, Bool, false, if◌then◌else◌, List, [], ◌∷◌, length, Option, Some, None, IsSome, unwrap_or}
use Rattle.rmecore.specs.Paid.{ReadsBegun, is_glance}
use Rattle.rmecore.specs.declared.own.Own.{Own}
use Rattle.redomail.specs.declared.layout.Layout.{Layout}
use Rattle.rmeworld.specs.declared.answer.Answer.{Answer}
use Rattle.rmeworld.specs.declared.call.Call.{Call}
use Rattle.rmeworld.specs.Answered.{answer_at, blocked_by}
use Rattle.rmeworld.specs.OwnSteps.{own_steps, most_steps}
use Rattle.rmeworld.specs.Paid.{PaysAt}
use Rattle.rmeworld.specs.ProcessState.{ProcessState, WorldEvent, Begins, Moves, next_process_state}
use Rattle.rmeworld.specs.UnderWay.{call_at}

-- the process state after an event. An event that is not allowed changes nothing
abbrev pub next_or_same : Layout → ℕ → ProcessState → WorldEvent → ProcessState
next_or_same l limit process_state e = unwrap_or (next_process_state l limit process_state e) process_state

-- a step of p that is no glance. A reread has the process's words at the call's start. Other loads may read anything
abbrev pub IsOwnStep : ℕ → Own → ProcessState → WorldEvent → Type 0
IsOwnStep p began process_state (Moves q kind word v) = (q ≡ p) × (is_glance kind ≡ false) × ReadsBegun began.choosing began.number began.inside process_state.lock v
IsOwnStep p began process_state _ = ⊥

-- such steps one after another, each allowed by the process state before it
abbrev pub Walks : Layout → ℕ → ℕ → Own → ProcessState → List WorldEvent → Type 0
Walks l limit p began process_state [] = Unit {0}
Walks l limit p began process_state (e ∷ es) = IsOwnStep p began process_state e × IsSome (next_process_state l limit process_state e) × Walks l limit p began (next_or_same l limit process_state e) es

-- whether an event is a blocked step
abbrev pub is_blocked : ProcessState → WorldEvent → Bool
is_blocked process_state (Moves p kind word v) = blocked_by p process_state.lock process_state.script_state kind v
is_blocked process_state _ = false

-- the number of blocked steps among them
abbrev pub blocked_in : Layout → ℕ → ProcessState → List WorldEvent → ℕ
blocked_in l limit process_state [] = 0
blocked_in l limit process_state (e ∷ es) = (if is_blocked process_state e then 1 else 0) + blocked_in l limit (next_or_same l limit process_state e) es

abbrev pub and_answer : Option Answer → List Answer → List Answer
and_answer None answers = answers
and_answer (Some a) answers = a ∷ answers

-- the answer of an event
abbrev pub answer_to : ProcessState → WorldEvent → Option Answer
answer_to process_state (Moves p kind word v) = answer_at process_state kind v
answer_to process_state _ = None

-- their answers
abbrev pub answers_in : Layout → ℕ → ProcessState → List WorldEvent → List Answer
answers_in l limit process_state [] = []
answers_in l limit process_state (e ∷ es) = and_answer (answer_to process_state e) (answers_in l limit (next_or_same l limit process_state e) es)

-- the process state after the events
abbrev pub last_process_state : Layout → ℕ → ProcessState → List WorldEvent → ProcessState
last_process_state l limit process_state [] = process_state
last_process_state l limit process_state (e ∷ es) = last_process_state l limit (next_or_same l limit process_state e) es

-- the process's words at a call's start, and whether it had mended the mailbox
pub record CallBegin : Type 0 where
  pub words : Own
  pub mended : Bool

abbrev pub call_begin : Own → Bool → CallBegin
call_begin words mended = record { words = words; mended = mended }

-- after these steps with these answers, the call is under way with fewer steps than its bound, or it has one answer and
-- exactly the table's steps. Blocked steps are not counted
abbrev pub WalksCall : Layout → CallBegin → Call → List Answer → ProcessState → ℕ → ℕ → Type 0
WalksCall l began call [] process_state steps blocked =
    (call_at process_state ≡ Some call) × ((x : ℕ) × PaysAt l began.words process_state x × (steps ≡ x + blocked) × (x < most_steps l call))
WalksCall l began call (a ∷ []) process_state steps blocked =
    (call_at process_state ≡ None) × ((x : ℕ) × (own_steps l began.words began.mended call a ≡ Some x) × (steps ≡ x + blocked))
WalksCall l began call (a ∷ b ∷ more) process_state steps blocked = ⊥

-- the law: a process starts a call that is allowed, and then takes steps
abbrev pub CallsTakeTheirSteps : Type 0
CallsTakeTheirSteps =
    (l : Layout) (limit p : ℕ) (began : Own) (process_state : ProcessState) (call : Call) (es : List WorldEvent) → p < l.procs → IsSome (next_process_state l limit process_state (Begins p call))
    → let first = next_or_same l limit process_state (Begins p call) in
    Walks l limit p began first es → WalksCall l (call_begin began process_state.mended) call (answers_in l limit first es) (last_process_state l limit first es) (length es) (blocked_in l limit first es)

-- no number of the table is above the bound of its call
abbrev pub NoCallTakesMore : Type 0
NoCallTakesMore =
    (l : Layout) (began : Own) (mended : Bool) (call : Call) (a : Answer) (x : ℕ) → 0 < l.procs → own_steps l began mended call a ≡ Some x → x ≤ most_steps l call
