-- What a worker of a lab does with its member.
use Rattle.std.specs.Prelude.{◌≡◌, ℕ, ◌≤◌, List, [], Option, Some, None, All}
use Rattle.redomail.specs.Mailbox.{IsAmong}
use Rattle.rmeworld.specs.declared.call.Call.{Call}
use Rattle.rmeworld.specs.declared.call.Call.TheVariants.{Lock, Unlock, Consistent, Append}
use Rattle.table_runs.specs.declared.entry.TakenStep.{TakenStep}
use Rattle.table_runs.specs.declared.setup.Setup.{Setup}
use Rattle.table_runs.specs.Faults.{refusal_now, free_to_start}
use Rattle.table_runs.specs.Headline.{shown_by}
use Rattle.table_runs.specs.Lab.{words_sent}
use Rattle.table_runs.specs.SeatView.{own_of}
use Rattle.table_runs.specs.WorkingMembers.{Seated}

-- P holds of the call that a step starts, if it starts one
abbrev pub OfStart : (Call → Type 0) → Option Call → Type 0
OfStart P None = Unit {0}
OfStart P (Some call) = P call

-- a call of worker p: it locks, mends, unlocks, or appends one of its first k messages
abbrev pub IsSending : ℕ → ℕ → ℕ → Call → Type 0
IsSending width k p (Append seq value) = (seq ≤ k) × (value ≡ words_sent p seq width)
IsSending width k p Lock = Unit {0}
IsSending width k p Consistent = Unit {0}
IsSending width k p Unlock = Unit {0}
IsSending width k p _ = ⊥

-- all calls that these entries start are calls of worker p
abbrev pub AreSending : ℕ → ℕ → ℕ → List TakenStep → Type 0
AreSending width k p es = All (λ (e : TakenStep). OfStart (IsSending width k p) e.step.start) es

-- the member has started no other calls than those of its own worker
abbrev pub SendsOnly : ℕ → ℕ → Seated → Type 0
SendsOnly width k x = AreSending width k x.seat_view.by (own_of x.seat_view)

-- its message with this number is shown
abbrev pub HasShown : ℕ → Seated → Type 0
HasShown seq x = IsAmong x.seat_view.by seq (shown_by x.seat_view.setup x.seat_view.seen)

-- the member has appended only its worker's first k messages, and the last of them is shown
abbrev pub HasSent : ℕ → ℕ → Seated → Type 0
HasSent width k x = SendsOnly width k x × HasShown k x

-- the member, of an arena of this setup, has taken no step, and may lock
abbrev pub IsNew : Setup → Seated → Type 0
IsNew z x = (x.seat_view.setup ≡ z) × (own_of x.seat_view ≡ []) × (refusal_now (free_to_start x) Lock ≡ None)
