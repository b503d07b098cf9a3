-- How a worker's append can fail, if its member is outside the section and its value has the right width.
use Rattle.std.proofs.Common.{◌≡◌, ◌≢◌, ◌⊎◌, ℕ, ◌+◌, ◌-◌, ◌<◌, ◌≤◌, Bool, true, false, if◌then◌else◌, List, [], ◌++◌, length, Some, None, Result, Ok, Err, IfOk, IfErr, refl, sym, ap, ◌∙◌, subst, inl, inr, arith, append_assoc, append-nil}
use Rattle.robust.proofs.Common.{TableId, Reply, IsAmong, Answer, Call, Append, Lock, is_idle, ReplyTells, TakenStep, LockFault, Crashed, NotYet, AlreadyIn, Setup, refusal_now, free_to_start, shown_by}
use Rattle.robust.proofs.Common.{judged_by, process_state_now, Calls, Seated, fell, began, ReportedIn, Appends, Askings, WholeEnds, AppendFails, append_request, IsWholeOutcome, shown_on, RefusedAt, HasShown, seat_of}
use Rattle.rmecore.specs.declared.refusal.Refusal.TheVariants.{AlreadyIn as IsIn, CallUnderWay}
use Rattle.redomail.specs.declared.reply.Reply.TheVariants as reply
use Rattle.table_runs.specs.declared.lock_fault.LockFault.TheVariants.{NumbersSpent, NotRecoverable, BadWidth}
use Rattle.robust.proofs.Appended.{among_more}
use Rattle.robust.proofs.Working.{kept_ready}

-- a process that may lock isn't in the section
idle_in : (b : Bool) (x : Seated) → is_idle (process_state_now x.seat_view) ≡ b → refusal_now x Lock ≡ Some IsIn → refusal_now (if b then x else fell x) Lock ≡ None → ⊥
idle_in true x idle refused may = absurd (let k : Some IsIn ≡ None = sym refused ∙ may in cc)
idle_in false x idle refused may = absurd (let busy : refusal_now x Lock ≡ Some CallUnderWay = rw idle refl in let k : Some CallUnderWay ≡ Some IsIn = sym busy ∙ refused in cc)

-- what is left
abbrev pub IsLeft : LockFault → Type 0
IsLeft e = (e ≡ Crashed) ⊎ ((e ≡ NotYet) ⊎ ((e ≡ NumbersSpent) ⊎ (e ≡ NotRecoverable)))

comes_left : (turns : ℕ) (task : Call) (e : LockFault) (order : List Call) (answers : List Answer) (blocked : ℕ) → IsWholeOutcome turns task (Err e) order answers blocked → IsLeft e
comes_left turns task e order answers blocked (inl h) = inr (inl h.0)
comes_left turns task e order answers blocked (inr (few, inl h)) = inr (inr (inl h.0))
comes_left turns task e order answers blocked (inr (few, inr (inl h))) = inr (inr (inr h.0))
comes_left turns task e order answers blocked (inr (few, inr (inr h))) = inr (inr (inr h.0))

module _ (x y : Seated) (seq : ℕ) (value : List ℕ) (a b : Askings) where
  fails_left : (turns : ℕ) (e : LockFault) → AppendFails x turns (append_request seq value) y a b e → length value ≡ x.seat_view.setup.layout.width → refusal_now (free_to_start x) Lock ≡ None → IsLeft e
  fails_left turns e (inl h) wide may = absurd (h.1 wide)
  fails_left turns e (inr (fits, inl h)) wide may = absurd (idle_in (is_idle (process_state_now x.seat_view)) x refl h.1 may)
  fails_left turns e (inr (fits, inr (accepted, inl h))) wide may = inl h.0
  fails_left turns e (inr (fits, inr (accepted, inr h))) wide may = comes_left turns (Append seq value) e h.0 h.1 h.2 h.3

  not_in : (e : LockFault) → IsLeft e → (e ≢ AlreadyIn) × (e ≢ BadWidth)
  not_in e (inl h) = (λ k. absurd (cc), λ k. absurd (cc))
  not_in e (inr (inl h)) = (λ k. absurd (cc), λ k. absurd (cc))
  not_in e (inr (inr (inl h))) = (λ k. absurd (cc), λ k. absurd (cc))
  not_in e (inr (inr (inr h))) = (λ k. absurd (cc), λ k. absurd (cc))

  pub append_left : (r : Result Reply LockFault) → IfErr r (λ e. (turns : ℕ) × AppendFails x turns (append_request seq value) y a b e) → length value ≡ x.seat_view.setup.layout.width → refusal_now (free_to_start x) Lock ≡ None → (r ≢ Err AlreadyIn) × (r ≢ Err BadWidth)
  append_left (Ok reply) h wide may = (λ k. absurd (cc), λ k. absurd (cc))
  append_left (Err e) h wide may =
      let no = not_in e (fails_left h.0 e h.1 wide may) in
      (λ k. no.0 (let same : e ≡ AlreadyIn = cc in same), λ k. no.1 (let same : e ≡ BadWidth = cc in same))

  pub append_faults : (r : Result Reply LockFault) (e : LockFault) → r ≡ Err e → IfErr r (λ e. (turns : ℕ) × AppendFails x turns (append_request seq value) y a b e) → length value ≡ x.seat_view.setup.layout.width → refusal_now (free_to_start x) Lock ≡ None → e ≢ Crashed → IfErr r (λ e. e ≢ NotYet)
      → (e ≡ NumbersSpent) ⊎ (e ≡ NotRecoverable)
  append_faults (Ok reply) e is h wide may alive patient = absurd (cc)
  append_faults (Err f) e is h wide may alive patient =
      let same : f ≡ e = cc in
      elim (fails_left h.0 f h.1 wide may) [
        | inl crashed ↦ absurd (alive (sym same ∙ crashed))
        | inr (inl late) ↦ absurd (patient late)
        | inr (inr (inl spent)) ↦ inl (sym same ∙ spent)
        | inr (inr (inr ruined)) ↦ inr (sym same ∙ ruined)
      ]

-- a call adds to what its process has seen
abbrev pub Grown : Seated → Seated → Type 0
Grown x y = (since : List TakenStep) × (y.seat_view.seen ≡ x.seat_view.seen ++ since)

calls_grow : (x y : Seated) (mine : List TakenStep) → Calls (began (free_to_start x) Lock).seat_view mine y.seat_view → Grown x y
calls_grow x y mine c = (c.since, c.seen ∙ ap (λ (es : List TakenStep). es ++ c.since) (kept_ready (λ (u : Seated). u.seat_view.seen) x refl))

still_grown : (x y : Seated) → y ≡ x → Grown x y
still_grown x y e = ([], ap (λ (u : Seated). u.seat_view.seen) e ∙ sym (append-nil x.seat_view.seen))

pub grown_on : (x y z : Seated) → Grown x y → Grown y z → Grown x z
grown_on x y z h g = (h.0 ++ g.0, g.1 ∙ ap (λ (es : List TakenStep). es ++ g.0) h.1 ∙ append_assoc x.seat_view.seen h.0 g.0)

module _ (x y : Seated) (seq : ℕ) (value : List ℕ) (a b : Askings) where
  fails_grow : (turns : ℕ) (e : LockFault) → AppendFails x turns (append_request seq value) y a b e → Grown x y
  fails_grow turns e (inl h) = still_grown x y h.2
  fails_grow turns e (inr (fits, inl h)) = still_grown x y h.2
  fails_grow turns e (inr (fits, inr (accepted, inl h))) = calls_grow x y h.1.0 h.1.1.calls
  fails_grow turns e (inr (fits, inr (accepted, inr h))) = calls_grow x y h.4.0 h.4.1.calls

  -- an append, however it ends
  pub append_grows : (r : Result Reply LockFault) → IfOk r (λ reply. (turns : ℕ) × WholeEnds (began (free_to_start x) Lock) turns (Append seq value) (Ok reply) y a b) → IfErr r (λ e. (turns : ℕ) × AppendFails x turns (append_request seq value) y a b e) → Grown x y
  append_grows (Ok reply) h g = calls_grow x y h.1.4.0 h.1.4.1.calls
  append_grows (Err e) h g = fails_grow g.0 e g.1

-- what is answered later holds from the start on
pub reported_from : (x y z : Seated) (seq : ℕ) (r : Reply) → Grown x y → seat_of y ≡ seat_of x → ReportedIn y seq r z → ReportedIn x seq r z
reported_from x y z seq r grown same h =
    let seen : y.seat_view.seen ++ h.since ≡ x.seat_view.seen ++ (grown.0 ++ h.since) = ap (λ (es : List TakenStep). es ++ h.since) grown.1 ∙ append_assoc x.seat_view.seen grown.0 h.since in
    record {
      since = grown.0 ++ h.since;
      later = h.later;
      seen = h.seen ∙ ap (λ (es : List TakenStep). es ++ h.later) seen;
      tells = subst (λ (u : (TableId × Setup × ℕ) × List TakenStep). ReplyTells u.0.1.layout u.0.2 seq r (judged_by u.0.1 u.1).mail) (λ i. (same i, seen i)) h.tells;
    }

-- what was shown stays shown
pub shown_then : (x y : Seated) (n : ℕ) (since later : List TakenStep) → HasShown n x → IsAmong x.seat_view.by n (shown_by x.seat_view.setup (x.seat_view.seen ++ since))
shown_then x y n since later h =
    let more = shown_on x.seat_view.setup x.seat_view.seen since in
    subst (IsAmong x.seat_view.by n) (sym more.1) (among_more x.seat_view.by n (shown_by x.seat_view.setup x.seat_view.seen) more.0 h)

-- A refused append whose number is 1 or follows one that is shown: it was answered Full or Closed.
pub refused : (x y : Seated) (seq : ℕ) (r : Reply) → 1 ≤ seq → ((n : ℕ) → n + 1 ≡ seq → 0 < n → HasShown n x) → seat_of y ≡ seat_of x → Appends seq r → ((r ≡ reply.Stored) ⊎ (r ≡ reply.Already) → ⊥) → ReportedIn x seq r y
    → ((r ≡ reply.Full) ⊎ (r ≡ reply.Closed)) × RefusedAt y seq r
refused x y seq r some shown same kind unsent reports = (by_kind r kind unsent reports.tells, at)
  where
    front : List TakenStep
    front = x.seat_view.seen ++ reports.since

    above : (n : ℕ) → 1 ≤ n → n ≢ 1 → 1 < n
    above n least other = omega (arith, least, other)

    by_kind : (a : Reply) → Appends seq a → ((a ≡ reply.Stored) ⊎ (a ≡ reply.Already) → ⊥) → ReplyTells x.seat_view.setup.layout x.seat_view.by seq a (judged_by x.seat_view.setup front).mail → (a ≡ reply.Full) ⊎ (a ≡ reply.Closed)
    by_kind reply.Stored k sent t = absurd (sent (inl refl))
    by_kind reply.Already k sent t = absurd (sent (inr refl))
    by_kind reply.Full k sent t = inl refl
    by_kind reply.Closed k sent t = inr refl
    by_kind reply.OutOfOrder k sent (inl none) = absurd (omega (arith, some, none))
    by_kind reply.OutOfOrder k sent (inr late) = absurd (late (shown_then x y (seq - 1) reports.since reports.later (shown (seq - 1) (omega (arith, some)) (let other : 1 < seq = above seq some k in omega (arith, other)))))
    by_kind _ k sent t = absurd k

    at : RefusedAt y seq r
    at = record {
      front = front;
      later = reports.later;
      seen = reports.seen;
      tells = subst (λ (u : TableId × Setup × ℕ). ReplyTells u.1.layout u.2 seq r (judged_by u.1 front).mail) (sym same) reports.tells;
    }
