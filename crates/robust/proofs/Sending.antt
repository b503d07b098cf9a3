-- A worker's appends start only the calls that send its messages.
use Rattle.std.proofs.Common.{◌≡◌, ◌⊎◌, ℕ, List, [], ◌∷◌, ◌++◌, Result, Ok, Err, IfOk, IfErr, All, refl, sym, ap, ◌∙◌, subst, inl, inr}
use Rattle.robust.proofs.Common.{All-nil, All-cons, All-append, Reply, Answer, Call, Append, Lock, Unlock, Consistent, TakenStep, Entry as Entering, LockFault, starts, free_to_start, CutBy, Calls, own_of}
use Rattle.robust.proofs.Common.{Seated, began, entries_of, Askings, WholeEnds, calls_inside, AppendFails, append_request, IsWholeOutcome, IsFront, AreCallsOf, all_left, own-append, OfStart, IsSending, AreSending, SendsOnly}
use Rattle.table_runs.specs.declared.entry_kind.Entry.TheVariants as entering
use Rattle.robust.proofs.ScriptStates.{each_start}
use Rattle.robust.proofs.Working.{kept_ready}

-- the calls of a whole mailbox call
module _ (P : Call → Type 0) (task : Call) (lock : P Lock) (unlock : P Unlock) (mends : P Consistent) (does : P task) where
  leaves : All P (Unlock ∷ [])
  leaves = All-cons P Unlock [] unlock (All-nil P)

  locks : All P (Lock ∷ [])
  locks = All-cons P Lock [] lock (All-nil P)

  pub all_inside : (entry : Entering) → All P (Lock ∷ calls_inside entry task)
  all_inside entering.Clean = All-cons P Lock (task ∷ Unlock ∷ []) lock (All-cons P task (Unlock ∷ []) does leaves)
  all_inside entering.OwnerDied = All-cons P Lock (Consistent ∷ task ∷ Unlock ∷ []) lock (All-cons P Consistent (task ∷ Unlock ∷ []) mends (All-cons P task (Unlock ∷ []) does leaves))

  all_ruined : All P (Lock ∷ Consistent ∷ Unlock ∷ [])
  all_ruined = All-cons P Lock (Consistent ∷ Unlock ∷ []) lock (All-cons P Consistent (Unlock ∷ []) mends leaves)

  all_come : (turns : ℕ) (r : Result Reply LockFault) (order : List Call) (answers : List Answer) (blocked : ℕ) → IsWholeOutcome turns task r order answers blocked → All P order
  all_come turns (Ok reply) order answers blocked h = subst (All P) (sym h.3) (all_inside h.1)
  all_come turns (Err e) order answers blocked (inl h) = subst (All P) (sym h.1) locks
  all_come turns (Err e) order answers blocked (inr (few, inl h)) = subst (All P) (sym h.1) locks
  all_come turns (Err e) order answers blocked (inr (few, inr (inl h))) = subst (All P) (sym h.1) locks
  all_come turns (Err e) order answers blocked (inr (few, inr (inr h))) = subst (All P) (sym h.1) all_ruined

  all_front : (done order : List Call) → IsFront done order → All P order → All P done
  all_front done order h all = all_left P done h.0 (subst (All P) h.1 all)

  all_within : (done : List Call) → AreCallsOf task done → All P done
  all_within done (inl h) = all_front done (Lock ∷ calls_inside h.0 task) h.1 (all_inside h.0)
  all_within done (inr h) = all_front done (Lock ∷ Consistent ∷ Unlock ∷ []) h all_ruined

  -- also where a crash came before the first
  all_cut : (mine : List TakenStep) → (mine ≡ []) ⊎ AreCallsOf task (starts mine) → All P (starts mine)
  all_cut mine (inl none) = subst (λ (es : List TakenStep). All P (starts es)) (sym none) (All-nil P)
  all_cut mine (inr h) = all_within (starts mine) h

module _ (width k : ℕ) where
  sends_calls : (x y : Seated) (mine : List TakenStep) → Calls x.seat_view mine y.seat_view → AreSending width k x.seat_view.by mine → SendsOnly width k x → SendsOnly width k y
  sends_calls x y mine c new old =
      let own_are : own_of y.seat_view ≡ own_of x.seat_view ++ mine =
      ap (λ (p : ℕ). entries_of p y.seat_view.seen) c.by ∙ ap (entries_of x.seat_view.by) c.seen ∙ own-append x.seat_view.by x.seat_view.seen c.since ∙ ap (λ (l : List TakenStep). own_of x.seat_view ++ l) c.mine_are in
      subst (λ (u : ℕ × List TakenStep). AreSending width k u.0 u.1) (λ i. (sym c.by i, sym own_are i)) (All-append (λ (e : TakenStep). OfStart (IsSending width k x.seat_view.by) e.step.start) (own_of x.seat_view) mine old new)

  module _ (x y : Seated) (seq : ℕ) (value : List ℕ) (a b : Askings) (fits : IsSending width k x.seat_view.by (Append seq value)) (old : SendsOnly width k x) where
    abbrev z : Seated
    z = began (free_to_start x) Lock

    same : (own_of z.seat_view ≡ own_of x.seat_view) × (z.seat_view.by ≡ x.seat_view.by)
    same = (kept_ready (λ (u : Seated). own_of u.seat_view) x refl, kept_ready (λ (u : Seated). u.seat_view.by) x refl)

    outset : SendsOnly width k z
    outset = subst (λ (u : ℕ × List TakenStep). AreSending width k u.0 u.1) (λ i. (sym same.1 i, sym same.0 i)) old

    sends : IsSending width k z.seat_view.by (Append seq value)
    sends = subst (λ (p : ℕ). IsSending width k p (Append seq value)) (sym same.1) fits

    abbrev P : Call → Type 0
    P = IsSending width k z.seat_view.by

    sends_whole : (turns : ℕ) (r : Result Reply LockFault) → WholeEnds z turns (Append seq value) r y a b → SendsOnly width k y
    sends_whole turns r h =
        let all = all_come P (Append seq value) tt tt tt sends turns r h.0 h.1 h.2 h.3 in
        sends_calls z y h.4.0 h.4.1.calls (each_start P h.4.0 (subst (All P) (sym h.4.1.started) all)) outset

    sends_cut : CutBy z (AreCallsOf (Append seq value)) y a b → SendsOnly width k y
    sends_cut h = sends_calls z y h.0 h.1.calls (each_start P h.0 (all_cut P (Append seq value) tt tt tt sends h.0 h.1.started)) outset

    still : y ≡ x → SendsOnly width k y
    still e = subst (SendsOnly width k) (sym e) old

    sends_fails : (turns : ℕ) (e : LockFault) → AppendFails x turns (append_request seq value) y a b e → SendsOnly width k y
    sends_fails turns e (inl h) = still h.2
    sends_fails turns e (inr (wide, inl h)) = still h.2
    sends_fails turns e (inr (wide, inr (may, inl h))) = sends_cut h.1
    sends_fails turns e (inr (wide, inr (may, inr h))) = sends_whole turns (Err e) h

    -- an append, however it ends
    pub sends_append : (r : Result Reply LockFault) → IfOk r (λ reply. (turns : ℕ) × WholeEnds z turns (Append seq value) (Ok reply) y a b) → IfErr r (λ e. (turns : ℕ) × AppendFails x turns (append_request seq value) y a b e) → SendsOnly width k y
    sends_append (Ok reply) h g = sends_whole h.0 (Ok reply) h.1
    sends_append (Err e) h g = sends_fails g.0 e g.1
