-- A worker that ends with NumbersSpent had that answer at one of its own steps.
use Rattle.std.proofs.Common.{◌≡◌, ◌⊎◌, ℕ, List, [], ◌∷◌, ◌++◌, Result, Ok, Err, IfErr, refl, sym, ap, ◌∙◌, subst, inl, inr}
use Rattle.robust.proofs.Common.{Reply, Answer, NumbersSpent as SpentAnswer, Call, Append, Lock, at_rest, TakenStep, LockFault, NotYet, Setup, ServedAll, answers_from, free_to_start, own_of, HasReadRuin}
use Rattle.robust.proofs.Common.{Seated, began, events_of_run, process_state_past, Askings, WholeEnds, AppendFails, append_request, IsWholeOutcome, NumbersWereSpent}
use Rattle.table_runs.proofs.Ordered.{own_now}
use Rattle.robust.proofs.Working.{kept_ready}
use Rattle.table_runs.proofs.Turned.{answers-append}
use Rattle.table_runs.specs.declared.lock_fault.LockFault.TheVariants.{NumbersSpent, NotRecoverable}

-- a call with this answer
served_spent : (x y : Seated) (order : List Call) (answers : List Answer) (blocked : ℕ) (mine : List TakenStep) → ServedAll (began (free_to_start x) Lock) order answers blocked y mine → answers ≡ SpentAnswer ∷ [] → NumbersWereSpent y.seat_view.setup (own_of y.seat_view)
served_spent x y order answers blocked mine served is = subst (NumbersWereSpent s) (sym own_y) (answers_from s at_rest (own_of x.seat_view), [], answers-append s at_rest (own_of x.seat_view) mine ∙ ap (λ (l : List Answer). answers_from s at_rest (own_of x.seat_view) ++ l) here)
  where
    s : Setup
    s = y.seat_view.setup

    own_y : own_of y.seat_view ≡ own_of x.seat_view ++ mine
    own_y = own_now x y mine served.calls

    was : own_of (began (free_to_start x) Lock).seat_view ≡ own_of x.seat_view
    was = kept_ready (λ (u : Seated). own_of u.seat_view) x refl

    here : answers_from y.seat_view.setup (process_state_past y.seat_view.setup at_rest (events_of_run (own_of x.seat_view))) mine ≡ SpentAnswer ∷ []
    here = subst (λ (t : Setup × List TakenStep). answers_from t.0 (process_state_past t.0 at_rest (events_of_run t.1)) mine ≡ SpentAnswer ∷ []) (λ i. (sym served.calls.setup i, was i)) (served.answered ∙ is)

module _ (x y : Seated) (seq : ℕ) (value : List ℕ) (a b : Askings) where
  whole_spent : (turns : ℕ) (e : LockFault) → e ≡ NumbersSpent → WholeEnds (began (free_to_start x) Lock) turns (Append seq value) (Err e) y a b → NumbersWereSpent y.seat_view.setup (own_of y.seat_view)
  whole_spent turns e is h = by h.3
    where
      by : IsWholeOutcome turns (Append seq value) (Err e) h.0 h.1 h.2 → NumbersWereSpent y.seat_view.setup (own_of y.seat_view)
      by (inl k) = absurd (let late : NotYet ≡ NumbersSpent = sym k.0 ∙ is in cc)
      by (inr (few, inl k)) = served_spent x y h.0 h.1 h.2 h.4.0 h.4.1 k.2
      by (inr (few, inr (inl k))) = absurd (let ruined : NotRecoverable ≡ NumbersSpent = sym k.0 ∙ is in cc)
      by (inr (few, inr (inr k))) = absurd (let ruined : NotRecoverable ≡ NumbersSpent = sym k.0 ∙ is in cc)

  fails_spent : (turns : ℕ) (e : LockFault) → e ≡ NumbersSpent → AppendFails x turns (append_request seq value) y a b e → NumbersWereSpent y.seat_view.setup (own_of y.seat_view)
  fails_spent turns e is (inl h) = absurd (let k = h.0 in cc)
  fails_spent turns e is (inr (wide, inl h)) = absurd (let k = h.0 in cc)
  fails_spent turns e is (inr (wide, inr (may, inl h))) = absurd (let k = h.0 in cc)
  fails_spent turns e is (inr (wide, inr (may, inr h))) = whole_spent turns e is h

  pub append_spent : (r : Result Reply LockFault) (e : LockFault) → r ≡ Err e → e ≡ NumbersSpent → IfErr r (λ e. (turns : ℕ) × AppendFails x turns (append_request seq value) y a b e) → NumbersWereSpent y.seat_view.setup (own_of y.seat_view)
  append_spent (Ok reply) e is spent h = absurd (cc)
  append_spent (Err f) e is spent h = fails_spent h.0 f (let same : f ≡ e = cc in same ∙ spent) h.1

pub faulted : (purpose : LockFault) (z : Setup) (es : List TakenStep) → (purpose ≡ NumbersSpent) ⊎ (purpose ≡ NotRecoverable) → (purpose ≡ NumbersSpent → NumbersWereSpent z es) → (purpose ≡ NotRecoverable → HasReadRuin es)
    → ((purpose ≡ NumbersSpent) × NumbersWereSpent z es) ⊎ ((purpose ≡ NotRecoverable) × HasReadRuin es)
faulted purpose z es (inl spent) reports read = inl (spent, reports spent)
faulted purpose z es (inr ruined) reports read = inr (ruined, read ruined)
