-- A start on the text and on the lock: both are refused alike, or lead to the same place.
use Rattle.std.proofs.Common.{◌≡◌, ℕ, ◌⊎◌, Bool, true, false, if◌then◌else◌, List, [], ◌∷◌, Option, Some, None, Result, Ok, Err, unwrap_or, refl, sym, ap, ◌∙◌, subst, inl, inr}
use Rattle.std.specs.Prelude.{ok_or}
use Rattle.rmecore.specs.Place.{Place, Rest, Dead, Reread, Opening, Door, Shutting, Wait, Inside, Leaving, Withdrawing, Unmarking, place_after_start as lock_started}
use Rattle.rmecore.specs.Refused.{start_refusal as lock_refusal, number_of as lock_number}
use Rattle.rmecore.specs.declared.core_call.CoreCall.TheVariants as cores
use Rattle.rmecore.specs.declared.phase.Phase.{Phase}
use Rattle.rmecore.specs.declared.phase.Phase.TheVariants as phases
use Rattle.rmecore.specs.declared.refusal.Refusal.{Refusal}
use Rattle.rmecore.specs.declared.refusal.Refusal.TheVariants as refusals
use Rattle.algorithms.specs.Arrivals.{after_round, further_rounds, most_local_rounds, round_outcome, ◌>>=◌}
use Rattle.algorithm_lab.specs.Bakery.{IsBakery}
use Rattle.algorithms.specs.LocalRuns.{nothing_noted}
use Rattle.algorithm_lab.specs.Monitors.{is_idle, phase_refusal}
use Rattle.algorithm_lab.specs.Refusals.{number_of}
use Rattle.algorithm_lab.specs.Moves.{core_call}
use Rattle.algorithms.specs.Steps.{lasting_names}
use Rattle.algorithms.specs.Worlds.{process_after_start, begun_at, begun_from, entry_of, may_withdraw, no_names, resting, start_refusal, unless}
use Rattle.algorithms.specs.declared.algorithm.Algorithm.{Algorithm}
use Rattle.algorithms.specs.declared.algorithm.AlgorithmCall.{AlgorithmCall}
use Rattle.algorithms.specs.declared.algorithm.AlgorithmCall.TheVariants.{Lock, Unlock, Recover, Withdraw}
use Rattle.algorithms.specs.declared.constants.Constants.{Constants}
use Rattle.algorithms.specs.declared.line.AccessLine.{AccessLine}
use Rattle.algorithms.specs.declared.line.LineKind.TheVariants as forms
use Rattle.algorithms.specs.declared.process.AlgorithmProcess.{AlgorithmProcess}
use Rattle.algorithms.specs.declared.refusal.AlgorithmRefusal.{AlgorithmRefusal}
use Rattle.algorithms.specs.declared.refusal.AlgorithmRefusal.TheVariants.{NoSuchCall, CallUnderWay, NotWaiting}
use Rattle.algorithm_lab.specs.declared.run_refusal.RunRefusal.{RunRefusal}
use Rattle.algorithm_lab.specs.declared.run_refusal.RunRefusal.TheVariants.{Refused, NotOwner, AlreadyIn}
use Rattle.algorithm_lab.proofs.BakeryLines.{HasForm, has_form, access_there, sixty, stops}
use Rattle.algorithm_lab.proofs.BakeryComparisons.{constants}
use Rattle.algorithm_lab.proofs.BakeryLocalRuns.{local}
use Rattle.algorithm_lab.proofs.BakeryPlaces.{before, dead, Stands}

pub by_call : (P : AlgorithmCall → Type 0) → P Lock → P Unlock → P Recover → P Withdraw → (call : AlgorithmCall) → P call
by_call P l u r w Lock = l
by_call P l u r w Unlock = u
by_call P l u r w Recover = r
by_call P l u r w Withdraw = w

abbrev entry_place : AlgorithmCall → ℕ
entry_place Lock = 0
entry_place Unlock = 36
entry_place Recover = 40
entry_place Withdraw = 57

-- why the laboratory refuses a start before the world is asked
abbrev pub phase_part : AlgorithmProcess → Phase → AlgorithmCall → Option RunRefusal
phase_part t phase call = if is_idle t.place then phase_refusal phase call else None

-- a place at which a call is under way that may not be withdrawn
abbrev IsBusy : Place → Type 0
IsBusy Rest = ⊥
IsBusy Dead = ⊥
IsBusy Inside = ⊥
IsBusy (Wait k unpassed looked) = ⊥
IsBusy _ = Unit {0}

abbrev busy_refusal : AlgorithmCall → Option Refusal
busy_refusal Withdraw = Some refusals.NotWaiting
busy_refusal _ = Some refusals.CallUnderWay

busy_lock : (place : Place) → IsBusy place → (call : AlgorithmCall) → lock_refusal place (core_call call) ≡ busy_refusal call
busy_lock (Reread c s) h = by_call (λ call. lock_refusal (Reread c s) (core_call call) ≡ busy_refusal call) refl refl refl refl
busy_lock Opening h = by_call (λ call. lock_refusal Opening (core_call call) ≡ busy_refusal call) refl refl refl refl
busy_lock (Door u m) h = by_call (λ call. lock_refusal (Door u m) (core_call call) ≡ busy_refusal call) refl refl refl refl
busy_lock (Shutting c k) h = by_call (λ call. lock_refusal (Shutting c k) (core_call call) ≡ busy_refusal call) refl refl refl refl
busy_lock Leaving h = by_call (λ call. lock_refusal Leaving (core_call call) ≡ busy_refusal call) refl refl refl refl
busy_lock Withdrawing h = by_call (λ call. lock_refusal Withdrawing (core_call call) ≡ busy_refusal call) refl refl refl refl
busy_lock (Unmarking c) h = by_call (λ call. lock_refusal (Unmarking c) (core_call call) ≡ busy_refusal call) refl refl refl refl
busy_lock Rest h = absurd h
busy_lock Dead h = absurd h
busy_lock Inside h = absurd h
busy_lock (Wait k u l) h = absurd h

-- what the phase says of a process that is idle
abbrev pub PhaseFits : Place → Phase → Type 0
PhaseFits Rest phase = phase ≡ phases.Inside → ⊥
PhaseFits Dead phase = phase ≡ phases.Inside → ⊥
PhaseFits Inside phase = phase ≡ phases.Inside
PhaseFits _ phase = Unit {0}

module _ (a : Algorithm) (b : IsBakery a) (n limit p : ℕ) where
  abbrev me : Constants
  me = constants p n limit

  abbrev begun_there : AlgorithmProcess → AlgorithmCall → Result AlgorithmProcess AlgorithmRefusal
  begun_there t call = unless (start_refusal a t.place call) (Ok (entry_place call)) >>= (λ at. begun_from a me at (lasting_names 0 t.store))

  begun_is : (t : AlgorithmProcess) (call : AlgorithmCall) → process_after_start a me t call ≡ begun_there t call
  begun_is t call =
      ap (λ es. ok_or (entry_of es call) NoSuchCall >>= (λ entry. unless (start_refusal a t.place call) (Ok entry) >>= (λ at. begun_from a me at (lasting_names a.lasting t.store)))) b.entries
      ∙ by_call (λ call. (ok_or (entry_of (record { lock = 0; unlock = 36; recover = Some 40; withdraw = Some 57 }) call) NoSuchCall >>= (λ entry. unless (start_refusal a t.place call) (Ok entry) >>= (λ at. begun_from a me at (lasting_names a.lasting t.store))))
      ≡ (unless (start_refusal a t.place call) (Ok (entry_place call)) >>= (λ at. begun_from a me at (lasting_names a.lasting t.store)))) refl refl refl refl call
      ∙ ap (λ l. unless (start_refusal a t.place call) (Ok (entry_place call)) >>= (λ at. begun_from a me at (lasting_names l t.store))) b.lasting

  begins_at : (at : ℕ) (line : AccessLine) → HasForm a.lines.items at (forms.Access line) → begun_from a me at no_names ≡ Ok (before at no_names)
  begins_at at line h =
      ap (λ k. (round_outcome a.lines.items me k (local at no_names nothing_noted) >>= after_round (further_rounds a.lines.items me most_local_rounds)) >>= (λ l. begun_at l.state l.answer)) (sixty a b)
      ∙ ap (λ r. r >>= (λ l. begun_at l.state l.answer)) (stops a.lines.items me 59 (local at no_names nothing_noted) line h)

  -- the process is before an access at which a withdraw may begin, or may not
  record IsAt (t : AlgorithmProcess) (may : Bool) : Type 0 where
    pub place : ℕ
    pub store : List ℕ
    pub line : AccessLine
    pub is : t ≡ before place store
    pub there : HasForm a.lines.items place (forms.Access line)
    pub withdraws : line.may_withdraw ≡ may

  busy_text : (place : Place) (t : AlgorithmProcess) → IsBusy place → Stands n limit p place t → IsAt t false
  busy_text (Reread cores.Lock []) t h e = record { place = 0; store = _; line = _; is = e; there = has_form a b 0 _ refl; withdraws = refl }
  busy_text (Reread cores.Lock (c ∷ [])) t h e = record { place = 1; store = _; line = _; is = e; there = has_form a b 1 _ refl; withdraws = refl }
  busy_text (Reread cores.Lock (c ∷ k ∷ [])) t h e = record { place = 2; store = _; line = _; is = e; there = has_form a b 2 _ refl; withdraws = refl }
  busy_text (Reread cores.Recover []) t h e = record { place = 40; store = _; line = _; is = e; there = has_form a b 40 _ refl; withdraws = refl }
  busy_text (Reread cores.Recover (c ∷ [])) t h e = record { place = 41; store = _; line = _; is = e; there = has_form a b 41 _ refl; withdraws = refl }
  busy_text (Reread cores.Recover (c ∷ k ∷ [])) t h e = record { place = 42; store = _; line = _; is = e; there = has_form a b 42 _ refl; withdraws = refl }
  busy_text (Reread call seen) t h e = absurd e
  busy_text Opening t h e = record { place = 14; store = _; line = _; is = e.1; there = has_form a b 14 _ refl; withdraws = refl }
  busy_text (Door (j ∷ js) m) t h e = record { place = 18; store = _; line = _; is = e.1; there = has_form a b 18 _ refl; withdraws = refl }
  busy_text (Door [] m) t h e =
      elim e.1 [
        | inl spent ↦ record { place = 22; store = _; line = _; is = spent.1; there = has_form a b 22 _ refl; withdraws = refl }
        | inr more ↦ record { place = 26; store = _; line = _; is = more.1; there = has_form a b 26 _ refl; withdraws = refl }
      ]
  busy_text (Shutting cores.Lock k) t h e = record { place = 28; store = _; line = _; is = e.1; there = has_form a b 28 _ refl; withdraws = refl }
  busy_text (Shutting cores.Recover k) t h e = record { place = 46; store = _; line = _; is = e.1; there = has_form a b 46 _ refl; withdraws = refl }
  busy_text (Shutting call k) t h e = absurd e
  busy_text Leaving t h e = record { place = 36; store = _; line = _; is = e; there = has_form a b 36 _ refl; withdraws = refl }
  busy_text Withdrawing t h e = record { place = 57; store = _; line = _; is = e; there = has_form a b 57 _ refl; withdraws = refl }
  busy_text (Unmarking cores.Lock) t h e = record { place = 13; store = _; line = _; is = e.1; there = has_form a b 13 _ refl; withdraws = refl }
  busy_text (Unmarking cores.Unlock) t h e = record { place = 38; store = _; line = _; is = e; there = has_form a b 38 _ refl; withdraws = refl }
  busy_text (Unmarking cores.Recover) t h e = record { place = 55; store = _; line = _; is = e.1; there = has_form a b 55 _ refl; withdraws = refl }
  busy_text (Unmarking call) t h e = absurd e
  busy_text Rest t h e = absurd h
  busy_text Dead t h e = absurd h
  busy_text Inside t h e = absurd h
  busy_text (Wait k u l) t h e = absurd h

  wait_text : (k : ℕ) (unpassed : List ℕ) (looked : Option ℕ) (t : AlgorithmProcess) → Stands n limit p (Wait k unpassed looked) t → IsAt t true
  wait_text k [] None t e = record { place = 33; store = _; line = _; is = e.1; there = has_form a b 33 _ refl; withdraws = refl }
  wait_text k (j ∷ js) None t e = record { place = 30; store = _; line = _; is = e.1; there = has_form a b 30 _ refl; withdraws = refl }
  wait_text k unpassed (Some j) t e = record { place = 31; store = _; line = _; is = e.1; there = has_form a b 31 _ refl; withdraws = refl }

  -- ---- what a start does, by what the lock says of it

  -- the text refuses it with this number
  pub record IsRefused (t : AlgorithmProcess) (phase : Phase) (call : AlgorithmCall) (number : Option ℕ) : Type 0 where
    pub refusal : RunRefusal
    pub number_is : number_of refusal ≡ number
    pub by : (phase_part t phase call ≡ Some refusal) ⊎ ((phase_part t phase call ≡ None) × ((e : AlgorithmRefusal) × (process_after_start a me t call ≡ Err e) × (refusal ≡ Refused e)))

  pub record IsBegun (t : AlgorithmProcess) (phase : Phase) (call : AlgorithmCall) (place : Place) : Type 0 where
    pub process : AlgorithmProcess
    pub allowed : phase_part t phase call ≡ None
    pub is : process_after_start a me t call ≡ Ok process
    pub stands : Stands n limit p place process

  abbrev pub StartIf : AlgorithmProcess → Phase → AlgorithmCall → Place → Option Refusal → Type 0
  StartIf t phase call place None = IsBegun t phase call place
  StartIf t phase call place (Some refusal) = IsRefused t phase call (lock_number refusal)

  by_world : (t : AlgorithmProcess) (phase : Phase) (call : AlgorithmCall) (number : Option ℕ) (e : AlgorithmRefusal) → number_of (Refused e) ≡ number → phase_part t phase call ≡ None → begun_there t call ≡ Err e → IsRefused t phase call number
  by_world t phase call number e same free is = record { refusal = Refused e; number_is = same; by = inr (free, (e, begun_is t call ∙ is, refl)) }

  by_phase : (t : AlgorithmProcess) (phase : Phase) (call : AlgorithmCall) (number : Option ℕ) (e : RunRefusal) → number_of e ≡ number → phase_part t phase call ≡ Some e → IsRefused t phase call number
  by_phase t phase call number e same is = record { refusal = e; number_is = same; by = inl is }

  begins : (t : AlgorithmProcess) (phase : Phase) (call : AlgorithmCall) (place : Place) (process : AlgorithmProcess) → phase_part t phase call ≡ None → begun_there t call ≡ Ok process → Stands n limit p place process → IsBegun t phase call place
  begins t phase call place process free is stands = record { process = process; allowed = free; is = begun_is t call ∙ is; stands = stands }

  -- under way, in a call that may not be withdrawn
  not_waiting : (t : AlgorithmProcess) → (at : IsAt t false) → begun_there (before at.place at.store) Withdraw ≡ Err NotWaiting
  not_waiting t at =
      ap (λ r. unless (if may_withdraw r then None else Some NotWaiting) (Ok 57) >>= (λ from. begun_from a me from (lasting_names 0 at.store))) (access_there a at.place at.line at.there)
      ∙ ap (λ t. unless (if t then None else Some NotWaiting) (Ok 57) >>= (λ from. begun_from a me from (lasting_names 0 at.store))) at.withdraws

  may_give_up : (t : AlgorithmProcess) → (at : IsAt t true) → begun_there (before at.place at.store) Withdraw ≡ Ok (before 57 no_names)
  may_give_up t at =
      ap (λ r. unless (if may_withdraw r then None else Some NotWaiting) (Ok 57) >>= (λ from. begun_from a me from (lasting_names 0 at.store))) (access_there a at.place at.line at.there)
      ∙ ap (λ t. unless (if t then None else Some NotWaiting) (Ok 57) >>= (λ from. begun_from a me from (lasting_names 0 at.store))) at.withdraws
      ∙ begins_at 57 _ (has_form a b 57 _ refl)

  busy_starts : (place : Place) (t : AlgorithmProcess) (phase : Phase) → IsBusy place → Stands n limit p place t → (call : AlgorithmCall) (to : Place) → StartIf t phase call to (lock_refusal place (core_call call))
  busy_starts place t phase h e call to =
      let at = busy_text place t h e in
      subst (λ t. StartIf t phase call to (lock_refusal place (core_call call))) (sym at.is)
      (subst (StartIf (before at.place at.store) phase call to) (sym (busy_lock place h call))
      (by_call (λ call. StartIf (before at.place at.store) phase call to (busy_refusal call))
      (by_world _ phase Lock _ CallUnderWay refl refl refl) (by_world _ phase Unlock _ CallUnderWay refl refl refl)
      (by_world _ phase Recover _ CallUnderWay refl refl refl) (by_world _ phase Withdraw _ NotWaiting refl refl (not_waiting t at)) call))

  wait_starts : (k : ℕ) (unpassed : List ℕ) (looked : Option ℕ) (t : AlgorithmProcess) (phase : Phase) → Stands n limit p (Wait k unpassed looked) t → (call : AlgorithmCall)
      → StartIf t phase call (unwrap_or (lock_started (Wait k unpassed looked) (core_call call)) (Wait k unpassed looked)) (lock_refusal (Wait k unpassed looked) (core_call call))
  wait_starts k unpassed looked t phase e call =
      let at = wait_text k unpassed looked t e in
      let place : Place = Wait k unpassed looked in
      subst (λ t. StartIf t phase call (unwrap_or (lock_started place (core_call call)) place) (lock_refusal place (core_call call))) (sym at.is)
      (by_call (λ call. StartIf (before at.place at.store) phase call (unwrap_or (lock_started place (core_call call)) place) (lock_refusal place (core_call call)))
      (by_world _ phase Lock _ CallUnderWay refl refl refl) (by_world _ phase Unlock _ CallUnderWay refl refl refl)
      (by_world _ phase Recover _ CallUnderWay refl refl refl) (begins _ phase Withdraw Withdrawing (before 57 no_names) refl (may_give_up t at) refl) call)

  -- ---- idle

  free : (phase : Phase) (call : AlgorithmCall) → (phase ≡ phases.Inside → ⊥) → (call ≡ Unlock → ⊥) → phase_refusal phase call ≡ None
  free phases.Inside call h c = absurd (h refl)
  free phases.Out Lock h c = refl
  free phases.Door Lock h c = refl
  free phases.Ready Lock h c = refl
  free phases.DeadIn Lock h c = refl
  free phases.Out Recover h c = refl
  free phases.Door Recover h c = refl
  free phases.Ready Recover h c = refl
  free phases.DeadIn Recover h c = refl
  free phases.Out Withdraw h c = refl
  free phases.Door Withdraw h c = refl
  free phases.Ready Withdraw h c = refl
  free phases.DeadIn Withdraw h c = refl
  free _ Unlock h c = absurd (c refl)

  no_owner : (phase : Phase) → (phase ≡ phases.Inside → ⊥) → phase_refusal phase Unlock ≡ Some NotOwner
  no_owner phases.Inside h = absurd (h refl)
  no_owner phases.Out h = refl
  no_owner phases.Door h = refl
  no_owner phases.Ready h = refl
  no_owner phases.DeadIn h = refl

  rest_starts : (t : AlgorithmProcess) (phase : Phase) → t ≡ resting → (phase ≡ phases.Inside → ⊥) → (call : AlgorithmCall) → StartIf t phase call (unwrap_or (lock_started Rest (core_call call)) Rest) (lock_refusal Rest (core_call call))
  rest_starts t phase e out call =
      subst (λ t. StartIf t phase call (unwrap_or (lock_started Rest (core_call call)) Rest) (lock_refusal Rest (core_call call))) (sym e)
      (by_call (λ call. StartIf resting phase call (unwrap_or (lock_started Rest (core_call call)) Rest) (lock_refusal Rest (core_call call)))
      (begins resting phase Lock (Reread cores.Lock []) (before 0 no_names) (free phase Lock out (λ c. cc)) (begins_at 0 _ (has_form a b 0 _ refl)) refl)
      (by_phase resting phase Unlock _ NotOwner refl (no_owner phase out))
      (begins resting phase Recover (Reread cores.Recover []) (before 40 no_names) (free phase Recover out (λ c. cc)) (begins_at 40 _ (has_form a b 40 _ refl)) refl)
      (by_world resting phase Withdraw _ NotWaiting refl (free phase Withdraw out (λ c. cc)) refl) call)

  dead_starts : (t : AlgorithmProcess) (phase : Phase) → t ≡ dead → (phase ≡ phases.Inside → ⊥) → (call : AlgorithmCall) → StartIf t phase call (unwrap_or (lock_started Dead (core_call call)) Dead) (lock_refusal Dead (core_call call))
  dead_starts t phase e out call =
      subst (λ t. StartIf t phase call (unwrap_or (lock_started Dead (core_call call)) Dead) (lock_refusal Dead (core_call call))) (sym e)
      (by_call (λ call. StartIf dead phase call (unwrap_or (lock_started Dead (core_call call)) Dead) (lock_refusal Dead (core_call call)))
      (begins dead phase Lock (Reread cores.Lock []) (before 0 no_names) (free phase Lock out (λ c. cc)) (begins_at 0 _ (has_form a b 0 _ refl)) refl)
      (by_phase dead phase Unlock _ NotOwner refl (no_owner phase out))
      (begins dead phase Recover (Reread cores.Recover []) (before 40 no_names) (free phase Recover out (λ c. cc)) (begins_at 40 _ (has_form a b 40 _ refl)) refl)
      (by_world dead phase Withdraw _ NotWaiting refl (free phase Withdraw out (λ c. cc)) refl) call)

  inside_starts : (t : AlgorithmProcess) (phase : Phase) → t ≡ resting → phase ≡ phases.Inside → (call : AlgorithmCall) → StartIf t phase call (unwrap_or (lock_started Inside (core_call call)) Inside) (lock_refusal Inside (core_call call))
  inside_starts t phase e in_ call =
      subst (λ t. StartIf t phase call (unwrap_or (lock_started Inside (core_call call)) Inside) (lock_refusal Inside (core_call call))) (sym e)
      (subst (λ phase. StartIf resting phase call (unwrap_or (lock_started Inside (core_call call)) Inside) (lock_refusal Inside (core_call call))) (sym in_)
      (by_call (λ call. StartIf resting phases.Inside call (unwrap_or (lock_started Inside (core_call call)) Inside) (lock_refusal Inside (core_call call)))
      (by_phase resting phases.Inside Lock _ AlreadyIn refl refl)
      (begins resting phases.Inside Unlock Leaving (before 36 no_names) refl (begins_at 36 _ (has_form a b 36 _ refl)) refl)
      (by_phase resting phases.Inside Recover _ AlreadyIn refl refl)
      (by_world resting phases.Inside Withdraw _ NotWaiting refl refl refl) call))

  pub starts_alike : (place : Place) (t : AlgorithmProcess) (phase : Phase) → Stands n limit p place t → PhaseFits place phase → (call : AlgorithmCall)
      → StartIf t phase call (unwrap_or (lock_started place (core_call call)) place) (lock_refusal place (core_call call))
  starts_alike Rest t phase e fits call = rest_starts t phase e fits call
  starts_alike Dead t phase e fits call = dead_starts t phase e fits call
  starts_alike Inside t phase e fits call = inside_starts t phase e fits call
  starts_alike (Wait k unpassed looked) t phase e fits call = wait_starts k unpassed looked t phase e call
  starts_alike (Reread c s) t phase e fits call = busy_starts (Reread c s) t phase tt e call _
  starts_alike Opening t phase e fits call = busy_starts Opening t phase tt e call _
  starts_alike (Door u m) t phase e fits call = busy_starts (Door u m) t phase tt e call _
  starts_alike (Shutting c k) t phase e fits call = busy_starts (Shutting c k) t phase tt e call _
  starts_alike Leaving t phase e fits call = busy_starts Leaving t phase tt e call _
  starts_alike Withdrawing t phase e fits call = busy_starts Withdrawing t phase tt e call _
  starts_alike (Unmarking c) t phase e fits call = busy_starts (Unmarking c) t phase tt e call _
