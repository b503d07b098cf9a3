-- Every event of a simulated core keeps the invariant of its counts.
use Rattle.std.proofs.Common.{◌≡◌, ◌≢◌, ℕ, ◌+◌, ◌<◌, false, List, length, slice_index_or, slice_set, replicate, Option, Some, IsSome, IfSome, unwrap_or, refl, sym, ap, ◌∙◌, subst, inl, inr, arith, get_or-set_same, get_or-set_other}
use Rattle.rmecore.proofs.Common.{cases_eq, get_or-replicate, Access, CoreCall, Lock, Unlock, Withdraw, Recover, CoreDone, Kind, Own, Tally, Word, nobody, kind_of, carried_value, Standing, next_access}
use Rattle.rmecore.proofs.Common.{progress, is_blocked, answer, most_steps, is_glance, Place, Rest, Dead, Wait, Inside, next, Event, Starts, Crashes, Steps, place_after_start, process, is_idle, Simulated}
use Rattle.rmecore.proofs.Common.{zeros, own_at, place_at, world_of, Takes, new_tally, tally_at, tally_after_step, all_done, IsExact, HasTaken, IsTallied, AllTallied, World, at_rest, May, after, IsReached, words_after_event}
use Rattle.rmecore.proofs.Common.{deeds}
use Rattle.rmecore.proofs.Invariant.{Tied, put_same, put_other}
use Rattle.rmecore.proofs.Phases.{tied_after}
use Rattle.rmecore.proofs.Payments.{fewer}
use Rattle.rmecore.proofs.Runs.{at_first, kept}
use Rattle.rmecore.proofs.CoreSteps.{Moves, core_frame, settled, at_here}
use Rattle.rmecore.proofs.Tallies.{never_glances, answered, tallied_on}
use Rattle.rmecore.specs.declared.progress.Progress.{Progress}

-- in a run an event changes words of its own process alone
others_keep : (n limit : ℕ) (w : World) (e : Event) → IsReached n limit w → May n limit w e → (q : ℕ) → q ≢ process e → words_after_event w.words e q ≡ w.words q
others_keep n limit w e reached may =
    let a = all_done nobody (deeds n limit at_rest reached.events) in
    let tied : Tied n w a = subst (λ u. Tied n u a) reached.world (tied_after n limit at_rest nobody reached.events (at_first n) reached.run) in
    (kept n limit w a e may tied).2

-- the counts of p are right, and those of the others did not change
module _ (n limit : ℕ) (w : World) (e : Event) (reached : IsReached n limit w) (may : May n limit w e) where
  abbrev p : ℕ
  p = process e

  elsewhere : (tallies tallies' : List Tally) → ((q : ℕ) → q ≢ p → tally_at tallies' q ≡ tally_at tallies q) → IsTallied n ((after n limit w e).words p) ((after n limit w e).places p) (tally_at tallies' p) → AllTallied n w tallies
      → AllTallied n (after n limit w e) tallies'
  elsewhere tallies tallies' same here all q below =
      elim (cases_eq q p) [
        | inl is ↦ subst (λ r. IsTallied n ((after n limit w e).words r) ((after n limit w e).places r) (tally_at tallies' r)) (sym is) here
        | inr ne ↦
            subst (λ t. IsTallied n ((after n limit w e).words q) ((after n limit w e).places q) t) (sym (same q ne))
            (subst (λ s. IsTallied n ((after n limit w e).words q) s (tally_at tallies q)) (sym (put_other w.places p _ q ne))
            (subst (λ x. IsTallied n x (w.places q) (tally_at tallies q)) (sym (others_keep n limit w e reached may q ne)) (all q below)))
      ]

  set_elsewhere : (tallies : List Tally) (t : Tally) → p < length tallies → IsTallied n ((after n limit w e).words p) ((after n limit w e).places p) t → AllTallied n w tallies → AllTallied n (after n limit w e) (slice_set tallies p t)
  set_elsewhere tallies t room here all =
      elsewhere tallies (slice_set tallies p t) (λ q ne. get_or-set_other tallies p q t _ ne)
      (subst (IsTallied n ((after n limit w e).words p) ((after n limit w e).places p)) (sym (get_or-set_same tallies p t _ room)) here) all

-- a call begins with the process's words and no step taken
begun : (n : ℕ) (own : Own) (s : Place) (call : CoreCall) → IsSome (place_after_start s call) → (d : Place) → IsTallied n own (unwrap_or (place_after_start s call) d) (new_tally own)
begun n own Rest Lock some d = record { began = λ h. refl; taking = λ exact. (0, refl, refl) }
begun n own Rest Recover some d = record { began = λ h. refl; taking = λ exact. (0, refl, refl) }
begun n own Dead Lock some d = record { began = λ h. refl; taking = λ exact. (0, refl, refl) }
begun n own Dead Recover some d = record { began = λ h. refl; taking = λ exact. (0, refl, refl) }
begun n own Inside Unlock some d = record { began = λ h. refl; taking = λ exact. (0, refl, refl) }
begun n own (Wait k unpassed looked) Withdraw some d = record { began = λ h. refl; taking = λ exact. (0, refl, refl) }
begun n own _ _ some d = absurd (cc)

module _ {old new : Simulated} (reached : IsReached old.procs old.limit (world_of old)) (room : length old.tallies ≡ old.procs) (all : AllTallied old.procs (world_of old) old.tallies) where
  pub tallied_step : (p : ℕ) (kind : Kind) (word : Word) (v : ℕ) → Takes old (Steps p kind word v) new → is_glance kind ≡ false → (t : Tally) → t ≡ tally_after_step (tally_at old.tallies p) (is_blocked p (place_at old.processes p) kind v)
      → AllTallied old.procs (world_of new) (slice_set old.tallies p t)
  tallied_step p kind word v takes not_glance t is =
      let may = takes.may in
      let on = tallied_on old.procs old.limit (world_of old) p kind word v (tally_at old.tallies p) may.0 may.1 not_glance may.2 (all p may.0) in
      subst (λ w. AllTallied old.procs w (slice_set old.tallies p t)) (sym takes.world)
      (set_elsewhere old.procs old.limit (world_of old) (Steps p kind word v) reached may old.tallies t (rw room may.0)
      (subst (λ s. IsTallied old.procs (words_after_event (own_at old.words) (Steps p kind word v) p) s t) (sym (put_same (place_at old.processes) p (unwrap_or (next old.procs old.limit p (place_at old.processes p) kind word v) (place_at old.processes p))))
      (rw is on))
      all)

  pub answered_step : (p : ℕ) (kind : Kind) (word : Word) (v : ℕ) → Takes old (Steps p kind word v) new → is_glance kind ≡ false → (t : Tally) → t ≡ tally_after_step (tally_at old.tallies p) (is_blocked p (place_at old.processes p) kind v)
      → (done : Option CoreDone) → done ≡ answer (place_at old.processes p) kind v → IfSome done (λ d. IsExact (tally_at (slice_set old.tallies p t) p) → HasTaken old.procs (tally_at (slice_set old.tallies p t) p) d)
  answered_step p kind word v takes not_glance t is done reports =
      let may = takes.may in
      let now : tally_at (slice_set old.tallies p t) p ≡ tally_after_step (tally_at old.tallies p) (is_blocked p (place_at old.processes p) kind v) = get_or-set_same old.tallies p t _ (rw room may.0) ∙ is in
      rw (reports, now) (answered old.procs old.limit (world_of old) p kind word v (tally_at old.tallies p) may.0 may.1 not_glance may.2 (all p may.0))

  pub tallied_start : (p : ℕ) (call : CoreCall) → Takes old (Starts p call) new → (own : Own) → own_at old.words p ≡ own → AllTallied old.procs (world_of new) (slice_set old.tallies p (new_tally own))
  tallied_start p call takes own is =
      let may = takes.may in
      let d = place_at old.processes p in
      let on = begun old.procs own d call may.1 d in
      subst (λ w. AllTallied old.procs w (slice_set old.tallies p (new_tally own))) (sym takes.world)
      (set_elsewhere old.procs old.limit (world_of old) (Starts p call) reached may old.tallies (new_tally own) (rw room may.0)
      (subst (λ s. IsTallied old.procs (own_at old.words p) s (new_tally own)) (sym (put_same (place_at old.processes) p (unwrap_or (place_after_start d call) d))) (rw is on))
      all)

  pub tallied_crash : (p : ℕ) → Takes old (Crashes p) new → AllTallied old.procs (world_of new) old.tallies
  tallied_crash p takes =
      let may = takes.may in
      let before = all p may.0 in
      let now : IsTallied old.procs (own_at old.words p) Dead (tally_at old.tallies p) = record { began = λ h. absurd h; taking = λ exact. let x = before.taking exact in (x.0, tt, x.2) } in
      subst (λ w. AllTallied old.procs w old.tallies) (sym takes.world)
      (elsewhere old.procs old.limit (world_of old) (Crashes p) reached may old.tallies old.tallies (λ q ne. refl)
      (subst (λ s. IsTallied old.procs (own_at old.words p) s (tally_at old.tallies p)) (sym (put_same (place_at old.processes) p Dead)) now)
      all)

-- the machine's access is never a glance
pub no_glance : {n limit p : ℕ} {words words' : List Own} {processes : List Standing} {s s' : Standing} {a : Access} {v : ℕ} → Moves (core_frame n limit p processes) words words' s s' a v → is_glance (kind_of a) ≡ false
no_glance {s = s} {a = a} m = let h : IfSome (next_access s) (λ a. is_glance (kind_of a) ≡ false) = never_glances s.limit s.index s.place in rw m.next at h

pub own_here : (words : List Own) (p n : ℕ) (own : Own) → own ≡ slice_index_or words p own → p < n → length words ≡ n → own_at words p ≡ own
own_here words p n own = at_here words p n own _

-- the counts after the machine's step
pub counted_here : {n limit p : ℕ} {words words' : List Own} {processes : List Standing} {s s' : Standing} {a : Access} {v : ℕ} → Moves (core_frame n limit p processes) words words' s s' a v
    → (tallies : List Tally) → length tallies ≡ n → (t : Tally) → t ≡ slice_index_or tallies p t → (done : Progress) → done ≡ progress s (next_access s) v → (t' : Tally) → t' ≡ tally_after_step t done.blocked
    → t' ≡ tally_after_step (tally_at tallies p) (is_blocked p (place_at processes p) (kind_of a) v)
counted_here {n = n} {p = p} {processes = processes} {s = s} {a = a} {v = v} m tallies each t is done reports t' counts =
    let here : tally_at tallies p ≡ t = at_here tallies p n t _ is m.below each in
    let place : place_at processes p ≡ s.place = ap (λ (x : Standing). x.place) m.here in
    let index : s.index ≡ p = m.configuration.2 in
    let again : carried_value a v ≡ v = settled a v _ m.value in
    let one : done ≡ progress s (Some a) v = reports ∙ ap (λ o. progress s o v) m.next in
    let blocked : done.blocked ≡ is_blocked s.index s.place (kind_of a) (carried_value a v) = ap (λ (x : Progress). x.blocked) one in
    counts ∙ rw (here, place, blocked, index, again) refl

pub done_here : {n limit p : ℕ} {words words' : List Own} {processes : List Standing} {s s' : Standing} {a : Access} {v : ℕ} → Moves (core_frame n limit p processes) words words' s s' a v → (done : Progress) → done ≡ progress s (next_access s) v
    → done.done ≡ answer (place_at processes p) (kind_of a) v
done_here {p = p} {processes = processes} {s = s} {a = a} {v = v} m done reports =
    let place : place_at processes p ≡ s.place = ap (λ (x : Standing). x.place) m.here in
    let again : carried_value a v ≡ v = settled a v _ m.value in
    let one : done ≡ progress s (Some a) v = reports ∙ ap (λ o. progress s o v) m.next in
    let is : done.done ≡ answer s.place (kind_of a) (carried_value a v) = ap (λ (x : Progress). x.done) one in
    is ∙ rw (place, again) refl

-- before any call
pub tallied_first : (n : ℕ) (w : World) (tallies : List Tally) → w.places ≡ at_rest.places → tallies ≡ replicate n (new_tally zeros) → AllTallied n w tallies
tallied_first n w tallies places is p below =
    subst (λ s. IsTallied n (w.words p) s (tally_at tallies p)) (sym (ap (λ f. f p) places))
    (subst (IsTallied n (w.words p) Rest) (sym (ap (λ ts. tally_at ts p) is ∙ get_or-replicate n p (new_tally zeros) (new_tally zeros) below)) (record { began = λ h. absurd h; taking = λ exact. (0, tt, refl) }))

-- a call under way has taken fewer steps than the bound
pub takes_fewer : (n : ℕ) (w : World) (tallies : List Tally) → AllTallied n w tallies → (p : ℕ) → IsExact (tally_at tallies p) → p < n → is_idle (w.places p) ≡ false → (tally_at tallies p).steps < most_steps n + (tally_at tallies p).blocked
takes_fewer n w tallies all p exact below busy =
    let t = tally_at tallies p in
    let taking = (all p below).taking exact in
    let less = fewer n t.began.choosing t.began.number t.began.inside (w.places p) taking.0 (omega arith) busy taking.1 in
    let sum = taking.2 in
    omega arith
