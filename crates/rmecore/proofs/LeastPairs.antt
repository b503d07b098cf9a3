-- The process that waits with the least pair stays first while the doorways under way are finished. Then it enters.
use Rattle.std.proofs.Common.{◌≡◌, ◌≢◌, ℕ, zero, suc, ◌<◌, ◌≤◌, Bool, true, false, not, ◌&&◌, ◌==◌, ◌⊎◌, List, [], ◌∷◌, All, Option, Some, None, IfSome, refl, sym, ap, ◌∙◌, subst, inl, inr, arith, eqb-true, eq-eqb, ne_eqb}
use Rattle.std.proofs.lemmas.List.Elements.{All-head, All-tail}
use Rattle.rmecore.proofs.Common.{cases_Bool, cases_eq, and_parts, or_left, or_right, Kind, Take as Takes, Shut as Shuts, Rereads, Open as Opens, Mark as Marks, Drop as Drops, Outer, Begin, Enter, Quit}
use Rattle.rmecore.proofs.Common.{Ready as Waiting, Abstract, is_door, is_ready, abstract_after, doer, put, Place, Reread, Opening, Door, Wait, Leaving, Withdrawing, Event, Starts, Crashes, Steps, is_before, process, World, May, after, Run, final, deed, step_deed}
use Rattle.rmecore.proofs.Common.{IsWaiting, IsFirstInLine, IsAheadOfDoorways, TakesLaterNumber, IsOfDoorway, CanEnter, reentry}
use Rattle.rmecore.proofs.Invariant.{Tied, Before, Counted, Stands, eqb_self, put_same, put_other, phase_waiting, phase_door, is_lost, Fits}
use Rattle.rmecore.proofs.Bounds.{before_test}
use Rattle.rmecore.proofs.Rows.{after_deed, before_by}
use Rattle.rmecore.proofs.Runs.{kept}
use Rattle.rmecore.proofs.Soles.{phase_other}
use Rattle.rmecore.proofs.Continuations.{Continues, ended, followed, widened, run-append, entered-append}
use Rattle.rmecore.proofs.SoundWorlds.{Sound}
use Rattle.rmecore.proofs.Settling.{Ends, IsSettled, fits, settles}
use Rattle.rmecore.proofs.Entering.{MayPass, enters}
use Rattle.rmecore.proofs.HomeStates.{waits_as}

-- a step's deed is of its process

reentry_own : (p c k i : ℕ) → IfSome (reentry p c k i) (λ d. doer d ≡ p)
reentry_own p zero (suc k) (suc i) = refl
reentry_own p _ _ _ = tt

step_own : (p : ℕ) (s : Place) (kind : Kind) (v : ℕ) → IfSome (step_deed p s kind v) (λ d. doer d ≡ p)
step_own p Opening Opens v = refl
step_own p (Door unread m) Takes v = refl
step_own p (Door unread m) Shuts v = refl
step_own p (Wait k unpassed looked) Marks v = refl
step_own p (Reread call (c ∷ k ∷ [])) Rereads v = reentry_own p c k v
step_own p Leaving Drops v = refl
step_own p Withdrawing Drops v = refl
step_own p _ _ v = tt

deed_own : (s : Place) (e : Event) → IfSome (deed s e) (λ d. doer d ≡ process e)
deed_own s (Starts p call) = tt
deed_own s (Crashes p) = refl
deed_own s (Steps p kind word v) = step_own p s kind v

-- p is ready, and ahead of all others
pub record IsAhead (p : ℕ) (a : Abstract) : Type 0 where
  pub ready : a.phase p ≡ Waiting
  pub each : (q : ℕ) → q ≢ p → a.ahead q p ≡ true

-- it stays so with each deed of another process
each_still : (p : ℕ) (a : Abstract) (d : Outer) → doer d ≢ p → IsAhead p a → (q : ℕ) → q ≢ p → (abstract_after a d).ahead q p ≡ true
each_still p a (Begin r) ne h q far =
    let ready_now : ℕ → Bool = λ q. is_ready (a.phase q) in
    elim (cases_eq q r) [
      | inl is ↦ subst (λ s. put a.ahead r ready_now s p ≡ true) (sym is) (ap (λ f. f p) (put_same a.ahead r ready_now) ∙ ap is_ready h.ready)
      | inr away ↦ ap (λ f. f p) (put_other a.ahead r ready_now q away) ∙ h.each q far
    ]
each_still p a (Enter r) ne h q far = put_other (a.ahead q) r false p (λ e. ne (sym e)) ∙ h.each q far
each_still p a (Quit r) ne h q far = put_other (a.ahead q) r false p (λ e. ne (sym e)) ∙ h.each q far
each_still p a d ne h q far = h.each q far

still_ahead : (p : ℕ) (a : Abstract) (d : Outer) → doer d ≢ p → IsAhead p a → IsAhead p (abstract_after a d)
still_ahead p a d ne h = record { ready = phase_other a d p (λ e. ne (sym e)) ∙ h.ready; each = each_still p a d ne h }

after_own : (p r : ℕ) (a : Abstract) (o : Option Outer) → IfSome o (λ d. doer d ≡ r) → r ≢ p → IsAhead p a → IsAhead p (after_deed a o)
after_own p r a None is ne h = h
after_own p r a (Some d) is ne h = still_ahead p a d (λ e. ne (sym is ∙ e)) h

-- a world with an abstract lock in which p is ahead of all others
pub record Front (n p : ℕ) (w : World) : Type 0 where
  pub lock : Abstract
  pub tied : Tied n w lock
  pub ahead : IsAhead p lock

pub front_after : (n limit p : ℕ) (w : World) (e : Event) → May n limit w e → process e ≢ p → Front n p w → Front n p (after n limit w e)
front_after n limit p w e may ne f =
    record {
      lock = after_deed f.lock (deed (w.places (process e)) e);
      tied = (kept n limit w f.lock e may f.tied).1;
      ahead = after_own p (process e) f.lock (deed (w.places (process e)) e) (deed_own (w.places (process e)) e) ne f.ahead;
    }

pub front_final : (n limit p : ℕ) (w : World) (es : List Event) → All (λ e. process e ≢ p) es → Run n limit w es → Front n p w → Front n p (final n limit w es)
front_final n limit p w [] away run f = f
front_final n limit p w (e ∷ es) away run f =
    front_final n limit p (after n limit w e) es (All-tail (λ e. process e ≢ p) e es away) run.1 (front_after n limit p w e run.0 (All-head (λ e. process e ≢ p) e es away) f)

counted_as : (k p : ℕ) (t : Place) → TakesLaterNumber p k t → Counted k p t
counted_as k p (Door unread m) h = h
counted_as k p _ h = tt

-- a doorway that p is ahead of counts p
pub counts_of :
    {n : ℕ} {w : World} {a : Abstract} → Tied n w a → (p q : ℕ) → p < n → q < n → IsWaiting (w.places p) → IsAheadOfDoorways n a p → (s : Place) → w.places q ≡ s → TakesLaterNumber p (w.words p).number s
counts_of {w = w} {a = a} t p q hp hq waits ahead (Door unread m) at =
    let f : Fits (w.words q) (Door unread m) = subst (Fits (w.words q)) at (t.fits q hq) in
    let far : q ≢ p = λ is. subst IsWaiting at (subst (λ r. IsWaiting (w.places r)) (sym is) waits) in
    let door : is_door (a.phase q) ≡ true = ap is_door (t.phase q hq ∙ phase_door (w.words q).choosing (w.words q).number (w.words q).inside (is_lost (w.places q)) f.0 f.1) in
    let s = ((t.pairs p q hp hq (λ is. far (sym is))).ahead (ahead q hq far door)).2 in
    subst (Counted (w.words p).number p) at s.counted
counts_of t p q hp hq waits ahead _ at = tt

module _ (n p : ℕ) (below : p < n) where
  -- the words of p while it waits
  waiting : {w : World} → Sound n w → IsWaiting (w.places p) → ((w.words p).choosing ≡ 0) × (0 < (w.words p).number) × ((w.words p).inside ≡ 0)
  waiting {w = w} sound waits =
      let s = waits_as (w.places p) waits in
      let f = fits n p below sound s.is in
      (f.0, omega arith, f.3)

  -- the abstract lock with p ahead of all others is one of this world too
  pub front_of : {w : World} → Sound n w → IsWaiting (w.places p) → IsFirstInLine n w p → ((q : ℕ) → q < n → TakesLaterNumber p (w.words p).number (w.places q)) → Front n p w
  front_of {w = w} sound waits first counts =
      let own = waiting sound waits in
      record {
        lock = record { phase = sound.lock.phase; ahead = λ i q. (q == p) && not (i == p) };
        tied = record {
          fits = sound.tied.fits;
          phase = sound.tied.phase;
          self = λ q. elim (cases_Bool (q == p)) [ inl e ↦ rw e refl | inr e ↦ rw e refl ];
          pairs = λ q i hq hi ne. record {
            passed = (sound.tied.pairs q i hq hi ne).passed;
            looked = (sound.tied.pairs q i hq hi ne).looked;
            ahead = λ e. stands q i hi ne (eqb-true q p (and_parts (q == p) (not (i == p)) e).0);
          };
        };
        ahead = record {
          ready = sound.tied.phase p below ∙ phase_waiting (w.words p).choosing (w.words p).number (w.words p).inside (is_lost (w.places p)) own.1 own.2;
          each = λ q ne. let no = ne_eqb q p ne in rw (eqb_self p, no) refl;
        };
      }
    where
      less : (i : ℕ) → i < n → i ≢ p → ((w.words i).number ≡ 0) ⊎ Before (w.words p).number p (w.words i).number i
      less i hi ne = elim (cases_eq (w.words i).number 0) [ inl z ↦ inl z | inr some ↦ inr (before_by (w.words p).number p (w.words i).number i (first i hi ne (omega arith))) ]

      stands : (q i : ℕ) → i < n → q ≢ i → q ≡ p → (0 < (w.words q).number) × ((w.words q).inside ≡ 0) × Stands (w.words q).number q i (w.words i) (w.places i)
      stands q i hi ne is =
          subst (λ r. (0 < (w.words r).number) × ((w.words r).inside ≡ 0) × Stands (w.words r).number r i (w.words i) (w.places i)) (sym is) (
          let own = waiting sound waits in
          (own.1, own.2, record { less = less i hi (λ same. ne (is ∙ sym same)); counted = counted_as (w.words p).number p (w.places i) (counts i hi) })
          )

  -- with no doorway open it passes all others
  pub front_passes : {w : World} → Front n p w → ((q : ℕ) → q < n → (w.words q).choosing ≡ 0) → MayPass n p w.words
  front_passes {w = w} f closed j other =
      let s = ((f.tied.pairs p j below other.0 (λ e. other.1 (sym e))).ahead (f.ahead.each j other.1)).2 in (
        closed j other.0,
        elim s.less [
          | inl z ↦ or_left ((w.words j).number == 0) (is_before (w.words p).number p (w.words j).number j) (eq-eqb (w.words j).number 0 z)
          | inr b ↦ or_right ((w.words j).number == 0) (is_before (w.words p).number p (w.words j).number j) (before_test (w.words p).number p (w.words j).number j b)
        ],
      )

-- the doorways of the processes below m are finished. Who was in none is as before
pub record Closed (n m : ℕ) (w w' : World) : Type 0 where
  pub sound : Sound n w'
  pub closed : (q : ℕ) → q < m → (w'.words q).choosing ≡ 0
  pub words : (q : ℕ) → (w.words q).choosing ≡ 0 → w'.words q ≡ w.words q
  pub places : (q : ℕ) → (w.words q).choosing ≡ 0 → w'.places q ≡ w.places q

module _ (n limit : ℕ) where
  settled_closed : (w : World) (p : ℕ) → p < n → Sound n w → IsSettled w p → (w.words p).choosing ≡ 0
  settled_closed w p below sound h = elim h [ inl home ↦ ap (λ x. x.choosing) home.1 | inr waits ↦ (waiting n p below sound waits).0 ]

  closed_more : {m : ℕ} {w w' w'' : World} → m < n → Closed n m w w' → 0 < (w.words m).choosing → Ends n m (λ w. IsSettled w m) w' w'' → Closed n (suc m) w w''
  closed_more {m = m} {w = w} {w'' = w''} below h begun e =
      let far : (q : ℕ) → (w.words q).choosing ≡ 0 → q ≢ m = λ q none is. let same : (w.words m).choosing ≡ 0 = subst (λ r. (w.words r).choosing ≡ 0) is none in omega arith in
      record {
        sound = e.sound;
        closed = λ q low. elim (cases_eq q m) [
          | inl is ↦ subst (λ r. (w''.words r).choosing ≡ 0) (sym is) (settled_closed w'' m below e.sound e.there)
          | inr ne ↦ ap (λ x. x.choosing) (e.words q ne) ∙ h.closed q (omega arith)
        ];
        words = λ q none. e.words q (far q none) ∙ h.words q none;
        places = λ q none. e.places q (far q none) ∙ h.places q none;
      }

  closes_next : {m : ℕ} {w w' : World} → m < n → Closed n m w w' → Continues n limit (IsOfDoorway w) w' [] (λ w''. Closed n (suc m) w w'')
  closes_next {m = m} {w = w} {w' = w'} below h =
      elim (cases_eq (w.words m).choosing 0) [
        | inl none ↦ ended (record {
          sound = h.sound;
          closed = λ q low. elim (cases_eq q m) [ inl is ↦ subst (λ r. (w'.words r).choosing ≡ 0) (sym is) (ap (λ x. x.choosing) (h.words m none) ∙ none) | inr ne ↦ h.closed q (omega arith) ];
          words = h.words;
          places = h.places;
        })
        | inr some ↦
            let begun : 0 < (w.words m).choosing = omega arith in
            widened (λ e q. (q.0, subst (λ r. 0 < (w.words r).choosing) (sym q.1) begun)) (λ w'' e. closed_more below h begun e) (settles n limit m below (w'.places m) h.sound refl)
      ]

  pub all_close : (m : ℕ) → m ≤ n → {w : World} → Sound n w → Continues n limit (IsOfDoorway w) w [] (λ w'. Closed n m w w')
  all_close zero low sound = ended (record { sound = sound; closed = λ q low. absurd (omega arith); words = λ q none. refl; places = λ q none. refl })
  all_close (suc m) low sound = followed (all_close m (omega arith) sound) (λ w' h. closes_next (omega arith) h)

  pub can_enter : {w : World} (p : ℕ) → p < n → Sound n w → IsWaiting (w.places p) → IsFirstInLine n w p → ((q : ℕ) → q < n → TakesLaterNumber p (w.words p).number (w.places q)) → CanEnter n limit w p
  can_enter {w = w} p below sound waits first counts =
      let own = waiting n p below sound waits in
      let c = all_close n (omega arith) sound in
      let w' = final n limit w c.events in
      let away : All (λ e. process e ≢ p) c.events = λ k d less is. let begun : 0 < (w.words p).choosing = subst (λ r. 0 < (w.words r).choosing) is (c.each k d less).1 in omega arith in
      let f = front_final n limit p w c.events away c.run (front_of n p below sound waits first counts) in
      let s = waits_as (w.places p) waits in
      let e = enters n limit p below s.number s.unpassed s.looked c.goal.sound (c.goal.places p own.0 ∙ s.is) (front_passes n p below f c.goal.closed) in
      record {
        doorways = c.events;
        own = e.events;
        run = run-append n limit w c.events e.events c.run e.run;
        of_doorways = c.each;
        own_steps = e.each;
        entered = entered-append n limit w c.events e.events c.entered e.entered;
      }

  pub can_enter_ahead : {w : World} {a : Abstract} (p : ℕ) → p < n → Sound n w → Tied n w a → IsWaiting (w.places p) → IsFirstInLine n w p → IsAheadOfDoorways n a p → CanEnter n limit w p
  can_enter_ahead {w = w} p below sound t waits first ahead = can_enter p below sound waits first (λ q low. counts_of t p q below low waits ahead (w.places q) refl)
