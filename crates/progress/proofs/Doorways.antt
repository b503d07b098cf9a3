-- While a process is in its doorway, who begins after it does not enter, and each other process enters once at most.
use Rattle.std.proofs.Common.{◌≡◌, ◌≢◌, ℕ, zero, suc, ◌<◌, ◌≤◌, Bool, true, ◌==◌, ◌||◌, ◌⊎◌, List, [], ◌∷◌, Option, Some, None, IsSome, unwrap_or, refl, sym, ap, ◌∙◌, subst, inl, inr, arith, eqb-true, eq-eqb, ne_eqb}
use Rattle.std.proofs.lemmas.Bool.{cases_Bool, cases_eq}
use Rattle.rmecore.proofs.Invariant.{Fits, has-others, has-without, put_same, put_other}
use Rattle.rmecore.proofs.Runs.{guard}
use Rattle.rmecore.proofs.SoundWorlds.{Sound}
use Rattle.rmecore.specs.Place.{Event, Starts, Crashes, Steps, Place, Reread, Opening, Door, Shutting, Wait, Leaving, Withdrawing, Unmarking, has, others, is_before, only, next, place_after_start, restart, shut, place_after_unmark, place_after_event, process}
use Rattle.rmecore.specs.World.{World, May, Reads, after, Run, deed, deeds, and_then, reentry}
use Rattle.rmecore.specs.declared.core_call.CoreCall.{CoreCall}
use Rattle.rmecore.specs.declared.core_call.CoreCall.TheVariants.{Lock, Withdraw}
use Rattle.rmecore.specs.declared.kind.Kind.{Kind}
use Rattle.rmecore.specs.declared.kind.Kind.TheVariants.{Reread as Rereads, Open as Opens, Peek as Peeks, Take as Takes, Shut as Shuts, Look as Looks, Weigh as Weighs, Mark as Marks, Drop as Drops, Glance as Glances}
use Rattle.rmecore.specs.declared.outer.Outer.{Outer}
use Rattle.rmecore.specs.declared.own.Own.{Own}
use Rattle.rmecore.specs.declared.word.Word.{Word}
use Rattle.rmecore.specs.declared.word.Word.TheVariants.{Choosing as ChoosingOf, Number as NumberOf, Inside as InsideOf}
use Rattle.progress.specs.Bypass.{times_entered, Throughout, IsOutside}

-- an event is no entry of q, or it is the mark with which q enters
pub record Marking (q : ℕ) (s : Place) (e : Event) : Type 0 where
  pub number : ℕ
  pub unpassed : List ℕ
  pub looked : Option ℕ
  pub word : Word
  pub value : ℕ
  pub place : s ≡ Wait number unpassed looked
  pub event : e ≡ Steps q Marks word value

abbrev Counted : ℕ → Place → Event → List Outer → Type 0
Counted q s e ds = (times_entered q (and_then (deed s e) ds) ≡ times_entered q ds) ⊎ (Marking q s e × (times_entered q (and_then (deed s e) ds) ≡ suc (times_entered q ds)))

reenters : (q p c k i : ℕ) (ds : List Outer) → times_entered q (and_then (reentry p c k i) ds) ≡ times_entered q ds
reenters q p zero (suc k) (suc i) ds = refl
reenters q p _ _ _ ds = refl

counted : (q : ℕ) (s : Place) (e : Event) (ds : List Outer) → Counted q s e ds
counted q s (Starts p call) ds = inl refl
counted q s (Crashes p) ds = inl refl
counted q (Wait k unpassed looked) (Steps p Marks word v) ds =
    elim (cases_eq p q) [
      | inl is ↦
          let yes = eq-eqb p q is in
          inr (record { number = k; unpassed = unpassed; looked = looked; word = word; value = v; place = refl; event = ap (λ r. Steps r Marks word v) is }, rw yes refl)
      | inr away ↦ let no = ne_eqb p q away in inl (rw no refl)
    ]
counted q Opening (Steps p Opens word v) ds = inl refl
counted q (Door unread m) (Steps p Takes word v) ds = inl refl
counted q (Door unread m) (Steps p Shuts word v) ds = inl refl
counted q (Reread call (c ∷ k ∷ [])) (Steps p Rereads word v) ds = inl (reenters q p c k v ds)
counted q Leaving (Steps p Drops word v) ds = inl refl
counted q Withdrawing (Steps p Drops word v) ds = inl refl
counted q _ (Steps p _ word v) ds = inl refl

-- at this place a process has neither looked at p nor passed it
abbrev pub Unseen : ℕ → Place → Type 0
Unseen p (Wait k unpassed None) = has unpassed p ≡ true
Unseen p (Wait k unpassed (Some j)) = (has unpassed p ≡ true) × (j ≢ p)
Unseen p _ = Unit {0}

module _ (n limit p q : ℕ) (below : p < n) (ne : q ≢ p) where
  in_others : has (others n q) p ≡ true
  in_others = has-others n q p below (λ e. ne (sym e))

  unseen_restart : (call : CoreCall) (c k i : ℕ) → Unseen p (restart n q call c k i)
  unseen_restart Lock zero (suc k) zero = in_others
  unseen_restart _ (suc c) zero i = tt
  unseen_restart _ zero zero (suc i) = tt
  unseen_restart _ zero (suc k) (suc i) = tt
  unseen_restart _ _ _ _ = tt

  unseen_shut : (call : CoreCall) (k : ℕ) → Unseen p (shut n q call k)
  unseen_shut Lock k = in_others
  unseen_shut _ k = tt

  unseen_unmarked : (call : CoreCall) → Unseen p (place_after_unmark call)
  unseen_unmarked Lock = tt
  unseen_unmarked _ = tt

  unseen_started : (s : Place) (call : CoreCall) → Unseen p s → Unseen p (unwrap_or (place_after_start s call) s)
  unseen_started (Wait k unpassed looked) Withdraw h = tt
  unseen_started s Withdraw h = h
  unseen_started _ _ h = h

  guarded : (b : Bool) (t s : Place) → IsSome (only b t) → (b ≡ true → Unseen p t) → Unseen p (unwrap_or (only b t) s)
  guarded b t s some h = guard b t s (Unseen p) some h

  -- as long as p has its choosing set, nobody gets past its look at p
  unseen_next :
      (words : ℕ → Own) → 0 < (words p).choosing → (s : Place) (kind : Kind) (word : Word) (v : ℕ) → IsSome (next n limit q s kind word v) → Reads words (Steps q kind word v) → Unseen p s
      → Unseen p (unwrap_or (next n limit q s kind word v) s)
  unseen_next words begun (Reread call []) Rereads (ChoosingOf r) v some reads h = guarded (r == q) _ _ some (λ e. tt)
  unseen_next words begun (Reread call (c ∷ [])) Rereads (NumberOf r) v some reads h = guarded (r == q) _ _ some (λ e. tt)
  unseen_next words begun (Reread call (c ∷ k ∷ [])) Rereads (InsideOf r) v some reads h = guarded (r == q) _ _ some (λ e. unseen_restart call c k v)
  unseen_next words begun Opening Opens (ChoosingOf r) v some reads h = guarded _ _ _ some (λ e. tt)
  unseen_next words begun (Door unread m) Peeks (NumberOf j) v some reads h = guarded _ _ _ some (λ e. tt)
  unseen_next words begun (Door [] m) Takes (NumberOf r) v some reads h = guarded _ _ _ some (λ e. tt)
  unseen_next words begun (Door [] m) Shuts (ChoosingOf r) v some reads h = guarded _ _ _ some (λ e. tt)
  unseen_next words begun (Shutting call k) Shuts (ChoosingOf r) v some reads h = guarded _ _ _ some (λ e. unseen_shut call k)
  unseen_next words begun (Wait k unpassed None) Looks (ChoosingOf j) v some reads h =
      guarded (has unpassed j) _ _ some
      (λ e. elim (cases_Bool (v == 0)) [
        | inl zeroed ↦
            let away : j ≢ p = λ is. let read_zero : (words p).choosing ≡ 0 = ap (λ r. (words r).choosing) (sym is) ∙ reads refl ∙ eqb-true v 0 zeroed in omega arith in
            rw zeroed (h, away)
        | inr set ↦ rw set h
      ])
  unseen_next words begun (Wait k unpassed (Some i)) Weighs (NumberOf j) v some reads h =
      guarded (j == i) _ _ some
      (λ e. elim (cases_Bool ((v == 0) || is_before k q v j)) [
        | inl passes ↦
            let away : p ≢ j = λ is. h.1 (sym (eqb-true j i e) ∙ sym is) in
            rw passes (has-without unpassed p j away ∙ h.0)
        | inr blocked ↦ rw blocked h
      ])
  unseen_next words begun (Wait k [] None) Marks (InsideOf r) v some reads h = guarded _ _ _ some (λ e. tt)
  unseen_next words begun Leaving Drops (NumberOf r) v some reads h = guarded _ _ _ some (λ e. tt)
  unseen_next words begun Withdrawing Drops (NumberOf r) v some reads h = guarded _ _ _ some (λ e. tt)
  unseen_next words begun (Unmarking call) Marks (InsideOf r) v some reads h = guarded _ _ _ some (λ e. unseen_unmarked call)
  unseen_next words begun s Glances (ChoosingOf r) v some reads h = h
  unseen_next words begun s Glances (NumberOf r) v some reads h = h
  unseen_next words begun s Glances (InsideOf r) v some reads h = h
  unseen_next words begun _ _ _ _ some reads h = absurd (cc)

  unseen_moved : (words : ℕ → Own) (s : Place) (e : Event) → 0 < (words p).choosing → process e ≡ q → IsSome (place_after_event n limit s e) → Reads words e → Unseen p s → Unseen p (unwrap_or (place_after_event n limit s e) s)
  unseen_moved words s (Starts r call) begun is some reads h = unseen_started s call h
  unseen_moved words s (Crashes r) begun is some reads h = tt
  unseen_moved words s (Steps r kind word v) begun is some reads h =
      subst (λ t. IsSome (next n limit t s kind word v) → Reads words (Steps t kind word v) → Unseen p (unwrap_or (next n limit t s kind word v) s)) (sym is) (λ some reads. unseen_next words begun s kind word v some reads h) some reads

  unseen_after : (w : World) (e : Event) → 0 < (w.words p).choosing → May n limit w e → Unseen p (w.places q) → Unseen p ((after n limit w e).places q)
  unseen_after w e begun may h =
      elim (cases_eq (process e) q) [
        | inl is ↦ subst (λ r. Unseen p ((after n limit w e).places r)) is (subst (Unseen p) (sym (put_same w.places (process e) _)) (unseen_moved w.words (w.places (process e)) e begun is may.1 may.2 (subst (λ r. Unseen p (w.places r)) (sym is) h)))
        | inr away ↦ subst (Unseen p) (sym (put_other w.places (process e) _ q (λ is. away (sym is)))) h
      ]

  -- a mark that may come has passed all others
  marks_last : (w : World) (e : Event) → May n limit w e → Marking q (w.places (process e)) e → Unseen p (w.places q) → ⊥
  marks_last w e may m h =
      let of_q : process e ≡ q = ap process m.event in
      let at : w.places q ≡ Wait m.number m.unpassed m.looked = ap w.places (sym of_q) ∙ m.place in
      let seen : Unseen p (Wait m.number m.unpassed m.looked) = subst (Unseen p) at h in
      let may_mark : IsSome (next n limit q (Wait m.number m.unpassed m.looked) Marks m.word m.value) =
      subst (λ s. IsSome (next n limit q s Marks m.word m.value)) at (subst (λ r. IsSome (place_after_event n limit (w.places (process r)) r)) m.event may.1) in
      no_mark m.number m.unpassed m.looked m.word m.value may_mark seen
    where
      no_mark : (k : ℕ) (unpassed : List ℕ) (looked : Option ℕ) (word : Word) (v : ℕ) → IsSome (next n limit q (Wait k unpassed looked) Marks word v) → Unseen p (Wait k unpassed looked) → ⊥
      no_mark k [] None word v some h = absurd (cc)
      no_mark k (j ∷ js) None word v some h = absurd (cc)
      no_mark k unpassed (Some j) word v some h = absurd (cc)

  pub none_enters :
      (w : World) (es : List Event) → Run n limit w es → Throughout (λ v. 0 < (v.words p).choosing) n limit w es → Unseen p (w.places q) → times_entered q (deeds n limit w es) ≡ 0
  none_enters w [] run begun h = refl
  none_enters w (e ∷ es) run begun h =
      let rest = none_enters (after n limit w e) es run.1 begun.1 (unseen_after w e begun.0 run.0 h) in
      elim (counted q (w.places (process e)) e (deeds n limit (after n limit w e) es)) [
        | inl same ↦ same ∙ rest
        | inr entry ↦ absurd (marks_last w e run.0 entry.0 h)
      ]

  -- where a mark leads nothing was looked at
  after_mark : (w : World) (e : Event) → May n limit w e → Marking q (w.places (process e)) e → Unseen p ((after n limit w e).places q)
  after_mark w e may m =
      let of_q : process e ≡ q = ap process m.event in
      subst (λ r. Unseen p ((after n limit w e).places r)) of_q (subst (Unseen p) (sym (put_same w.places (process e) _))
      (subst (λ s. IsSome (place_after_event n limit s e) → Unseen p (unwrap_or (place_after_event n limit s e) s)) (sym m.place)
      (subst (λ r. IsSome (place_after_event n limit (Wait m.number m.unpassed m.looked) r) → Unseen p (unwrap_or (place_after_event n limit (Wait m.number m.unpassed m.looked) r) (Wait m.number m.unpassed m.looked))) (sym m.event)
      (marked m.number m.unpassed m.looked m.word m.value)) may.1))
    where
      marked : (k : ℕ) (unpassed : List ℕ) (looked : Option ℕ) (word : Word) (v : ℕ) → IsSome (next n limit q (Wait k unpassed looked) Marks word v) → Unseen p (unwrap_or (next n limit q (Wait k unpassed looked) Marks word v) (Wait k unpassed looked))
      marked k [] None (InsideOf r) v some = guarded _ _ _ some (λ e. tt)
      marked k [] None _ v some = absurd (cc)
      marked k (j ∷ js) None word v some = absurd (cc)
      marked k unpassed (Some j) word v some = absurd (cc)

  pub enters_once : (w : World) (es : List Event) → Run n limit w es → Throughout (λ v. 0 < (v.words p).choosing) n limit w es → times_entered q (deeds n limit w es) ≤ 1
  enters_once w [] run begun = omega arith
  enters_once w (e ∷ es) run begun =
      elim (counted q (w.places (process e)) e (deeds n limit (after n limit w e) es)) [
        | inl same ↦ rw same (enters_once (after n limit w e) es run.1 begun.1)
        | inr entry ↦ let none = none_enters (after n limit w e) es run.1 begun.1 (after_mark w e run.0 entry.0) in rw (entry.1, none) (omega arith)
      ]

-- who holds no number does not wait
pub outside_unseen : (n p q : ℕ) (w : World) → q < n → Sound n w → IsOutside w q → Unseen p (w.places q)
outside_unseen n p q w below sound outside = go (w.places q) (sound.tied.fits q below)
  where
    go : (s : Place) → Fits (w.words q) s → Unseen p s
    go (Wait k unpassed looked) fits = absurd (let none = outside.unnumbered in omega arith)
    go _ fits = tt

pub throughout_weaker : (n limit : ℕ) (P Q : World → Type 0) → ((w : World) → P w → Q w) → (w : World) (es : List Event) → Throughout P n limit w es → Throughout Q n limit w es
throughout_weaker n limit P Q weaker w [] h = weaker w h
throughout_weaker n limit P Q weaker w (e ∷ es) h = (weaker w h.0, throughout_weaker n limit P Q weaker (after n limit w e) es h.1)
