-- From every world of a run each process can still enter: all come home, and then it locks alone.
use Rattle.std.proofs.Common.{◌≡◌, ℕ, zero, suc, ◌<◌, ◌≤◌, true, ◌==◌, List, [], ◌∷◌, ◌++◌, length, None, refl, sym, ap, ◌∙◌, subst, arith, lt-ltb, eq-eqb}
use Rattle.rmecore.proofs.Common.{or_left, or_right, Lock, Take as Takes, Shut as Shuts, Rereads, Open as Opens, Peek as Peeks, Own, Choosing as ChoosingOf, Number as NumberOf, InsideOf, Place, Rest, Reread, Opening, Door, Shutting, Wait, Inside}
use Rattle.rmecore.proofs.Common.{has, without, others, is_before, Event, Starts, Crashes, Steps, World}
use Rattle.rmecore.proofs.Common.{IsUninterrupted, IsHome, IsStepOf, CanStillEnter}
use Rattle.rmecore.proofs.Invariant.{eqb_self}
use Rattle.rmecore.proofs.Scans.{has-first, lined_above, has-span-other, without_has, without_le}
use Rattle.rmecore.proofs.Continuations.{Continues, followed_by, widened}
use Rattle.rmecore.proofs.SoundWorlds.{Sound, IsOther, sound_final}
use Rattle.rmecore.proofs.Settling.{Stepped, step, start}
use Rattle.rmecore.proofs.Entering.{MayPass, enters}
use Rattle.rmecore.proofs.HomeStates.{way_home}

abbrev Zero : Own
Zero = record { choosing = 0; number = 0; inside = 0 }

whole : (p : ℕ) (e : Event) → IsStepOf p e → IsUninterrupted e
whole p (Starts q call) h = absurd h
whole p (Crashes q) h = absurd h
whole p (Steps q kind word v) h = tt

module _ (n limit p : ℕ) (below : p < n) (some : 0 < limit) where
  -- the words of all others are 0
  abbrev Alone : World → Type 0
  Alone w = (q : ℕ) → IsOther n p q → w.words q ≡ Zero

  -- p enters, and is inside
  abbrev Enters : World → Type 0
  Enters w = Continues n limit IsUninterrupted w (p ∷ []) (λ w'. w'.places p ≡ Inside)

  still : {w w' : World} {e : Event} {t : Place} → Stepped n p w e t w' → Alone w → Alone w'
  still r alone q other = r.words q other.1 ∙ alone q other

  passes : (w : World) → Alone w → MayPass n p w.words
  passes w alone j other =
      (ap (λ x. x.choosing) (alone j other), or_left ((w.words j).number == 0) (is_before (w.words p).number p (w.words j).number j) (eq-eqb (w.words j).number 0 (ap (λ x. x.number) (alone j other))))

  marks : {w : World} → Sound n w → Alone w → w.places p ≡ Wait 1 (others n p) None → Enters w
  marks {w = w} sound alone at = widened (whole p) (λ w' h. h.place) (enters n limit p below 1 (others n p) None sound at (passes w alone))

  shuts : {w : World} → Sound n w → Alone w → w.places p ≡ Shutting Lock 1 → Enters w
  shuts sound alone at =
      step n limit p below (Shutting Lock 1) (Wait 1 (others n p) None) Shuts (ChoosingOf p) 0 tt sound at (rw (eqb_self p) refl) (λ e. absurd (cc)) refl (λ w' r. marks r.sound (still r alone) r.place)

  takes : {w : World} → Sound n w → Alone w → w.places p ≡ Door [] 0 → Enters w
  takes sound alone at =
      step n limit p below (Door [] 0) (Shutting Lock 1) Takes (NumberOf p) 1 tt sound at (rw (eqb_self p, lt-ltb 0 limit some) refl) (λ e. absurd (cc)) refl (λ w' r. shuts r.sound (still r alone) r.place)

  peeks : (most : ℕ) {w : World} (unread : List ℕ) → length unread ≤ most → ((j : ℕ) → has unread j ≡ true → IsOther n p j) → Sound n w → Alone w → w.places p ≡ Door unread 0 → Enters w
  peeks most [] few other sound alone at = takes sound alone at
  peeks zero (j ∷ js) few other sound alone at = absurd (omega arith)
  peeks (suc most) {w = w} (j ∷ js) few other sound alone at =
      let less : length (without j (j ∷ js)) ≤ most = rw (eqb_self j) (omega (arith, without_le js j)) in
      let zero_number : (w.words j).number ≡ 0 = ap (λ x. x.number) (alone j (other j (has-first j js))) in
      step n limit p below (Door (j ∷ js) 0) (Door (without j (j ∷ js)) 0) Peeks (NumberOf j) 0 tt sound at (rw (has-first j js) refl) (λ e. zero_number) refl
      (λ w' r. peeks most (without j (j ∷ js)) less (λ i h. other i (without_has (j ∷ js) i j h)) r.sound (still r alone) r.place)

  opens : {w : World} → Sound n w → Alone w → w.places p ≡ Opening → Enters w
  opens sound alone at =
      step n limit p below Opening (Door (others n p) 0) Opens (ChoosingOf p) 1 tt sound at (rw (eqb_self p) refl) (λ e. absurd (cc)) refl
      (λ w' r. peeks (length (others n p)) (others n p) (omega arith) (λ j h. ((lined_above n p 0).below j h, has-span-other p 0 _ j h)) r.sound (still r alone) r.place)

  rereads : {w : World} → Sound n w → Alone w → w.words p ≡ Zero → w.places p ≡ Reread Lock [] → Enters w
  rereads sound alone own at =
      step n limit p below (Reread Lock []) (Reread Lock (0 ∷ [])) Rereads (ChoosingOf p) 0 tt sound at (rw (eqb_self p) refl) (λ e. ap (λ x. x.choosing) own) refl
      (λ w1 r1. step n limit p below (Reread Lock (0 ∷ [])) (Reread Lock (0 ∷ 0 ∷ [])) Rereads (NumberOf p) 0 tt r1.sound r1.place (rw (eqb_self p) refl) (λ e. ap (λ f. (f p).number) r1.now ∙ ap (λ x. x.number) own) refl
      (λ w2 r2. step n limit p below (Reread Lock (0 ∷ 0 ∷ [])) Opening Rereads (InsideOf p) 0 tt r2.sound r2.place (rw (eqb_self p) refl) (λ e. ap (λ f. (f p).inside) r2.now ∙ ap (λ f. (f p).inside) r1.now ∙ ap (λ x. x.inside) own) refl
      (λ w3 r3. opens r3.sound (still r3 (still r2 (still r1 alone))) r3.place)))

  locks : {w : World} → Sound n w → ((q : ℕ) → q < n → IsHome w q) → Enters w
  locks sound homes =
      start n limit p below Rest (Reread Lock []) Lock tt sound (homes p below).0 refl
      (λ w' r. rereads r.sound (still r (λ q other. (homes q other.0).1)) (ap (λ f. f p) r.now ∙ (homes p below).1) r.place)

  has_last : (line : List ℕ) → has (line ++ p ∷ []) p ≡ true
  has_last [] = or_left (p == p) _ (eqb_self p)
  has_last (q ∷ line) = or_right (p == q) (has (line ++ p ∷ []) p) (has_last line)

  pub can_still_enter : {w : World} → Sound n w → CanStillEnter n limit w p
  can_still_enter {w = w} sound =
      let h = way_home n limit sound in
      let home = sound_final n limit w h.way.events sound h.way.run in
      let c = followed_by h.way (locks home h.way.goal) in
      record { events = c.events; run = c.run; uninterrupted = c.each; enters = subst (λ l. has l p ≡ true) (sym c.entered) (has_last h.line); inside = c.goal }
