-- What one process can do alone, whatever the others do: it comes home, or waits.
use Rattle.std.proofs.Common.{◌≡◌, ◌≢◌, ℕ, zero, suc, ◌+◌, ◌<◌, ◌≤◌, max, ◌⊎◌, List, [], ◌∷◌, ◌++◌, length, Option, Some, None, IsSome, unwrap_or, refl, sym, ap, ◌∙◌, subst, inl, inr, arith, lt-ltb, le-leb}
use Rattle.rmecore.proofs.Common.{cases_eq, cases_lt, CoreCall, Lock, Unlock, Recover, Kind, Take as Takes, Shut as Shuts, Rereads, Open as Opens, Peek as Peeks, Mark as Marks, Drop as Drops, Own, Word, Choosing as ChoosingOf}
use Rattle.rmecore.proofs.Common.{Number as NumberOf, InsideOf, put, Place, Rest, Dead, Reread, Opening, Door, Shutting, Wait, Inside, Leaving, Withdrawing, Unmarking, next, Event, Starts, Steps, without, others}
use Rattle.rmecore.proofs.Common.{restart, place_after_start, place_after_unmark, process, place_after_event, World, May, after, Reads, words_after_event, and_then, step_deed}
use Rattle.rmecore.proofs.Common.{IsUninterrupted, IsHome, IsWaiting, entries, reentry}
use Rattle.rmecore.proofs.Invariant.{Fits, eqb_self, put_same, put_other}
use Rattle.rmecore.proofs.Runs.{kept}
use Rattle.rmecore.proofs.Scans.{has-first, without_le}
use Rattle.rmecore.proofs.Continuations.{Continues, ended, event_then, widened}
use Rattle.rmecore.proofs.SoundWorlds.{Sound, sound_after}

pub zeroed : (x : Own) → x.choosing ≡ 0 → x.number ≡ 0 → x.inside ≡ 0 → x ≡ record { choosing = 0; number = 0; inside = 0 }
zeroed x c k i = λ t. record { choosing = c t; number = k t; inside = i t }

-- the world after an event of p that leads p to place t
pub record Stepped (n p : ℕ) (w : World) (e : Event) (t : Place) (w' : World) : Type 0 where
  pub sound : Sound n w'
  pub place : w'.places p ≡ t
  pub now : w'.words ≡ words_after_event w.words e
  pub words : (q : ℕ) → q ≢ p → w'.words q ≡ w.words q
  pub places : (q : ℕ) → q ≢ p → w'.places q ≡ w.places q

pub after_event : (n limit : ℕ) (w : World) (e : Event) (t : Place) → Sound n w → May n limit w e → place_after_event n limit (w.places (process e)) e ≡ Some t → Stepped n (process e) w e t (after n limit w e)
after_event n limit w e t sound may goes =
    record {
      sound = sound_after n limit w e may sound;
      place = put_same w.places (process e) _ ∙ ap (λ o. unwrap_or o (w.places (process e))) goes;
      now = refl;
      words = (kept n limit w sound.lock e may sound.tied).2;
      places = put_other w.places (process e) _;
    }

-- p alone went on: S holds now, and the words and places of the others are as before
pub record Ends (n p : ℕ) (S : World → Type 0) (w w' : World) : Type 0 where
  pub sound : Sound n w'
  pub there : S w'
  pub words : (q : ℕ) → q ≢ p → w'.words q ≡ w.words q
  pub places : (q : ℕ) → q ≢ p → w'.places q ≡ w.places q

-- an event of p that cuts off no call
abbrev pub IsOwn : ℕ → Event → Type 0
IsOwn p e = IsUninterrupted e × (process e ≡ p)

-- p is home, or waits
abbrev pub IsSettled : World → ℕ → Type 0
IsSettled w p = IsHome w p ⊎ IsWaiting (w.places p)

pub settled_as : (w w' : World) (p : ℕ) → w'.words p ≡ w.words p → w'.places p ≡ w.places p → IsSettled w p → IsSettled w' p
settled_as w w' p words places h = elim h [ inl home ↦ inl (places ∙ home.0, words ∙ home.1) | inr waits ↦ inr (subst IsWaiting (sym places) waits) ]

-- p comes to its place of the restart table, by the words that it read
abbrev pub Restarts : ℕ → ℕ → CoreCall → World → World → Type 0
Restarts n p call w w' = w'.places p ≡ restart n p call (w.words p).choosing (w.words p).number (w.words p).inside

pub fits : (n p : ℕ) → p < n → {w : World} {s : Place} → Sound n w → w.places p ≡ s → Fits (w.words p) s
fits n p below {w = w} sound at = subst (Fits (w.words p)) at (sound.tied.fits p below)

own_after : (w w' : World) (p : ℕ) (x : Own) → w'.words ≡ put w.words p x → w'.words p ≡ x
own_after w w' p x is = ap (λ f. f p) is ∙ put_same w.words p x

no_entry : (p c k i : ℕ) → entries (and_then (reentry p c k i) []) ≡ []
no_entry p zero (suc k) (suc i) = refl
no_entry p _ _ _ = refl

module _ (n limit p : ℕ) (below : p < n) where
  -- a step of p that is no entry, and what follows
  pub step :
      {Q : Event → Type 0} {w : World} {line : List ℕ} {G : World → Type 0} (s t : Place) (kind : Kind) (word : Word) (v : ℕ) → Q (Steps p kind word v) → Sound n w → w.places p ≡ s → next n limit p s kind word v ≡ Some t
      → Reads w.words (Steps p kind word v) → entries (and_then (step_deed p s kind v) []) ≡ [] → ((w' : World) → Stepped n p w (Steps p kind word v) t w' → Continues n limit Q w' line G) → Continues n limit Q w line G
  step {Q = Q} {w = w} {line = line} {G = G} s t kind word v right sound at is reads silent on =
      let goes : next n limit p (w.places p) kind word v ≡ Some t = subst (λ x. next n limit p x kind word v ≡ Some t) (sym at) is in
      let may : May n limit w (Steps p kind word v) = (below, subst (λ o. IsSome o) (sym goes) refl, reads) in
      subst (λ l. Continues n limit Q w (l ++ line) G) silent
      (event_then (Steps p kind word v) (step_deed p s kind v) right may (ap (λ x. step_deed p x kind v) at) (on _ (after_event n limit w (Steps p kind word v) t sound may goes)))

  -- the start of a call, and what follows
  pub start :
      {Q : Event → Type 0} {w : World} {line : List ℕ} {G : World → Type 0} (s t : Place) (call : CoreCall) → Q (Starts p call) → Sound n w → w.places p ≡ s → place_after_start s call ≡ Some t
      → ((w' : World) → Stepped n p w (Starts p call) t w' → Continues n limit Q w' line G) → Continues n limit Q w line G
  start {w = w} s t call right sound at is on =
      let goes : place_after_start (w.places p) call ≡ Some t = subst (λ x. place_after_start x call ≡ Some t) (sym at) is in
      let may : May n limit w (Starts p call) = (below, subst (λ o. IsSome o) (sym goes) refl, tt) in
      event_then (Starts p call) None right may refl (on _ (after_event n limit w (Starts p call) t sound may goes))

  -- p alone can come to S
  abbrev pub Reaches : (World → Type 0) → World → Type 0
  Reaches S w = Continues n limit (IsOwn p) w [] (λ w'. Ends n p S w w')

  -- one event of p more
  longer : {S : World → Type 0} {w : World} {e : Event} {t : Place} {w' : World} → Stepped n p w e t w' → Reaches S w' → Continues n limit (IsOwn p) w' [] (λ w''. Ends n p S w w'')
  longer r c = widened (λ e h. h) (λ w'' h. record { sound = h.sound; there = h.there; words = λ q ne. h.words q ne ∙ r.words q ne; places = λ q ne. h.places q ne ∙ r.places q ne }) c

  goes :
      {S : World → Type 0} {w : World} (s t : Place) (kind : Kind) (word : Word) (v : ℕ) → Sound n w → w.places p ≡ s → next n limit p s kind word v ≡ Some t → Reads w.words (Steps p kind word v) → entries (and_then (step_deed p s kind v) []) ≡ []
      → ((w' : World) → Sound n w' → w'.places p ≡ t → w'.words ≡ words_after_event w.words (Steps p kind word v) → Reaches S w') → Reaches S w
  goes s t kind word v sound at is reads silent on = step {Q = IsOwn p} s t kind word v (tt, refl) sound at is reads silent (λ w' r. longer r (on w' r.sound r.place r.now))

  home_now : {w : World} → Sound n w → IsHome w p → Reaches (λ w. IsHome w p) w
  home_now sound there = ended (record { sound = sound; there = there; words = λ q ne. refl; places = λ q ne. refl })

  settled_now : {w : World} → Sound n w → IsSettled w p → Reaches (λ w. IsSettled w p) w
  settled_now sound there = ended (record { sound = sound; there = there; words = λ q ne. refl; places = λ q ne. refl })

  -- the exit

  unmarks : {w : World} (call : CoreCall) → place_after_unmark call ≡ Rest → Sound n w → w.places p ≡ Unmarking call → Reaches (λ w. IsHome w p) w
  unmarks {w = w} call rests sound at =
      let h = fits n p below sound at in
      let x : Own = record (w.words p) { inside = 0 } in
      goes (Unmarking call) Rest Marks (InsideOf p) 0 sound at (rw (eqb_self p, rests) refl) (λ e. absurd (cc)) refl
      (λ w' sound' at' now. home_now sound' (at', own_after w w' p x now ∙ zeroed x h.0 h.1 refl))

  drops : {w : World} → Sound n w → w.places p ≡ Leaving → Reaches (λ w. IsHome w p) w
  drops sound at = goes Leaving (Unmarking Unlock) Drops (NumberOf p) 0 sound at (rw (eqb_self p) refl) (λ e. absurd (cc)) refl (λ w' sound' at' now. unmarks Unlock refl sound' at')

  pub leaves : {w : World} → Sound n w → w.places p ≡ Inside → Reaches (λ w. IsHome w p) w
  leaves sound at = start {Q = IsOwn p} Inside Leaving Unlock (tt, refl) sound at refl (λ w' r. longer r (drops r.sound r.place))

  withdraws : {w : World} → Sound n w → w.places p ≡ Withdrawing → Reaches (λ w. IsHome w p) w
  withdraws {w = w} sound at =
      let h = fits n p below sound at in
      let x : Own = record (w.words p) { number = 0 } in
      goes Withdrawing Rest Drops (NumberOf p) 0 sound at (rw (eqb_self p) refl) (λ e. absurd (cc)) refl (λ w' sound' at' now. home_now sound' (at', own_after w w' p x now ∙ zeroed x h.0 refl h.2))

  comes_home : {w : World} → Reaches (λ w. IsHome w p) w → Reaches (λ w. IsSettled w p) w
  comes_home c = widened (λ e h. h) (λ w' h. record { sound = h.sound; there = inl h.there; words = h.words; places = h.places }) c

  -- the doorway

  waits : {w : World} (k : ℕ) (unpassed : List ℕ) (looked : Option ℕ) → Sound n w → w.places p ≡ Wait k unpassed looked → Reaches (λ w. IsSettled w p) w
  waits k unpassed looked sound at = settled_now sound (inr (subst IsWaiting (sym at) tt))

  shuts : {w : World} (k : ℕ) → Sound n w → w.places p ≡ Shutting Lock k → Reaches (λ w. IsSettled w p) w
  shuts k sound at = goes (Shutting Lock k) (Wait k (others n p) None) Shuts (ChoosingOf p) 0 sound at (rw (eqb_self p) refl) (λ e. absurd (cc)) refl (λ w' sound' at' now. waits k (others n p) None sound' at')

  takes : {w : World} (m : ℕ) → m < limit → Sound n w → w.places p ≡ Door [] m → Reaches (λ w. IsSettled w p) w
  takes m low sound at =
      goes (Door [] m) (Shutting Lock (m + 1)) Takes (NumberOf p) (m + 1) sound at (rw (eqb_self p, lt-ltb m limit low, eqb_self (m + 1)) refl) (λ e. absurd (cc)) refl (λ w' sound' at' now. shuts (m + 1) sound' at')

  quits : {w : World} (m : ℕ) → limit ≤ m → Sound n w → w.places p ≡ Door [] m → Reaches (λ w. IsSettled w p) w
  quits {w = w} m high sound at =
      let h = fits n p below sound at in
      let x : Own = record (w.words p) { choosing = 0 } in
      goes (Door [] m) Rest Shuts (ChoosingOf p) 0 sound at (rw (eqb_self p, le-leb limit m high) refl) (λ e. absurd (cc)) refl (λ w' sound' at' now. settled_now sound' (inl (at', own_after w w' p x now ∙ zeroed x refl h.1 h.2)))

  peeks : (most : ℕ) {w : World} (unread : List ℕ) (m : ℕ) → length unread ≤ most → Sound n w → w.places p ≡ Door unread m → Reaches (λ w. IsSettled w p) w
  peeks most [] m few sound at = elim (cases_lt m limit) [ inl low ↦ takes m low sound at | inr high ↦ quits m high sound at ]
  peeks zero (j ∷ js) m few sound at = absurd (omega arith)
  peeks (suc most) {w = w} (j ∷ js) m few sound at =
      let less : length (without j (j ∷ js)) ≤ most = rw (eqb_self j) (omega (arith, without_le js j)) in
      goes (Door (j ∷ js) m) (Door (without j (j ∷ js)) (max m (w.words j).number)) Peeks (NumberOf j) (w.words j).number sound at (rw (has-first j js) refl) (λ e. refl) refl
      (λ w' sound' at' now. peeks most (without j (j ∷ js)) (max m (w.words j).number) less sound' at')

  reads_all : {w : World} (m : ℕ) → Sound n w → w.places p ≡ Door (others n p) m → Reaches (λ w. IsSettled w p) w
  reads_all m sound at = peeks (length (others n p)) (others n p) m (omega arith) sound at

  opens : {w : World} → Sound n w → w.places p ≡ Opening → Reaches (λ w. IsSettled w p) w
  opens sound at = goes Opening (Door (others n p) 0) Opens (ChoosingOf p) 1 sound at (rw (eqb_self p) refl) (λ e. absurd (cc)) refl (λ w' sound' at' now. reads_all 0 sound' at')

  clears : {w : World} (call : CoreCall) → Sound n w → w.places p ≡ Unmarking call → Reaches (λ w. IsSettled w p) w
  clears Lock sound at = goes (Unmarking Lock) Opening Marks (InsideOf p) 0 sound at (rw (eqb_self p) refl) (λ e. absurd (cc)) refl (λ w' sound' at' now. opens sound' at')
  clears call sound at = comes_home (unmarks call refl sound at)

  -- a restart

  rereads_inside : {w : World} (call : CoreCall) (c k : ℕ) → Sound n w → w.places p ≡ Reread call (c ∷ k ∷ []) → ((w' : World) → Sound n w' → Restarts n p call w w' → Reaches (λ w. IsSettled w p) w') → Reaches (λ w. IsSettled w p) w
  rereads_inside {w = w} call c k sound at on =
      let h = fits n p below sound at in
      goes (Reread call (c ∷ k ∷ [])) (restart n p call c k (w.words p).inside) Rereads (InsideOf p) (w.words p).inside sound at (rw (eqb_self p) refl) (λ e. refl) (no_entry p c k (w.words p).inside)
      (λ w' sound' at' now. on w' sound' (subst (λ y. w'.places p ≡ restart n p call y (w.words p).number (w.words p).inside) (sym h.1) (subst (λ y. w'.places p ≡ restart n p call c y (w.words p).inside) (sym h.2) at')))

  rereads_number : {w : World} (call : CoreCall) (c : ℕ) → Sound n w → w.places p ≡ Reread call (c ∷ []) → ((w' : World) → Sound n w' → Restarts n p call w w' → Reaches (λ w. IsSettled w p) w') → Reaches (λ w. IsSettled w p) w
  rereads_number {w = w} call c sound at on =
      goes (Reread call (c ∷ [])) (Reread call (c ∷ (w.words p).number ∷ [])) Rereads (NumberOf p) (w.words p).number sound at (rw (eqb_self p) refl) (λ e. refl) refl
      (λ w' sound' at' now. rereads_inside call c (w.words p).number sound' at' (λ w'' sound'' at''. on w'' sound'' (subst (λ f. w''.places p ≡ restart n p call (f p).choosing (f p).number (f p).inside) now at'')))

  rereads : {w : World} (call : CoreCall) (seen : List ℕ) → Sound n w → w.places p ≡ Reread call seen → ((w' : World) → Sound n w' → Restarts n p call w w' → Reaches (λ w. IsSettled w p) w') → Reaches (λ w. IsSettled w p) w
  rereads {w = w} call [] sound at on =
      goes (Reread call []) (Reread call ((w.words p).choosing ∷ [])) Rereads (ChoosingOf p) (w.words p).choosing sound at (rw (eqb_self p) refl) (λ e. refl) refl
      (λ w' sound' at' now. rereads_number call (w.words p).choosing sound' at' (λ w'' sound'' at''. on w'' sound'' (subst (λ f. w''.places p ≡ restart n p call (f p).choosing (f p).number (f p).inside) now at'')))
  rereads call (c ∷ []) sound at on = rereads_number call c sound at on
  rereads call (c ∷ k ∷ []) sound at on = rereads_inside call c k sound at on
  rereads call (c ∷ k ∷ i ∷ seen) sound at on = absurd (fits n p below sound at)

  locks_again : {w : World} (c k i : ℕ) → Sound n w → w.places p ≡ restart n p Lock c k i → Reaches (λ w. IsSettled w p) w
  locks_again (suc c) zero i sound at = reads_all 0 sound at
  locks_again (suc c) (suc k) i sound at = shuts (suc k) sound at
  locks_again zero zero zero sound at = opens sound at
  locks_again zero zero (suc i) sound at = clears Lock sound at
  locks_again zero (suc k) zero sound at = waits (suc k) (others n p) None sound at
  locks_again zero (suc k) (suc i) sound at = comes_home (leaves sound at)

  locks : {w : World} (s : Place) → place_after_start s Lock ≡ Some (Reread Lock []) → Sound n w → w.places p ≡ s → Reaches (λ w. IsSettled w p) w
  locks s may sound at = start {Q = IsOwn p} s (Reread Lock []) Lock (tt, refl) sound at may (λ w' r. longer r (rereads Lock [] r.sound r.place (λ w'' sound'' at''. locks_again (w'.words p).choosing (w'.words p).number (w'.words p).inside sound'' at'')))

  rests : {w : World} → Sound n w → w.places p ≡ Rest → Reaches (λ w. IsSettled w p) w
  rests {w = w} sound at =
      elim (cases_eq (w.words p).choosing 0) [
        | inl c ↦ elim (cases_eq (w.words p).number 0) [ inl k ↦ settled_now sound (inl (at, zeroed (w.words p) c k (fits n p below sound at).0)) | inr k ↦ locks Rest refl sound at ]
        | inr c ↦ locks Rest refl sound at
      ]

  closes : {w : World} (call : CoreCall) (k : ℕ) → Sound n w → w.places p ≡ Shutting call k → Reaches (λ w. IsSettled w p) w
  closes Lock k sound at = shuts k sound at
  closes call k sound at = goes (Shutting call k) Rest Shuts (ChoosingOf p) 0 sound at (rw (eqb_self p) refl) (λ e. absurd (cc)) refl (λ w' sound' at' now. rests sound' at')

  recovers : {w : World} (call : CoreCall) (c k i : ℕ) → Sound n w → w.places p ≡ restart n p call c k i → Reaches (λ w. IsSettled w p) w
  recovers Lock c k i sound at = locks_again c k i sound at
  recovers call (suc c) zero i sound at = rests sound at
  recovers call (suc c) (suc k) i sound at = closes Recover (suc k) sound at
  recovers call zero zero zero sound at = rests sound at
  recovers call zero zero (suc i) sound at = clears Recover sound at
  recovers call zero (suc k) zero sound at = rests sound at
  recovers call zero (suc k) (suc i) sound at = comes_home (leaves sound at)

  -- from every place
  pub settles : {w : World} (s : Place) → Sound n w → w.places p ≡ s → Reaches (λ w. IsSettled w p) w
  settles Rest sound at = rests sound at
  settles Dead sound at = locks Dead refl sound at
  settles {w = w} (Reread call seen) sound at = rereads call seen sound at (λ w' sound' at'. recovers call (w.words p).choosing (w.words p).number (w.words p).inside sound' at')
  settles Opening sound at = opens sound at
  settles (Door unread m) sound at = peeks (length unread) unread m (omega arith) sound at
  settles (Shutting call k) sound at = closes call k sound at
  settles (Wait k unpassed looked) sound at = waits k unpassed looked sound at
  settles Inside sound at = comes_home (leaves sound at)
  settles Leaving sound at = comes_home (drops sound at)
  settles Withdrawing sound at = comes_home (withdraws sound at)
  settles (Unmarking call) sound at = clears call sound at
