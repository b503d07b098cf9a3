-- A process that may pass each other process enters by its own steps alone.
use Rattle.std.proofs.Common.{◌≡◌, ◌≢◌, ℕ, zero, suc, ◌<◌, ◌≤◌, true, ◌||◌, ◌==◌, List, [], ◌∷◌, length, Option, Some, None, IsSome, refl, sym, ap, ◌∙◌, subst, arith}
use Rattle.rmecore.proofs.Common.{Look as Looks, Weigh as Weighs, Mark as Marks, Own, Choosing as ChoosingOf, Number as NumberOf, InsideOf, Enter, Place, Wait, Inside, next, Event, Starts, Crashes, Steps, without}
use Rattle.rmecore.proofs.Common.{is_before, World, May, step_deed}
use Rattle.rmecore.proofs.Common.{IsHome, IsStepOf}
use Rattle.rmecore.proofs.Invariant.{eqb_self}
use Rattle.rmecore.proofs.Scans.{has-first, without_le}
use Rattle.rmecore.proofs.Continuations.{Continues, ended, event_then, followed, widened}
use Rattle.rmecore.proofs.SoundWorlds.{Sound, IsOther, Awaits}
use Rattle.rmecore.proofs.Settling.{Stepped, Ends, IsOwn, after_event, fits, step, leaves}

-- with these words p passes each other process
abbrev pub MayPass : ℕ → ℕ → (ℕ → Own) → Type 0
MayPass n p words = (j : ℕ) → IsOther n p j → ((words j).choosing ≡ 0) × ((((words j).number == 0) || is_before (words p).number p (words j).number j) ≡ true)

-- p waits for nobody. The words are as before, and so are the places of the others
pub record Passed (n p : ℕ) (w w' : World) : Type 0 where
  pub sound : Sound n w'
  pub number : ℕ
  pub place : w'.places p ≡ Wait number [] None
  pub words : w'.words ≡ w.words
  pub places : (q : ℕ) → q ≢ p → w'.places q ≡ w.places q

-- p is inside
pub record Entered (n p : ℕ) (w w' : World) : Type 0 where
  pub sound : Sound n w'
  pub place : w'.places p ≡ Inside
  pub words : (q : ℕ) → q ≢ p → w'.words q ≡ w.words q
  pub places : (q : ℕ) → q ≢ p → w'.places q ≡ w.places q

step_is_own : (p : ℕ) (e : Event) → IsStepOf p e → IsOwn p e
step_is_own p (Starts q call) h = absurd h
step_is_own p (Crashes q) h = absurd h
step_is_own p (Steps q kind word v) h = (tt, h)

module _ (n limit p : ℕ) (below : p < n) where
  -- own steps of p lead there
  abbrev pub Passes : World → Type 0
  Passes w = Continues n limit (IsStepOf p) w [] (λ w'. Passed n p w w')

  further : {w : World} {e : Event} {t : Place} {w' : World} → Stepped n p w e t w' → w'.words ≡ w.words → Passes w' → Continues n limit (IsStepOf p) w' [] (λ w''. Passed n p w w'')
  further r same c = widened (λ e h. h) (λ w'' h. record { sound = h.sound; number = h.number; place = h.place; words = h.words ∙ same; places = λ q ne. h.places q ne ∙ r.places q ne }) c

  weighs : {w : World} (k : ℕ) (unpassed : List ℕ) (j : ℕ) → Sound n w → w.places p ≡ Wait k unpassed (Some j) → MayPass n p w.words
      → ((w' : World) → Sound n w' → w'.places p ≡ Wait k (without j unpassed) None → w'.words ≡ w.words → Passes w') → Passes w
  weighs {w = w} k unpassed j sound at may on =
      let h = fits n p below sound at in
      let a : Awaits n p (Wait k unpassed (Some j)) = subst (Awaits n p) at (sound.awaits p) in
      let test : (((w.words j).number == 0) || is_before k p (w.words j).number j) ≡ true = subst (λ x. (((w.words j).number == 0) || is_before x p (w.words j).number j) ≡ true) h.1 (may j a.1).1 in
      step n limit p below {Q = IsStepOf p} (Wait k unpassed (Some j)) (Wait k (without j unpassed) None) Weighs (NumberOf j) (w.words j).number refl sound at (rw (eqb_self j, test) refl) (λ e. refl) refl
      (λ w' r. further r r.now (on w' r.sound r.place r.now))

  looks : (most : ℕ) {w : World} (k : ℕ) (unpassed : List ℕ) → length unpassed ≤ most → Sound n w → w.places p ≡ Wait k unpassed None → MayPass n p w.words → Passes w
  looks most k [] few sound at may = ended (record { sound = sound; number = k; place = at; words = refl; places = λ q ne. refl })
  looks zero k (j ∷ js) few sound at may = absurd (omega arith)
  looks (suc most) {w = w} k (j ∷ js) few sound at may =
      let a : Awaits n p (Wait k (j ∷ js) None) = subst (Awaits n p) at (sound.awaits p) in
      let less : length (without j (j ∷ js)) ≤ most = rw (eqb_self j) (omega (arith, without_le js j)) in
      step n limit p below {Q = IsStepOf p} (Wait k (j ∷ js) None) (Wait k (j ∷ js) (Some j)) Looks (ChoosingOf j) 0 refl sound at (rw (has-first j js) refl) (λ e. (may j (a j (has-first j js))).0) refl
      (λ w' r. further r r.now (weighs k (j ∷ js) j r.sound r.place (subst (MayPass n p) (sym r.now) may)
      (λ w'' sound' at' same. looks most k (without j (j ∷ js)) less sound' at' (subst (MayPass n p) (sym (same ∙ r.now)) may))))

  passes : {w : World} (k : ℕ) (unpassed : List ℕ) (looked : Option ℕ) → Sound n w → w.places p ≡ Wait k unpassed looked → MayPass n p w.words → Passes w
  passes k unpassed None sound at may = looks (length unpassed) k unpassed (omega arith) sound at may
  passes k unpassed (Some j) sound at may =
      weighs k unpassed j sound at may (λ w' sound' at' same. looks (length (without j unpassed)) k (without j unpassed) (omega arith) sound' at' (subst (MayPass n p) (sym same) may))

  marks : {w : World} (k : ℕ) → Sound n w → w.places p ≡ Wait k [] None → Continues n limit (IsStepOf p) w (p ∷ []) (λ w'. Entered n p w w')
  marks {w = w} k sound at =
      let goes : next n limit p (w.places p) Marks (InsideOf p) 1 ≡ Some Inside = subst (λ x. next n limit p x Marks (InsideOf p) 1 ≡ Some Inside) (sym at) (rw (eqb_self p) refl) in
      let may : May n limit w (Steps p Marks (InsideOf p) 1) = (below, subst (λ o. IsSome o) (sym goes) refl, λ e. absurd (cc)) in
      let r = after_event n limit w (Steps p Marks (InsideOf p) 1) Inside sound may goes in
      event_then {Q = IsStepOf p} (Steps p Marks (InsideOf p) 1) (Some (Enter p)) refl may (ap (λ x. step_deed p x Marks 1) at) (ended (record { sound = r.sound; place = r.place; words = r.words; places = r.places }))

  -- own steps of p lead to its entry
  pub enters : {w : World} (k : ℕ) (unpassed : List ℕ) (looked : Option ℕ) → Sound n w → w.places p ≡ Wait k unpassed looked → MayPass n p w.words → Continues n limit (IsStepOf p) w (p ∷ []) (λ w'. Entered n p w w')
  enters k unpassed looked sound at may =
      followed (passes k unpassed looked sound at may)
      (λ w' h. widened (λ e q. q) (λ w'' i. record { sound = i.sound; place = i.place; words = λ q ne. i.words q ne ∙ ap (λ f. f q) h.words; places = λ q ne. i.places q ne ∙ h.places q ne }) (marks h.number h.sound h.place))

  -- p enters, leaves, and is home
  pub enters_and_leaves : {w : World} (k : ℕ) (unpassed : List ℕ) (looked : Option ℕ) → Sound n w → w.places p ≡ Wait k unpassed looked → MayPass n p w.words
      → Continues n limit (IsOwn p) w (p ∷ []) (λ w'. Ends n p (λ w. IsHome w p) w w')
  enters_and_leaves k unpassed looked sound at may =
      followed (widened (step_is_own p) (λ w' h. h) (enters k unpassed looked sound at may))
      (λ w' h. widened (λ e q. q) (λ w'' i. record { sound = i.sound; there = i.there; words = λ q ne. i.words q ne ∙ h.words q ne; places = λ q ne. i.places q ne ∙ h.places q ne }) (leaves n limit p below h.sound h.place))
