-- A process in line keeps its number until it enters, withdraws or crashes. A call under way ends with an answer.
use Rattle.std.proofs.Common.{◌≡◌, ◌≢◌, ℕ, zero, suc, ◌<◌, Bool, true, false, ◌||◌, ◌==◌, ◌⊎◌, if◌then◌else◌, List, [], ◌∷◌, All, Option, Some, None, IsSome, unwrap_or, refl, sym, ap, ◌∙◌, subst, inl, inr, arith, eq-eqb, ne_eqb}
use Rattle.std.proofs.lemmas.List.Elements.{All-head, All-tail}
use Rattle.rmecore.proofs.Common.{cases_Bool, cases_eq, or_left, cond_both, CoreCall, Lock, Recover, Unlock, Withdraw, Kind, Take as Takes, Shut as Shuts, Rereads, Open as Opens, Peek as Peeks, Look as Looks, Weigh as Weighs, Mark as Marks}
use Rattle.rmecore.proofs.Common.{Drop as Drops, Glance as Glances, Outer, Enter, Own, Word, Choosing as ChoosingOf, Number as NumberOf, InsideOf, Place, Rest, Dead, Reread, Opening, Door, Shutting, Wait, Inside, Leaving, Withdrawing, Unmarking}
use Rattle.rmecore.proofs.Common.{has, only, next, Event, Starts, Crashes, Steps, without, is_before, restart, place_after_start, shut, place_after_unmark, process, place_after_event, World, May, after, Run, final, words_after_event, write, own_events, deeds, deed, and_then, step_deed, answer}
use Rattle.rmecore.proofs.Common.{IsUninterrupted, IsInLine, answer_of, IsAnswered, entries, is_idle}
use Rattle.rmecore.proofs.Invariant.{Fits, eqb_self, put_same, put_other}
use Rattle.rmecore.proofs.Runs.{guard, kept}
use Rattle.rmecore.proofs.SoundWorlds.{Sound, sound_after}

-- a place other than that of a withdraw
abbrev Stands : Place → Type 0
Stands Withdrawing = ⊥
Stands _ = Unit {0}

-- words that keep a place in line
pub record Keeps (x y : Own) : Type 0 where
  pub number : y.number ≡ x.number
  pub inside : y.inside ≡ x.inside

the_same : (x : Own) → Keeps x x
the_same x = record { number = refl; inside = refl }

-- a store of choosing keeps it
choosing_kept : (words : ℕ → Own) (q v p : ℕ) → Keeps (words p) (write words (ChoosingOf q) v p)
choosing_kept words q v p =
    elim (cases_eq p q) [
      | inl is ↦ subst (λ r. Keeps (words r) (write words (ChoosingOf q) v r)) (sym is) (subst (Keeps (words q)) (sym (put_same words q (record (words q) { choosing = v }))) (record { number = refl; inside = refl }))
      | inr ne ↦ subst (Keeps (words p)) (sym (put_other words q (record (words q) { choosing = v }) p ne)) (the_same (words p))
    ]

module _ (n limit p : ℕ) (words : ℕ → Own) where
  -- a step that isn't p's entry
  abbrev NoEntry : Place → Kind → ℕ → Type 0
  NoEntry s kind v = has (entries (and_then (step_deed p s kind v) [])) p ≡ false

  -- p has its number still, and doesn't withdraw
  abbrev Still : Kind → Word → ℕ → Place → Type 0
  Still kind word v t = Keeps (words p) (words_after_event words (Steps p kind word v) p) × Stands t

  stands_restart : (call : CoreCall) (c k i : ℕ) → Stands (restart n p call c k i)
  stands_restart Lock (suc c) zero i = tt
  stands_restart Lock (suc c) (suc k) i = tt
  stands_restart Lock zero zero zero = tt
  stands_restart Lock zero zero (suc i) = tt
  stands_restart Lock zero (suc k) zero = tt
  stands_restart Lock zero (suc k) (suc i) = tt
  stands_restart _ (suc c) zero i = tt
  stands_restart _ (suc c) (suc k) i = tt
  stands_restart _ zero zero zero = tt
  stands_restart _ zero zero (suc i) = tt
  stands_restart _ zero (suc k) zero = tt
  stands_restart _ zero (suc k) (suc i) = tt

  stands_shut : (call : CoreCall) (k : ℕ) → Stands (shut n p call k)
  stands_shut Lock k = tt
  stands_shut _ k = tt

  same : (kind : Kind) (word : Word) (v : ℕ) (t s : Place) (b : Bool) → IsSome (only b t) → (b ≡ true → Still kind word v t) → Still kind word v (unwrap_or (only b t) s)
  same kind word v t s b some h = guard b t s (Still kind word v) some h

  step_keeps : (s : Place) (kind : Kind) (word : Word) (v : ℕ) → IsSome (next n limit p s kind word v) → Fits (words p) s → 0 < (words p).number → (words p).inside ≡ 0 → Stands s → NoEntry s kind v → Still kind word v (unwrap_or (next n limit p s kind word v) s)
  step_keeps (Reread call []) Rereads (ChoosingOf q) v some f k i st other = same Rereads (ChoosingOf q) v _ _ _ some (λ e. (the_same (words p), tt))
  step_keeps (Reread call (c ∷ [])) Rereads (NumberOf q) v some f k i st other = same Rereads (NumberOf q) v _ _ _ some (λ e. (the_same (words p), tt))
  step_keeps (Reread call (c ∷ x ∷ [])) Rereads (InsideOf q) v some f k i st other = same Rereads (InsideOf q) v _ _ _ some (λ e. (the_same (words p), stands_restart call c x v))
  step_keeps Opening Opens (ChoosingOf q) v some f k i st other = absurd (omega arith)
  step_keeps (Door unread m) kind word v some f k i st other = absurd (omega arith)
  step_keeps (Shutting call x) Shuts (ChoosingOf q) v some f k i st other = same Shuts (ChoosingOf q) v _ _ _ some (λ e. (choosing_kept words q v p, stands_shut call x))
  step_keeps (Wait x unpassed None) Looks (ChoosingOf j) v some f k i st other =
      same Looks (ChoosingOf j) v _ _ _ some (λ e. (the_same (words p), cond_both (v == 0) (Wait x unpassed (Some j)) (Wait x unpassed None) Stands (λ _. tt) (λ _. tt)))
  step_keeps (Wait x unpassed (Some j)) Weighs (NumberOf r) v some f k i st other =
      same Weighs (NumberOf r) v _ _ _ some (λ e. (the_same (words p), cond_both ((v == 0) || is_before x p v r) (Wait x (without r unpassed) None) (Wait x unpassed (Some j)) Stands (λ _. tt) (λ _. tt)))
  step_keeps (Wait x [] None) Marks (InsideOf q) v some f k i st other =
      let bad : true ≡ false = sym (or_left (p == p) false (eqb_self p)) ∙ other in
      cc
  step_keeps Leaving kind word v some f k i st other = absurd (omega arith)
  step_keeps Withdrawing kind word v some f k i st other = absurd st
  step_keeps (Unmarking call) kind word v some f k i st other = absurd (omega arith)
  step_keeps s Glances (ChoosingOf q) v some f k i st other = (the_same (words p), st)
  step_keeps s Glances (NumberOf q) v some f k i st other = (the_same (words p), st)
  step_keeps s Glances (InsideOf q) v some f k i st other = (the_same (words p), st)
  step_keeps _ _ _ v some f k i st other = absurd (cc)

-- an event of p that is no entry, and no crash or withdraw
start_stands : (s : Place) (call : CoreCall) → IsUninterrupted (Starts 0 call) → IsSome (place_after_start s call) → Stands (unwrap_or (place_after_start s call) s)
start_stands s Withdraw whole some = absurd whole
start_stands Rest Lock whole some = tt
start_stands Rest Recover whole some = tt
start_stands Dead Lock whole some = tt
start_stands Dead Recover whole some = tt
start_stands Inside Unlock whole some = tt
start_stands _ _ whole some = absurd (cc)

stands_from : (s : Place) → s ≢ Withdrawing → Stands s
stands_from Withdrawing ne = ne refl
stands_from _ ne = tt

stands_means : (s : Place) → Stands s → s ≢ Withdrawing
stands_means s st e = subst Stands e st

-- p is in line, with this number
pub record InLineWith (w : World) (p k : ℕ) : Type 0 where
  pub in_line : IsInLine w p
  pub number : (w.words p).number ≡ k

module _ (n limit : ℕ) where
  own_event : (w : World) (e : Event) → May n limit w e → IsUninterrupted e → Sound n w → IsInLine w (process e) → has (entries (and_then (deed (w.places (process e)) e) [])) (process e) ≡ false
      → Keeps (w.words (process e)) (words_after_event w.words e (process e)) × Stands (unwrap_or (place_after_event n limit (w.places (process e)) e) (w.places (process e)))
  own_event w (Starts p Withdraw) may whole sound h other = absurd whole
  own_event w (Starts p Lock) may whole sound h other = (the_same (w.words p), start_stands (w.places p) Lock tt may.1)
  own_event w (Starts p Recover) may whole sound h other = (the_same (w.words p), start_stands (w.places p) Recover tt may.1)
  own_event w (Starts p Unlock) may whole sound h other = (the_same (w.words p), start_stands (w.places p) Unlock tt may.1)
  own_event w (Crashes p) may whole sound h other = absurd whole
  own_event w (Steps p kind word v) may whole sound h other =
      step_keeps n limit p w.words (w.places p) kind word v may.1 (sound.tied.fits p may.0) h.0 h.1 (stands_from (w.places p) h.2) other

  kept_by : (w w' : World) (p : ℕ) → IsInLine w p → Keeps (w.words p) (w'.words p) → Stands (w'.places p) → InLineWith w' p (w.words p).number
  kept_by w w' p h keeps stands =
      record {
        in_line = (subst (λ k. 0 < k) (sym keeps.number) h.0, keeps.inside ∙ h.1, stands_means (w'.places p) stands);
        number = keeps.number;
      }

  kept_once : (w : World) (e : Event) (p : ℕ) → May n limit w e → IsUninterrupted e → Sound n w → IsInLine w p → has (entries (and_then (deed (w.places (process e)) e) [])) p ≡ false → InLineWith (after n limit w e) p (w.words p).number
  kept_once w e p may whole sound h other =
      elim (cases_eq p (process e)) [
        | inl is ↦
            let r = own_event w e may whole sound (subst (IsInLine w) is h) (subst (λ q. has (entries (and_then (deed (w.places (process e)) e) [])) q ≡ false) is other) in
            subst (λ q. InLineWith (after n limit w e) q (w.words q).number) (sym is)
            (kept_by w (after n limit w e) (process e) (subst (IsInLine w) is h) r.0 (subst Stands (sym (put_same w.places (process e) _)) r.1))
        | inr ne ↦
            let words : (after n limit w e).words p ≡ w.words p = (kept n limit w sound.lock e may sound.tied).2 p ne in
            kept_by w (after n limit w e) p h (subst (Keeps (w.words p)) (sym words) (the_same (w.words p))) (subst Stands (sym (put_other w.places (process e) _ p ne)) (stands_from (w.places p) h.2))
      ]

  or_none : (b c : Bool) → (b || c) ≡ false → (b ≡ false) × (c ≡ false)
  or_none true c e = cc
  or_none false c e = (refl, e)

  no_entries : (d : Option Outer) (ds : List Outer) (p : ℕ) → has (entries (and_then d ds)) p ≡ false → (has (entries (and_then d [])) p ≡ false) × (has (entries ds) p ≡ false)
  no_entries None ds p e = (refl, e)
  no_entries (Some (Enter q)) ds p e = let r = or_none (p == q) (has (entries ds) p) e in (rw r.0 refl, r.1)
  no_entries (Some d) ds p e = (refl, e)

  -- one in line that doesn't enter stays in line with its number
  pub stays_in_line : (w : World) (es : List Event) (p : ℕ) → Run n limit w es → All IsUninterrupted es → Sound n w → IsInLine w p → has (entries (deeds n limit w es)) p ≡ false → InLineWith (final n limit w es) p (w.words p).number
  stays_in_line w [] p run whole sound h other = record { in_line = h; number = refl }
  stays_in_line w (e ∷ es) p run whole sound h other =
      let none = no_entries (deed (w.places (process e)) e) (deeds n limit (after n limit w e) es) p other in
      let one = kept_once w e p run.0 (All-head IsUninterrupted e es whole) sound h none.0 in
      let all = stays_in_line (after n limit w e) es p run.1 (All-tail IsUninterrupted e es whole) (sound_after n limit w e run.0 sound) one.in_line none.1 in
      record { in_line = all.in_line; number = all.number ∙ one.number }

  -- a step that ends a call has its answer

  answer_restart : (p : ℕ) (call : CoreCall) (c k i : ℕ) → is_idle (restart n p call c k i) ≡ true → IsSome (answer (Reread call (c ∷ k ∷ [])) Rereads i)
  answer_restart p Lock (suc c) zero i e = cc
  answer_restart p Lock (suc c) (suc k) i e = cc
  answer_restart p Lock zero zero zero e = cc
  answer_restart p Lock zero zero (suc i) e = cc
  answer_restart p Lock zero (suc k) zero e = cc
  answer_restart p Lock zero (suc k) (suc i) e = refl
  answer_restart p _ (suc c) zero i e = refl
  answer_restart p _ (suc c) (suc k) i e = cc
  answer_restart p _ zero zero zero e = refl
  answer_restart p _ zero zero (suc i) e = cc
  answer_restart p _ zero (suc k) zero e = refl
  answer_restart p _ zero (suc k) (suc i) e = refl

  answer_shut : (p k : ℕ) (call : CoreCall) → is_idle (shut n p call k) ≡ true → IsSome (answer (Shutting call k) Shuts 0)
  answer_shut p k Lock e = cc
  answer_shut p k _ e = refl

  answer_unmarked : (call : CoreCall) → is_idle (place_after_unmark call) ≡ true → IsSome (answer (Unmarking call) Marks 0)
  answer_unmarked Lock e = cc
  answer_unmarked Unlock e = refl
  answer_unmarked _ e = refl

  ends : (b : Bool) (t s : Place) (A : Type 0) → IsSome (only b t) → is_idle (unwrap_or (only b t) s) ≡ true → (is_idle t ≡ true → A) → A
  ends true t s A some e h = h e
  ends false t s A some e h = cc

  never : (b c : Bool) (t t' s : Place) → is_idle t ≡ false → is_idle t' ≡ false → IsSome (only c (if b then t else t')) → is_idle (unwrap_or (only c (if b then t else t')) s) ≡ true → ⊥
  never true true t t' s h h' some e = cc
  never false true t t' s h h' some e = cc
  never b false t t' s h h' some e = cc

  step_answers : (p : ℕ) (s : Place) (kind : Kind) (word : Word) (v : ℕ) → is_idle s ≡ false → IsSome (next n limit p s kind word v) → is_idle (unwrap_or (next n limit p s kind word v) s) ≡ true → IsSome (answer s kind v)
  step_answers p (Reread call []) Rereads (ChoosingOf q) v busy some e = absurd (ends (q == p) _ _ ⊥ some e (λ i. cc))
  step_answers p (Reread call (c ∷ [])) Rereads (NumberOf q) v busy some e = absurd (ends (q == p) _ _ ⊥ some e (λ i. cc))
  step_answers p (Reread call (c ∷ k ∷ [])) Rereads (InsideOf q) v busy some e = ends (q == p) _ _ _ some e (λ i. answer_restart p call c k v i)
  step_answers p Opening Opens (ChoosingOf q) v busy some e = absurd (ends _ _ _ ⊥ some e (λ i. cc))
  step_answers p (Door unread m) Peeks (NumberOf j) v busy some e = absurd (ends _ _ _ ⊥ some e (λ i. cc))
  step_answers p (Door [] m) Takes (NumberOf q) v busy some e = absurd (ends _ _ _ ⊥ some e (λ i. cc))
  step_answers p (Door [] m) Shuts (ChoosingOf q) v busy some e = refl
  step_answers p (Shutting call k) Shuts (ChoosingOf q) v busy some e = ends _ _ _ _ some e (λ i. answer_shut p k call i)
  step_answers p (Wait k unpassed None) Looks (ChoosingOf j) v busy some e = absurd (never (v == 0) _ _ _ _ refl refl some e)
  step_answers p (Wait k unpassed (Some i)) Weighs (NumberOf j) v busy some e = absurd (never ((v == 0) || is_before k p v j) _ _ _ _ refl refl some e)
  step_answers p (Wait k [] None) Marks (InsideOf q) v busy some e = refl
  step_answers p Leaving Drops (NumberOf q) v busy some e = absurd (ends _ _ _ ⊥ some e (λ i. cc))
  step_answers p Withdrawing Drops (NumberOf q) v busy some e = refl
  step_answers p (Unmarking call) Marks (InsideOf q) v busy some e = ends _ _ _ _ some e (λ i. answer_unmarked call i)
  step_answers p s Glances (ChoosingOf q) v busy some e = cc
  step_answers p s Glances (NumberOf q) v busy some e = cc
  step_answers p s Glances (InsideOf q) v busy some e = cc
  step_answers p _ _ _ v busy some e = absurd (cc)

  event_answers : (s : Place) (e : Event) → is_idle s ≡ false → IsSome (place_after_event n limit s e) → IsUninterrupted e → is_idle (unwrap_or (place_after_event n limit s e) s) ≡ true → IsSome (answer_of s e)
  event_answers s (Starts p Withdraw) busy some whole idle = absurd whole
  event_answers Rest (Starts p call) busy some whole idle = absurd (cc)
  event_answers Dead (Starts p call) busy some whole idle = absurd (cc)
  event_answers Inside (Starts p call) busy some whole idle = absurd (cc)
  event_answers s (Starts p Lock) busy some whole idle = absurd (cc)
  event_answers s (Starts p Recover) busy some whole idle = absurd (cc)
  event_answers s (Starts p Unlock) busy some whole idle = absurd (cc)
  event_answers s (Crashes p) busy some whole idle = absurd whole
  event_answers s (Steps p kind word v) busy some whole idle = step_answers p s kind word v busy some idle

  -- a call under way that is over at the end was answered
  pub is_answered : (w : World) (es : List Event) (p : ℕ) → Run n limit w es → All IsUninterrupted es → is_idle (w.places p) ≡ false → is_idle ((final n limit w es).places p) ≡ true → IsAnswered n limit (w.places p) (own_events p es)
  is_answered w [] p run whole busy idle = cc
  is_answered w (e ∷ es) p run whole busy idle =
      let rest : is_idle ((after n limit w e).places p) ≡ false → IsAnswered n limit ((after n limit w e).places p) (own_events p es) = λ still. is_answered (after n limit w e) es p run.1 (All-tail IsUninterrupted e es whole) still idle in
      elim (cases_eq p (process e)) [
        | inl is ↦
            let yes_own : (process e == p) ≡ true = eq-eqb _ _ (sym is) in
            let t : Place = unwrap_or (place_after_event n limit (w.places p) e) (w.places p) in
            let now : (after n limit w e).places p ≡ t = subst (λ r. (after n limit w e).places r ≡ unwrap_or (place_after_event n limit (w.places r) e) (w.places r)) (sym is) (put_same w.places (process e) _) in
            let some : IsSome (place_after_event n limit (w.places p) e) = subst (λ r. IsSome (place_after_event n limit (w.places r) e)) (sym is) run.0.1 in
            let here : IsSome (answer_of (w.places p) e) ⊎ IsAnswered n limit t (own_events p es) = elim (cases_Bool (is_idle t)) [
              | inl over ↦ inl (event_answers (w.places p) e busy some (All-head IsUninterrupted e es whole) over)
              | inr still ↦ inr (subst (λ x. IsAnswered n limit x (own_events p es)) now (rest (ap is_idle now ∙ still)))
            ] in
            rw yes_own here
        | inr ne ↦
            let not_own : (process e == p) ≡ false = ne_eqb _ _ (λ same. ne (sym same)) in
            let now : (after n limit w e).places p ≡ w.places p = put_other w.places (process e) _ p ne in
            rw not_own (subst (λ x. IsAnswered n limit x (own_events p es)) now (rest (ap is_idle now ∙ busy)))
      ]
