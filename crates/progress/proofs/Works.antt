-- The law of work: the potential of a world is bounded, and each event lowers it, is blocked, or is a disturbance.
use Rattle.std.proofs.Common.{◌≡◌, ◌≢◌, ℕ, zero, suc, ◌+◌, ◌-◌, ◌*◌, ◌<◌, ◌≤◌, Bool, true, false, not, ◌&&◌, ◌==◌, nat_lt, if◌then◌else◌, List, [], ◌∷◌, length, Option, Some, None, unwrap_or, refl, sym, ap, ◌∙◌, subst, inl, inr, arith, eq-eqb, ne_eqb}
use Rattle.std.proofs.lemmas.Bool.{or_parts, true_from_ne_false}
use Rattle.std.proofs.lemmas.List.Elements.{All-head, All-tail}
use Rattle.progress.proofs.Common.{cases_eq, Lock, Withdraw, Outer, Enter, Own, Place, Rest, Dead, Reread, Opening, Door, Shutting, Wait, Inside, Leaving, Withdrawing, Unmarking, has, is_before, Event, Starts, Crashes, Steps, process, place_after_event}
use Rattle.progress.proofs.Common.{World, May, after, Run, words_after_event, deeds, deed, and_then, entries, NeverWithdraws, is_disturbance, is_effective, work, disturbances, most_work, WorkIsBounded}
use Rattle.rmecore.proofs.Invariant.{Before, Pair}
use Rattle.rmecore.proofs.Bounds.{before_test}
use Rattle.progress.proofs.Movers.{goes, place_of_mover, same_place, same_words}
use Rattle.progress.proofs.Potentials.{left, own_left, share, one, raised, Falls, scan_most, relocking_most, recovering_more}
use Rattle.progress.proofs.Short.{Short, Kept, kept_after}
use Rattle.progress.proofs.Sums.{total, total_changed, total_bound, total_least}
use Rattle.progress.proofs.Falls.{Unpassed}
use Rattle.progress.proofs.Falls as falls
use Rattle.progress.proofs.OwnFalls.{InLine, Onward, marked_most}
use Rattle.progress.proofs.OwnFalls as own_falls

-- how large the potentials are

left_most : (n k p : ℕ) (ahead : Bool) (x : Own) (s : Place) → 2 ≤ n → Short n s → left n k p ahead x s ≤ 6 * n + 11
left_most n k p ahead x Rest h short = let r = relocking_most n ahead x.choosing x.number x.inside (omega arith) in omega arith
left_most n k p ahead x Dead h short = let r = relocking_most n ahead x.choosing x.number x.inside (omega arith) in omega arith
left_most n k p ahead x (Reread Lock seen) h short = let r = relocking_most n ahead x.choosing x.number x.inside (omega arith) in omega arith
left_most n k p ahead x (Reread _ seen) h short =
    let r = relocking_most n ahead x.choosing x.number x.inside (omega arith) in
    let m = recovering_more n ahead x.choosing x.number x.inside in
    omega arith
left_most n k p ahead x Opening h short = omega arith
left_most n k p ahead x (Door unread m) h short =
    let r = scan_most n (2 * n - 2) (not (has unread p) && nat_lt m k) in
    let l : length unread + 1 ≤ n = short.0 in
    omega arith
left_most n k p ahead x (Shutting Lock j) h short = let r = scan_most n (2 * n - 2) ahead in omega arith
left_most n k p ahead x (Shutting _ j) h short = let r = scan_most n (2 * n - 2) ahead in omega arith
left_most n k p ahead x (Wait j unpassed None) h short = let r = scan_most n (2 * length unpassed) ahead in omega arith
left_most n k p ahead x (Wait j unpassed (Some i)) h short =
    let r = scan_most n (2 * length unpassed - 1) ahead in
    let l : length unpassed + 1 ≤ n = short.0 in
    omega arith
left_most n k p ahead x Inside h short = omega arith
left_most n k p ahead x Leaving h short = omega arith
left_most n k p ahead x Withdrawing h short = omega arith
left_most n k p ahead x (Unmarking Lock) h short = omega arith
left_most n k p ahead x (Unmarking _) h short = omega arith

own_most : (n : ℕ) (x : Own) (s : Place) → 1 ≤ n → Short n s → own_left n x s ≤ 2 * n + 7
own_most n x Rest h short = let m = marked_most x.choosing in omega arith
own_most n x Dead h short = let m = marked_most x.choosing in omega arith
own_most n x (Reread Lock seen) h short = let m = marked_most x.choosing in omega arith
own_most n x (Reread _ seen) h short = let m = marked_most x.choosing in omega arith
own_most n x (Shutting Lock j) h short = omega arith
own_most n x (Shutting _ j) h short = omega arith
own_most n x (Wait j unpassed None) h short = omega arith
own_most n x (Wait j unpassed (Some i)) h short = let l : length unpassed + 1 ≤ n = short.0 in omega arith
own_most n x _ h short = omega arith

own_least : (n : ℕ) (x : Own) (s : Place) → 1 ≤ n → 1 ≤ own_left n x s
own_least n x Rest h = omega arith
own_least n x Dead h = omega arith
own_least n x (Reread Lock seen) h = omega arith
own_least n x (Reread _ seen) h = omega arith
own_least n x (Shutting Lock j) h = omega arith
own_least n x (Shutting _ j) h = omega arith
own_least n x (Wait j unpassed None) h = omega arith
own_least n x (Wait j unpassed (Some i)) h = omega arith
own_least n x _ h = omega arith

most_within : (n t : ℕ) → 0 < n → t + (6 * n + 11) ≤ n * (6 * n + 11) + (2 * n + 7) → t ≤ most_work n + 1
most_within zero t h e = absurd (omega arith)
most_within (suc m) t h e = let less : suc m - 1 ≡ m = omega arith in rw less (omega arith)

-- who waits and is not ahead of p has not passed it
unpassed_of : (p k q : ℕ) (a : Bool) (x y : Own) (s t : Place) → y.number ≡ k → 0 < k → Pair a q x s p y t → Unpassed p (is_before x.number q k p) s
unpassed_of p k q a x y (Wait j unpassed looked) t number held pair =
    λ not_ahead. true_from_ne_false (has unpassed p) (λ gone.
    let stands = pair.passed (inr gone) in
    let ahead : is_before x.number q k p ≡ true = elim stands.less [
      | inl none ↦ absurd (omega arith)
      | inr before ↦ before_test x.number q k p (subst (λ a. Before x.number q a p) number before)
    ] in
    let bad : true ≡ false = sym ahead ∙ not_ahead in cc)
unpassed_of p k q a x y _ t number held pair = tt

module _ (n limit k p : ℕ) (low : p < n) (held : 0 < k) where
  -- the potential of process q in a world, and of the world
  abbrev at : World → ℕ → ℕ
  at w q = share n k p q (w.words q) (w.places q)

  abbrev pub potential : World → ℕ
  potential w = total n (at w)

  some : 1 ≤ n
  some = omega arith

  share_own : (r : ℕ) (x : Own) (s : Place) → r ≡ p → share n k p r x s ≡ own_left n x s
  share_own r x s is = let yes : (r == p) ≡ true = eq-eqb r p is in rw yes refl

  share_other : (r : ℕ) (x : Own) (s : Place) → r ≢ p → share n k p r x s ≡ left n k p (is_before x.number r k p) x s
  share_other r x s ne = let no : (r == p) ≡ false = ne_eqb r p ne in rw no refl

  pub potential_most : (w : World) → Kept n w → potential w ≤ most_work n + 1
  potential_most w h =
      most_within n (potential w) some (total_bound n (at w) (6 * n + 11) (2 * n + 7) p low others own)
    where
      others : (q : ℕ) → q < n → q ≢ p → at w q ≤ 6 * n + 11
      others q below ne =
          let l = left_most n k p (is_before (w.words q).number q k p) (w.words q) (w.places q) (omega arith) (h.short q below) in
          let is = share_other q (w.words q) (w.places q) ne in
          omega arith

      own : at w p ≤ 2 * n + 7
      own =
          let l = own_most n (w.words p) (w.places p) some (h.short p low) in
          let is = share_own p (w.words p) (w.places p) refl in
          omega arith

  pub potential_least : (w : World) → 1 ≤ potential w
  potential_least w =
      let l = own_least n (w.words p) (w.places p) some in
      let is = share_own p (w.words p) (w.places p) refl in
      let t = total_least n (at w) p low in
      omega arith

  abbrev pub In : World → Type 0
  In w = InLine k (w.words p) (w.places p)

  module _ (w : World) (h : Kept n w) (line : In w) where
    pub unpassed : (q : ℕ) → q < n → q ≢ p → Unpassed p (is_before (w.words q).number q k p) (w.places q)
    unpassed q below ne = unpassed_of p k q (h.sound.lock.ahead p q) (w.words q) (w.words p) (w.places q) (w.places p) line.number held (h.sound.tied.pairs q p below low ne)

    other : (e : Event) → May n limit w e → process e ≢ p
        → Falls n (left n k p (is_before (w.words (process e)).number (process e) k p) (w.words (process e)) (w.places (process e)))
        (left n k p (is_before (words_after_event w.words e (process e)).number (process e) k p) (words_after_event w.words e (process e)) (goes n limit w e))
        (is_effective (w.places (process e)) e) (is_disturbance (w.places (process e)) e)
    other (Starts q call) may ne = falls.starts n limit k p q may.0 low ne held w line.number (w.places q) call may.1
    other (Crashes q) may ne = falls.crashes n k p (is_before (w.words q).number q k p) (w.words q) some (w.places q) (h.sound.tied.fits q may.0)
    other (Steps q kind word v) may ne =
        falls.steps n limit k p q may.0 low ne held w line.number (w.places q) kind word v (h.sound.tied.fits q may.0) (h.short q may.0) (unpassed q may.0 ne) may.1 may.2

    own : (e : Event) → May n limit w e → process e ≡ p → e ≢ Starts p Withdraw → deed (w.places (process e)) e ≢ Some (Enter p)
        → Onward n k (own_left n (w.words (process e)) (w.places (process e))) (is_effective (w.places (process e)) e) (is_disturbance (w.places (process e)) e) (words_after_event w.words e (process e)) (goes n limit w e)
    own (Starts q call) may is stays outside =
        own_falls.starts n limit k q may.0 held w (w.places q) call (λ e. stays (λ i. Starts (is i) (e i))) (h.sound.tied.fits q may.0) (subst (λ r. InLine k (w.words r) (w.places r)) (sym is) line) may.1
    own (Crashes q) may is stays outside = own_falls.crashes n limit k q may.0 held w (w.places q) (subst (λ r. InLine k (w.words r) (w.places r)) (sym is) line)
    own (Steps q kind word v) may is stays outside =
        own_falls.steps n limit k q may.0 held w (w.places q) kind word v (h.sound.tied.fits q may.0) (h.short q may.0) (subst (λ r. InLine k (w.words r) (w.places r)) (sym is) line)
        (λ e. outside (e ∙ ap (λ r. Some (Enter r)) is)) may.1 may.2

    module _ (e : Event) (may : May n limit w e) (stays : e ≢ Starts p Withdraw) (outside : deed (w.places (process e)) e ≢ Some (Enter p)) where
      abbrev new : World
      new = after n limit w e

      -- the potential of the mover
      mover : Falls n (at w (process e)) (at new (process e)) (is_effective (w.places (process e)) e) (is_disturbance (w.places (process e)) e)
      mover =
          let now : at new (process e) ≡ share n k p (process e) (words_after_event w.words e (process e)) (goes n limit w e) = ap (share n k p (process e) (words_after_event w.words e (process e))) (place_of_mover n limit w e) in
          elim (cases_eq (process e) p) [
            | inl is ↦
                let f = (own e may is stays outside).falls in
                let a = share_own (process e) (w.words (process e)) (w.places (process e)) is in
                let b = share_own (process e) (words_after_event w.words e (process e)) (goes n limit w e) is in
                omega arith
            | inr ne ↦
                let f = other e may ne in
                let a = share_other (process e) (w.words (process e)) (w.places (process e)) ne in
                let b = share_other (process e) (words_after_event w.words e (process e)) (goes n limit w e) ne in
                omega arith
          ]

      pub event_falls : Falls n (potential w) (potential new) (is_effective (w.places (process e)) e) (is_disturbance (w.places (process e)) e)
      event_falls =
          let m = mover in
          let t = total_changed n (at new) (at w) (process e) may.0 (λ q below ne. ap (λ x. share n k p q x (new.places q)) (same_words n limit w e h may q ne) ∙ ap (share n k p q (w.words q)) (same_place n limit w e q ne)) in
          omega arith

      pub still_in : In new
      still_in =
          elim (cases_eq (process e) p) [
            | inl is ↦ subst (λ r. InLine k (new.words r) (new.places r)) is (subst (InLine k (words_after_event w.words e (process e))) (sym (place_of_mover n limit w e)) (own e may is stays outside).in_line)
            | inr ne ↦
                let away : p ≢ process e = λ same. ne (sym same) in
                subst (λ x. InLine k x (new.places p)) (sym (same_words n limit w e h may p away)) (subst (InLine k (w.words p)) (sym (same_place n limit w e p away)) line)
          ]

  -- p does not enter first, nor later
  pub not_entered : (d : Option Outer) (ds : List Outer) → has (entries (and_then d ds)) p ≡ false → (d ≢ Some (Enter p)) × (has (entries ds) p ≡ false)
  not_entered None ds h = (λ e. cc, h)
  not_entered (Some (Enter q)) ds h =
      let both = or_parts (p == q) (has (entries ds) p) h in
      (λ e. let same : q ≡ p = cc in let yes : (p == q) ≡ true = eq-eqb p q (sym same) in let bad : true ≡ false = sym yes ∙ both.0 in cc, both.1)
  not_entered (Some d) ds h = (λ e. cc, h)

  one_more : (b : Bool) (c : ℕ) → (if b then suc c else c) ≡ one b + c
  one_more true c = omega arith
  one_more false c = omega arith

  raised_more : (b : Bool) (c : ℕ) → (3 * n + 4) * (if b then suc c else c) ≡ raised n b + (3 * n + 4) * c
  raised_more true c = omega arith
  raised_more false c = omega arith

  pub works : (w : World) (events : List Event) → Kept n w → In w → Run n limit w events → NeverWithdraws p events → has (entries (deeds n limit w events)) p ≡ false
      → work n limit w events + 1 ≤ potential w + (3 * n + 4) * disturbances n limit w events
  works w [] h line run stays outside = let l = potential_least w in omega arith
  works w (e ∷ es) h line run stays outside =
      let out = not_entered (deed (w.places (process e)) e) (deeds n limit (after n limit w e) es) outside in
      let stay = All-head (λ e. e ≢ Starts p Withdraw) e es stays in
      let rest = works (after n limit w e) es (kept_after n limit w e run.0 h) (still_in w h line e run.0 stay out.0) run.1 (All-tail (λ e. e ≢ Starts p Withdraw) e es stays) out.1 in
      let f = event_falls w h line e run.0 stay out.0 in
      let a = one_more (is_effective (w.places (process e)) e) (work n limit (after n limit w e) es) in
      let b = raised_more (is_disturbance (w.places (process e)) e) (disturbances n limit (after n limit w e) es) in
      omega arith

pub work_bounded : (n limit p : ℕ) (w : World) → p < n → Kept n w → WorkIsBounded n limit w p
work_bounded n limit p w low h events line run stays outside =
    let in_line : InLine (w.words p).number (w.words p) (w.places p) = record { number = refl; outside = line.1; stays = line.2 } in
    let f = works n limit (w.words p).number p low line.0 w events h in_line run stays outside in
    let most = potential_most n limit (w.words p).number p low line.0 w h in
    omega arith
