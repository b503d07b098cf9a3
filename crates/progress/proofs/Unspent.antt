-- Numbers are not spent before p enters: those that the others can still take are fewer than those that are left.
use Rattle.std.proofs.Common.{◌≡◌, ◌≢◌, ℕ, suc, ◌+◌, ◌-◌, ◌<◌, ◌≤◌, Bool, true, false, ◌&&◌, ◌==◌, if◌then◌else◌, nat_le, List, [], ◌∷◌, IsSome, unwrap_or, refl, sym, ap, ◌∙◌, subst, inl, inr, arith, eq-eqb, ne_eqb, leb-true}
use Rattle.std.proofs.lemmas.List.Elements.{All-head, All-tail}
use Rattle.progress.proofs.Common.{and_parts, false_from_ne_true, cases_eq, Withdraw, Kind, Shut as Shuts, Own, Word, Choosing as ChoosingOf, Place, Rest, Door, has, is_before, next}
use Rattle.progress.proofs.Common.{Event, Starts, Crashes, Steps, process, place_after_event, World, May, after, Run, words_after_event, deeds, deed, entries, NeverWithdraws, count}
use Rattle.progress.specs.UnspentNumbers.{ReadsUpTo, NumbersUpTo, is_withdraw, is_spent, NumbersAreUnspent}
use Rattle.rmecore.proofs.Accesses.{passed}
use Rattle.rmecore.proofs.Invariant.{Fits}
use Rattle.progress.proofs.Movers.{goes, place_of_mover, same_place, same_words}
use Rattle.progress.proofs.Potentials.{one}
use Rattle.progress.proofs.Short.{Kept, kept_after}
use Rattle.progress.proofs.Sums.{total, total_changed, total_bound, total_least}
use Rattle.progress.proofs.OwnFalls.{InLine}
use Rattle.progress.proofs.Works.{In, not_entered, still_in, unpassed}
use Rattle.progress.proofs.Takes.{takes, takes_most, takes_none, Taken, waiting_pair}
use Rattle.progress.proofs.Takes as Takes

-- a process at its doorway has no number
no_number : (x : Own) (s : Place) (g : ℕ) → Fits x s → 0 < x.number → ReadsUpTo g s
no_number x (Door unread m) g fits some = absurd (omega arith)
no_number x _ g fits some = tt

-- whoever is refused a number has read one that is no less than limit
refused : (n limit q g : ℕ) (s : Place) (kind : Kind) (word : Word) (v : ℕ) → IsSome (next n limit q s kind word v) → ReadsUpTo g s → is_spent s (Steps q kind word v) ≡ true → limit ≤ g
refused n limit q g (Door [] m) Shuts (ChoosingOf r) v some read e =
    let both = and_parts (r == q) (nat_le limit m && (v == 0)) (passed ((r == q) && (nat_le limit m && (v == 0))) Rest some) in
    let full : limit ≤ m = leb-true limit m (and_parts (nat_le limit m) (v == 0) both.1).0 in
    omega arith
refused n limit q g (Door _ m) Shuts _ v some read e = absurd (cc)
refused n limit q g _ _ _ v some read e = absurd (cc)

-- a start and a crash answer nothing
abbrev IsNoStep : Event → Type 0
IsNoStep (Steps q kind word v) = ⊥
IsNoStep _ = Unit {0}

no_step : (s : Place) (e : Event) → IsNoStep e → is_spent s e ≡ false
no_step (Door unread m) (Starts q call) h = refl
no_step (Door unread m) (Crashes q) h = refl
no_step _ (Starts q call) h = refl
no_step _ (Crashes q) h = refl
no_step s (Steps q kind word v) h = absurd h

module _ (n limit k p : ℕ) (low : p < n) (held : 0 < k) where
  abbrev share : World → ℕ → ℕ
  share w q = if q == p then 0 else takes (is_before (w.words q).number q k p) (w.words q) (w.places q)

  abbrev left : World → ℕ
  left w = total n (share w)

  share_own : (w : World) (q : ℕ) → q ≡ p → share w q ≡ 0
  share_own w q is = let yes : (q == p) ≡ true = eq-eqb q p is in rw yes refl

  share_other : (w : World) (q : ℕ) → q ≢ p → share w q ≡ takes (is_before (w.words q).number q k p) (w.words q) (w.places q)
  share_other w q ne = let no : (q == p) ≡ false = ne_eqb q p ne in rw no refl

  left_most : (w : World) → left w ≤ n - 1
  left_most w =
      let t = total_bound n (share w) 1 0 p low (λ q below ne. let is = share_other w q ne in let most = takes_most (is_before (w.words q).number q k p) (w.words q) (w.places q) in omega arith) (let is = share_own w p refl in omega arith) in
      omega arith

  module _ (w : World) (h : Kept n w) (line : In n limit k p low held w) (greatest : ℕ) (upto : NumbersUpTo greatest n w) where
    other : (e : Event) → May n limit w e → process e ≢ p
        → Taken (waiting_pair k p) (process e) greatest (takes (is_before (w.words (process e)).number (process e) k p) (w.words (process e)) (w.places (process e))) (is_withdraw (w.places (process e)) e) (words_after_event w.words e (process e)) (goes n limit w e)
    other (Starts q call) may ne = Takes.starts n limit k p q greatest may.0 low ne held w line.number upto (w.places q) call may.1
    other (Crashes q) may ne = Takes.crashes n limit k p q greatest may.0 low ne held w line.number upto (w.places q) (h.sound.tied.fits q may.0)
    other (Steps q kind word v) may ne =
        Takes.steps n limit k p q greatest may.0 low ne held w line.number upto (w.places q) kind word v (h.sound.tied.fits q may.0) (h.short q may.0) (unpassed n limit k p low held w h line q may.0 ne) may.1 may.2 (upto q may.0).1

    module _ (e : Event) (may : May n limit w e) where
      abbrev new : World
      new = after n limit w e

      same_share : (q : ℕ) → q ≢ process e → share new q ≡ share w q
      same_share q ne = ap (λ x. if q == p then 0 else takes (is_before x.number q k p) x (new.places q)) (same_words n limit w e h may q ne) ∙ ap (λ s. if q == p then 0 else takes (is_before (w.words q).number q k p) (w.words q) s) (same_place n limit w e q ne)

      same_upto : (q : ℕ) → q < n → q ≢ process e → ((new.words q).number ≤ greatest) × ReadsUpTo greatest (new.places q)
      same_upto q below ne = (subst (λ x. x.number ≤ greatest) (sym (same_words n limit w e h may q ne)) (upto q below).0, subst (ReadsUpTo greatest) (sym (same_place n limit w e q ne)) (upto q below).1)

      -- nobody is refused
      granted : (greatest + left w) ≤ limit → is_spent (w.places (process e)) e ≡ false
      granted enough = false_from_ne_true (is_spent (w.places (process e)) e) (λ spent. none e may spent)
        where
          door : (s : Place) (q : ℕ) (kind : Kind) (word : Word) (v : ℕ) (b : Bool) (x : Own) → is_spent s (Steps q kind word v) ≡ true → Fits x s → (x.number ≡ 0) × (1 ≤ takes b x s)
          door (Door unread m) q kind word v b x spent fits = let t = takes_none b x.number x.inside fits.1 in (fits.1, omega arith)
          door _ q _ word v b x spent fits = absurd (cc)

          none : (e : Event) → May n limit w e → is_spent (w.places (process e)) e ≡ true → ⊥
          none (Starts q call) may spent = let bad : true ≡ false = sym spent ∙ no_step (w.places q) (Starts q call) tt in cc
          none (Crashes q) may spent = let bad : true ≡ false = sym spent ∙ no_step (w.places q) (Crashes q) tt in cc
          none (Steps q kind word v) may spent =
              let full = refused n limit q greatest (w.places q) kind word v may.1 (upto q may.0).1 spent in
              let d = door (w.places q) q kind word v (is_before (w.words q).number q k p) (w.words q) spent (h.sound.tied.fits q may.0) in
              let far : q ≢ p = λ is. let own : (w.words q).number ≡ k = ap (λ r. (w.words r).number) is ∙ line.number in omega arith in
              let is = share_other w q far in
              let t = total_least n (share w) q may.0 in
              omega arith

      -- p takes no number in line
      own_next : process e ≡ p → In n limit k p low held new → Kept n new → (left new ≡ left w) × NumbersUpTo greatest n new
      own_next is line' kept' = (
        (
            let a = share_own w (process e) is in
            let b = share_own new (process e) is in
            let t = total_changed n (share new) (share w) (process e) may.0 (λ q below ne. same_share q ne) in
            omega arith
            ),
        λ q below. elim (cases_eq q (process e)) [
          | inl same ↦ subst (λ r. ((new.words r).number ≤ greatest) × ReadsUpTo greatest (new.places r)) (sym (same ∙ is)) (
              let old : (w.words p).number ≡ k = line.number in
              let now : (new.words p).number ≡ k = line'.number in
              let u = (upto p low).0 in
              (omega arith, no_number (new.words p) (new.places p) greatest (kept'.sound.tied.fits p low) (omega arith))
              )
          | inr ne ↦ same_upto q below ne
        ],
      )

      more : (rise : ℕ) (s : Place) → ReadsUpTo greatest s → ReadsUpTo (greatest + rise) s
      more rise (Door unread m) h = omega arith
      more rise _ h = tt

      other_next : process e ≢ p → (rise : ℕ) × (left new + rise ≤ left w + one (is_withdraw (w.places (process e)) e)) × NumbersUpTo (greatest + rise) n new
      other_next ne =
          let o = other e may ne in (
            o.rise,
            (
                let t = total_changed n (share new) (share w) (process e) may.0 (λ q below ne. same_share q ne) in
                let a = share_other w (process e) ne in
                let b = share_other new (process e) ne in
                let c : takes (is_before (new.words (process e)).number (process e) k p) (new.words (process e)) (new.places (process e)) ≡ takes (is_before (new.words (process e)).number (process e) k p) (new.words (process e)) (goes n limit w e) =
                ap (takes (is_before (new.words (process e)).number (process e) k p) (new.words (process e))) (place_of_mover n limit w e) in
                let f = o.falls in
                omega arith
                ),
            λ q below. elim (cases_eq q (process e)) [
              | inl same ↦ subst (λ r. ((new.words r).number ≤ greatest + o.rise) × ReadsUpTo (greatest + o.rise) (new.places r)) (sym same) (o.number, subst (ReadsUpTo (greatest + o.rise)) (sym (place_of_mover n limit w e)) o.read)
              | inr far ↦ let u = same_upto q below far in (omega (arith, u.0), more o.rise (new.places q) u.1)
            ],
          )

  one_more : (b : Bool) (c : ℕ) → (if b then suc c else c) ≡ one b + c
  one_more true c = omega arith
  one_more false c = omega arith

  pub unspent : (w : World) (events : List Event) (greatest : ℕ) → Kept n w → In n limit k p low held w → NumbersUpTo greatest n w → Run n limit w events → NeverWithdraws p events → has (entries (deeds n limit w events)) p ≡ false
      → greatest + left w + count is_withdraw n limit w events ≤ limit → count is_spent n limit w events ≡ 0
  unspent w [] greatest h line upto run stays outside enough = refl
  unspent w (e ∷ es) greatest h line upto run stays outside enough =
      let out = not_entered n limit k p low held (deed (w.places (process e)) e) (deeds n limit (after n limit w e) es) outside in
      let stay = All-head (λ e. e ≢ Starts p Withdraw) e es stays in
      let line' = still_in n limit k p low held w h line e run.0 stay out.0 in
      let h' = kept_after n limit w e run.0 h in
      let a = one_more (is_withdraw (w.places (process e)) e) (count is_withdraw n limit (after n limit w e) es) in
      let g = granted w h line greatest upto e run.0 (omega arith) in
      ap (λ b. if b then suc (count is_spent n limit (after n limit w e) es) else count is_spent n limit (after n limit w e) es) g ∙ elim (cases_eq (process e) p) [
        | inl is ↦
            let o = own_next w h line greatest upto e run.0 is line' h' in
            unspent (after n limit w e) es greatest h' line' o.1 run.1 (All-tail (λ e. e ≢ Starts p Withdraw) e es stays) out.1 (let f = o.0 in omega arith)
        | inr ne ↦
            let o = other_next w h line greatest upto e run.0 ne in
            unspent (after n limit w e) es (greatest + o.0) h' line' o.2 run.1 (All-tail (λ e. e ≢ Starts p Withdraw) e es stays) out.1 (let f = o.1 in omega arith)
      ]

pub numbers_unspent : (n limit p : ℕ) (w : World) → p < n → Kept n w → NumbersAreUnspent n limit w p
numbers_unspent n limit p w low h greatest events line upto run stays outside enough =
    let in_line : InLine (w.words p).number (w.words p) (w.places p) = record { number = refl; outside = line.1; stays = line.2 } in
    let most = left_most n limit (w.words p).number p low line.0 w in
    unspent n limit (w.words p).number p low line.0 w events greatest h in_line upto run stays outside (omega arith)
