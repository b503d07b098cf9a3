-- How many numbers another process than p can still take before p enters. Each take lowers it, and only a withdraw raises it.
use Rattle.std.proofs.Common.{◌≡◌, ◌≢◌, ℕ, zero, suc, ◌+◌, ◌<◌, ◌≤◌, max, Bool, true, false, ◌&&◌, ◌||◌, ◌==◌, if◌then◌else◌, nat_lt, nat_le, [], ◌∷◌, Some, None, IsSome, unwrap_or, refl, sym, ap, subst, inl, inr, arith, eqb-true}
use Rattle.progress.proofs.Common.{and_parts, cases_Bool, CoreCall, Lock, Unlock, Withdraw, Recover, Kind, Take as Takes, Shut as Shuts, Rereads, Open as Opens, Peek as Peeks, Look as Looks, Weigh as Weighs, Mark as Marks, Drop as Drops, Glance as Glances}
use Rattle.progress.proofs.Common.{Own, Word, Choosing as ChoosingOf, Number as NumberOf, InsideOf, put, Place, Rest, Dead, Reread, Opening, Door, Shutting, Wait, Inside, Leaving, Withdrawing, Unmarking, has, only, next}
use Rattle.progress.proofs.Common.{Starts, Steps, without, others, is_before, restart, place_after_start, shut, place_after_unmark, World, Reads, words_after_event}
use Rattle.progress.specs.UnspentNumbers.{ReadsUpTo, NumbersUpTo, is_withdraw}
use Rattle.rmecore.proofs.Invariant.{Fits, put_same}
use Rattle.rmecore.proofs.Rows.{before_by}
use Rattle.rmecore.proofs.Runs.{guard}
use Rattle.progress.proofs.Potentials.{one}
use Rattle.progress.proofs.Short.{Short}
use Rattle.progress.proofs.Falls.{Unpassed}

-- by the number and inside: none only for who has a number and is not ahead of p
abbrev pub takes_by : Bool → ℕ → ℕ → ℕ
takes_by ahead zero i = 1
takes_by ahead (suc j) zero = one ahead
takes_by ahead (suc j) (suc i) = 1

-- who withdraws may take a number again
abbrev pub takes : Bool → Own → Place → ℕ
takes ahead x Withdrawing = 1
takes ahead x _ = takes_by ahead x.number x.inside

one_most : (b : Bool) → one b ≤ 1
one_most true = omega arith
one_most false = omega arith

takes_by_most : (b : Bool) (j i : ℕ) → takes_by b j i ≤ 1
takes_by_most b zero i = omega arith
takes_by_most b (suc j) zero = one_most b
takes_by_most b (suc j) (suc i) = omega arith

pub takes_none : (b : Bool) (j i : ℕ) → j ≡ 0 → takes_by b j i ≡ 1
takes_none b zero i e = refl
takes_none b (suc j) i e = absurd (omega arith)

takes_held : (b : Bool) (j i : ℕ) → 0 < j → i ≡ 0 → takes_by b j i ≡ one b
takes_held b zero i h e = absurd (omega arith)
takes_held b (suc j) zero h e = refl
takes_held b (suc j) (suc i) h e = absurd (omega arith)

takes_inside : (b : Bool) (j i : ℕ) → 0 < i → takes_by b j i ≡ 1
takes_inside b zero i h = refl
takes_inside b (suc j) zero h = absurd (omega arith)
takes_inside b (suc j) (suc i) h = refl

pub takes_most : (b : Bool) (x : Own) (s : Place) → takes b x s ≤ 1
takes_most b x Withdrawing = omega arith
takes_most b x _ = takes_by_most b x.number x.inside

-- the pair with which a process waits
pub record WaitingPair : Type 0 where
  pub number : ℕ
  pub process : ℕ

abbrev pub waiting_pair : ℕ → ℕ → WaitingPair
waiting_pair number process = record { number = number; process = process }

-- the words and the place of q after an event, where greatest was the greatest number before. It has grown by rise
pub record Taken (pair : WaitingPair) (q greatest old : ℕ) (gave : Bool) (x : Own) (s : Place) : Type 0 where
  pub rise : ℕ
  pub falls : takes (is_before x.number q pair.number pair.process) x s + rise ≤ old + one gave
  pub number : x.number ≤ greatest + rise
  pub read : ReadsUpTo (greatest + rise) s

-- at a place that is no doorway nothing has been read
abbrev Closed : Place → Type 0
Closed (Door unread m) = ⊥
Closed _ = Unit {0}

reads_none : (g : ℕ) (s : Place) → Closed s → ReadsUpTo g s
reads_none g (Door unread m) h = absurd h
reads_none g _ h = tt

-- only who withdraws has more than its words give
takes_less : (b : Bool) (x : Own) (s : Place) → s ≢ Withdrawing → takes b x s ≡ takes_by b x.number x.inside
takes_less b x Withdrawing ne = absurd (ne refl)
takes_less b x _ ne = refl

module _ (n limit k p q greatest : ℕ) (below : q < n) (low : p < n) (ne : q ≢ p) (held : 0 < k) (w : World) (number : (w.words p).number ≡ k) (upto : NumbersUpTo greatest n w) where
  abbrev ahead : Own → Bool
  ahead x = is_before x.number q k p

  abbrev Goes : ℕ → Bool → Own → Place → Type 0
  Goes old gave x s = Taken (waiting_pair k p) q greatest old gave x s

  own_word : (P : Own → Type 0) (f : Own → Own) (r : ℕ) → (r == q) ≡ true → P (f (w.words q)) → P (put w.words r (f (w.words r)) q)
  own_word P f r e h = subst (λ r. P (put w.words r (f (w.words r)) q)) (sym (eqb-true r q e)) (subst P (sym (put_same w.words q (f (w.words q)))) h)

  store : (old : ℕ) (gave b : Bool) (f : Own → Own) (r : ℕ) (t s : Place) → IsSome (only ((r == q) && b) t) → (b ≡ true → Goes old gave (f (w.words q)) t)
      → Goes old gave (put w.words r (f (w.words r)) q) (unwrap_or (only ((r == q) && b) t) s)
  store old gave b f r t s some h =
      guard ((r == q) && b) t s (λ t. Goes old gave (put w.words r (f (w.words r)) q) t) some
      (λ e. let both = and_parts _ _ e in own_word (λ x. Goes old gave x t) f r both.0 (h both.1))

  load : (old : ℕ) (gave b : Bool) (t s : Place) → IsSome (only b t) → (b ≡ true → Goes old gave (w.words q) t) → Goes old gave (w.words q) (unwrap_or (only b t) s)
  load old gave b t s some h = guard b t s (Goes old gave (w.words q)) some h

  -- another place with the same words
  comes : (gave : Bool) (s t : Place) → Closed t → s ≢ Withdrawing → t ≢ Withdrawing → Goes (takes (ahead (w.words q)) (w.words q) s) gave (w.words q) t
  comes gave s t to not_from not_to =
      let a = takes_less (ahead (w.words q)) (w.words q) s not_from in
      let b = takes_less (ahead (w.words q)) (w.words q) t not_to in
      let u = (upto q below).0 in
      record { rise = 0; falls = omega arith; number = omega arith; read = reads_none (greatest + 0) t to }

  opens : (old : ℕ) (x : Own) → 1 ≤ old → x.number ≡ 0 → Goes old false x (Door (others n q) 0)
  opens old x h none =
      let t = takes_none (ahead x) x.number x.inside none in
      record { rise = 0; falls = omega arith; number = omega arith; read = omega arith }

  restarts : (call : CoreCall) (c j i : ℕ) → (w.words q).number ≡ j → Goes (takes_by (ahead (w.words q)) (w.words q).number (w.words q).inside) false (w.words q) (restart n q call c j i)
  restarts Lock (suc c) zero i is = let t = takes_none (ahead (w.words q)) (w.words q).number (w.words q).inside is in opens (takes_by (ahead (w.words q)) (w.words q).number (w.words q).inside) (w.words q) (omega arith) is
  restarts Lock (suc c) (suc j) i is = comes false Dead (Shutting Lock (suc j)) tt (λ e. cc) (λ e. cc)
  restarts Lock zero zero zero is = comes false Dead Opening tt (λ e. cc) (λ e. cc)
  restarts Lock zero zero (suc i) is = comes false Dead (Unmarking Lock) tt (λ e. cc) (λ e. cc)
  restarts Lock zero (suc j) zero is = comes false Dead (Wait (suc j) (others n q) None) tt (λ e. cc) (λ e. cc)
  restarts Lock zero (suc j) (suc i) is = comes false Dead Inside tt (λ e. cc) (λ e. cc)
  restarts _ (suc c) zero i is = comes false Dead Rest tt (λ e. cc) (λ e. cc)
  restarts _ (suc c) (suc j) i is = comes false Dead (Shutting Recover (suc j)) tt (λ e. cc) (λ e. cc)
  restarts _ zero zero zero is = comes false Dead Rest tt (λ e. cc) (λ e. cc)
  restarts _ zero zero (suc i) is = comes false Dead (Unmarking Recover) tt (λ e. cc) (λ e. cc)
  restarts _ zero (suc j) zero is = comes false Dead Rest tt (λ e. cc) (λ e. cc)
  restarts _ zero (suc j) (suc i) is = comes false Dead Inside tt (λ e. cc) (λ e. cc)

  shuts : (call : CoreCall) (j v : ℕ) → Goes (takes_by (ahead (w.words q)) (w.words q).number (w.words q).inside) false (record (w.words q) { choosing = v }) (shut n q call j)
  shuts Lock j v = let u = (upto q below).0 in record { rise = 0; falls = omega arith; number = omega arith; read = tt }
  shuts _ j v = let u = (upto q below).0 in record { rise = 0; falls = omega arith; number = omega arith; read = tt }

  unmarks : (call : CoreCall) (v : ℕ) → (w.words q).number ≡ 0 → Goes (takes_by (ahead (w.words q)) (w.words q).number (w.words q).inside) false (record (w.words q) { inside = v }) (place_after_unmark call)
  unmarks Lock v none =
      let u = (upto q below).0 in
      let a = takes_none (ahead (w.words q)) (w.words q).number (w.words q).inside none in
      let b = takes_none (ahead (w.words q)) (w.words q).number v none in
      record { rise = 0; falls = omega arith; number = omega arith; read = tt }
  unmarks _ v none =
      let u = (upto q below).0 in
      let a = takes_none (ahead (w.words q)) (w.words q).number (w.words q).inside none in
      let b = takes_none (ahead (w.words q)) (w.words q).number v none in
      record { rise = 0; falls = omega arith; number = omega arith; read = tt }

  stays : (s : Place) → ReadsUpTo greatest s → Goes (takes (ahead (w.words q)) (w.words q) s) false (w.words q) s
  stays s read =
      let u = (upto q below).0 in
      let same : greatest ≡ greatest + 0 = omega arith in
      record { rise = 0; falls = omega arith; number = omega arith; read = subst (λ g. ReadsUpTo g s) same read }

  -- the number is given back
  gives_up : (old v : ℕ) (s : Place) → Closed s → s ≢ Withdrawing → 1 ≤ old → v ≡ 0 → Goes old false (record (w.words q) { number = v }) s
  gives_up old v s closed away h is =
      let a = takes_less (is_before v q k p) (record (w.words q) { number = v }) s away in
      let b = takes_none (is_before v q k p) v (w.words q).inside is in
      record { rise = 0; falls = omega arith; number = omega arith; read = reads_none (greatest + 0) s closed }

  -- whoever takes a number ahead of p takes none above the greatest
  takes_one : (m v : ℕ) → v ≡ m + 1 → (w.words q).number ≡ 0 → (w.words q).inside ≡ 0 → m ≤ greatest → Goes (takes_by (ahead (w.words q)) (w.words q).number (w.words q).inside) false (record (w.words q) { number = v }) (Shutting Lock v)
  takes_one m v is none out read =
      let old = takes_none (ahead (w.words q)) (w.words q).number (w.words q).inside none in
      let new = takes_held (is_before v q k p) v (w.words q).inside (omega arith) out in
      elim (cases_Bool (is_before v q k p)) [
        | inl e ↦
            let before = before_by v q k p e in
            let own = (upto p low).0 in
            let t = one_most (is_before v q k p) in
            record { rise = 0; falls = omega arith; number = omega arith; read = tt }
        | inr e ↦ let t : one (is_before v q k p) ≡ 0 = ap one e in record { rise = 1; falls = omega arith; number = omega arith; read = tt }
      ]

  enters : (v : ℕ) → v ≡ 1 → 0 < (w.words q).number → (w.words q).inside ≡ 0 → (ahead (w.words q) ≡ false → has [] p ≡ true) → Goes (takes_by (ahead (w.words q)) (w.words q).number (w.words q).inside) false (record (w.words q) { inside = v }) Inside
  enters v is some out kept =
      let u = (upto q below).0 in
      let a = takes_held (ahead (w.words q)) (w.words q).number (w.words q).inside some out in
      let b = takes_inside (ahead (w.words q)) (w.words q).number v (omega arith) in
      let c = certain (ahead (w.words q)) kept in
      record { rise = 0; falls = omega arith; number = omega arith; read = tt }
    where
      certain : (b : Bool) → (b ≡ false → has [] p ≡ true) → one b ≡ 1
      certain true h = refl
      certain false h = let bad = h refl in cc

  pub steps : (s : Place) (kind : Kind) (word : Word) (v : ℕ) → Fits (w.words q) s → Short n s → Unpassed p (ahead (w.words q)) s → IsSome (next n limit q s kind word v) → Reads w.words (Steps q kind word v)
      → ReadsUpTo greatest s → Goes (takes (ahead (w.words q)) (w.words q) s) false (words_after_event w.words (Steps q kind word v) q) (unwrap_or (next n limit q s kind word v) s)
  steps (Reread call []) Rereads (ChoosingOf r) v fits short kept some reports read =
      load (takes (ahead (w.words q)) (w.words q) Dead) false (r == q) _ _ some (λ e. comes false Dead (Reread call (v ∷ [])) tt (λ e. cc) (λ e. cc))
  steps (Reread call (c ∷ [])) Rereads (NumberOf r) v fits short kept some reports read =
      load (takes (ahead (w.words q)) (w.words q) Dead) false (r == q) _ _ some (λ e. comes false Dead (Reread call (c ∷ v ∷ [])) tt (λ e. cc) (λ e. cc))
  steps (Reread call (c ∷ j ∷ [])) Rereads (InsideOf r) v fits short kept some reports read =
      load (takes (ahead (w.words q)) (w.words q) Dead) false (r == q) _ _ some (λ e. restarts call c j v fits.2)
  steps Opening Opens (ChoosingOf r) v fits short kept some reports read =
      store (takes (ahead (w.words q)) (w.words q) Dead) false (v == 1) (λ x. record x { choosing = v }) r _ _ some
      (λ e. let t = takes_none (ahead (w.words q)) (w.words q).number (w.words q).inside fits.1 in opens (takes (ahead (w.words q)) (w.words q) Dead) (record (w.words q) { choosing = v }) (omega arith) fits.1)
  steps (Door unread m) Peeks (NumberOf j) v fits short kept some reports read =
      load (takes (ahead (w.words q)) (w.words q) (Door unread m)) false (has unread j) (Door (without j unread) (max m v)) _ some (λ e.
      let u = (upto q below).0 in
      let other = (upto j (short.1 j e)).0 in
      let is = reports refl in
      record { rise = 0; falls = omega arith; number = omega arith; read = omega arith })
  steps (Door [] m) Takes (NumberOf r) v fits short kept some reports read =
      store (takes (ahead (w.words q)) (w.words q) (Door [] m)) false (nat_lt m limit && (v == m + 1)) (λ x. record x { number = v }) r _ _ some (λ e. takes_one m v (eqb-true v (m + 1) (and_parts _ _ e).1) fits.1 fits.2 read)
  steps (Door [] m) Shuts (ChoosingOf r) v fits short kept some reports read =
      store (takes (ahead (w.words q)) (w.words q) (Door [] m)) false (nat_le limit m && (v == 0)) (λ x. record x { choosing = v }) r _ _ some (λ e.
      let t = takes_none (ahead (w.words q)) (w.words q).number (w.words q).inside fits.1 in
      let u = (upto q below).0 in
      record { rise = 0; falls = omega arith; number = omega arith; read = tt })
  steps (Shutting call j) Shuts (ChoosingOf r) v fits short kept some reports read =
      store (takes (ahead (w.words q)) (w.words q) Dead) false (v == 0) (λ x. record x { choosing = v }) r _ _ some (λ e. shuts call j v)
  steps (Wait j unpassed None) Looks (ChoosingOf r) v fits short kept some reports read =
      load (takes (ahead (w.words q)) (w.words q) Dead) false (has unpassed r) _ _ some (λ e. by (v == 0))
    where
      by : (b : Bool) → Goes (takes (ahead (w.words q)) (w.words q) Dead) false (w.words q) (if b then Wait j unpassed (Some r) else Wait j unpassed None)
      by true = comes false Dead (Wait j unpassed (Some r)) tt (λ e. cc) (λ e. cc)
      by false = comes false Dead (Wait j unpassed None) tt (λ e. cc) (λ e. cc)
  steps (Wait j unpassed (Some i)) Weighs (NumberOf r) v fits short kept some reports read =
      load (takes (ahead (w.words q)) (w.words q) Dead) false (r == i) _ _ some (λ e. by ((v == 0) || is_before j q v r))
    where
      by : (b : Bool) → Goes (takes (ahead (w.words q)) (w.words q) Dead) false (w.words q) (if b then Wait j (without r unpassed) None else Wait j unpassed (Some i))
      by true = comes false Dead (Wait j (without r unpassed) None) tt (λ e. cc) (λ e. cc)
      by false = comes false Dead (Wait j unpassed (Some i)) tt (λ e. cc) (λ e. cc)
  steps (Wait j [] None) Marks (InsideOf r) v fits short kept some reports read =
      store (takes (ahead (w.words q)) (w.words q) Dead) false (v == 1) (λ x. record x { inside = v }) r _ _ some (λ e. enters v (eqb-true v 1 e) (omega arith) fits.3 kept)
  steps Leaving Drops (NumberOf r) v fits short kept some reports read =
      store (takes (ahead (w.words q)) (w.words q) Leaving) false (v == 0) (λ x. record x { number = v }) r _ _ some (λ e.
      let t = takes_inside (ahead (w.words q)) (w.words q).number (w.words q).inside fits.2 in
      gives_up (takes (ahead (w.words q)) (w.words q) Leaving) v (Unmarking Unlock) tt (λ e. cc) (omega arith) (eqb-true v 0 e))
  steps Withdrawing Drops (NumberOf r) v fits short kept some reports read =
      store 1 false (v == 0) (λ x. record x { number = v }) r _ _ some (λ e. gives_up 1 v Rest tt (λ e. cc) (omega arith) (eqb-true v 0 e))
  steps (Unmarking call) Marks (InsideOf r) v fits short kept some reports read =
      store (takes (ahead (w.words q)) (w.words q) Dead) false (v == 0) (λ x. record x { inside = v }) r _ _ some (λ e. unmarks call v fits.1)
  steps s Glances (ChoosingOf r) v fits short kept some reports read = stays s read
  steps s Glances (NumberOf r) v fits short kept some reports read = stays s read
  steps s Glances (InsideOf r) v fits short kept some reports read = stays s read
  steps _ _ _ _ fits short kept some reports read = absurd (cc)

  pub starts : (s : Place) (call : CoreCall) → IsSome (place_after_start s call) → Goes (takes (ahead (w.words q)) (w.words q) s) (is_withdraw s (Starts q call)) (w.words q) (unwrap_or (place_after_start s call) s)
  starts Rest Lock some = comes false Rest (Reread Lock []) tt (λ e. cc) (λ e. cc)
  starts Rest Recover some = comes false Rest (Reread Recover []) tt (λ e. cc) (λ e. cc)
  starts Dead Lock some = comes false Dead (Reread Lock []) tt (λ e. cc) (λ e. cc)
  starts Dead Recover some = comes false Dead (Reread Recover []) tt (λ e. cc) (λ e. cc)
  starts Inside Unlock some = comes false Inside Leaving tt (λ e. cc) (λ e. cc)
  starts (Wait j unpassed looked) Withdraw some = let u = (upto q below).0 in record { rise = 0; falls = omega arith; number = omega arith; read = tt }
  starts _ _ some = absurd (cc)

  pub crashes : (s : Place) → Fits (w.words q) s → Goes (takes (ahead (w.words q)) (w.words q) s) false (w.words q) Dead
  crashes (Door unread m) fits =
      let t = takes_none (ahead (w.words q)) (w.words q).number (w.words q).inside fits.1 in
      let u = (upto q below).0 in
      record { rise = 0; falls = omega arith; number = omega arith; read = tt }
  crashes Withdrawing fits =
      let t = takes_by_most (ahead (w.words q)) (w.words q).number (w.words q).inside in
      let u = (upto q below).0 in
      record { rise = 0; falls = omega arith; number = omega arith; read = tt }
  crashes s fits = let u = (upto q below).0 in record { rise = 0; falls = omega arith; number = omega arith; read = tt }
