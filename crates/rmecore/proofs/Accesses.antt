-- The next step is allowed, whatever a load reads. It is the least that is allowed. Its word is a lock word.
use Rattle.std.proofs.Common.{◌≡◌, ℕ, ◌+◌, ◌<◌, ◌≤◌, Bool, true, false, ◌&&◌, ◌==◌, nat_lt, nat_le, List, [], ◌∷◌, Option, Some, None, IsSome, IfSome, refl, sym, subst, inl, inr, arith, eqb-true, le-leb, ltb-false}
use Rattle.rmecore.proofs.Common.{cases_Bool, and_parts, Store, Take as Takes, Shut as Shuts, Word, Choosing as ChoosingOf, Number as NumberOf, InsideOf, first, place_of, access, kind_of, word_of}
use Rattle.rmecore.proofs.Common.{carried_value, Standing, next_access, owner, InLock, IsLeast, IsAllowed, StoresOwn, Place, Rest, Dead, Reread, Opening, Door, Shutting, Wait, Inside, Leaving, Withdrawing}
use Rattle.rmecore.proofs.Common.{Unmarking, has, above, only, next}
use Rattle.rmecore.proofs.Invariant.{eqb_self}
use Rattle.rmecore.proofs.Scans.{Lined, lined_above, has-first}
use Rattle.rmecore.specs.declared.stage.Stage.{Stage}
use Rattle.rmecore.specs.declared.stage.Stage.TheVariants.{Door as AtDoor, Wait as AtWait}

-- the scans of a place go by rising index
abbrev pub Orderly : ℕ → Place → Type 0
Orderly n (Door unread m) = Lined n unread
Orderly n (Wait k unpassed None) = Lined n unpassed
Orderly n (Wait k unpassed (Some j)) = j < n
Orderly n _ = Unit {0}

orderly_wait : (n p k i : ℕ) (o : Option ℕ) → first (above n p i) ≡ o → Orderly n (Wait k (above n p i) o)
orderly_wait n p k i None e = lined_above n p i
orderly_wait n p k i (Some j) e = (lined_above n p i).below j (in_list (above n p i) e)
  where
    in_list : (js : List ℕ) → first js ≡ Some j → has js j ≡ true
    in_list [] f = cc
    in_list (r ∷ js) f = let same : r ≡ j = cc in subst (λ x. has (x ∷ js) j ≡ true) (sym same) (has-first j js)

pub orderly : (n p : ℕ) (s : Stage) → Orderly n (place_of n p s)
orderly n p (AtDoor i m) = lined_above n p i
orderly n p (AtWait k i false) = lined_above n p i
orderly n p (AtWait k i true) = orderly_wait n p k i (first (above n p i)) refl
orderly n p _ = tt

passes : (b : Bool) (t : Place) → b ≡ true → IsSome (only b t)
passes true t e = refl
passes false t e = cc

not_below : (m limit : ℕ) → nat_lt m limit ≡ false → nat_le limit m ≡ true
not_below m limit e = le-leb limit m (ltb-false m limit e)

pub allowed : (n limit p : ℕ) (place : Place) (v : ℕ) → IfSome (access limit p place) (λ a. IsSome (next n limit p place (kind_of a) (word_of a) (carried_value a v)))
allowed n limit p (Door (j ∷ js) m) v = passes _ _ (has-first j js)
allowed n limit p (Door [] m) v =
    elim (cases_Bool (nat_lt m limit)) [
      | inl e ↦ let taken : (m + 1 == m + 1) ≡ true = eqb_self (m + 1) in rw e (passes _ _ (rw (eqb_self p, e, taken)))
      | inr e ↦ let past : nat_le limit m ≡ true = not_below m limit e in rw e (passes _ _ (rw (eqb_self p, past)))
    ]
allowed n limit p (Wait k unpassed (Some j)) v = passes _ _ (eqb_self j)
allowed n limit p (Wait k (j ∷ js) None) v = passes _ _ (has-first j js)
allowed n limit p (Reread call (c ∷ k ∷ i ∷ seen)) v = tt
allowed n limit p Rest v = tt
allowed n limit p Dead v = tt
allowed n limit p Inside v = tt
allowed n limit p _ v = passes _ _ (rw (eqb_self p))

pub passed : (b : Bool) (t : Place) → IsSome (only b t) → b ≡ true
passed true t some = refl
passed false t some = cc

mine : (q p : ℕ) (t : Place) → IsSome (only (q == p) t) → p ≤ q
mine q p t some = let same : q ≡ p = eqb-true q p (passed _ t some) in omega arith

mine_too : (q p : ℕ) (b : Bool) (t : Place) → IsSome (only ((q == p) && b) t) → p ≤ q
mine_too q p b t some = let same : q ≡ p = eqb-true q p (and_parts _ _ (passed _ t some)).0 in omega arith

pub least : (n limit p : ℕ) (place : Place) (word : Word) (v : ℕ) → Orderly n place → IfSome (access limit p place) (λ a. IsSome (next n limit p place (kind_of a) word v) → owner (word_of a) ≤ owner word)
least n limit p (Reread call []) (ChoosingOf q) v h = λ some. mine q p _ some
least n limit p (Reread call (c ∷ [])) (NumberOf q) v h = λ some. mine q p _ some
least n limit p (Reread call (c ∷ k ∷ [])) (InsideOf q) v h = λ some. mine q p _ some
least n limit p Opening (ChoosingOf q) v h = λ some. mine_too q p _ _ some
least n limit p (Door (j ∷ js) m) (NumberOf q) v h = λ some. h.least j q refl (passed _ _ some)
least n limit p (Door [] m) word v h =
    elim (cases_Bool (nat_lt m limit)) [
      | inl e ↦ rw e (take word)
      | inr e ↦ rw e (spent word)
    ]
  where
    take : (word : Word) → IsSome (next n limit p (Door [] m) (kind_of (Store Takes (NumberOf p) (m + 1))) word v) → p ≤ owner word
    take (NumberOf q) some = mine_too q p _ _ some
    take _ some = cc

    spent : (word : Word) → IsSome (next n limit p (Door [] m) (kind_of (Store Shuts (ChoosingOf p) 0)) word v) → p ≤ owner word
    spent (ChoosingOf q) some = mine_too q p _ _ some
    spent _ some = cc
least n limit p (Shutting call k) (ChoosingOf q) v h = λ some. mine_too q p _ _ some
least n limit p (Wait k unpassed (Some j)) (NumberOf q) v h = λ some. mine q j _ some
least n limit p (Wait k (j ∷ js) None) (ChoosingOf q) v h = λ some. h.least j q refl (passed _ _ some)
least n limit p (Wait k [] None) (InsideOf q) v h = λ some. mine_too q p _ _ some
least n limit p Leaving (NumberOf q) v h = λ some. mine_too q p _ _ some
least n limit p Withdrawing (NumberOf q) v h = λ some. mine_too q p _ _ some
least n limit p (Unmarking call) (InsideOf q) v h = λ some. mine_too q p _ _ some
least n limit p Rest word v h = tt
least n limit p Dead word v h = tt
least n limit p Inside word v h = tt
least n limit p (Reread call (c ∷ k ∷ i ∷ seen)) word v h = tt
least _ _ _ _ _ _ h = λ some. cc

pub within : (n limit p : ℕ) (place : Place) → p < n → Orderly n place → IfSome (access limit p place) (λ a. InLock n (word_of a))
within n limit p (Door (j ∷ js) m) below h = h.below j (has-first j js)
within n limit p (Door [] m) below h = elim (cases_Bool (nat_lt m limit)) [ inl e ↦ rw e below | inr e ↦ rw e below ]
within n limit p (Wait k unpassed (Some j)) below h = h
within n limit p (Wait k (j ∷ js) None) below h = h.below j (has-first j js)
within n limit p (Reread call (c ∷ k ∷ i ∷ seen)) below h = tt
within n limit p _ below h = assumption

-- a fact for each value, moved under the option
gathered : {A : Type 0} (o : Option A) (P : ℕ → A → Type 0) → ((v : ℕ) → IfSome o (P v)) → IfSome o (λ a. (v : ℕ) → P v a)
gathered None P h = tt
gathered (Some a) P h = h

pub all_allowed : (s : Standing) → IfSome (next_access s) (IsAllowed s)
all_allowed s = gathered (next_access s) _ (allowed s.procs s.limit s.index s.place)

pub all_least : (s : Standing) → Orderly s.procs s.place → IfSome (next_access s) (IsLeast s)
all_least s h = of_words (next_access s) _ (λ word v. least s.procs s.limit s.index s.place word v h)
  where
    of_words : {A : Type 0} (o : Option A) (P : Word → ℕ → A → Type 0) → ((word : Word) (v : ℕ) → IfSome o (P word v)) → IfSome o (λ a. (word : Word) (v : ℕ) → P word v a)
    of_words None P h = tt
    of_words (Some a) P h = h

pub stores_own : (limit p : ℕ) (place : Place) → IfSome (access limit p place) (StoresOwn p)
stores_own limit p (Door [] m) = elim (cases_Bool (nat_lt m limit)) [ inl e ↦ rw e (refl, refl) | inr e ↦ rw e (refl, refl) ]
stores_own limit p (Reread call (c ∷ k ∷ i ∷ seen)) = tt
stores_own limit p (Wait k unpassed (Some j)) = refl
stores_own limit p (Wait k (j ∷ js) None) = refl
stores_own limit p _ = assumption
