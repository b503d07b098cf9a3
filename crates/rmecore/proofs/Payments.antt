-- Each step of a call that isn't blocked adds one to its count. At the answer the count is the table's number.
use Rattle.std.proofs.Common.{◌≡◌, ℕ, zero, suc, ◌+◌, ◌-◌, ◌*◌, ◌<◌, ◌≤◌, true, false, ◌==◌, if◌then◌else◌, List, [], ◌∷◌, length, Option, Some, None, IsSome, IfSome, unwrap_or, refl, sym, ap, ◌∙◌, subst, inl, inr, arith, eq-eqb, ne_eqb}
use Rattle.rmecore.proofs.Common.{cases_Bool, false_from_ne_true, cases_eq, CoreCall, Lock, Unlock, CoreDone, Kind}
use Rattle.rmecore.proofs.Common.{Word, is_blocked, answer, reread_answer}
use Rattle.rmecore.proofs.Common.{shut_answer, unmark_answer, most_steps, own_steps, is_glance, Distinct, Pays, ReadsBegun, Place, Reread, Opening, Door, Shutting, Wait, Leaving}
use Rattle.rmecore.proofs.Common.{Withdrawing, Unmarking, has, next, without, others, restart, shut, place_after_unmark, span, is_idle}
use Rattle.rmecore.proofs.Invariant.{has-without}
use Rattle.rmecore.proofs.AllowedSteps.{by_step}
use Rattle.rmecore.proofs.Scans.{has-span-low}
use Rattle.rmecore.specs.declared.core_done.CoreDone.TheVariants.{In, Out, Found as Finds, Withdrawn}
use Rattle.rmecore.specs.declared.found.Found.TheVariants.{Left, Waiting}

without-absent : (js : List ℕ) (j : ℕ) → has js j ≡ false → without j js ≡ js
without-absent [] j h = refl
without-absent (i ∷ is) j h =
    elim (cases_eq j i) [
      | inl e ↦ let yes : (j == i) ≡ true = eq-eqb j i e in let bad : true ≡ false = rw yes at h in absurd (cc)
      | inr ne ↦
          let no : (j == i) ≡ false = ne_eqb j i ne in
          let no' : (i == j) ≡ false = ne_eqb i j (λ e. ne (sym e)) in
          let later : has is j ≡ false = rw no at h in
          rw no' (ap (λ l. i ∷ l) (without-absent is j later))
    ]

length-without : (js : List ℕ) (j : ℕ) → has js j ≡ true → Distinct js → length (without j js) + 1 ≡ length js
length-without [] j h d = absurd (cc)
length-without (i ∷ is) j h d =
    elim (cases_eq j i) [
      | inl e ↦
          let yes : (i == j) ≡ true = eq-eqb i j (sym e) in
          let gone : has is j ≡ false = subst (λ r. has is r ≡ false) (sym e) d.0 in
          rw (yes, without-absent is j gone) (omega arith)
      | inr ne ↦
          let no : (j == i) ≡ false = ne_eqb j i ne in
          let no' : (i == j) ≡ false = ne_eqb i j (λ e. ne (sym e)) in
          let later : has is j ≡ true = rw no at h in
          let rest = length-without is j later d.1 in
          rw no' (omega arith)
    ]

distinct-without : (js : List ℕ) (j : ℕ) → Distinct js → Distinct (without j js)
distinct-without [] j d = tt
distinct-without (i ∷ is) j d =
    elim (cases_eq i j) [
      | inl e ↦ let yes : (i == j) ≡ true = eq-eqb i j e in rw yes (distinct-without is j d.1)
      | inr ne ↦ let no : (i == j) ≡ false = ne_eqb i j ne in rw no (has-without is i j ne ∙ d.0, distinct-without is j d.1)
    ]

distinct-span : (p i k : ℕ) → Distinct (span p i k)
distinct-span p i zero = tt
distinct-span p i (suc k) =
    elim (cases_Bool (i == p)) [
      | inl e ↦ rw e (distinct-span p (i + 1) k)
      | inr e ↦ rw e (false_from_ne_true _ (λ f. let up = has-span-low p (i + 1) k i f in omega arith), distinct-span p (i + 1) k)
    ]

length-span-past : (p i k : ℕ) → p < i → length (span p i k) ≡ k
length-span-past p i zero h = refl
length-span-past p i (suc k) h = let no : (i == p) ≡ false = ne_eqb i p (omega arith) in let rest = length-span-past p (i + 1) k (omega arith) in rw no (omega arith)

length-span : (p i k : ℕ) → i ≤ p → p < i + k → length (span p i k) + 1 ≡ k
length-span p i zero h below = absurd (omega arith)
length-span p i (suc k) h below =
    elim (cases_eq i p) [
      | inl e ↦ let yes : (i == p) ≡ true = eq-eqb i p e in let rest = length-span-past p (i + 1) k (omega arith) in rw yes (omega arith)
      | inr ne ↦ let no : (i == p) ≡ false = ne_eqb i p ne in let rest = length-span p (i + 1) k (omega arith) (omega arith) in rw no (omega arith)
    ]

length-others : (n p : ℕ) → p < n → length (others n p) + 1 ≡ n
length-others n p below = let h = length-span p 0 (n - 0) (omega arith) (omega arith) in omega arith

-- the place and the answer after a step
abbrev pub Comes : ℕ → ℕ → ℕ → ℕ → Option CoreDone → Place → ℕ → Type 0
Comes n c k i done s steps = Pays n c k i s steps × IfSome done (λ d. own_steps n c k i d ≡ Some steps)

-- the same number, written differently
same : {o : Option ℕ} {x : ℕ} (y : ℕ) → o ≡ Some x → x ≡ y → o ≡ Some y
same y e f = e ∙ ap Some f

module _ (n p : ℕ) (below : p < n) where
  all : Distinct (others n p)
  all = distinct-span p 0 (n - 0)

  each : length (others n p) + 1 ≡ n
  each = length-others n p below

  restarts : (call : CoreCall) (c k i : ℕ) → Comes n c k i (reread_answer call c k i) (restart n p call c k i) 3
  restarts Lock (suc c) zero i = let l = each in ((all, ap Some (omega arith), ap Some (omega arith)), tt)
  restarts Lock (suc c) (suc k) i = (ap Some (omega arith), tt)
  restarts Lock zero zero zero = ((ap Some (omega arith), ap Some (omega arith)), tt)
  restarts Lock zero zero (suc i) = ((ap Some (omega arith), ap Some (omega arith)), tt)
  restarts Lock zero (suc k) zero = let l = each in ((all, ap Some (omega arith)), tt)
  restarts Lock zero (suc k) (suc i) = (tt, refl)
  restarts _ (suc c) (suc k) i = (refl, tt)
  restarts _ zero zero (suc i) = (refl, tt)
  restarts _ zero (suc k) (suc i) = (tt, refl)
  restarts _ _ _ _ = (tt, refl)

  restarts_as : (call : CoreCall) (c k i x y v : ℕ) → x ≡ c → y ≡ k → v ≡ i → (steps : ℕ) → steps ≡ 2 → Comes n c k i (reread_answer call x y v) (restart n p call x y v) (steps + 1)
  restarts_as call c k i x y v e f g steps h =
      let three : steps + 1 ≡ 3 = omega arith in
      rw (e, f, g, three) (restarts call c k i)

  -- after a step that isn't blocked
  abbrev Goes : ℕ → ℕ → ℕ → Option CoreDone → ℕ → Place → Type 0
  Goes c k i done steps s = Comes n c k i done s (steps + 1)

  shuts : (call : CoreCall) (c k i x steps : ℕ) → Pays n c k i (Shutting call x) steps → Goes c k i (shut_answer call) steps (shut n p call x)
  shuts Lock c k i x steps h = let l = each in ((all, same _ h (omega arith)), tt)
  shuts _ c k i x steps h = (tt, h)

  unmarks : (call : CoreCall) (c k i steps : ℕ) → Pays n c k i (Unmarking call) steps → Goes c k i (unmark_answer call) steps (place_after_unmark call)
  unmarks Lock c k i steps h = ((same _ h.0 (omega arith), same _ h.1 (omega arith)), tt)
  unmarks _ c k i steps h = (tt, h)

  pub pays : (limit c k i : ℕ) (s : Place) (kind : Kind) (word : Word) (v steps : ℕ) → IsSome (next n limit p s kind word v) → is_glance kind ≡ false → ReadsBegun c k i s v → Pays n c k i s steps
      → Comes n c k i (answer s kind v) (unwrap_or (next n limit p s kind word v) s) (if is_blocked p s kind v then steps else steps + 1)
  pays limit c k i s kind word v steps some not_glance reads h =
      by_step
      {C = λ s kind word v t. is_glance kind ≡ false → ReadsBegun c k i s v → Pays n c k i s steps → Comes n c k i (answer s kind v) t (if is_blocked p s kind v then steps else steps + 1)} (
      record {
        rereads_choosing = λ call v _ reads h. ((omega arith, reads), tt);
        rereads_number = λ call x v _ reads h. ((omega arith, h.1, reads), tt);
        rereads_inside = λ call x y v _ reads h. restarts_as call c k i x y v h.1 h.2 reads steps h.0;
        opens = λ _ reads h. let l = each in ((all, same _ h.0 (omega arith), same _ h.1 (omega arith)), tt);
        peeks = λ unread m j v there _ reads h. let l = length-without unread j there h.0 in ((distinct-without unread j h.0, same _ h.1 (omega arith), same _ h.2 (omega arith)), tt);
        takes = λ m less _ reads h. (same _ h.2 (omega arith), tt);
        spends = λ m most _ reads h. (tt, h.1);
        shuts = λ call x _ reads h. shuts call c k i x steps h;
        looks = λ x unpassed j there _ reads h. ((h.0, there, same _ h.1 (omega arith)), tt);
        looks_again = λ x unpassed j v there blocked _ reads h. rw blocked (h, tt);
        weighs = λ x unpassed j v passes _ reads h. let l = length-without unpassed j h.1 h.0 in rw passes ((distinct-without unpassed j h.0, same _ h.2 (omega arith)), tt);
        weighs_again = λ x unpassed j v blocked _ reads h. rw blocked (h, tt);
        marks = λ x _ reads h. (tt, h.1);
        drops = λ _ reads h. (same _ h (omega arith), tt);
        withdraws = λ _ reads h. (tt, h);
        unmarks = λ call _ reads h. unmarks call c k i steps h;
        glances = λ s word v not_glance reads h. absurd (cc);
      })
      s kind word v some not_glance reads h

-- no number of the table is above the bound

at_most : (n c k i : ℕ) (done : CoreDone) (x : ℕ) → 0 < n → own_steps n c k i done ≡ Some x → x ≤ most_steps n
at_most n c k i done x h e = grind arith

more_to_come : (n c k i : ℕ) (done : CoreDone) (x left : ℕ) → 0 < n → 0 < left → own_steps n c k i done ≡ Some (x + left) → x < most_steps n
more_to_come n c k i done x left h some e = let most = at_most n c k i done (x + left) h e in omega arith

-- a call under way has taken fewer steps than the bound
pub fewer : (n c k i : ℕ) (s : Place) (x : ℕ) → 0 < n → is_idle s ≡ false → Pays n c k i s x → x < most_steps n
fewer n c k i (Reread call []) x h busy pays = omega arith
fewer n c k i (Reread call (a ∷ [])) x h busy pays = let f = pays.0 in omega arith
fewer n c k i (Reread call (a ∷ b ∷ [])) x h busy pays = let f = pays.0 in omega arith
fewer n c k i (Reread call (a ∷ b ∷ d ∷ seen)) x h busy pays = absurd pays
fewer n c k i Opening x h busy pays = more_to_come n c k i In x _ h (omega arith) pays.1
fewer n c k i (Door unread m) x h busy pays = more_to_come n c k i In x _ h (omega arith) pays.2
fewer n c k i (Shutting Lock y) x h busy pays = more_to_come n c k i In x _ h (omega arith) pays
fewer n c k i (Shutting _ y) x h busy pays = more_to_come n c k i (Finds Waiting) x _ h (omega arith) pays
fewer n c k i (Wait y unpassed None) x h busy pays = more_to_come n c k i In x _ h (omega arith) pays.1
fewer n c k i (Wait y (u ∷ us) (Some j)) x h busy pays = more_to_come n c k i In x _ h (omega arith) pays.2
fewer n c k i Leaving x h busy pays = more_to_come n c k i Out x _ h (omega arith) pays
fewer n c k i Withdrawing x h busy pays = more_to_come n c k i Withdrawn x _ h (omega arith) pays
fewer n c k i (Unmarking Lock) x h busy pays = more_to_come n c k i In x _ h (omega arith) pays.1
fewer n c k i (Unmarking Unlock) x h busy pays = more_to_come n c k i Out x _ h (omega arith) pays
fewer n c k i (Unmarking _) x h busy pays = more_to_come n c k i (Finds Left) x _ h (omega arith) pays
fewer n c k i _ x h busy pays = absurd (cc)

-- a fresh start, up to the end of the shut
pub fresh_start : (n p k steps : ℕ) → p < n → Pays n 0 0 0 (Wait k (others n p) None) steps → steps ≡ n + 5
fresh_start n p k steps below pays =
    let each = length-others n p below in
    let sum : 3 * n + 4 ≡ steps + (2 * length (others n p) + 1) = let e = pays.1 in cc in
    omega arith
