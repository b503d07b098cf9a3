-- A judge can start from the start of a lawful image.
use Rattle.std.proofs.Common.{◌≡◌, ◌≢◌, ℕ, zero, suc, ◌+◌, ◌<◌, ◌≤◌, Bool, true, false, ◌==◌, List, [], ◌∷◌, take, length, map, count_by, All, IfSome, is_none, refl, sym, ◌∙◌, ap, subst, inl, inr, arith, get_or, eq-eqb, ne_eqb, eqb-true, append-nil}
use Rattle.rmeworld.proofs.ImageCommon.{take-append_seam, cases_Bool, cases_eq, cases_lt, false≢true, length-map, get_or-map, get_or_default, take-append-le, Own, dead_phase, phase_by}
use Rattle.rmeworld.proofs.ImageCommon.{is_ahead as is_ahead_by, own_at, zeros, Layout, Words, words_of, RecordRule, mailbox_of, entry, entries, recorded_message, IsNumbered, phase_in, is_named, IsNextMessage}
use Rattle.rmeworld.proofs.ImageCommon.{AreNumbered, LockHolds, MailHolds, IsStart, Image, layout_of, IsLawfulImage, IsStartOf}
use Rattle.std.specs.List.{list_any}
use Rattle.std.proofs.lemmas.List.Folds.{list_any-from_Any, list_any_none}
use Rattle.std.proofs.Math.ListN.{get_or-eq_default}
use Rattle.rmecore.specs.declared.phase.Phase.TheVariants.{Out, Door, Ready}
use Rattle.redomail.proofs.Stands.{get_or-entries}
use Rattle.judge.proofs.Counts.{one_if, count_cons}
use Rattle.judge.proofs.Numbers.{Numbered, Numbered-more, AreNumbered-from}
use Rattle.rmeworld.proofs.FromImages.{alone}
use Rattle.rmeworld.proofs.ImageRules.{only_one, record_is_numbered}
use Rattle.rmecore.specs.declared.phase.Phase.{Phase}
use Rattle.rmecore.specs.AbstractLock.{is_inside, is_ready, is_dead_in}
use Rattle.redomail.proofs.Changes.{length-entries}
use Rattle.judge.specs.declared.start.Start.{Start}

-- Counts.

count_none : {X : Type 0} (f : X → Bool) (xs : List X) → ((k : ℕ) (d : X) → k < length xs → f (get_or xs k d) ≡ false) → count_by f xs ≡ 0
count_none f [] none = refl
count_none f (x ∷ xs) none =
    let here : one_if (f x) ≡ 0 = ap one_if (none 0 x (omega arith)) in
    omega (arith, count_cons f x xs, here, count_none f xs (λ k d h. none (suc k) d (omega arith)))

count_one : {X : Type 0} (f : X → Bool) (xs : List X) → ((j k : ℕ) (d : X) → j < length xs → k < length xs → f (get_or xs j d) ≡ true → f (get_or xs k d) ≡ true → j ≡ k) → count_by f xs ≤ 1
count_one f [] alone = omega arith
count_one f (x ∷ xs) alone =
    elim (cases_Bool (f x)) [
      | inl holds ↦
          (let here : one_if (f x) ≡ 1 = ap one_if holds in
          let rest = count_none f xs (λ k d h.
          elim (cases_Bool (f (get_or xs k d))) [ inl too ↦ absurd (omega (arith, alone 0 (suc k) d (omega arith) (omega arith) holds too)) | inr fails ↦ fails ]) in
          omega (arith, count_cons f x xs, here, rest))
      | inr fails ↦
          (let here : one_if (f x) ≡ 0 = ap one_if fails in
          let rest = count_one f xs (λ j k d a b c e. omega (arith, alone (suc j) (suc k) d (omega arith) (omega arith) c e)) in
          omega (arith, count_cons f x xs, here, rest))
    ]

-- Phases.

never_inside : (c k i : ℕ) → is_inside (dead_phase c k i) ≡ false
never_inside c k i = grind arith

dead_is_in : (c k i : ℕ) → is_dead_in (dead_phase c k i) ≡ true → (0 < k) × (0 < i)
dead_is_in c k i e = grind arith

ahead_is_ready : (f : Phase) (p : ℕ) (x : Own) (q : ℕ) (y : Own) → is_ahead_by f p x q y ≡ true → is_ready (phase_by y) ≡ true
ahead_is_ready Door p x q y e = e
ahead_is_ready Ready p x q y e = elim (cases_Bool (is_ready (phase_by y))) [ inl holds ↦ holds | inr fails ↦ absurd (false≢true (rw fails at e)) ]
ahead_is_ready _ p x q y e = absurd (false≢true e)

phase_of : (lock : List Own) (q : ℕ) (d : Phase) → q < length lock → get_or (map phase_by lock) q d ≡ phase_by (own_at lock q)
phase_of lock q d h = get_or-map phase_by lock q zeros d h

-- the phase of any process, out for an index that is no process
phase_any : (lock : List Own) (q : ℕ) → phase_in (map phase_by lock) q ≡ phase_by (own_at lock q)
phase_any lock q =
    elim (cases_lt q (length lock)) [
      | inl low ↦ phase_of lock q Out low
      | inr past ↦ get_or-eq_default (map phase_by lock) Out (omega (arith, length-map lock phase_by, past)) ∙ sym (ap phase_by (get_or-eq_default lock zeros past))
    ]

named_at : (xs : List ℕ) (k e : ℕ) → k < length xs → is_named xs (get_or xs k e) ≡ true
named_at xs k e h =
    list_any-from_Any (λ x. x == get_or xs k e) xs (k, get_or xs k e, h, get_or_default xs k (get_or xs k e) e h, eq-eqb (get_or xs k e) (get_or xs k e) refl)

-- Messages.

take_entries : (l : Layout) (w : Words) (k i : ℕ) → i ≤ k → take i (entries l w k) ≡ entries l w i
take_entries l w zero i h = let e : i ≡ 0 = omega arith in rw e refl
take_entries l w (suc k) i h =
    let n = length-entries l w k in
    elim (cases_eq i (suc k)) [
      | inl same ↦ rw same (let m = length-entries l w (suc k) in subst (λ j. take j (entries l w (suc k)) ≡ entries l w (suc k)) m (ap (take (length (entries l w (suc k)))) (sym (append-nil (entries l w (suc k)))) ∙ take-append_seam (entries l w (suc k)) []))
      | inr other ↦ take-append-le i (entries l w k) (entry l w k ∷ []) (omega (arith, n, other)) ∙ take_entries l w k i (omega (arith, other))
    ]

numbered_to : (l : Layout) (w : Words) (k i : ℕ) → IsNumbered l w k → i ≤ k → Numbered l.procs (entries l w k) i
numbered_to l w k zero n h = λ a low. absurd (omega arith)
numbered_to l w k (suc i) n h =
    let before = numbered_to l w k i n (omega arith) in
    let m = entry l w i in
    let front = take_entries l w k i (omega arith) in
    let here = n i (omega arith) in
    let next : IsNextMessage l.procs (take i (entries l w k)) m = rw front (here.0, here.1) in
    let more = Numbered-more l.procs (entries l w k) i m (omega (arith, length-entries l w k)) (sym (get_or-entries l w k i m (omega arith))) next before in
    let e : i + 1 ≡ suc i = omega arith in rw e at more

pub are_numbered : (l : Layout) (w : Words) (k : ℕ) → IsNumbered l w k → AreNumbered l.procs (entries l w k)
are_numbered l w k n = AreNumbered-from l.procs (entries l w k) k (omega (arith, length-entries l w k)) (numbered_to l w k k n (omega arith))

module _ (i : Image) (s : Start) (k : IsLawfulImage i) (h : IsStartOf i s) where
  abbrev l : Layout
  l = layout_of i

  abbrev w : Words
  w = words_of i.cells

  dead_alone : (a b : ℕ) (d : Phase) → a < length (map phase_by i.lock) → b < length (map phase_by i.lock) → is_dead_in (get_or (map phase_by i.lock) a d) ≡ true
      → is_dead_in (get_or (map phase_by i.lock) b d) ≡ true → a ≡ b
  dead_alone a b d la lb da db =
      let n = length-map i.lock phase_by in
      let low : a < length i.lock = omega (arith, n, la) in
      let low' : b < length i.lock = omega (arith, n, lb) in
      let x = own_at i.lock a in
      let y = own_at i.lock b in
      let in_a = dead_is_in x.choosing x.number x.inside (sym (ap is_dead_in (phase_of i.lock a d low)) ∙ da) in
      let in_b = dead_is_in y.choosing y.number y.inside (sym (ap is_dead_in (phase_of i.lock b d low')) ∙ db) in
      only_one (length i.lock) i.limit (own_at i.lock) a b (k.lawful (omega arith)) low low' in_a.0 in_a.1 in_b.0 in_b.1

  ready_names : All (All (λ q. is_ready (phase_in s.phases q) ≡ true)) s.ahead
  ready_names p d lp n e ln =
      let q = get_or (get_or s.ahead p d) n e in
      let same : get_or s.ahead p d ≡ get_or s.ahead p [] = get_or_default s.ahead p d [] lp in
      let named : is_named (get_or s.ahead p []) q ≡ true = ap (λ names. is_named names q) (sym same) ∙ named_at (get_or s.ahead p d) n e ln in
      let ahead = sym (h.ahead p q) ∙ named in
      let ready = ahead_is_ready (phase_by (own_at i.lock p)) p (own_at i.lock p) q (own_at i.lock q) ahead in
      ap is_ready (ap (λ phases. phase_in phases q) h.phases ∙ phase_any i.lock q) ∙ ready

  lock_holds : LockHolds s
  lock_holds = record {
    phases = ap length h.phases ∙ length-map i.lock phase_by ∙ sym h.procs;
    ahead = h.sets ∙ sym h.procs;
    nobody_in =
        ap (list_any is_inside) h.phases
        ∙ list_any_none is_inside (map phase_by i.lock) (λ q d low.
        let x = own_at i.lock q in ap is_inside (phase_of i.lock q d (omega (arith, length-map i.lock phase_by, low))) ∙ never_inside x.choosing x.number x.inside);
    one_dead = subst (λ phases. count_by is_dead_in phases ≤ 1) (sym h.phases) (count_one is_dead_in (map phase_by i.lock) dead_alone);
    all_ready = ready_names;
  }

  numbered : IsNumbered l w (w 2)
  numbered =
      let heads = k.heads (omega arith) in
      let r = k.recorded (omega arith) in
      elim (cases_eq (w 3) 0) [
        | inl calm ↦ (k.listed (omega arith) calm).numbered
        | inr armed ↦
            elim (cases_eq (w 0) 0) [
              | inl clean ↦ (let x = r.clean (omega (arith, heads.armed, armed)) clean in record_is_numbered l x.0 w x.2)
              | inr ruined ↦ (let x = r.ruined (omega (arith, heads.armed, armed)) (omega (arith, heads.ruined, ruined)) in record_is_numbered l x.0 w x.2)
            ]
      ]

  -- any process that the words are read with
  abbrev p : ℕ
  p = (alone i k).0

  shown_is : s.shown ≡ entries l w (w 2)
  shown_is = ap (λ m. m.shown) (h.mail p (alone i k).1)

  pending_is : s.pending ≡ (mailbox_of l p w).pending
  pending_is = ap (λ m. m.pending) (h.mail p (alone i k).1)

  closed_is : s.closed ≡ (w 1 == 1)
  closed_is = ap (λ m. m.closed) (h.mail p (alone i k).1)

  -- an armed record that isn't shown is the next message of the process inside
  record_is_next : w 3 ≡ 1 → w 0 ≢ 1 → w 2 ≡ w 4 → IsNextMessage (length i.lock) (entries l w (w 2)) (recorded_message l p w) × (length (entries l w (w 2)) < i.cap)
  record_is_next armed clean at =
      let heads = k.heads (omega arith) in
      let x = (k.recorded (omega arith)).clean armed (omega (arith, heads.ruined, clean)) in
      let same : x.0 ≡ p = (alone i k).1 x.0 x.1 in
      let rule = subst (λ q. RecordRule l q w) same x.2 in
      let below : p < length i.lock = subst (λ q. q < length i.lock) same x.1.0 in
      elim rule.rule [
        | inl u ↦ ((below, u.next), omega (arith, rule.room, at, length-entries l w (w 2)))
        | inr shown ↦ absurd (omega (arith, shown.count, at))
      ]

  pending_holds : IfSome (mailbox_of l p w).pending (λ m. IsNextMessage (length i.lock) (entries l w (w 2)) m × (length (entries l w (w 2)) < i.cap))
  pending_holds =
      elim (cases_eq (w 0) 1) [
        | inl ruined ↦ rw (eq-eqb (w 0) 1 ruined) tt
        | inr clean ↦
            elim (cases_eq (w 3) 1) [
              | inl armed ↦
                  elim (cases_eq (w 2) (w 4)) [
                    | inl at ↦ rw (ne_eqb (w 0) 1 clean, eq-eqb (w 3) 1 armed, eq-eqb (w 2) (w 4) at) (record_is_next armed clean at)
                    | inr other ↦ rw (ne_eqb (w 0) 1 clean, eq-eqb (w 3) 1 armed, ne_eqb (w 2) (w 4) other) tt
                  ]
              | inr calm ↦ rw (ne_eqb (w 0) 1 clean, ne_eqb (w 3) 1 calm) tt
            ]
      ]

  closed_alone : (w 1 == 1) ≡ true → is_none (mailbox_of l p w).pending ≡ true
  closed_alone closed =
      let heads = k.heads (omega arith) in
      let calm : w 3 ≢ 1 = heads.apart (eqb-true (w 1) 1 closed) in
      elim (cases_eq (w 0) 1) [
        | inl ruined ↦ rw (eq-eqb (w 0) 1 ruined) refl
        | inr clean ↦ rw (ne_eqb (w 0) 1 clean, ne_eqb (w 3) 1 calm) refl
      ]

  mail_holds : MailHolds s
  mail_holds = record {
    shown = rw (shown_is, h.procs) (are_numbered l w (w 2) numbered);
    room = omega (arith, ap length shown_is, length-entries l w (w 2), h.cap, (k.heads (omega arith)).room);
    pending = rw (pending_is, shown_is, h.procs, h.cap) pending_holds;
    open_yet = λ closed. ap is_none pending_is ∙ closed_alone (sym closed_is ∙ closed);
  }

  pub is_start : IsStart s
  is_start =
      let sized = k.sized (omega arith) in
      record {
        within = record {
          procs_least = omega (arith, h.procs, sized.someone);
          procs_most = omega (arith, h.procs, sized.few);
          cap_least = omega (arith, h.cap, sized.room);
          cap_most = omega (arith, h.cap, sized.small);
        };
        lock = lock_holds;
        mail = mail_holds;
      }
