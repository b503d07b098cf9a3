-- The words of a lawful image are possible after a crash of every process, with the judge's state that they describe.
use Rattle.std.proofs.Common.{◌≡◌, ℕ, zero, suc, ◌+◌, ◌<◌, ◌≤◌, true, false, ◌==◌, nat_lt, if◌then◌else◌, List, [], ◌∷◌, length, map, refl, sym, ap, ◌∙◌, subst, inl, inr, ◌⊎◌, arith, eq-eqb, lt-ltb}
use Rattle.rmeworld.proofs.Common.{cases_eq, cases_lt, get_or_past, length-map, Own, Abstract, dead_phase, phase_by, start_of, own_at, zeros, new_tally, IsInSection, Layout, Words, words_of, Shape, RecordRule}
use Rattle.rmeworld.proofs.Common.{mailbox_of, shape_passes_on, Start, state_of, phase_in as phase_of_list, State, Image, layout_of, IsLawfulImage, IsStartOf, IsInAlone, Sits, IsLater, IsWorld}
use Rattle.rmeworld.proofs.Common.{crashed_global_state, dead_process, at_rest, MachineState, resting, process_state_of, machine_after_crash, machine_state_at, process_state_at, global_state_of, image_world, absent_machine, HasConfiguration, crashed_from}
use Rattle.redomail.proofs.Readings.{content_is_shape}
use Rattle.rmeworld.specs.ImageRules.{IsInsideByImage as IsInImage}
use Rattle.rmeworld.proofs.LawfulNow.{find_in}
use Rattle.rmeworld.proofs.WorldSteps.{le-ltb}
use Rattle.rmeworld.proofs.WorldTallies.{unstarted}
use Rattle.rmeworld.proofs.ImageRules.{only_one, lawful_content}
use Rattle.rmeworld.proofs.Executions.{in_numbers}

numbers_in : (c k i : ℕ) → 0 < k → 0 < i → IsInSection (dead_phase c k i)
numbers_in c zero i h x = absurd (omega arith)
numbers_in c (suc k) zero h x = absurd (omega arith)
numbers_in zero (suc k) (suc i) h x = tt
numbers_in (suc c) (suc k) (suc i) h x = tt

module _ (i : Image) (k : IsLawfulImage i) where
  abbrev l : Layout
  l = layout_of i

  abbrev w : Words
  w = words_of i.cells

  abbrev lock : Abstract
  lock = start_of (own_at i.lock)

  pub is_in : (p : ℕ) → p < length i.lock → IsInSection (lock.phase p) → IsInImage i p
  is_in p below h = let x = in_numbers (own_at i.lock p).choosing (own_at i.lock p).number (own_at i.lock p).inside h in (below, x.0, x.1)

  pub phase_in : (p : ℕ) → IsInImage i p → IsInSection (lock.phase p)
  phase_in p h = numbers_in (own_at i.lock p).choosing (own_at i.lock p).number (own_at i.lock p).inside h.1 h.2

  someone : 0 < length i.lock
  someone = let h = (k.sized (omega arith)).someone in omega (arith, h)

  -- p's words have the shape, if no other process is in
  shape_alone : (p : ℕ) → p < length i.lock → IsInAlone i p → Shape l p w (mailbox_of l p w)
  shape_alone p below only =
      content_is_shape l p i.cells (lawful_content i k) below
      (λ calm armed. let r = (k.recorded (omega arith)).clean armed calm in subst (λ q. RecordRule l q w) (only r.0 r.1) r.2)

  -- if no process is in, no record is armed, or the lock is ruined
  calm : ((p : ℕ) → IsInImage i p → ⊥) → (w 3 ≡ 0) ⊎ (w 0 ≡ 1)
  calm none =
      let heads = k.heads (omega arith) in
      elim (cases_eq (w 3) 0) [
        | inl e ↦ inl e
        | inr armed ↦
            elim (cases_eq (w 0) 0) [
              | inl clean ↦ (let r = (k.recorded (omega arith)).clean (omega (arith, heads.armed, armed)) clean in absurd (none r.0 r.1))
              | inr ruined ↦ inr (omega (arith, heads.ruined, ruined))
            ]
      ]

  ruined_is : (p : ℕ) → w 0 ≡ 1 → (mailbox_of l p w).ruined ≡ true
  ruined_is p e = eq-eqb (w 0) 1 e

  -- if no process is in, the pending message is the same for all
  pub mail_same : (p q : ℕ) → ((r : ℕ) → IsInImage i r → ⊥) → mailbox_of l p w ≡ mailbox_of l q w
  mail_same p q none =
      elim (calm none) [
        | inl e ↦ (let off : (w 3 == 1) ≡ false = subst (λ x. (x == 1) ≡ false) (sym e) refl in rw off refl)
        | inr e ↦ (let on : (w 0 == 1) ≡ true = eq-eqb (w 0) 1 e in rw on refl)
      ]

  -- the mailbox that the words describe is the same, whichever process is alone in
  sits_by : (s : State) → s.lock ≡ lock → ((p : ℕ) → IsInAlone i p → s.mail ≡ mailbox_of l p w) → Sits l w s
  sits_by s at mail =
      record {
        shape = λ q only.
            let solely : IsInAlone i q = λ p h. only p h.0 (subst (λ x. IsInSection (x.phase p)) (sym at) (phase_in p h)) in
            subst (Shape l q w) (sym (mail q solely)) (shape_at q solely (cases_lt q (length i.lock)));
        rest = λ none clean.
            elim (calm (λ p h. none p h.0 (subst (λ x. IsInSection (x.phase p)) (sym at) (phase_in p h)))) [ inl e ↦ e | inr e ↦ absurd (omega (arith, e, clean)) ];
      }
    where
      shape_at : (q : ℕ) → IsInAlone i q → (q < length i.lock) ⊎ (length i.lock ≤ q) → Shape l q w (mailbox_of l q w)
      shape_at q only (inl below) = shape_alone q below only
      shape_at q only (inr past) =
          let none : (p : ℕ) → IsInImage i p → ⊥ = λ p h. let e = only p h in omega (arith, e, h.0, past) in
          let here = shape_alone 0 someone (λ p h. absurd (none p h)) in
          let same : mailbox_of l 0 w ≡ mailbox_of l q w = mail_same 0 q none in
          let free : (w 3 ≡ 0) ⊎ ((mailbox_of l 0 w).ruined ≡ true) = elim (calm none) [ inl e ↦ inl e | inr e ↦ inr (ruined_is 0 e) ] in
          subst (Shape l q w) same (shape_passes_on l 0 q w (mailbox_of l 0 w) free here)

  pub later_by : (s : State) → s.lock ≡ lock → s.procs ≡ length i.lock → s.cap ≡ i.cap → s.most_inside ≡ 1 → ((p : ℕ) → IsInAlone i p → s.mail ≡ mailbox_of l p w) → IsLater l i.limit (own_at i.lock) w s
  later_by s at procs cap one mail = record { lawful = k.lawful (omega arith); lock = at; procs = procs; cap = cap; most_inside = one; sits = sits_by s at mail }

length-crashed : (l : Layout) (limit p n : ℕ) → length (crashed_from l limit p n) ≡ n
length-crashed l limit p zero = refl
length-crashed l limit p (suc n) = ap suc (length-crashed l limit (p + 1) n)

pub crashed-at : (l : Layout) (limit p n q : ℕ) → q < n → machine_state_at (crashed_from l limit p n) q ≡ machine_after_crash (resting l limit (p + q))
crashed-at l limit p zero q h = absurd (omega arith)
crashed-at l limit p (suc n) zero h = let e : p ≡ p + 0 = omega arith in ap (λ x. machine_after_crash (resting l limit x)) e
crashed-at l limit p (suc n) (suc q) h = let e : p + 1 + q ≡ p + suc q = omega arith in crashed-at l limit (p + 1) n q (omega arith) ∙ ap (λ x. machine_after_crash (resting l limit x)) e

pub crashed_is : (l : Layout) (limit : ℕ) (xs : List MachineState) (p n : ℕ) → length xs ≡ n → ((q : ℕ) → q < n → machine_state_at xs q ≡ machine_after_crash (resting l limit (p + q))) → xs ≡ crashed_from l limit p n
crashed_is l limit [] p zero len each = refl
crashed_is l limit [] p (suc n) len each = cc
crashed_is l limit (x ∷ xs) p zero len each = absurd (omega arith)
crashed_is l limit (x ∷ xs) p (suc n) len each =
    let zero_ : p + 0 ≡ p = omega arith in
    let here : x ≡ machine_after_crash (resting l limit p) = each 0 (omega arith) ∙ ap (λ y. machine_after_crash (resting l limit y)) zero_ in
    let rest = crashed_is l limit xs (p + 1) n (omega (arith, len)) (λ q h. let e : p + suc q ≡ p + 1 + q = omega arith in each (suc q) (omega arith) ∙ ap (λ y. machine_after_crash (resting l limit y)) e) in
    λ i. here i ∷ rest i

crashed_process_states : (l : Layout) (limit : ℕ) → process_state_at (crashed_from l limit 0 l.procs) ≡ (crashed_global_state l.procs (λ p. zeros) (λ p. 0)).process_states
crashed_process_states l limit = λ i. λ p. each p i
  where
    each : (p : ℕ) → process_state_at (crashed_from l limit 0 l.procs) p ≡ (if nat_lt p l.procs then dead_process else at_rest)
    each p =
        elim (cases_lt p l.procs) [
          | inl h ↦ rw (lt-ltb p l.procs h) (ap process_state_of (crashed-at l limit 0 l.procs p h))
          | inr h ↦ let off : nat_lt p l.procs ≡ false = le-ltb p l.procs h in rw off (ap process_state_of (get_or_past (crashed_from l limit 0 l.procs) p absent_machine (rw length-crashed h)))
        ]

-- some process beside which no other is in
pub alone : (i : Image) → IsLawfulImage i → (p : ℕ) × IsInAlone i p
alone i k = by (find_in (length i.lock) (start_of (own_at i.lock)).phase)
  where
    by : ((r : ℕ) × (r < length i.lock) × IsInSection ((start_of (own_at i.lock)).phase r)) ⊎ ((r : ℕ) → r < length i.lock → IsInSection ((start_of (own_at i.lock)).phase r) → ⊥) → (p : ℕ) × IsInAlone i p
    by (inl h) = let x = is_in i k h.0 h.1 h.2 in (h.0, λ q y. only_one (length i.lock) i.limit (own_at i.lock) q h.0 (k.lawful (omega arith)) y.0 h.1 y.1 y.2 x.1 x.2)
    by (inr h) = (0, λ q y. absurd (h q y.0 (phase_in i k q y)))

abbrev state_at : Image → ℕ → State
state_at i p = record { procs = length i.lock; cap = i.cap; most_inside = 1; lock = start_of (own_at i.lock); mail = mailbox_of (layout_of i) p (words_of i.cells) }

-- the mailbox that the words describe is the same, whichever process is alone in
pub one_mailbox : (i : Image) (k : IsLawfulImage i) (p q : ℕ) → IsInAlone i p → IsInAlone i q → mailbox_of (layout_of i) p (words_of i.cells) ≡ mailbox_of (layout_of i) q (words_of i.cells)
one_mailbox i k p q hp hq = by (find_in (length i.lock) (start_of (own_at i.lock)).phase)
  where
    by : ((r : ℕ) × (r < length i.lock) × IsInSection ((start_of (own_at i.lock)).phase r)) ⊎ ((r : ℕ) → r < length i.lock → IsInSection ((start_of (own_at i.lock)).phase r) → ⊥) → mailbox_of (layout_of i) p (words_of i.cells) ≡ mailbox_of (layout_of i) q (words_of i.cells)
    by (inl h) = let x = is_in i k h.0 h.1 h.2 in let e : p ≡ q = sym (hp h.0 x) ∙ hq h.0 x in ap (λ r. mailbox_of (layout_of i) r (words_of i.cells)) e
    by (inr h) = mail_same i k p q (λ r x. h r x.0 (phase_in i k r x))

pub image_global_state : (i : Image) → global_state_of (image_world i) ≡ crashed_global_state (length i.lock) (own_at i.lock) (words_of i.cells)
image_global_state i = λ j. record { words = own_at i.lock; cells = words_of i.cells; process_states = crashed_process_states (layout_of i) i.limit j }

phases_of : (words : List Own) (p : ℕ) → phase_of_list (map phase_by words) p ≡ phase_by (own_at words p)
phases_of [] p = refl
phases_of (x ∷ xs) zero = refl
phases_of (x ∷ xs) (suc p) = phases_of xs p

-- the state that the judge starts from
pub started_later : (i : Image) (s : Start) → IsLawfulImage i → IsStartOf i s → IsLater (layout_of i) i.limit (own_at i.lock) (words_of i.cells) (state_of s)
started_later i s k h =
    let phase : (p : ℕ) → phase_of_list s.phases p ≡ phase_by (own_at i.lock p) = λ p. ap (λ x. phase_of_list x p) h.phases ∙ phases_of i.lock p in
    later_by i k (state_of s) (λ j. record { phase = λ p. phase p j; ahead = λ p. λ q. h.ahead p q j }) h.procs h.cap refl h.mail

pub image_world_is : (i : Image) → IsLawfulImage i → IsWorld (image_world i)
image_world_is i k =
    let l : Layout = layout_of i in
    let sized = k.sized (omega arith) in
    let a = alone i k in
    let n : ℕ = length i.lock in
    record {
      sized = record { layout = record { few = sized.few; small = sized.small; least = sized.least; most = sized.most }; procs = (let h = sized.someone in omega (arith, h)); cap = (let h = sized.room in omega (arith, h)) };
      limited = (sized.limited, sized.low);
      filled = k.filled (omega arith);
      configured = record {
        words_each = refl;
        processes_each = length-crashed l i.limit 0 n;
        tallies_each = length-map i.lock new_tally;
        configurations = λ p below. subst (HasConfiguration l i.limit p) (sym (crashed-at l i.limit 0 n p below)) (let e : 0 + p ≡ p = omega arith in (refl, refl, e));
      };
      reached = record {
        first = crashed_global_state n (own_at i.lock) (words_of i.cells);
        state = state_at i a.0;
        origin = inr (refl, later_by i k (state_at i a.0) refl refl refl refl (λ p h. one_mailbox i k a.0 p a.1 h));
        execution = [];
        reports = tt;
        last = sym (image_global_state i);
        done = refl;
      };
      tallied = λ p below. unstarted l (own_at i.lock p) (process_state_at (crashed_from l i.limit 0 n) p) i.lock p (ap process_state_of (crashed-at l i.limit 0 n p below));
    }
