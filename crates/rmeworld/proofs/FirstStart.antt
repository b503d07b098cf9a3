-- Every lawful image has a start.
use Rattle.std.proofs.Common.{◌≡◌, ℕ, zero, suc, ◌+◌, ◌<◌, ◌≤◌, Bool, false, List, [], ◌∷◌, ◌++◌, length, map, slice_index_or, inl, inr, refl, sym, ap, ◌∙◌, subst, arith, if◌then◌else◌, length-append}
use Rattle.rmeworld.proofs.Common.{get_or_past, Own, Mailbox}
use Rattle.rmeworld.proofs.ImageCommon.{cases_Bool, cases_lt, length-map, dead_phase, phase_by, start_of, own_at, zeros, is_named, is_ahead as is_ahead_by, words_of, mailbox_of, Image, layout_of, IsLawfulImage, IsStartOf}
use Rattle.judge.specs.declared.start.Start.{Start}
use Rattle.rmeworld.proofs.FromImages.{alone, one_mailbox}
use Rattle.rmeworld.proofs.ImageStarts.{NamesBelow, one_named, none_named, one_set}

-- the names below k for which the function is true
abbrev names : (ℕ → Bool) → ℕ → List ℕ
names f zero = []
names f (suc k) = if f k then names f k ++ k ∷ [] else names f k

names_below : (f : ℕ → Bool) (k : ℕ) → NamesBelow f k (names f k)
names_below f zero = record { below = λ q low. absurd (omega arith); above = λ q high. refl }
names_below f (suc k) =
    let next : k + 1 ≡ suc k = omega arith in
    elim (cases_Bool (f k)) [
      | inl e ↦ rw e (subst (λ m. NamesBelow f m (names f k ++ k ∷ [])) next (one_named f k (names f k) e (names_below f k)))
      | inr e ↦ rw e (subst (λ m. NamesBelow f m (names f k)) next (none_named f k (names f k) e (names_below f k)))
    ]

-- the numbers below k
abbrev numbers : ℕ → List ℕ
numbers zero = []
numbers (suc k) = numbers k ++ k ∷ []

length-numbers : (k : ℕ) → length (numbers k) ≡ k
length-numbers zero = refl
length-numbers (suc k) = omega (arith, length-append (numbers k) (k ∷ []), length-numbers k)

module _ (f : ℕ → ℕ → Bool) (n : ℕ) where
  abbrev set : ℕ → List ℕ
  set p = names (f p) n

  sets_name : ((p q : ℕ) → n ≤ q → f p q ≡ false) → (k : ℕ) → (p q : ℕ) → p < k → is_named (slice_index_or (map set (numbers k)) p []) q ≡ f p q
  sets_name none zero p q low = absurd (omega arith)
  sets_name none (suc k) p q low =
      one_set set f (numbers k) k k (length-numbers k) (sets_name none k)
      (λ q. elim (cases_lt q n) [ inl below ↦ (names_below (f k) n).below q below | inr past ↦ (names_below (f k) n).above q past ∙ sym (none k q past) ]) p q (omega arith)

-- an index that is no process is ahead of none, and has none ahead

none_past : (lock : List Own) (p q : ℕ) → length lock ≤ q → (start_of (own_at lock)).ahead p q ≡ false
none_past lock p q past =
    let x : Own = own_at lock p in
    subst (λ (y : Own). is_ahead_by (phase_by x) p x q y ≡ false) (sym (get_or_past lock q zeros past)) (none x.choosing x.number x.inside)
  where
    none : (c k i : ℕ) → is_ahead_by (dead_phase c k i) p (record { choosing = c; number = k; inside = i }) q zeros ≡ false
    none zero zero i = refl
    none (suc c) zero i = refl
    none c (suc k) zero = refl
    none c (suc k) (suc i) = refl

past_none : (lock : List Own) (p q : ℕ) → length lock ≤ p → (start_of (own_at lock)).ahead p q ≡ false
past_none lock p q past = subst (λ (x : Own). is_ahead_by (phase_by x) p x q (own_at lock q) ≡ false) (sym (get_or_past lock p zeros past)) refl

-- the start of the image, with the mailbox of the process p
abbrev started : Image → ℕ → Start
started i p =
    let m : Mailbox = mailbox_of (layout_of i) p (words_of i.cells) in
    record {
      procs = length i.lock;
      cap = i.cap;
      phases = map phase_by i.lock;
      ahead = map (set (start_of (own_at i.lock)).ahead (length i.lock)) (numbers (length i.lock));
      shown = m.shown;
      pending = m.pending;
      closed = m.closed;
      ruined = m.ruined;
    }

ahead_is : (lock : List Own) (p q : ℕ) → is_named (slice_index_or (map (set (start_of (own_at lock)).ahead (length lock)) (numbers (length lock))) p []) q ≡ (start_of (own_at lock)).ahead p q
ahead_is lock p q =
    let n : ℕ = length lock in
    let f : ℕ → ℕ → Bool = (start_of (own_at lock)).ahead in
    elim (cases_lt p n) [
      | inl low ↦ sets_name f n (none_past lock) n p q low
      | inr past ↦
          let many : length (map (set f n) (numbers n)) ≡ n = length-map (numbers n) (set f n) ∙ length-numbers n in
          let least : length (map (set f n) (numbers n)) ≤ p = omega (arith, many, past) in
          ap (λ xs. is_named xs q) (get_or_past (map (set f n) (numbers n)) p [] least) ∙ sym (past_none lock p q past)
    ]

pub has_start : (i : Image) → IsLawfulImage i → (s : Start) × IsStartOf i s
has_start i lawful =
    let a = alone i lawful in (
      started i a.0,
      record {
        procs = refl;
        cap = refl;
        phases = refl;
        sets = length-map (numbers (length i.lock)) (set (start_of (own_at i.lock)).ahead (length i.lock)) ∙ length-numbers (length i.lock);
        ahead = ahead_is i.lock;
        mail = λ p h. one_mailbox i lawful a.0 p a.1 h;
      },
    )
