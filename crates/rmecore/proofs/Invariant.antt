-- The invariant of every world of a run together with the abstract lock.
use Rattle.std.proofs.Common.{◌≡◌, ◌≢◌, ℕ, zero, suc, ◌+◌, ◌-◌, ◌<◌, ◌≤◌, Bool, true, false, ◌||◌, ◌==◌, ◌⊎◌, List, [], ◌∷◌, Some, refl, ap, ◌∙◌, inl, inr, arith, eqb-true, eq-eqb, ne_eqb}
use Rattle.rmecore.proofs.Common.{cases_Bool, cases_eq, Own, Phase, Out, AtDoor, Ready as Waiting, Within, DeadIn as DeadWithin, Abstract, is_ready, phase_after_crash, put, Place, Rest, Dead, Reread, Opening}
use Rattle.rmecore.proofs.Common.{Door, Shutting, Wait, Inside, Leaving, Withdrawing, Unmarking, has, without, others, span, World}

-- lists as sets

pub eqb_self : (p : ℕ) → (p == p) ≡ true
eqb_self p = eq-eqb p p refl

pub has-without : (js : List ℕ) (i j : ℕ) → i ≢ j → has (without j js) i ≡ has js i
has-without [] i j ne = refl
has-without (k ∷ js) i j ne =
    elim (cases_Bool (k == j)) [
      | inl e ↦
          let is : k ≡ j = eqb-true k j e in
          let no : (i == k) ≡ false = ne_eqb i k (λ same. ne (same ∙ is)) in
          rw (e, no) (has-without js i j ne)
      | inr e ↦ rw e (ap (λ b. (i == k) || b) (has-without js i j ne))
    ]

has-span : (p i k j : ℕ) → i ≤ j → j < i + k → j ≢ p → has (span p i k) j ≡ true
has-span p i zero j h less ne = absurd (omega arith)
has-span p i (suc k) j h less ne =
    elim (cases_eq j i) [
      | inl e ↦
          let no : (i == p) ≡ false = ne_eqb i p (λ same. ne (e ∙ same)) in
          let yes : (j == i) ≡ true = eq-eqb j i e in
          rw (no, yes)
      | inr e ↦
          let later : has (span p (i + 1) k) j ≡ true = has-span p (i + 1) k j (omega arith) (omega arith) ne in
          elim (cases_Bool (i == p)) [
            | inl f ↦ rw f later
            | inr f ↦ let no : (j == i) ≡ false = ne_eqb j i e in rw (f, no) later
          ]
    ]

pub has-others : (n p i : ℕ) → i < n → i ≢ p → has (others n p) i ≡ true
has-others n p i h ne = has-span p 0 (n - 0) i (omega arith) (omega arith) ne

pub put_same : {A : Type 0} (f : ℕ → A) (p : ℕ) (x : A) → put f p x p ≡ x
put_same f p x = rw (eqb_self p)

pub put_other : {A : Type 0} (f : ℕ → A) (p : ℕ) (x : A) (q : ℕ) → q ≢ p → put f p x q ≡ f q
put_other f p x q ne = rw (ne_eqb q p ne)

-- the words that a process can have at a place
abbrev pub Row : Own → Type 0
Row x = (x.choosing ≡ 0) ⊎ (x.inside ≡ 0)

abbrev pub Fits : Own → Place → Type 0
Fits x Rest = (x.inside ≡ 0) × ((x.choosing ≡ 0) ⊎ (x.number ≡ 0))
Fits x Dead = Row x
Fits x (Reread call []) = Row x
Fits x (Reread call (c ∷ [])) = Row x × (x.choosing ≡ c)
Fits x (Reread call (c ∷ k ∷ [])) = Row x × (x.choosing ≡ c) × (x.number ≡ k)
Fits x (Reread call (c ∷ k ∷ i ∷ seen)) = ⊥
Fits x Opening = (x.choosing ≡ 0) × (x.number ≡ 0) × (x.inside ≡ 0)
Fits x (Door unread m) = (0 < x.choosing) × (x.number ≡ 0) × (x.inside ≡ 0)
Fits x (Shutting call k) = (x.number ≡ k) × (0 < k) × (x.inside ≡ 0)
Fits x (Wait k unpassed looked) = (x.choosing ≡ 0) × (x.number ≡ k) × (0 < k) × (x.inside ≡ 0)
Fits x Inside = (x.choosing ≡ 0) × (0 < x.number) × (0 < x.inside)
Fits x Leaving = (x.choosing ≡ 0) × (0 < x.number) × (0 < x.inside)
Fits x Withdrawing = (x.choosing ≡ 0) × (0 < x.number) × (x.inside ≡ 0)
Fits x (Unmarking call) = (x.choosing ≡ 0) × (x.number ≡ 0)

-- the phase, from the words and from whether private memory was lost
abbrev pub is_lost : Place → Bool
is_lost Dead = true
is_lost (Reread call seen) = true
is_lost _ = false

abbrev pub phase_at : ℕ → ℕ → ℕ → Bool → Phase
phase_at zero zero i b = Out
phase_at (suc c) zero i b = AtDoor
phase_at c (suc k) zero b = Waiting
phase_at c (suc k) (suc i) true = DeadWithin
phase_at c (suc k) (suc i) false = Within

abbrev pub phase_of : Own → Place → Phase
phase_of x s = phase_at x.choosing x.number x.inside (is_lost s)

-- number k of p is before number v of i
abbrev pub Before : ℕ → ℕ → ℕ → ℕ → Type 0
Before k p v i = (k < v) ⊎ ((k ≡ v) × (p < i))

-- a process at this place has not missed p's number k: it takes a number above k
abbrev pub Counted : ℕ → ℕ → Place → Type 0
Counted k p (Door unread m) = (has unread p ≡ true) ⊎ (k ≤ m)
Counted k p _ = Unit {0}

-- p with number k is before i, now and with whatever number i takes next
pub record Stands (k p i : ℕ) (y : Own) (t : Place) : Type 0 where
  pub less : (y.number ≡ 0) ⊎ Before k p y.number i
  pub counted : Counted k p t

abbrev pub WaitsPast : Place → ℕ → Type 0
WaitsPast (Wait k unpassed looked) i = has unpassed i ≡ false
WaitsPast _ _ = ⊥

-- a process with these words at this place has passed i
abbrev pub Passed : Own → Place → ℕ → Type 0
Passed x s i = ((0 < x.number) × (0 < x.inside)) ⊎ WaitsPast s i

abbrev pub Looked : Place → ℕ → Type 0
Looked (Wait k unpassed (Some j)) i = j ≡ i
Looked _ _ = ⊥

-- the invariant of a pair of processes. b: p is ahead of i in the abstract lock
pub record Pair (b : Bool) (p : ℕ) (x : Own) (s : Place) (i : ℕ) (y : Own) (t : Place) : Type 0 where
  pub passed : Passed x s i → Stands x.number p i y t
  pub looked : Looked s i → Counted x.number p t
  pub ahead : b ≡ true → (0 < x.number) × (x.inside ≡ 0) × Stands x.number p i y t

pub record Tied (n : ℕ) (w : World) (a : Abstract) : Type 0 where
  pub fits : (p : ℕ) → p < n → Fits (w.words p) (w.places p)
  pub phase : (p : ℕ) → p < n → a.phase p ≡ phase_of (w.words p) (w.places p)
  pub self : (p : ℕ) → a.ahead p p ≡ false
  pub pairs : (p i : ℕ) → p < n → i < n → p ≢ i → Pair (a.ahead i p) p (w.words p) (w.places p) i (w.words i) (w.places i)

-- the phases by the words

pub phase_out : (c k i : ℕ) (b : Bool) → c ≡ 0 → k ≡ 0 → phase_at c k i b ≡ Out
phase_out c k i b e f = grind arith

pub phase_door : (c k i : ℕ) (b : Bool) → 0 < c → k ≡ 0 → phase_at c k i b ≡ AtDoor
phase_door c k i b e f = grind arith

pub phase_waiting : (c k i : ℕ) (b : Bool) → 0 < k → i ≡ 0 → phase_at c k i b ≡ Waiting
phase_waiting c k i b e f = grind arith

pub phase_within : (c k i : ℕ) → 0 < k → 0 < i → phase_at c k i false ≡ Within
phase_within c k i e f = grind arith

pub phase_dead : (c k i : ℕ) → 0 < k → 0 < i → phase_at c k i true ≡ DeadWithin
phase_dead c k i e f = grind arith

-- the other direction

pub within_means : (c k i : ℕ) (b : Bool) → phase_at c k i b ≡ Within → (0 < k) × (0 < i)
within_means c k i b e = grind arith

pub dead_means : (c k i : ℕ) (b : Bool) → phase_at c k i b ≡ DeadWithin → (0 < k) × (0 < i)
dead_means c k i b e = grind arith

pub waiting_means : (c k i : ℕ) (b : Bool) → is_ready (phase_at c k i b) ≡ true → (0 < k) × (i ≡ 0)
waiting_means c k i b e = grind arith

-- lost memory changes the phase only inside
pub phase_any : (c k i : ℕ) (b b' : Bool) → (k ≡ 0) ⊎ (i ≡ 0) → phase_at c k i b ≡ phase_at c k i b'
phase_any c k i b b' e = grind arith

pub phase_crashed : (c k i : ℕ) (b : Bool) → phase_after_crash (phase_at c k i b) ≡ phase_at c k i true
phase_crashed c k i b = grind arith

-- the words at every place are a row of the restart table
pub row_of : (x : Own) (s : Place) → Fits x s → Row x
row_of x Rest h = inr h.0
row_of x Dead h = h
row_of x (Reread call []) h = h
row_of x (Reread call (c ∷ [])) h = h.0
row_of x (Reread call (c ∷ k ∷ [])) h = h.0
row_of x (Reread call (c ∷ k ∷ i ∷ seen)) h = absurd h
row_of x Opening h = inl h.0
row_of x (Door unread m) h = inr h.2
row_of x (Shutting call k) h = inr h.2
row_of x _ h = inl h.0
