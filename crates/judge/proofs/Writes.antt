-- A judge's state at the start, and after a write.
use Rattle.std.proofs.Common.{◌≡◌, ◌≢◌, ℕ, ◌<◌, ◌≤◌, Bool, false, List, ◌++◌, take, drop, length, refl, sym, ◌∙◌, ap, subst, arith, get_or, set, replicate, get_or-set_same, get_or-set_other}
use Rattle.judge.proofs.Common.{get_or-replicate, take-append-le, bit_at-zero, Phase, put, Kept, Lists, HasBits, IsSound, HasRows, Keeps, State}
use Rattle.std.proofs.Math.Seq.{take-length}
use Rattle.judge.proofs.Steps.{put_cases}

pub Lists-replicate : {X : Type 0} (xs : List X) (n : ℕ) (x : X) → xs ≡ replicate n x → Lists xs n (λ k. x)
Lists-replicate xs n x e k d l = rw e (get_or-replicate n k x d l)

-- a list after a write at p
pub Lists-set : {X : Type 0} (xs : List X) (n p : ℕ) (f : ℕ → X) (x : X) → n ≤ length xs → Lists xs n f → Lists (set xs p x) n (put f p x)
Lists-set xs n p f x le lists k d l =
    put_cases f p k x (λ y. get_or (set xs p x) k d ≡ y)
    (λ same. let h : p < length xs = omega arith in rw (same, get_or-set_same) refl)
    (λ other. let ne : k ≢ p = other in rw get_or-set_other (lists k d l))

pub HasRows-replicate : (rows : List ℕ) (n : ℕ) → rows ≡ replicate n 0 → HasRows rows n (λ p q. false)
HasRows-replicate rows n e p lp q lq = let zero : ℕ = 0 in rw (e, get_or-replicate n p zero zero lp) (bit_at-zero q)

-- the judge's phases under another name
pub phases_kept : (phases : List Phase) (judge : Kept) (s : State) → phases ≡ judge.phases → IsSound judge → Keeps judge s → (length phases ≡ s.procs) × Lists phases s.procs s.lock.phase
phases_kept phases judge s e sound kept = (
  ap length e ∙ (sound.phases ∙ kept.procs),
  subst (λ xs. Lists xs s.procs s.lock.phase) (sym e) kept.phases,
)

-- rows after a write at p
pub HasRows-set : (rows : List ℕ) (n p : ℕ) (a : ℕ → ℕ → Bool) (f : ℕ → Bool) (row : ℕ) → n ≤ length rows → HasRows rows n a → HasBits row n f → HasRows (set rows p row) n (put a p f)
HasRows-set rows n p a f row le has bits k l =
    put_cases a p k f (λ g. HasBits (get_or (set rows p row) k 0) n g)
    (λ same. let h : p < length rows = omega arith in rw (same, get_or-set_same) bits)
    (λ other. let ne : k ≢ p = other in rw get_or-set_other (has k l))

-- a vector whose members are all overwritten
pub take-refilled : {X : Type 0} (n : ℕ) (ws items : List X) → length ws ≡ n → take n (ws ++ drop (length ws) items) ≡ ws
take-refilled n ws items e = rw (← e) (take-append-le (length ws) ws (drop (length ws) items) (omega arith) ∙ take-length ws)

-- whether the mailbox is closed or ruined is no part of the invariant
pub IsSound-ended : (judge : Kept) (closed ruined : Bool) → IsSound judge → IsSound (record judge { closed = closed; ruined = ruined })
IsSound-ended judge closed ruined sound = record {
  few = sound.few;
  small = sound.small;
  phases = sound.phases;
  ahead = sound.ahead;
  counts = sound.counts;
  counts_low = sound.counts_low;
  shown_low = sound.shown_low;
  room = sound.room;
}
