-- The laws from a start.
use Rattle.std.proofs.Common.{◌≡◌, ℕ, zero, suc, ◌+◌, ◌<◌, ◌≤◌, Bool, true, false, List, [], ◌∷◌, length, count_by, Option, Some, None, IfSome, refl, sym, ◌∙◌, ap, subst, inl, inr, arith, get_or, true≢false}
use Rattle.judge.proofs.Common.{cond-true, false≢true, cases_lt, get_or_past, list_any_at, Phase, is_out, is_inside, is_dead_in, Deed, Message, is_by, is_pending, IsNextMessage, IsStart, LockHolds, phase_in}
use Rattle.judge.proofs.Common.{state_of}
use Rattle.rmecore.specs.declared.phase.Phase.TheVariants as phase
use Rattle.judge.specs.PlainFrom.{IsPlainFrom}
use Rattle.judge.specs.declared.start.Start.{Start}
use Rattle.judge.proofs.Counts.{one_if, count_cons}
use Rattle.judge.proofs.Steps.{Allowed}
use Rattle.judge.proofs.Inside.{Sole, NoTwoInside-from_allowed, DeadReenters-from_allowed, next_is_own}
use Rattle.judge.proofs.Order.{FirstComeFirstServed-from_allowed, gone_first, gone_ahead}
use Rattle.judge.proofs.Mail.{message_parts, numbered, placed, committed, none_after, after_close}

-- a member that passes the test is counted
counted_one : {X : Type 0} (f : X → Bool) (x : X) (xs : List X) → f x ≡ true → count_by f (x ∷ xs) ≡ 1 + count_by f xs
counted_one f x xs e = let one : one_if (f x) ≡ 1 = cond-true (f x) _ _ e in omega (arith, count_cons f x xs, one)

-- if the count is 0, no member passes the test
none_has : {X : Type 0} (f : X → Bool) (xs : List X) (i : ℕ) (d : X) → count_by f xs ≡ 0 → i < length xs → f (get_or xs i d) ≡ true → ⊥
none_has f [] i d none l e = omega arith
none_has f (x ∷ xs) zero d none l e = omega (arith, counted_one f x xs e, none)
none_has f (x ∷ xs) (suc i) d none l e =
    let rest : count_by f xs ≡ 0 = omega (arith, count_cons f x xs, none) in
    none_has f xs i d rest (omega arith) e

-- if the count is at most one, the members that pass the test are at one position
one_has : {X : Type 0} (f : X → Bool) (xs : List X) (i j : ℕ) (d : X) → count_by f xs ≤ 1 → i < length xs → j < length xs → f (get_or xs i d) ≡ true → f (get_or xs j d) ≡ true → i ≡ j
one_has f [] i j d most li lj ei ej = absurd (omega arith)
one_has f (x ∷ xs) zero zero d most li lj ei ej = refl
one_has f (x ∷ xs) zero (suc j) d most li lj ei ej =
    let none : count_by f xs ≡ 0 = omega (arith, counted_one f x xs ei, most) in
    absurd (none_has f xs j d none (omega arith) ej)
one_has f (x ∷ xs) (suc i) zero d most li lj ei ej =
    let none : count_by f xs ≡ 0 = omega (arith, counted_one f x xs ej, most) in
    absurd (none_has f xs i d none (omega arith) ei)
one_has f (x ∷ xs) (suc i) (suc j) d most li lj ei ej =
    let rest : count_by f xs ≤ 1 = omega (arith, count_cons f x xs, most) in
    ap suc (one_has f xs i j d rest (omega arith) (omega arith) ei ej)

-- a process that isn't out is in the list
within : (phases : List Phase) (p : ℕ) (x : Phase) → phase_in phases p ≡ x → is_out x ≡ false → p < length phases
within phases p x e other = elim (cases_lt p (length phases)) [
  | inl l ↦ l
  | inr past ↦ absurd (true≢false (ap is_out (sym (get_or_past phases p phase.Out past) ∙ e) ∙ other))
]

Sole-start : (start : Start) → LockHolds start → Sole (state_of start)
Sole-start start h p q lp lq (inl e) hq = absurd (true≢false (sym (list_any_at is_inside start.phases p phase.Out (omega (arith, lp, h.phases)) e) ∙ h.nobody_in))
Sole-start start h p q lp lq (inr e) (inl f) = absurd (true≢false (sym (list_any_at is_inside start.phases q phase.Out (omega (arith, lq, h.phases)) f) ∙ h.nobody_in))
Sole-start start h p q lp lq (inr e) (inr f) =
    one_has is_dead_in start.phases p q phase.Out h.one_dead (omega (arith, lp, h.phases)) (omega (arith, lq, h.phases)) e f

-- the pending message has its sender's next number
next_pending : (o : Option Message) (procs cap : ℕ) (shown : List Message) → IfSome o (λ m. IsNextMessage procs shown m × (length shown < cap)) → (p seq : ℕ) (v : List ℕ) → is_pending o p seq v ≡ true → seq ≡ count_by (is_by p) shown + 1
next_pending None procs cap shown h p seq v e = absurd (false≢true e)
next_pending (Some m) procs cap shown h p seq v e =
    let parts = message_parts m.sender m.seq m.value p seq v e in
    let P : ℕ → Type 0 = λ k. m.seq ≡ count_by (is_by k) shown + 1 in
    sym parts.1 ∙ subst P parts.0 h.0.1

pub IsPlainFrom-allowed : (start : Start) (ds : List Deed) → IsStart start → Allowed (state_of start) ds → IsPlainFrom start ds
IsPlainFrom-allowed start ds h ok =
    let s = state_of start in
    let sole = Sole-start start h.lock in
    let below : (p : ℕ) (x : Phase) → phase_in start.phases p ≡ x → is_out x ≡ false → p < start.procs =
    λ p x e other. omega (arith, within start.phases p x e other, h.lock.phases) in
    let sound = next_pending start.pending start.procs start.cap start.shown h.mail.pending in
    record {
      lock = record {
        alone = record {
          no_two_inside = NoTwoInside-from_allowed s ds sole ok;
          dead_reenters = DeadReenters-from_allowed s ds sole ok;
          first_come = FirstComeFirstServed-from_allowed s ds ok;
        };
        dead_reenters = λ p j dead none here. next_is_own s p ds j sole (below p _ dead refl) dead ok none here;
        first_come = λ p q b e ready begins l none here. gone_first s p q ds b e (below p _ ready refl) ready ok begins l here;
        ahead_first = λ p q e ready ahead none here. gone_ahead s p q ds e (below p _ ready refl) ready ahead ok here;
      };
      mail = record {
        numbered = numbered s ds sound ok;
        placed = placed s ds ok;
        committed = committed s ds ok;
        no_commit = λ p q i j seq v close l. (after_close s ds ok p q i j 0 seq v close l).0;
        no_show = λ p q i j at seq v close l. (after_close s ds ok p q i j at seq v close l).1;
        closed_no_commit = λ p j seq v closed. (none_after s ds (closed, h.mail.open_yet closed) ok p j 0 seq v).0;
        closed_no_show = λ p j at seq v closed. (none_after s ds (closed, h.mail.open_yet closed) ok p j at seq v).1;
      };
    }
