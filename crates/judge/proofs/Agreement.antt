-- Only the processes below n matter: two abstract locks that agree on them allow the same deeds of n processes.
use Rattle.std.proofs.Common.{◌≡◌, ℕ, zero, suc, ◌<◌, Bool, false, ◌||◌, ◌==◌, if◌then◌else◌, List, [], ◌∷◌, refl, sym, ◌∙◌, ap, subst, inl, inr, arith, ltb-true, eq-eqb, ne_eqb}
use Rattle.judge.proofs.Common.{cases_eq, cond-true, cond-false, Fault, OutOfPlace, TwoInside, NotReentered, Overtaken, Outer, Begin, Ready as IsReady, Enter, Crash, Reenter, Leave, Quit, Phase, Out}
use Rattle.judge.proofs.Common.{Door, Inside, Abstract, Legal, abstract_after, is_out, is_door, is_ready, is_inside, is_dead_in, phase_after_crash, lock_doer, AllHold, least_below, put, Deed, Mailbox, doer, row as mail_row}
use Rattle.judge.proofs.Common.{MailAllows, Agree, lock_after}
use Rattle.rmecore.specs.AbstractLock.{row}
use Rattle.rmecore.specs.declared.phase.Phase.TheVariants.{Ready}
use Rattle.redomail.specs.Mailbox.{mailbox_after as mail_done}
use Rattle.redomail.specs.declared.deed.Deed.TheVariants as deed

pub least-agree : (n : ℕ) (t u : ℕ → Bool) → ((k : ℕ) → k < n → t k ≡ u k) → least_below n t ≡ least_below n u
least-agree zero t u same = refl
least-agree (suc n) t u same =
    ap (λ b. if b then 0 else suc (least_below n (λ k. t (suc k)))) (same 0 (omega arith))
    ∙ ap (λ m. if u 0 then 0 else suc m) (least-agree n (λ k. t (suc k)) (λ k. u (suc k)) (λ k l. same (suc k) (omega arith)))

pub row-agree : (n : ℕ) (a b : Abstract) (d : Outer) → lock_doer d < n → Agree n a b → row n a d ≡ row n b d
row-agree n a b (Begin p) l h = ap (λ x. (is_out x, OutOfPlace) ∷ []) (h.phases p l)
row-agree n a b (IsReady p) l h = ap (λ x. (is_door x, OutOfPlace) ∷ []) (h.phases p l)
row-agree n a b (Enter p) l h =
    let inside = least-agree n (λ q. is_inside (a.phase q)) (λ q. is_inside (b.phase q)) (λ q m. ap is_inside (h.phases q m)) in
    let dead = least-agree n (λ q. is_dead_in (a.phase q)) (λ q. is_dead_in (b.phase q)) (λ q m. ap is_dead_in (h.phases q m)) in
    let ahead = least-agree n (a.ahead p) (b.ahead p) (λ q m. h.ahead p q l m) in
    enter_row n p (is_ready (a.phase p)) (is_ready (b.phase p)) _ _ _ _ _ _ (ap is_ready (h.phases p l)) inside dead ahead
  where
    enter_row : (n p : ℕ) (r s : Bool) (i j d e f g : ℕ) → r ≡ s → i ≡ j → d ≡ e → f ≡ g
        → ◌≡◌ {A = List (Bool × Fault)} ((r, OutOfPlace) ∷ (i == n, TwoInside) ∷ (d == n, NotReentered) ∷ (f == n, Overtaken p f) ∷ [])
        ((s, OutOfPlace) ∷ (j == n, TwoInside) ∷ (e == n, NotReentered) ∷ (g == n, Overtaken p g) ∷ [])
    enter_row n p r s i j d e f g x y z w = cc
row-agree n a b (Crash p) l h = refl
row-agree n a b (Reenter p) l h = ap (λ x. (is_dead_in x, OutOfPlace) ∷ []) (h.phases p l)
row-agree n a b (Leave p) l h = ap (λ x. (is_inside x, OutOfPlace) ∷ []) (h.phases p l)
row-agree n a b (Quit p) l h = ap (λ x. (is_door x || is_ready x, OutOfPlace) ∷ []) (h.phases p l)

-- the same write in two functions that agree at a place
put-agree : {A : Type 0} (f g : ℕ → A) (p q : ℕ) (x y : A) → x ≡ y → f q ≡ g q → put f p x q ≡ put g p y q
put-agree f g p q x y e h = ap (λ z. if q == p then z else f q) e ∙ ap (λ z. if q == p then y else z) h

-- the same for a row
put-row-agree : (f g : ℕ → ℕ → Bool) (p q k : ℕ) (x y : ℕ → Bool) → x k ≡ y k → f q k ≡ g q k → put f p x q k ≡ put g p y q k
put-row-agree f g p q k x y e h = elim (cases_eq q p) [
  | inl same ↦
      (let one = eq-eqb q p same in
      ap (λ z. z k) (cond-true (q == p) x (f q) one) ∙ (e ∙ sym (ap (λ z. z k) (cond-true (q == p) y (g q) one))))
  | inr other ↦
      (let none = ne_eqb q p other in
      ap (λ z. z k) (cond-false (q == p) x (f q) none) ∙ (h ∙ sym (ap (λ z. z k) (cond-false (q == p) y (g q) none))))
]

moved : (n : ℕ) (a b : Abstract) (p : ℕ) → Agree n a b → (x : Phase) → Agree n (record a { phase = put a.phase p x }) (record b { phase = put b.phase p x })
moved n a b p h x = record {
  phases = λ q l. put-agree a.phase b.phase p q x x refl (h.phases q l);
  ahead = h.ahead;
}

passed : (n : ℕ) (a b : Abstract) (p : ℕ) → Agree n a b → (x : Phase) → Agree n (record { phase = put a.phase p x; ahead = λ q. put (a.ahead q) p false }) (record { phase = put b.phase p x; ahead = λ q. put (b.ahead q) p false })
passed n a b p h x = record {
  phases = λ q l. put-agree a.phase b.phase p q x x refl (h.phases q l);
  ahead = λ q k l m. put-agree (a.ahead q) (b.ahead q) p k false false refl (h.ahead q k l m);
}

pub done-agree : (n : ℕ) (a b : Abstract) (d : Outer) → lock_doer d < n → Agree n a b → Agree n (abstract_after a d) (abstract_after b d)
done-agree n a b (Begin p) l h = record {
  phases = λ q m. put-agree a.phase b.phase p q Door Door refl (h.phases q m);
  ahead = λ q k m o. put-row-agree a.ahead b.ahead p q k (λ r. is_ready (a.phase r)) (λ r. is_ready (b.phase r)) (ap is_ready (h.phases k o)) (h.ahead q k m o);
}
done-agree n a b (IsReady p) l h = moved n a b p h Ready
done-agree n a b (Enter p) l h = passed n a b p h Inside
done-agree n a b (Crash p) l h = record {
  phases = λ q m. put-agree a.phase b.phase p q (phase_after_crash (a.phase p)) (phase_after_crash (b.phase p)) (ap phase_after_crash (h.phases p l)) (h.phases q m);
  ahead = h.ahead;
}
done-agree n a b (Reenter p) l h = moved n a b p h Inside
done-agree n a b (Leave p) l h = moved n a b p h Out
done-agree n a b (Quit p) l h = passed n a b p h Out

pub Legal-agree : (n : ℕ) (a b : Abstract) (ds : List Outer) → Agree n a b → Legal n a ds → Legal n b ds
Legal-agree n a b [] h legal = tt
Legal-agree n a b (d ∷ ds) h legal =
    let l = ltb-true (lock_doer d) n legal.0.0 in
    ((legal.0.0, subst AllHold (row-agree n a b d l h) legal.0.1), Legal-agree n (abstract_after a d) (abstract_after b d) ds (done-agree n a b d l h) legal.1)

pub after-agree : (n : ℕ) (a b : Abstract) (d : Deed) → doer d < n → Agree n a b → Agree n (lock_after a d) (lock_after b d)
after-agree n a b (deed.Outer d) l h = done-agree n a b d l h
after-agree n a b _ l h = h

pub MailAllows-agree : (n cap : ℕ) (a b : Abstract) (m : Mailbox) (ds : List Deed) → Agree n a b → MailAllows n cap a m ds → MailAllows n cap b m ds
MailAllows-agree n cap a b m [] h allowed = tt
MailAllows-agree n cap a b m (d ∷ ds) h allowed =
    let l = ltb-true (doer d) n allowed.0 in (
      allowed.0,
      subst (λ x. AllHold (mail_row cap (is_inside x) m d)) (h.phases (doer d) l) allowed.1,
      MailAllows-agree n cap (lock_after a d) (lock_after b d) (mail_done m d) ds (after-agree n a b d l h) allowed.2,
    )
