-- A worker's appends start their calls in order, and a worker that is answered NotRecoverable has read the ruin.
use Rattle.std.proofs.Common.{◌≡◌, ◌⊎◌, ℕ, Bool, true, false, List, [], ◌∷◌, ◌++◌, Option, Some, None, Result, Ok, Err, IfOk, IfErr, All, refl, sym, ap, ◌∙◌, subst, inl, inr}
use Rattle.table_runs.proofs.Common.{All-head, All-tail, Reply, Answer, Call, Lock, Unlock, Consistent, Append, is_idle, TakenStep, Entry as Entering, LockFault, and_call, starts, FirstCrash, free_to_start}
use Rattle.table_runs.proofs.Common.{IsGlance, process_state_now, Calls, own_of, last_call, last_of, MayStart, AreInWorkerOrder, Seated, began, entries_of, Askings, WholeEnds, AppendFails, append_request, IsWholeOutcome, IsFront, AreCallsOf, calls_inside}
use Rattle.table_runs.specs.declared.entry_kind.Entry.TheVariants as entering
use Rattle.table_runs.proofs.Outside.{ready_same}
use Rattle.table_runs.proofs.Runs.{own-append}

-- calls in a worker's order, without a crash between them
abbrev CallsInOrder : Option Call → List Call → Type 0
CallsInOrder last [] = Unit {0}
CallsInOrder last (c ∷ cs) = MayStart last false (Some c) × CallsInOrder (Some c) cs

order_calls : (last : Option Call) (done more : List Call) → CallsInOrder last (done ++ more) → CallsInOrder last done
order_calls last [] more h = tt
order_calls last (c ∷ cs) more h = (h.0, order_calls (Some c) cs more h.1)

-- entries without a crash that start these calls
started_in_order : (last : Option Call) (es : List TakenStep) → All (λ (f : TakenStep). f.step.crashed ≡ false) es → CallsInOrder last (starts es) → AreInWorkerOrder last es
started_in_order last [] never_crashes h = tt
started_in_order last (e ∷ es) never_crashes h = go e.step.crashed e.step.start refl refl (All-head (λ (f : TakenStep). f.step.crashed ≡ false) e es never_crashes) (λ last2 k. started_in_order last2 es (All-tail (λ (f : TakenStep). f.step.crashed ≡ false) e es never_crashes) k)
  where
    go : (c : Bool) (o : Option Call) → e.step.crashed ≡ c → e.step.start ≡ o → c ≡ false → ((last2 : Option Call) → CallsInOrder last2 (starts es) → AreInWorkerOrder last2 es) → AreInWorkerOrder last (e ∷ es)
    go true o is starts_is k later = absurd (cc)
    go false None is starts_is k later =
        let rest : CallsInOrder last (starts es) = subst (λ (o : Option Call). CallsInOrder last (and_call o (starts es))) starts_is h in
        subst (λ (u : Bool × Option Call). MayStart last u.0 u.1 × AreInWorkerOrder (last_call last u.0 u.1) es) (λ i. (sym is i, sym starts_is i)) (tt, later last rest)
    go false (Some call) is starts_is k later =
        let all : MayStart last false (Some call) × CallsInOrder (Some call) (starts es) = subst (λ (o : Option Call). CallsInOrder last (and_call o (starts es))) starts_is h in
        subst (λ (u : Bool × Option Call). MayStart last u.0 u.1 × AreInWorkerOrder (last_call last u.0 u.1) es) (λ i. (sym is i, sym starts_is i)) (all.0, later (Some call) all.1)

may_any : (last : Option Call) (c : Bool) (call : Call) → MayStart None false (Some call) → MayStart last c (Some call)
may_any last c Lock h = tt
may_any last c Consistent h = tt
may_any last c (Append seq value) h = tt
may_any last c Unlock h = absurd (let k : false ≡ true = h.1 in cc)
may_any last c _ h = absurd h

-- also where the first entry carries a crash
pub mine_in_order : (last : Option Call) (c : Bool) (mine : List TakenStep) → FirstCrash c mine → ((other : Option Call) → CallsInOrder other (starts mine)) → AreInWorkerOrder last mine
mine_in_order last c [] crash any = tt
mine_in_order last c (e ∷ es) crash any = go e.step.start refl
  where
    go : (o : Option Call) → e.step.start ≡ o → AreInWorkerOrder last (e ∷ es)
    go None is =
        let rest : (other : Option Call) → CallsInOrder other (starts es) = λ other. subst (λ (o : Option Call). CallsInOrder other (and_call o (starts es))) is (any other) in
        subst (λ (o : Option Call). MayStart last e.step.crashed o × AreInWorkerOrder (last_call last e.step.crashed o) es) (sym is) (tt, started_in_order (last_call last e.step.crashed None) es crash.1 (rest (last_call last e.step.crashed None)))
    go (Some call) is =
        let all : MayStart None false (Some call) × CallsInOrder (Some call) (starts es) = subst (λ (o : Option Call). CallsInOrder None (and_call o (starts es))) is (any None) in
        subst (λ (o : Option Call). MayStart last e.step.crashed o × AreInWorkerOrder (last_call last e.step.crashed o) es) (sym is) (may_any last e.step.crashed call all.0, started_in_order (Some call) es crash.1 all.1)

order_append : (last : Option Call) (xs ys : List TakenStep) → AreInWorkerOrder last xs → AreInWorkerOrder (last_of last xs) ys → AreInWorkerOrder last (xs ++ ys)
order_append last [] ys h g = g
order_append last (x ∷ xs) ys h g = (h.0, order_append (last_call last x.step.crashed x.step.start) xs ys h.1 g)

pub mine_order : (last : Option Call) (xs ys : List TakenStep) → AreInWorkerOrder last (xs ++ ys) → AreInWorkerOrder (last_of last xs) ys
mine_order last [] ys h = h
mine_order last (x ∷ xs) ys h = mine_order (last_call last x.step.crashed x.step.start) xs ys h.1

glances_order : (last : Option Call) (es : List TakenStep) → All IsGlance es → AreInWorkerOrder last es
glances_order last [] h = tt
glances_order last (e ∷ es) h =
    let it = All-head IsGlance e es h in
    subst (λ (u : Bool × Option Call). MayStart last u.0 u.1 × AreInWorkerOrder (last_call last u.0 u.1) es) (λ i. (sym (ap (λ s. s.crashed) it.1) i, sym (ap (λ s. s.start) it.1) i)) (tt, glances_order last es (All-tail IsGlance e es h))

pub order_more : (p : ℕ) (es glances : List TakenStep) → All IsGlance glances → AreInWorkerOrder None es → AreInWorkerOrder None (es ++ glances)
order_more p es glances are h = order_append None es glances h (glances_order (last_of None es) glances are)

-- the calls of a whole append
module _ (seq : ℕ) (value : List ℕ) (l : Option Call) where
  abbrev task : Call
  task = Append seq value

  inside_order : (entry : Entering) → CallsInOrder l (Lock ∷ calls_inside entry task)
  inside_order entering.Clean = (tt, (tt, ((refl, refl), tt)))
  inside_order entering.OwnerDied = (tt, (tt, (tt, ((refl, refl), tt))))

  ruined_order : CallsInOrder l (Lock ∷ Consistent ∷ Unlock ∷ [])
  ruined_order = (tt, (tt, ((refl, refl), tt)))

  comes_order : (turns : ℕ) (r : Result Reply LockFault) (order : List Call) (answers : List Answer) (blocked : ℕ) → IsWholeOutcome turns task r order answers blocked → CallsInOrder l order
  comes_order turns (Ok reply) order answers blocked h = subst (CallsInOrder l) (sym h.3) (inside_order h.1)
  comes_order turns (Err e) order answers blocked (inl h) = subst (CallsInOrder l) (sym h.1) (tt, tt)
  comes_order turns (Err e) order answers blocked (inr (few, inl h)) = subst (CallsInOrder l) (sym h.1) (tt, tt)
  comes_order turns (Err e) order answers blocked (inr (few, inr (inl h))) = subst (CallsInOrder l) (sym h.1) (tt, tt)
  comes_order turns (Err e) order answers blocked (inr (few, inr (inr h))) = subst (CallsInOrder l) (sym h.1) ruined_order

  front_order : (done order : List Call) → IsFront done order → CallsInOrder l order → CallsInOrder l done
  front_order done order h all = order_calls l done h.0 (subst (CallsInOrder l) h.1 all)

  within_order : (done : List Call) → AreCallsOf task done → CallsInOrder l done
  within_order done (inl h) = front_order done (Lock ∷ calls_inside h.0 task) h.1 (inside_order h.0)
  within_order done (inr h) = front_order done (Lock ∷ Consistent ∷ Unlock ∷ []) h ruined_order

  cut_order : (mine : List TakenStep) → (mine ≡ []) ⊎ AreCallsOf task (starts mine) → CallsInOrder l (starts mine)
  cut_order mine (inl none) = subst (λ (es : List TakenStep). CallsInOrder l (starts es)) (sym none) tt
  cut_order mine (inr h) = within_order (starts mine) h

abbrev pub InOrder : Seated → Type 0
InOrder x = AreInWorkerOrder None (own_of x.seat_view)

pub own_now : (x y : Seated) (mine : List TakenStep) → Calls (began (free_to_start x) Lock).seat_view mine y.seat_view → own_of y.seat_view ≡ own_of x.seat_view ++ mine
own_now x y mine c =
    let z = began (free_to_start x) Lock in
    ap (λ (p : ℕ). entries_of p y.seat_view.seen) c.by ∙ ap (entries_of z.seat_view.by) c.seen ∙ own-append z.seat_view.by z.seat_view.seen c.since ∙ ap (λ (l : List TakenStep). own_of z.seat_view ++ l) c.mine_are ∙ ap (λ (l : List TakenStep). l ++ mine) (ready_same (is_idle (process_state_now x.seat_view)) x).2

orders_calls : (x y : Seated) (c : Bool) (mine : List TakenStep) → Calls (began (free_to_start x) Lock).seat_view mine y.seat_view → FirstCrash c mine → ((other : Option Call) → CallsInOrder other (starts mine)) → InOrder x → InOrder y
orders_calls x y c mine calls crash any old = subst (AreInWorkerOrder None) (sym (own_now x y mine calls)) (order_append None (own_of x.seat_view) mine old (mine_in_order (last_of None (own_of x.seat_view)) c mine crash any))

module _ (x y : Seated) (seq : ℕ) (value : List ℕ) (a b : Askings) (old : InOrder x) where
  orders_whole : (turns : ℕ) (r : Result Reply LockFault) → WholeEnds (began (free_to_start x) Lock) turns (Append seq value) r y a b → InOrder y
  orders_whole turns r h =
      orders_calls x y _ h.4.0 h.4.1.calls h.4.1.crash (λ other. subst (CallsInOrder other) (sym h.4.1.started) (comes_order seq value other turns r h.0 h.1 h.2 h.3)) old

  orders_fails : (turns : ℕ) (e : LockFault) → AppendFails x turns (append_request seq value) y a b e → InOrder y
  orders_fails turns e (inl h) = subst InOrder (sym h.2) old
  orders_fails turns e (inr (wide, inl h)) = subst InOrder (sym h.2) old
  orders_fails turns e (inr (wide, inr (may, inl h))) = orders_calls x y _ h.1.0 h.1.1.calls h.1.1.crash (λ other. cut_order seq value other h.1.0 h.1.1.started) old
  orders_fails turns e (inr (wide, inr (may, inr h))) = orders_whole turns (Err e) h

  -- an append, however it ends
  pub orders_append : (r : Result Reply LockFault) → IfOk r (λ reply. (turns : ℕ) × WholeEnds (began (free_to_start x) Lock) turns (Append seq value) (Ok reply) y a b) → IfErr r (λ e. (turns : ℕ) × AppendFails x turns (append_request seq value) y a b e) → InOrder y
  orders_append (Ok reply) h g = orders_whole h.0 (Ok reply) h.1
  orders_append (Err e) h g = orders_fails g.0 e g.1
