-- A call that has been started is under way, and has few steps left.
use Rattle.std.proofs.Common.{◌≡◌, ℕ, zero, suc, ◌+◌, ◌*◌, ◌≤◌, Bool, true, false, ◌&&◌, ◌==◌, nat_lt, nat_le, if◌then◌else◌, List, [], ◌∷◌, ◌++◌, length, Option, Some, None, IsSome, IfSome, unwrap_or, refl, sym, ap, ◌∙◌, subst, arith, length-append, eqb-true}
use Rattle.table_runs.proofs.Common.{and_parts, ltb-true, Place, Rest, Dead, Wait, Inside, Layout, Reply, IsLayout, last_at, saturate, place_at, tail, Script, Get as Asks, Put as Writes, Done, puts, gets, in_row}
use Rattle.table_runs.proofs.Common.{append, repair, redo, consistent, apply_steps, store_steps, record_of, Call, Lock, Unlock, Consistent, Recover, Append, Close, Withdraw, Purpose, ScriptState, Free, Doing, ProcessState}
use Rattle.table_runs.proofs.Common.{begun_from, inside_only, Begins, next_process_state, Setup, Within, SeatView, IsSeatView, process_state_now, AllReplies, IsMendingReply, Begun, Appends}
use Rattle.redomail.specs.declared.reply.Reply.TheVariants as reply
use Rattle.redomail.specs.declared.record.Record.{Record}
use Rattle.rmeworld.specs.declared.call.Call.TheVariants.{Get, Put}
use Rattle.std.proofs.lemmas.Bool.{cond_both}
use Rattle.redomail.specs.Tasks.{early_reply, unless_replied}
use Rattle.redomail.proofs.Scripts.{length-in_row}
use Rattle.table_runs.proofs.Running.{process_state_begun}

within_puts : (xs : List (ℕ × ℕ)) (r : Script Reply) (k : ℕ) → Within k r → Within (length xs + k) (puts xs r)
within_puts [] r k h = let e : k ≡ 0 + k = omega arith in subst (λ (m : ℕ). Within m r) e h
within_puts (x ∷ xs) r k h = let e : suc (length xs + k) ≡ suc (length xs) + k = omega arith in subst (λ (m : ℕ). Within m (puts (x ∷ xs) r)) e (within_puts xs r k h)

within_if : (k : ℕ) (b : Bool) (x y : Script Reply) → Within k x → Within k y → Within k (if b then x else y)
within_if k true x y h i = h
within_if k false x y h i = i

within_gets : (i n : ℕ) (read : List ℕ) (next : List ℕ → Script Reply) (k : ℕ) → ((ys : List ℕ) → length ys ≡ length read + n → Within k (next ys)) → Within (n + k) (gets i n read next)
within_gets i zero read next k h = let e : k ≡ 0 + k = omega arith in subst (λ (m : ℕ). Within m (next read)) e (h read (omega arith))
within_gets i (suc n) read next k h =
    let e : suc (n + k) ≡ suc n + k = omega arith in
    subst (λ (m : ℕ). Within m (gets i (suc n) read next)) e (λ x. within_gets (i + 1) n (read ++ x ∷ []) next k (λ ys e. h ys (let l = length-append read (x ∷ []) in omega arith)))

apply_length : (l : Layout) (p : ℕ) (r : Record) → length (apply_steps l p r) ≡ length r.value + 5
apply_length l p r =
    let row = length-in_row (place_at l r.at) (p ∷ r.seq ∷ r.value) in
    let all = length-append (in_row (place_at l r.at) (p ∷ r.seq ∷ r.value)) ((last_at l p, r.seq) ∷ (2, saturate (r.at + 1)) ∷ (3, 0) ∷ []) in omega arith

store_length : (l : Layout) (p : ℕ) (r : Record) → length (store_steps l p r) ≡ 2 * length r.value + 8
store_length l p r =
    let row = length-in_row 4 (r.at ∷ r.seq ∷ r.value) in
    let rest = apply_length l p r in
    let all = length-append (in_row 4 (r.at ∷ r.seq ∷ r.value)) ((3, 1) ∷ apply_steps l p r) in omega arith

within_more : (k m : ℕ) (r : Script Reply) → k ≤ m → Within k r → Within m r
within_more k m (Done reply) h w = tt
within_more zero m (Asks i rest) h w = absurd w
within_more zero m (Writes i v rest) h w = absurd w
within_more (suc k) zero (Asks i rest) h w = absurd (omega arith)
within_more (suc k) zero (Writes i v rest) h w = absurd (omega arith)
within_more (suc k) (suc m) (Asks i rest) h w = λ x. within_more k m (rest x) (omega arith) (w x)
within_more (suc k) (suc m) (Writes i v rest) h w = within_more k m rest (omega arith) w

within_stored : (l : Layout) (p : ℕ) (r : Record) → length r.value ≤ 8 → Within 40 (puts (store_steps l p r) (Done reply.Stored))
within_stored l p r few = within_more (length (store_steps l p r) + 0) 40 (puts (store_steps l p r) (Done reply.Stored)) (let s = store_length l p r in omega arith) (within_puts (store_steps l p r) (Done reply.Stored) 0 tt)

within_append : (l : Layout) (p seq : ℕ) (value : List ℕ) → length value ≤ 8 → Within 43 (append l p seq value)
within_append l p seq value few = λ closed count last. by count (early_reply l.cap seq closed count last)
  where
    by : (count : ℕ) (o : Option Reply) → Within 40 (unless_replied o (puts (store_steps l p (record_of count seq value)) (Done reply.Stored)))
    by count None = within_stored l p (record_of count seq value) few
    by count (Some answer) = tt

within_redo : (l : Layout) (p at seq : ℕ) (value : List ℕ) → length value ≤ 8 → Within 20 (redo l p at seq value)
within_redo l p at seq value few = within_more (length (apply_steps l p (record_of at seq value)) + 0) 20 (redo l p at seq value) (let s = apply_length l p (record_of at seq value) in omega arith) (within_puts (apply_steps l p (record_of at seq value)) (Done (reply.Mended true)) 0 tt)

-- P holds of each reply of a script
module _ (P : Reply → Type 0) where
  pub replies_puts : (xs : List (ℕ × ℕ)) (r : Script Reply) → AllReplies P r → AllReplies P (puts xs r)
  replies_puts [] r h = h
  replies_puts (x ∷ xs) r h = replies_puts xs r h

  pub replies_gets : (i n : ℕ) (read : List ℕ) (next : List ℕ → Script Reply) → ((ys : List ℕ) → AllReplies P (next ys)) → AllReplies P (gets i n read next)
  replies_gets i zero read next h = h read
  replies_gets i (suc n) read next h = λ x. replies_gets (i + 1) n (read ++ x ∷ []) next h

  replies_if : (b : Bool) (x y : Script Reply) → (b ≡ true → AllReplies P x) → (b ≡ false → AllReplies P y) → AllReplies P (if b then x else y)
  replies_if true x y h i = h refl
  replies_if false x y h i = i refl

  pub replies_repair : ((repaired : Bool) → P (reply.Mended repaired)) → (l : Layout) (p : ℕ) → AllReplies P (repair l p)
  replies_repair h l p = λ armed.
      replies_if (armed == 0) _ _ (λ e. h false) (λ e at seq. replies_gets 6 l.width [] (redo l p at seq) (λ ys. replies_puts (apply_steps l p (record_of at seq ys)) (Done (reply.Mended true)) (h true)))

  pub replies_tail : (left : Script Reply) (v : ℕ) → AllReplies P left → AllReplies P (tail left v)
  replies_tail (Done r) v h = h
  replies_tail (Asks i rest) v h = h v
  replies_tail (Writes i x rest) v h = h

-- an early reply is one of an append with this number
pub early_kind : (cap seq closed count last : ℕ) → IfSome (early_reply cap seq closed count last) (Appends seq)
early_kind cap seq closed count last =
    let P : Option Reply → Type 0 = λ o. IfSome o (Appends seq) in
    cond_both (seq == 0) _ _ P (λ y one. let none = eqb-true seq 0 y in omega arith) (λ _.
    cond_both (nat_le seq last) _ _ P (λ _. tt) (λ _.
    cond_both (nat_lt (last + 1) seq) _ _ P (λ y one. let late = ltb-true (last + 1) seq y in omega arith) (λ _.
    cond_both (closed == 1) _ _ P (λ _. tt) (λ _.
    cond_both (count == cap) _ _ P (λ _. tt) (λ _. tt)))))

-- the replies of an append
appends : (l : Layout) (p seq : ℕ) (value : List ℕ) → AllReplies (Appends seq) (append l p seq value)
appends l p seq value = λ closed count last. by count (early_reply l.cap seq closed count last) (early_kind l.cap seq closed count last)
  where
    by : (count : ℕ) (o : Option Reply) → IfSome o (Appends seq) → AllReplies (Appends seq) (unless_replied o (puts (store_steps l p (record_of count seq value)) (Done reply.Stored)))
    by count None h = replies_puts (Appends seq) (store_steps l p (record_of count seq value)) (Done reply.Stored) tt
    by count (Some answer) h = h

within_repair : (l : Layout) (p : ℕ) → l.width ≤ 8 → Within 40 (repair l p)
within_repair l p narrow = λ armed.
    within_if 39 (armed == 0) _ _ tt (λ at seq.
    within_more (l.width + 20) 37 (gets 6 l.width [] (redo l p at seq)) (omega arith) (within_gets 6 l.width [] (redo l p at seq) 20 (λ ys e. within_redo l p at seq ys (omega arith))))

within_consistent : (l : Layout) (p : ℕ) → l.width ≤ 8 → Within 41 (consistent l p)
within_consistent l p narrow = λ ruined. within_if 40 (ruined == 1) _ _ tt (within_repair l p narrow)

pub mends_consistent : (l : Layout) (p : ℕ) → AllReplies IsMendingReply (consistent l p)
mends_consistent l p = λ ruined. replies_if IsMendingReply (ruined == 1) _ _ (λ e. tt) (λ e. replies_repair IsMendingReply (λ repaired. tt) l p)

-- a start from inside
pub guard_inside : (P : ProcessState → Type 0) (s : Place) (b fits : Bool) (purpose : Purpose) (left : Script Reply) (d : ProcessState) → (fits ≡ true → P (record { lock = Inside; mended = b; barred = false; script_state = Doing purpose left })) → IsSome (inside_only s b fits purpose left) → P (unwrap_or (inside_only s b fits purpose left) d)
guard_inside P Inside b true purpose left d h some = h refl
guard_inside P Inside b false purpose left d h some = absurd (cc)
guard_inside P _ b fits purpose left d h some = absurd (cc)

module _ (l : Layout) (p : ℕ) (fits : IsLayout l) where
  lock_few : 3 * l.procs + 11 ≤ 256
  lock_few = let f = fits.few in omega arith

  pub begins : (call : Call) (s : Place) (b : Bool) (e : ScriptState) (d : ProcessState) → IsSome (begun_from l p s b e call) → Begun call l.procs (unwrap_or (begun_from l p s b e call) d)
  begins Lock Rest b Free d some = (refl, refl, (tt, lock_few))
  begins Lock Dead b Free d some = (refl, refl, (tt, lock_few))
  begins Recover Rest b Free d some = (refl, refl, (tt, lock_few))
  begins Recover Dead b Free d some = (refl, refl, (tt, lock_few))
  begins Withdraw (Wait k unpassed looked) b Free d some = (refl, refl, (tt, omega arith))
  begins Unlock Inside true Free d some = (refl, refl, (tt, omega arith))
  begins Unlock Inside false Free d some = (refl, refl, (1, tt, omega arith, tt))
  begins Consistent Inside false Free d some = (mends_consistent l p, refl, (41, within_consistent l p fits.most, omega arith, tt))
  begins (Append seq value) s b Free d some =
      guard_inside (Begun (Append seq value) l.procs) s b (b && (length value == l.width)) _ (append l p seq value) d (λ fit. let wide : length value ≡ l.width = eqb-true (length value) l.width (and_parts b (length value == l.width) fit).1 in
      (appends l p seq value, refl, (43, within_append l p seq value (let m = fits.most in omega arith), omega arith, tt))) some
  begins Close s b Free d some = guard_inside (Begun Close l.procs) s b b _ _ d (λ fit. (tt, refl, (2, (λ closed. within_if 1 (closed == 1) _ _ tt tt), omega arith, tt))) some
  begins (Get i) s b Free d some = guard_inside (Begun (Get i) l.procs) s b (nat_lt i 4) _ _ d (λ fit. ((λ x. tt), refl, (1, (λ x. tt), omega arith, tt))) some
  begins (Put i v) s b Free d some = guard_inside (Begun (Put i v) l.procs) s b (nat_lt i 4) _ _ d (λ fit. (tt, refl, (1, tt, omega arith, tt))) some
  begins _ _ true Free d some = absurd (cc)
  begins _ _ false Free d some = absurd (cc)
  begins _ _ true (Doing purpose left) d some = absurd (cc)
  begins _ _ false (Doing purpose left) d some = absurd (cc)

pub begun_now : (x y : SeatView) (call : Call) → x.start ≡ None → y ≡ record x { start = Some call } → IsSeatView y → IsSome (next_process_state x.setup.layout x.setup.limit (process_state_now x) (Begins x.by call)) → Begun call x.setup.layout.procs (process_state_now y)
begun_now x y call none e seat_view some =
    let q = process_state_now x in
    let fits : IsLayout x.setup.layout = subst (λ (s : Setup). IsLayout s.layout) (ap (λ (p : SeatView). p.setup) e) seat_view.size.layout in
    subst (Begun call x.setup.layout.procs) (sym (ap process_state_now e ∙ process_state_begun x call none)) (begins x.setup.layout x.by fits call q.lock q.mended q.script_state q some)
