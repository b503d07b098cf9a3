-- No call takes more steps than its bound, and a call under way has taken fewer.
use Rattle.std.proofs.Common.{◌≡◌, ℕ, zero, suc, ◌+◌, ◌*◌, ◌<◌, ◌≤◌, Bool, true, false, [], ◌∷◌, List, Option, Some, None, IsSome, refl, sym, ap, ◌∙◌, arith}
use Rattle.rmeworld.proofs.Common.{CoreCall, In, InAgain, Own, reentry_steps, spent_steps, found_steps, Place, Wait, Rest, Reread, Shutting, Leaving, Withdrawing, Unmarking, is_idle, Layout, Reply}
use Rattle.rmeworld.proofs.Common.{Script, Get as Asks, Put as Writes, Done, Answer, Clean, OwnerDied, NumbersSpent, NotRecoverable, Unlocked, Mail, Call, Lock, Unlock, Consistent, Recover, Append}
use Rattle.rmeworld.proofs.Common.{Close, Withdraw, Purpose, Ruining, Mending, Working, Checking, HasStep, and_more, either, core_steps, task_steps, own_steps, most_steps, Costs, checked_steps}
use Rattle.rmeworld.proofs.Common.{script_steps, PaysCore, Exits, PaysPart, PaysBy, PaysAt, ScriptState, Free, Doing, ProcessState, lock_part, part_call, purpose_call, call_by, call_at}
use Rattle.rmecore.specs.declared.core_call.CoreCall.TheVariants as core
use Rattle.rmecore.specs.declared.found.Found.{Found}
use Rattle.rmecore.specs.declared.found.Found.TheVariants.{Left, Waiting}
use Rattle.rmecore.proofs.Payments.{fewer}
use Rattle.redomail.specs.declared.reply.Reply.TheVariants as reply
use Rattle.redomail.specs.declared.task.Task.TheVariants as task
use Rattle.rmeworld.specs.declared.answer.Answer.TheVariants.{Found as Finds, Withdrawn}
use Rattle.rmeworld.specs.declared.call.Call.TheVariants.{Get, Put}
use Rattle.rmeworld.proofs.Costs.{costs_most}

pub summed : (k : ℕ) (o : Option ℕ) (x : ℕ) → and_more k o ≡ Some x → (y : ℕ) × (o ≡ Some y) × (x ≡ y + k)
summed k None x h = absurd (cc)
summed k (Some y) x h = (y, refl, (let e : y + k ≡ x = cc in sym e))

again_most : (c k i x : ℕ) → reentry_steps c k i ≡ Some x → x ≤ 3
again_most c k i x e = grind arith

spent_most : (n c k i x : ℕ) → spent_steps n c k i ≡ Some x → x ≤ n + 5
spent_most n c k i x e = grind arith

found_most : (found : Found) (c k i x : ℕ) → found_steps found c k i ≡ Some x → x ≤ 4
found_most found c k i x e = grind arith

either_most : (o o' : Option ℕ) (most x : ℕ) → ((y : ℕ) → o ≡ Some y → y ≤ most) → ((y : ℕ) → o' ≡ Some y → y ≤ most) → either o o' ≡ Some x → x ≤ most
either_most None o' most x h h' e = h' x e
either_most (Some y) o' most x h h' e = h x e

busy : (s : Place) → IsSome (lock_part s) → is_idle s ≡ false
busy Rest some = cc
busy _ some = cc

module _ (l : Layout) (w : Own) (some : 0 < l.procs) where
  entry_most : (x : ℕ) → core_steps l w In ≡ Some x → x ≤ 3 * l.procs + 5
  entry_most zero e = omega arith
  entry_most (suc x) e =
      let same : suc x ≡ x + 1 = omega arith in
      let less = fewer l.procs w.choosing w.number w.inside (Wait 0 [] None) x some refl (tt, e ∙ ap Some same) in
      omega arith

  checked_most : (m : Bool) (x : ℕ) → checked_steps l w m ≡ Some x → x ≤ 3 * l.procs + 6
  checked_most true x e =
      let y = summed 1 (core_steps l w In) x e in
      let most = entry_most y.0 y.1 in
      let one = y.2 in
      omega arith
  checked_most false x e =
      let y = summed 1 (core_steps l w InAgain) x e in
      let most = again_most w.choosing w.number w.inside y.0 y.1 in
      let one = y.2 in
      omega arith

  recover_fewer : (s : Place) (x : ℕ) → lock_part s ≡ Some core.Recover → PaysCore l w s x → x < 4
  recover_fewer (Reread core.Lock seen) x is h = absurd (cc)
  recover_fewer (Reread _ []) x is h = omega arith
  recover_fewer (Reread _ (a ∷ [])) x is h = let f = h.0 in omega arith
  recover_fewer (Reread _ (a ∷ b ∷ [])) x is h = let f = h.0 in omega arith
  recover_fewer (Reread _ (a ∷ b ∷ d ∷ seen)) x is h = absurd h
  recover_fewer (Shutting core.Lock k) x is h = absurd (cc)
  recover_fewer (Shutting _ k) x is h = let most = found_most Waiting w.choosing w.number w.inside (x + 1) h in omega arith
  recover_fewer (Unmarking core.Lock) x is h = absurd (cc)
  recover_fewer (Unmarking core.Unlock) x is h = absurd (cc)
  recover_fewer (Unmarking _) x is h = let most = found_most Left w.choosing w.number w.inside (x + 1) h in omega arith
  recover_fewer _ x is h = absurd (cc)

  exit_fewer : (s : Place) (x : ℕ) → lock_part s ≡ Some core.Unlock → PaysCore l w s x → x < 2
  exit_fewer Leaving x is h = let f : 2 ≡ x + 2 = cc in omega arith
  exit_fewer (Unmarking core.Unlock) x is h = let f : 2 ≡ x + 1 = cc in omega arith
  exit_fewer (Reread core.Lock seen) x is h = absurd (cc)
  exit_fewer (Shutting core.Lock k) x is h = absurd (cc)
  exit_fewer _ x is h = absurd (cc)

  withdraw_fewer : (s : Place) (x : ℕ) → lock_part s ≡ Some core.Withdraw → PaysCore l w s x → x < 1
  withdraw_fewer Withdrawing x is h = let f : 1 ≡ x + 1 = cc in omega arith
  withdraw_fewer (Unmarking core.Lock) x is h = absurd (cc)
  withdraw_fewer (Reread core.Lock seen) x is h = absurd (cc)
  withdraw_fewer (Shutting core.Lock k) x is h = absurd (cc)
  withdraw_fewer _ x is h = absurd (cc)

  part_fewer : (part : Option CoreCall) (s : Place) (m c : Bool) (call : Call) (x : ℕ) → lock_part s ≡ part → part_call part c ≡ Some call → PaysPart l w part s m c x → x < most_steps l call
  part_fewer None s m c call x is e h = absurd (cc)
  part_fewer (Some core.Lock) s m c Lock x is e h =
      let there : IsSome (lock_part s) = rw is refl in
      let less = fewer l.procs w.choosing w.number w.inside s x some (busy s there) h.1 in
      omega arith
  part_fewer (Some core.Recover) s m c Recover x is e h = recover_fewer s x is h.1
  part_fewer (Some core.Withdraw) s m c Withdraw x is e h = withdraw_fewer s x is h.1
  part_fewer (Some core.Unlock) s true false Unlock x is e h = let less = exit_fewer s h.0 is h.1 in let sum = h.2 in omega arith
  part_fewer (Some core.Unlock) s false false Unlock x is e h = let less = exit_fewer s h.0 is h.1 in let sum = h.2 in omega arith
  part_fewer (Some core.Unlock) s m true Lock x is e h = of (checked_steps l w m) refl h
    where
      of : (o : Option ℕ) → checked_steps l w m ≡ o → Exits l w o s x → x < most_steps l Lock
      of None none h = absurd h
      of (Some k) same h =
          let most = checked_most m k same in
          let less = exit_fewer s h.0 is h.1 in
          let sum = h.2 in
          omega arith
  part_fewer (Some core.Unlock) s m true _ x is e h = absurd (cc)
  part_fewer (Some core.Unlock) s m false _ x is e h = absurd (cc)
  part_fewer (Some _) s m c _ x is e h = absurd (cc)

  append_most : (seq : ℕ) (value : List ℕ) (a : Reply) (x : ℕ) → task_steps l (task.Append seq value) a ≡ Some x → x ≤ 11 + 2 * l.width
  append_most seq value a x e = grind arith

  close_most : (a : Reply) (x : ℕ) → task_steps l task.Close a ≡ Some x → x ≤ 2
  close_most a x e = grind arith

  script_most : (purpose : Purpose) (m : Bool) (a : Reply) (call : Call) (x : ℕ) → purpose_call purpose ≡ Some call → script_steps l w m purpose a ≡ Some x → x ≤ most_steps l call
  script_most Checking m a Lock x is e = let most = checked_most m x e in omega arith
  script_most (Working (task.Append seq value)) m a (Append seq' value') x is e = append_most seq value a x e
  script_most (Working task.Close) m a Close x is e = close_most a x e
  script_most Ruining true a Unlock x is e = grind arith
  script_most Mending m (reply.Mended true) Consistent x is e = grind arith
  script_most Mending m (reply.Ruined true) Consistent x is e = grind arith
  script_most (Working (task.BoardGet i)) m (reply.Word v) (Get j) x is e = grind arith
  script_most (Working (task.BoardPut i v)) m reply.Done (Put j u) x is e = grind arith
  script_most _ m a _ x is e = grind arith

  doing_fewer : (purpose : Purpose) (left : Script Reply) (m : Bool) (call : Call) (x : ℕ) → purpose_call purpose ≡ Some call → HasStep left → Costs (script_steps l w m purpose) left x → x < most_steps l call
  doing_fewer purpose (Asks i rest) m call x is has h =
      let most = costs_most (script_steps l w m purpose) (most_steps l call) (λ a y e. script_most purpose m a call y is e) (rest 0) (x + 1) (h 0) in
      omega arith
  doing_fewer purpose (Writes i v rest) m call x is has h =
      let most = costs_most (script_steps l w m purpose) (most_steps l call) (λ a y e. script_most purpose m a call y is e) rest (x + 1) h in
      omega arith
  doing_fewer purpose (Done a) m call x is has h = absurd has

  fewer_by : (s : Place) (m c : Bool) (e : ScriptState) (call : Call) (x : ℕ) → call_by s c e ≡ Some call → PaysBy l w s m c e x → x < most_steps l call
  fewer_by s m c Free call x is h = part_fewer (lock_part s) s m c call x refl is h
  fewer_by s m c (Doing purpose left) call x is h = doing_fewer purpose left m call x is h.1 h.2

  -- a call under way has taken fewer
  pub fewer_at : (process_state : ProcessState) (call : Call) (x : ℕ) → call_at process_state ≡ Some call → PaysAt l w process_state x → x < most_steps l call
  fewer_at process_state call x is h = fewer_by process_state.lock process_state.mended process_state.barred process_state.script_state call x is h

  -- no number of the table is above the bound
  pub table_most : (m : Bool) (call : Call) (a : Answer) (x : ℕ) → own_steps l w m call a ≡ Some x → x ≤ most_steps l call
  table_most m Lock Clean x e = let most = checked_most true x e in omega arith
  table_most m Lock OwnerDied x e = let most = checked_most false x e in omega arith
  table_most m Lock NotRecoverable x e =
      let y = summed 3 (either (core_steps l w In) (core_steps l w InAgain)) x e in
      let most = either_most (core_steps l w In) (core_steps l w InAgain) (3 * l.procs + 5) y.0 entry_most (λ z f. let small = again_most w.choosing w.number w.inside z f in omega arith) y.1 in
      let sum = y.2 in
      omega arith
  table_most m Lock NumbersSpent x e = let most = spent_most l.procs w.choosing w.number w.inside x e in omega arith
  table_most m Recover (Finds found) x e = found_most found w.choosing w.number w.inside x e
  table_most true Unlock Unlocked x e = let f : 2 ≡ x = cc in omega arith
  table_most false Unlock Unlocked x e = let f : 3 ≡ x = cc in omega arith
  table_most m Withdraw Withdrawn x e = let f : 1 ≡ x = cc in omega arith
  table_most m Consistent NotRecoverable x e = script_most Mending m (reply.Ruined true) Consistent x refl e
  table_most m Consistent (Mail (reply.Mended b)) x e = script_most Mending m (reply.Mended b) Consistent x refl e
  table_most m (Append seq value) (Mail a) x e = append_most seq value a x e
  table_most m Close (Mail a) x e = close_most a x e
  table_most m (Get i) (Mail a) x e = script_most (Working (task.BoardGet i)) m a (Get i) x refl e
  table_most m (Put i v) (Mail a) x e = script_most (Working (task.BoardPut i v)) m a (Put i v) x refl e
  table_most m _ _ x e = absurd (cc)
