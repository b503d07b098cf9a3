-- The process state after a step of a call.
use Rattle.std.proofs.Common.{◌≡◌, ℕ, zero, suc, ◌+◌, ◌<◌, ◌≤◌, Bool, true, false, ◌||◌, ◌==◌, if◌then◌else◌, Option, Some, None, IsSome, unwrap_or, refl, sym, ap, ◌∙◌, subst, inl, inr, arith}
use Rattle.table_runs.proofs.Common.{cases_Bool, Kind, Look as Looks, Weigh as Weighs, Word, Choosing as ChoosingOf, Number as NumberOf, Data as DataAt, answer, is_blocked, is_glance, Place, Rest}
use Rattle.table_runs.proofs.Common.{Wait, Inside, Leaving, is_before, next, Layout, Reply, Script, Get as Asks, Put as Writes, Done, Answer, Mail}
use Rattle.table_runs.proofs.Common.{Call, Lock, Unlock, Consistent, Append, Close, Purpose, Checking, Ruining, Mending, Working, by_lock, by_reply, by_script, answer_at, blocked_by, is_entry, is_idle}
use Rattle.table_runs.proofs.Common.{is_waiting, ScriptState, Free, Doing, ProcessState, next_process_state, Moves, at_lock, process_after_script, mended_entered, entry_inside, Within, lock_left, IsFair, exit_of, Lasts, AllReplies}
use Rattle.table_runs.proofs.Common.{tail, IsMendingReply, Appends, under_place, IsWord, UnderScript, IsUnder, IsAnswerOf, Leaves}
use Rattle.rmecore.specs.Place.{has}
use Rattle.rmecore.specs.declared.kind.Kind.TheVariants.{Get as Gets, Put as Puts}
use Rattle.redomail.specs.declared.reply.Reply.TheVariants as reply
use Rattle.rmeworld.specs.declared.call.Call.TheVariants.{Get, Put}
use Rattle.rmeworld.proofs.CallSteps.{guard_process_state}
use Rattle.rmeworld.proofs.WorldTallies.{at_lock_some}
use Rattle.table_runs.proofs.Begun.{replies_tail}
use Rattle.table_runs.proofs.Lasting.{Burns, burns}
use Rattle.table_runs.proofs.Under.{LockTo, lock_to}

-- a step with this answer, blocked or not: the call has ended, or it is under way with one step fewer, unless it was blocked
abbrev pub ProcessStateTo : Call → ℕ → ℕ → Option Answer → Bool → ProcessState → Type 0
ProcessStateTo call n k (Some a) blocked t = IsAnswerOf call a × Leaves call a t
ProcessStateTo call n k None blocked t = (is_idle t ≡ false) × IsUnder call t × Lasts n (if blocked then suc k else k) t

not_itself : (s : Place) → is_entry s s ≡ false
not_itself Rest = refl
not_itself _ = refl

module _ (l : Layout) (p k : ℕ) where
  abbrev lock_process_state : Place → Bool → Bool → Place → ScriptState → ProcessState
  lock_process_state s b c t script_state = record { lock = t; mended = mended_entered b s t; barred = c; script_state = script_state }

  -- the lock's part
  to_place : (call : Call) (s : Place) (b c : Bool) (a : Option Answer) (blocked : Bool) (t : Place) (f : ScriptState) → LockTo call c s a t → Burns l.procs blocked s t → IsFair s → lock_left l.procs s ≤ suc k
      → ProcessStateTo call l.procs k a blocked (lock_process_state s b c t (if is_entry s t then Doing Checking (Asks 0 (λ x. Done (reply.Ruined (x == 1)))) else Free))
  to_place call s b c (Some a) blocked t f to burnt fair few = (to.0, to.1 (lock_process_state s b c t (if is_entry s t then Doing Checking (Asks 0 (λ x. Done (reply.Ruined (x == 1)))) else Free)) refl)
  to_place call s b c None true t f (inl h) burnt fair few = absurd (let bad : is_entry s s ≡ true = ap (is_entry s) (sym burnt) ∙ h.0 in let no = not_itself s in cc)
  to_place call s b c None false t f (inl h) burnt fair few =
      let less : lock_left l.procs Inside < lock_left l.procs s = subst (λ (u : Place). lock_left l.procs u < lock_left l.procs s) (entry_inside s t h.0) burnt.1 in
      rw h.0 (refl, subst (λ (d : Call). UnderScript d c Checking (Asks 0 (λ x. Done (reply.Ruined (x == 1))))) (sym h.1) tt, (1, (λ x. tt), omega arith, tt))
  to_place call s b c None true t f (inr h) burnt fair few =
      let here : IsFair t × (lock_left l.procs t ≤ suc k) = subst (λ (u : Place). IsFair u × (lock_left l.procs u ≤ suc k)) (sym burnt) (fair, few) in
      rw h.0 (h.1, h.2, here)
  to_place call s b c None false t f (inr h) burnt fair few = rw h.0 (h.1, h.2, (burnt.0, (let less = burnt.1 in omega arith)))

  lock_step : (call : Call) (s : Place) (b c : Bool) (a : Option Answer) (blocked : Bool) (o : Option Place) → IsSome (at_lock l p s b c o) → LockTo call c s a (unwrap_or o s) → Burns l.procs blocked s (unwrap_or o s) → IsFair s → lock_left l.procs s ≤ suc k
      → ProcessStateTo call l.procs k a blocked (unwrap_or (at_lock l p s b c o) (record { lock = s; mended = b; barred = c; script_state = Free }))
  lock_step call s b c a blocked None some to burnt fair few = absurd (cc)
  lock_step call s b c a blocked (Some t) some to burnt fair few = to_place call s b c a blocked t Free to burnt fair few

  -- the end of a script
  check_ends : (b c : Bool) (r : Reply) (m : ℕ) → m + 2 ≤ k → ProcessStateTo Lock l.procs k (by_reply Checking b r) false (process_after_script b c Checking (Done r))
  check_ends b c (reply.Ruined true) m few = (refl, refl, (tt, omega arith))
  check_ends true c _ m few = (tt, ((refl, refl), refl))
  check_ends false c _ m few = (tt, ((refl, refl), refl))

  mend_ends : (b c : Bool) (r : Reply) → AllReplies IsMendingReply (Done r) → ProcessStateTo Consistent l.procs k (by_reply Mending b r) false (process_after_script b c Mending (Done r))
  mend_ends b c (reply.Mended x) h = (tt, ((refl, refl), refl))
  mend_ends b c (reply.Ruined x) h = (tt, (refl, refl))
  mend_ends b c _ h = absurd h

  word_ends : (i : ℕ) (r : Reply) → AllReplies IsWord (Done r) → IsAnswerOf (Get i) (Mail r)
  word_ends i (reply.Word x) h = tt
  word_ends i _ h = absurd h

  -- what is left of a script after a step
  goes : (call : Call) (b c : Bool) (purpose : Purpose) (left : Script Reply) (m : ℕ) → UnderScript call c purpose left → Within m left → m + exit_of purpose ≤ k → ProcessStateTo call l.procs k (by_script purpose b left) false (process_after_script b c purpose left)
  goes call b c purpose (Asks i rest) m u w few = (refl, u, (m, w, few, tt))
  goes call b c purpose (Writes i v rest) m u w few = (refl, u, (m, w, few, tt))
  goes Lock b c Checking (Done r) m u w few = check_ends b c r m few
  goes Unlock b c Ruining (Done r) m u w few = (refl, subst (λ (d : Bool). under_place Unlock d Leaving ≡ true) (sym u) refl, (tt, omega arith))
  goes Consistent b c Mending (Done r) m u w few = mend_ends b c r u
  goes (Append seq value) b c (Working task) (Done r) m u w few = (u, (refl, refl))
  goes Close b c (Working task) (Done r) m u w few = (tt, (refl, refl))
  goes (Get i) b c (Working task) (Done r) m u w few = (word_ends i r u, tt)
  goes (Put i v) b c (Working task) (Done r) m u w few = (tt, tt)
  goes _ b c _ (Done r) m u w few = absurd u

  -- what is left of a script after a step is the call's too
  under_tail : (call : Call) (c : Bool) (purpose : Purpose) (left : Script Reply) (v : ℕ) → UnderScript call c purpose left → UnderScript call c purpose (tail left v)
  under_tail Lock c Checking left v u = tt
  under_tail Unlock c Ruining left v u = u
  under_tail Consistent c Mending left v u = replies_tail IsMendingReply left v u
  under_tail (Append seq value) c (Working task) left v u = replies_tail (Appends seq) left v u
  under_tail Close c (Working task) left v u = tt
  under_tail (Get i) c (Working task) left v u = replies_tail IsWord left v u
  under_tail (Put i x) c (Working task) left v u = tt
  under_tail _ c _ left v u = absurd u

  script_step : (call : Call) (s : Place) (b c : Bool) (limit : ℕ) (purpose : Purpose) (left : Script Reply) (kind : Kind) (word : Word) (v : ℕ) → IsSome (next_process_state l limit (record { lock = s; mended = b; barred = c; script_state = Doing purpose left }) (Moves p kind word v))
      → UnderScript call c purpose left → (m : ℕ) → Within m left → m + exit_of purpose ≤ suc k
      → ProcessStateTo call l.procs k (answer_at (record { lock = s; mended = b; barred = c; script_state = Doing purpose left }) kind v) false (unwrap_or (next_process_state l limit (record { lock = s; mended = b; barred = c; script_state = Doing purpose left }) (Moves p kind word v)) (record { lock = s; mended = b; barred = c; script_state = Doing purpose left }))
  script_step call s b c limit purpose (Asks j rest) Gets (DataAt i) v some u (suc m) w few =
      guard_process_state _ (process_after_script b c purpose (rest v)) _ (ProcessStateTo call l.procs k (by_script purpose b (rest v)) false) some (λ is. goes call b c purpose (rest v) m (under_tail call c purpose (Asks j rest) v u) (w v) (omega arith))
  script_step call s b c limit purpose (Writes j x rest) Puts (DataAt i) v some u (suc m) w few =
      guard_process_state _ (process_after_script b c purpose rest) _ (ProcessStateTo call l.procs k (by_script purpose b rest) false) some (λ is. goes call b c purpose rest m (under_tail call c purpose (Writes j x rest) v u) w (omega arith))
  script_step call s b c limit purpose (Asks j rest) kind word v some u zero w few = absurd w
  script_step call s b c limit purpose (Writes j x rest) kind word v some u zero w few = absurd w
  script_step call s b c limit purpose left kind word v some u m w few = absurd (cc)

  pub process_state_step : (call : Call) (limit : ℕ) (s : Place) (b c : Bool) (e : ScriptState) (kind : Kind) (word : Word) (v : ℕ) → IsSome (next_process_state l limit (record { lock = s; mended = b; barred = c; script_state = e }) (Moves p kind word v)) → is_glance kind ≡ false
      → IsUnder call (record { lock = s; mended = b; barred = c; script_state = e }) → Lasts l.procs (suc k) (record { lock = s; mended = b; barred = c; script_state = e })
      → ProcessStateTo call l.procs k (answer_at (record { lock = s; mended = b; barred = c; script_state = e }) kind v) (blocked_by p s e kind v) (unwrap_or (next_process_state l limit (record { lock = s; mended = b; barred = c; script_state = e }) (Moves p kind word v)) (record { lock = s; mended = b; barred = c; script_state = e }))
  process_state_step call limit s b c Free kind word v some moves u lasts =
      let place : IsSome (next l.procs limit p s kind word v) = at_lock_some l p s b c (next l.procs limit p s kind word v) some in
      lock_step call s b c (by_lock c (answer s kind v)) (is_blocked p s kind v) (next l.procs limit p s kind word v) some (lock_to l.procs limit p call c s kind word v u place moves) (burns l.procs p limit s kind word v place moves lasts.0) lasts.0 lasts.1
  process_state_step call limit s b c (Doing purpose left) kind word v some moves u lasts = script_step call s b c limit purpose left kind word v some u lasts.0 lasts.1 lasts.2

  -- a blocked reading leaves the process in the line
  blocked_stays : (limit : ℕ) (s : Place) (kind : Kind) (word : Word) (v : ℕ) → is_blocked p s kind v ≡ true → is_waiting (unwrap_or (next l.procs limit p s kind word v) s) ≡ true
  blocked_stays limit (Wait n unpassed None) Looks (ChoosingOf j) v h = elim (cases_Bool (has unpassed j)) [ inl there ↦ rw there (elim (cases_Bool (v == 0)) [ inl z ↦ rw z refl | inr z ↦ rw z refl ]) | inr not ↦ rw not refl ]
  blocked_stays limit (Wait n unpassed (Some i)) Weighs (NumberOf j) v h =
      elim (cases_Bool (j == i)) [ inl same ↦ rw same (elim (cases_Bool ((v == 0) || is_before n p v j)) [ inl z ↦ rw z refl | inr z ↦ rw z refl ]) | inr not ↦ rw not refl ]
  blocked_stays limit (Wait n unpassed None) Looks word v h = refl
  blocked_stays limit (Wait n unpassed (Some i)) Weighs word v h = refl
  blocked_stays limit s kind word v h = absurd (cc)

  waits_at : (s : Place) (b c : Bool) (o : Option Place) → is_waiting (unwrap_or o s) ≡ true → is_waiting (unwrap_or (at_lock l p s b c o) (record { lock = s; mended = b; barred = c; script_state = Free })).lock ≡ true
  waits_at s b c None h = h
  waits_at s b c (Some t) h = h

  pub blocked_waits : (limit : ℕ) (s : Place) (b c : Bool) (e : ScriptState) (kind : Kind) (word : Word) (v : ℕ) → blocked_by p s e kind v ≡ true
      → is_waiting (unwrap_or (next_process_state l limit (record { lock = s; mended = b; barred = c; script_state = e }) (Moves p kind word v)) (record { lock = s; mended = b; barred = c; script_state = e })).lock ≡ true
  blocked_waits limit s b c Free kind word v h = waits_at s b c (next l.procs limit p s kind word v) (blocked_stays limit s kind word v h)
  blocked_waits limit s b c (Doing purpose left) kind word v h = absurd (cc)
