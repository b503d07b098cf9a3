-- Only the script of an unlock before `consistent` puts word 0, so without such an unlock a lock that is not ruined stays so.
use Rattle.std.proofs.Common.{◌≡◌, ◌≢◌, ℕ, zero, suc, ◌+◌, ◌<◌, Bool, true, false, ◌&&◌, ◌==◌, nat_lt, length, List, [], ◌∷◌, ◌++◌, All, Option, Some, None, IsSome, unwrap_or, refl, sym, ◌∙◌, subst, inl, inr, arith, eqb-true}
use Rattle.rmeworld.proofs.Common.{cases_Bool, cases_eq, and_parts, cond_both, All-nil, All-cons, put_same, put_other, not_data, Kind, Gets, Puts, Outer, Word, Data as DataAt, put, Place, next, is_store, Layout, Words, Record, Reply, Mended, Ruined}
use Rattle.rmeworld.proofs.Common.{size, saturate, last_at, place_at, deeds_of_put, Script, Get as Asks, Put as Writes, Done, puts, gets, in_row, script, consistent, apply_steps, store_steps, record_of, append_decision, redo, repair, close}
use Rattle.rmeworld.proofs.Common.{Call, Lock, Unlock, Consistent, Recover, Append, Close, Withdraw, Purpose, Ruining, Mending, Checking, Working, is_entry, ScriptState, Free, Doing, ProcessState, dead_process, WorldEvent, Begins, Falls, Moves, Glances}
use Rattle.rmeworld.proofs.Common.{who, HasStep, process_after_script, script_state_entered, at_lock, inside_only, begun_from, moved_by, next_process_state, GlobalState, Can, put_cell, cells_after, Execution, state_after_event, last_global_state, mail_deeds, outer_deeds, put_deeds}
use Rattle.rmecore.specs.Place.{place_after_start}
use Rattle.rmecore.specs.declared.core_call.CoreCall.TheVariants as core
use Rattle.redomail.specs.Tasks.{early_reply, unless_replied}
use Rattle.redomail.proofs.Repairs.{Outside, Outside-append, Outside-in_row}
use Rattle.redomail.proofs.Words.{place_low}
use Rattle.redomail.specs.declared.reply.Reply.TheVariants as reply
use Rattle.redomail.specs.declared.task.Task.TheVariants as task
use Rattle.rmeworld.specs.HomeState.{IsRuining, IsRecoverable, IsNoRuin}
use Rattle.rmeworld.specs.declared.call.Call.TheVariants.{Get, Put}
use Rattle.rmeworld.proofs.Projection.{at_lock_some, only_some, inside_some, some_of}

-- a script that does not put word 0
abbrev pub KeepsRuined : Script Reply → Type 0
KeepsRuined (Asks i rest) = (x : ℕ) → KeepsRuined (rest x)
KeepsRuined (Writes i v rest) = (i ≢ 0) × KeepsRuined rest
KeepsRuined (Done a) = Unit {0}

puts_keep : (xs : List (ℕ × ℕ)) (e : Script Reply) → Outside xs 0 → KeepsRuined e → KeepsRuined (puts xs e)
puts_keep [] e out k = k
puts_keep (x ∷ xs) e out k = (λ is. out.0 (sym is), puts_keep xs e out.1 k)

gets_keep : (i n : ℕ) (read : List ℕ) (next : List ℕ → Script Reply) → ((xs : List ℕ) → KeepsRuined (next xs)) → KeepsRuined (gets i n read next)
gets_keep i zero read next k = k read
gets_keep i (suc n) read next k = λ x. gets_keep (i + 1) n (read ++ x ∷ []) next k

module _ (l : Layout) (p : ℕ) where
  outside_apply : (r : Record) → Outside (apply_steps l p r) 0
  outside_apply r =
      let low = place_low l r.at in
      Outside-append (in_row (place_at l r.at) (p ∷ r.seq ∷ r.value)) ((last_at l p, r.seq) ∷ (2, saturate (r.at + 1)) ∷ (3, 0) ∷ []) 0
      (Outside-in_row (place_at l r.at) (p ∷ r.seq ∷ r.value) 0 (omega arith) (omega arith))
      ((λ e. omega arith), ((λ e. omega arith), ((λ e. omega arith), tt)))

  outside_store : (r : Record) → Outside (store_steps l p r) 0
  outside_store r =
      Outside-append (in_row 4 (r.at ∷ r.seq ∷ r.value)) ((3, 1) ∷ apply_steps l p r) 0 (Outside-in_row 4 (r.at ∷ r.seq ∷ r.value) 0 (omega arith) (omega arith))
      ((λ e. omega arith), outside_apply r)

  decided_keeps : (seq : ℕ) (value : List ℕ) (closed count last : ℕ) → KeepsRuined (append_decision l p seq value closed count last)
  decided_keeps seq value closed count last = by (early_reply l.cap seq closed count last)
    where
      by : (o : Option Reply) → KeepsRuined (unless_replied o (puts (store_steps l p (record_of count seq value)) (Done reply.Stored)))
      by None = puts_keep (store_steps l p (record_of count seq value)) (Done reply.Stored) (outside_store (record_of count seq value)) tt
      by (Some answer) = tt

  close_keeps : KeepsRuined close
  close_keeps = λ closed. cond_both (closed == 1) _ _ KeepsRuined (λ _. tt) (λ _. ((λ e. omega arith), tt))

  repair_keeps : KeepsRuined (repair l p)
  repair_keeps = λ armed.
      cond_both (armed == 0) _ _ KeepsRuined (λ _. tt) (λ _. λ at. λ seq.
      gets_keep 6 l.width [] (redo l p at seq) (λ value. puts_keep (apply_steps l p (record_of at seq value)) (Done (Mended true)) (outside_apply (record_of at seq value)) tt))

  pub consistent_keeps : KeepsRuined (consistent l p)
  consistent_keeps = λ ruined. cond_both (ruined == 1) _ _ KeepsRuined (λ _. tt) (λ _. repair_keeps)

  board_keeps : (i v : ℕ) → KeepsRuined (script l p (task.BoardPut i v))
  board_keeps i v = ((λ e. omega arith), tt)

-- a ruin check: it reads word 0, and replies whether that is 1
abbrev pub Checks : Script Reply → Type 0
Checks (Asks i rest) = (i ≡ 0) × ((x : ℕ) → rest x ≡ Done (Ruined (x == 1)))
Checks (Writes i v rest) = ⊥
Checks (Done a) = Unit {0}

-- word 0 is put by the script of a ruin alone, and a check is a check
abbrev pub Orderly : ScriptState → Type 0
Orderly Free = Unit {0}
Orderly (Doing Ruining left) = Unit {0}
Orderly (Doing Checking left) = Checks left
Orderly (Doing _ left) = KeepsRuined left

-- a script state whose process does not ruin the lock
abbrev pub Keeps : ScriptState → Type 0
Keeps s = Orderly s × (IsRuining s → ⊥)

pub keeps_free : Keeps Free
keeps_free = (tt, λ h. h)

pub keeps_put : (purpose : Purpose) (i v : ℕ) (rest : Script Reply) → Keeps (Doing purpose (Writes i v rest)) → i ≢ 0
keeps_put Checking i v rest h = absurd h.0
keeps_put Ruining i v rest h = absurd (h.1 tt)
keeps_put Mending i v rest h = h.0.0
keeps_put (Working t) i v rest h = h.0.0

after_get : (purpose : Purpose) (i v : ℕ) (rest : ℕ → Script Reply) → Orderly (Doing purpose (Asks i rest)) → Orderly (Doing purpose (rest v))
after_get Checking i v rest h = subst Checks (sym (h.1 v)) tt
after_get Ruining i v rest h = tt
after_get Mending i v rest h = h v
after_get (Working t) i v rest h = h v

after_put : (purpose : Purpose) (i v : ℕ) (rest : Script Reply) → Orderly (Doing purpose (Writes i v rest)) → Orderly (Doing purpose rest)
after_put Checking i v rest h = absurd h
after_put Ruining i v rest h = tt
after_put Mending i v rest h = h.1
after_put (Working t) i v rest h = h.1

settled_orderly : (b c : Bool) (purpose : Purpose) (left : Script Reply) → Orderly (Doing purpose left) → Orderly (process_after_script b c purpose left).script_state
settled_orderly b c purpose (Asks i rest) h = h
settled_orderly b c purpose (Writes i v rest) h = h
settled_orderly b c purpose (Done a) h = tt

same_purpose : (purpose : Purpose) (left left' : Script Reply) → (IsRuining (Doing purpose left) → ⊥) → IsRuining (Doing purpose left') → ⊥
same_purpose Ruining left left' h i = h tt
same_purpose Checking left left' h i = i
same_purpose Mending left left' h i = i
same_purpose (Working t) left left' h i = i

settled_ruins_not : (b c : Bool) (purpose : Purpose) (left left' : Script Reply) → (IsRuining (Doing purpose left) → ⊥) → IsRuining (process_after_script b c purpose left').script_state → ⊥
settled_ruins_not b c purpose left (Asks i rest) h k = same_purpose purpose left (Asks i rest) h k
settled_ruins_not b c purpose left (Writes i v rest) h k = same_purpose purpose left (Writes i v rest) h k
settled_ruins_not b c purpose left (Done a) h k = k

pub keeps_after_get : (b c : Bool) (purpose : Purpose) (i v : ℕ) (rest : ℕ → Script Reply) → Keeps (Doing purpose (Asks i rest)) → Keeps (process_after_script b c purpose (rest v)).script_state
keeps_after_get b c purpose i v rest h = (settled_orderly b c purpose (rest v) (after_get purpose i v rest h.0), settled_ruins_not b c purpose (Asks i rest) (rest v) h.1)

pub keeps_after_put : (b c : Bool) (purpose : Purpose) (i v : ℕ) (rest : Script Reply) → Keeps (Doing purpose (Writes i v rest)) → Keeps (process_after_script b c purpose rest).script_state
keeps_after_put b c purpose i v rest h = (settled_orderly b c purpose rest (after_put purpose i v rest h.0), settled_ruins_not b c purpose (Writes i v rest) rest h.1)

pub entered_keeps : (l : Layout) (p : ℕ) (s t : Place) → Keeps (script_state_entered l p s t)
entered_keeps l p s t = elim (cases_Bool (is_entry s t)) [ inl e ↦ rw e ((refl, λ x. refl), λ h. h) | inr f ↦ rw f keeps_free ]

-- each process's script is orderly after every execution

module _ (l : Layout) (limit p : ℕ) where
  by_lock : (s : Place) (b c : Bool) (o : Option Place) (s' : ProcessState) → at_lock l p s b c o ≡ Some s' → Orderly s'.script_state
  by_lock s b c o s' e = let r = at_lock_some l p s b c o s' e in subst (λ (x : ProcessState). Orderly x.script_state) r.process_state (entered_keeps l p s r.place).0

  by_script : (lock : Place) (b fits : Bool) (purpose : Purpose) (left : Script Reply) (s' : ProcessState) → inside_only lock b fits purpose left ≡ Some s' → Orderly (Doing purpose left) → Orderly s'.script_state
  by_script lock b fits purpose left s' e h = let r = inside_some lock b fits purpose left s' e in subst (λ (x : ProcessState). Orderly x.script_state) r.2 h

  begins : (lock : Place) (b : Bool) (script_state : ScriptState) (call : Call) (s' : ProcessState) → begun_from l p lock b script_state call ≡ Some s' → Orderly s'.script_state
  begins lock b Free Lock s' e = by_lock lock b false (place_after_start lock core.Lock) s' e
  begins lock b Free Recover s' e = by_lock lock b false (place_after_start lock core.Recover) s' e
  begins lock b Free Withdraw s' e = by_lock lock b false (place_after_start lock core.Withdraw) s' e
  begins lock true Free Unlock s' e = by_lock lock true false (place_after_start lock core.Unlock) s' e
  begins lock false Free Unlock s' e = by_script lock false true Ruining (script l p task.Ruin) s' e tt
  begins lock false Free Consistent s' e = by_script lock false true Mending (consistent l p) s' e (consistent_keeps l p)
  begins lock b Free (Append seq value) s' e =
      by_script lock b (b && (length value == l.width)) (Working (task.Append seq value)) (script l p (task.Append seq value)) s' e (λ closed. λ count. λ last. decided_keeps l p seq value closed count last)
  begins lock b Free Close s' e = by_script lock b b (Working task.Close) (script l p task.Close) s' e (close_keeps l p)
  begins lock b Free (Get i) s' e = by_script lock b (nat_lt i 4) (Working (task.BoardGet i)) (script l p (task.BoardGet i)) s' e (λ x. tt)
  begins lock b Free (Put i v) s' e = by_script lock b (nat_lt i 4) (Working (task.BoardPut i v)) (script l p (task.BoardPut i v)) s' e (board_keeps l p i v)
  begins lock b _ _ s' e = absurd (cc)

  moves : (lock : Place) (b c : Bool) (script_state : ScriptState) (kind : Kind) (word : Word) (v : ℕ) (s' : ProcessState) → moved_by l limit p lock b c script_state kind word v ≡ Some s' → Orderly script_state → Orderly s'.script_state
  moves lock b c Free kind word v s' e h = by_lock lock b c (next l.procs limit p lock kind word v) s' e
  moves lock b c (Doing purpose (Asks j rest)) Gets (DataAt i) v s' e h =
      subst (λ (x : ProcessState). Orderly x.script_state) (only_some _ _ s' e).1 (settled_orderly b c purpose (rest v) (after_get purpose j v rest h))
  moves lock b c (Doing purpose (Writes j x rest)) Puts (DataAt i) v s' e h =
      subst (λ (x : ProcessState). Orderly x.script_state) (only_some _ _ s' e).1 (settled_orderly b c purpose rest (after_put purpose j x rest h))
  moves lock b c _ _ _ v s' e h = absurd (cc)

  goes_on : (s : ProcessState) (e : WorldEvent) (s' : ProcessState) → who e ≡ p → next_process_state l limit s e ≡ Some s' → Orderly s.script_state → Orderly s'.script_state
  goes_on s (Begins q call) s' is e h = begins s.lock s.mended s.script_state call s' (subst (λ r. begun_from l r s.lock s.mended s.script_state call ≡ Some s') is e)
  goes_on s (Falls q) s' is e h = let same : dead_process ≡ s' = cc in subst (λ (x : ProcessState). Orderly x.script_state) same tt
  goes_on s (Moves q kind word v) s' is e h = moves s.lock s.mended s.barred s.script_state kind word v s' (subst (λ r. moved_by l limit r s.lock s.mended s.barred s.script_state kind word v ≡ Some s') is e) h
  goes_on s (Glances q word v) s' is e h = let same : s ≡ s' = cc in subst (λ (x : ProcessState). Orderly x.script_state) same h

abbrev pub AllOrderly : GlobalState → Type 0
AllOrderly w = (p : ℕ) → Orderly (w.process_states p).script_state

module _ (l : Layout) (limit : ℕ) where
  orderly_after : (w : GlobalState) (e : WorldEvent) → Can l limit w e → AllOrderly w → AllOrderly (state_after_event l limit w e)
  orderly_after w e can h p =
      let s = some_of l limit (next_process_state l limit (w.process_states (who e)) e) (w.process_states (who e)) can.1 in
      let there : Orderly s.0.script_state = goes_on l limit (who e) (w.process_states (who e)) e s.0 refl s.1 (h (who e)) in
      let here : Orderly (unwrap_or (next_process_state l limit (w.process_states (who e)) e) (w.process_states (who e))).script_state = subst (λ (x : ProcessState). Orderly x.script_state) (sym s.2) there in
      elim (cases_eq p (who e)) [
        | inl is ↦ subst (λ q. Orderly ((state_after_event l limit w e).process_states q).script_state) (sym is) (subst (λ (x : ProcessState). Orderly x.script_state) (sym (put_same w.process_states (who e) _)) here)
        | inr ne ↦ subst (λ (x : ProcessState). Orderly x.script_state) (sym (put_other w.process_states (who e) _ p ne)) (h p)
      ]

  pub all_orderly : (w : GlobalState) (es : List WorldEvent) → AllOrderly w → Execution l limit w es → AllOrderly (last_global_state l limit w es)
  all_orderly w [] h execution = h
  all_orderly w (e ∷ es) h execution = all_orderly (state_after_event l limit w e) es (orderly_after w e execution.0 h) execution.1

-- the lock is not ruined, and no script ruins it
pub record IsKept (n : ℕ) (w : GlobalState) : Type 0 where
  pub ruined : w.cells 0 ≡ 0
  pub scripts : (p : ℕ) → p < n → Keeps (w.process_states p).script_state

pub kept_from : (n : ℕ) (w : GlobalState) → AllOrderly w → IsRecoverable n w → IsKept n w
kept_from n w orderly h = record { ruined = h.0; scripts = λ p below. (orderly p, h.1 p below) }

pub kept_put : (n p : ℕ) (w w' : GlobalState) (s : ProcessState) → IsKept n w → w'.cells 0 ≡ w.cells 0 → w'.process_states ≡ put w.process_states p s → Keeps s.script_state → IsKept n w'
kept_put n p w w' s h cells states keeps =
    record {
      ruined = cells ∙ h.ruined;
      scripts = λ q below. subst (λ (f : ℕ → ProcessState). Keeps (f q).script_state) (sym states) (elim (cases_eq q p) [
        | inl is ↦ subst (λ (r : ℕ). Keeps (put w.process_states p s r).script_state) (sym is) (subst (λ (x : ProcessState). Keeps x.script_state) (sym (put_same w.process_states p s)) keeps)
        | inr ne ↦ subst (λ (x : ProcessState). Keeps x.script_state) (sym (put_other w.process_states p s q ne)) (h.scripts q below)
      ]);
    }

-- an event that leaves word 0, and has no ruin
pub record IsHarmless (l : Layout) (cells : Words) (e : WorldEvent) : Type 0 where
  pub ruined : cells_after l cells e 0 ≡ cells 0
  pub deeds : All IsNoRuin (mail_deeds l cells e)

pub harmless_start : (l : Layout) (cells : Words) (p : ℕ) (call : Call) → IsHarmless l cells (Begins p call)
harmless_start l cells p call = record { ruined = refl; deeds = All-nil IsNoRuin }

pub harmless_get : (l : Layout) (cells : Words) (p i v : ℕ) → IsHarmless l cells (Moves p Gets (DataAt i) v)
harmless_get l cells p i v = record { ruined = refl; deeds = All-nil IsNoRuin }

no_ruin : (l : Layout) (p : ℕ) (w : Words) (i v : ℕ) → i ≢ 0 → All IsNoRuin (deeds_of_put l p w i v)
no_ruin l p w i v ne =
    cond_both (w i == v) _ _ (All IsNoRuin) (λ _. All-nil IsNoRuin) (λ _.
    cond_both ((i == 3) && (v == 1)) _ _ (All IsNoRuin) (λ _. All-cons IsNoRuin _ [] tt (All-nil IsNoRuin)) (λ _.
    cond_both (i == 2) _ _ (All IsNoRuin) (λ _. All-cons IsNoRuin _ [] tt (All-nil IsNoRuin)) (λ _.
    cond_both ((i == 1) && (v == 1)) _ _ (All IsNoRuin) (λ _. All-cons IsNoRuin _ [] tt (All-nil IsNoRuin)) (λ _.
    cond_both ((i == 0) && (v == 1)) _ _ (All IsNoRuin) (λ e. absurd (ne (eqb-true i 0 (and_parts (i == 0) (v == 1) e).0))) (λ _. All-nil IsNoRuin)))))

pub harmless_put : (l : Layout) (cells : Words) (p i v : ℕ) → i ≢ 0 → IsHarmless l cells (Moves p Puts (DataAt i) v)
harmless_put l cells p i v ne =
    record {
      ruined = cond_both (nat_lt i (size l)) (put cells i v) cells (λ (x : Words). x 0 ≡ cells 0) (λ _. put_other cells i v 0 (λ e. ne (sym e))) (λ _. refl);
      deeds = no_ruin l p cells i v ne;
    }

-- a step of the lock's part touches no data word
pub harmless_step : (l : Layout) (limit : ℕ) (cells : Words) (p : ℕ) (s : Place) (kind : Kind) (word : Word) (v : ℕ) → IsSome (next l.procs limit p s kind word v) → IsHarmless l cells (Moves p kind word v)
harmless_step l limit cells p s kind (DataAt i) v some = absurd (not_data l.procs limit p s kind i v some)
harmless_step l limit cells p s kind word v some =
    record {
      ruined = cond_both (is_store kind) (put_cell l cells word v) cells (λ (x : Words). x 0 ≡ cells 0) (λ _. refl) (λ _. refl);
      deeds = cond_both (is_store kind) (put_deeds l p cells word v) [] (All IsNoRuin) (λ _. All-nil IsNoRuin) (λ _. All-nil IsNoRuin);
    }

pub no_ruin_of_lock : (o : Option Outer) → All IsNoRuin (outer_deeds o)
no_ruin_of_lock None = All-nil IsNoRuin
no_ruin_of_lock (Some d) = All-cons IsNoRuin _ [] tt (All-nil IsNoRuin)

-- Every reply of the script has R. If S, word 0 is read as 0.
abbrev pub Replies : Type 0 → (Reply → Type 0) → Script Reply → Type 0
Replies S R (Asks i rest) = (x : ℕ) → (S → i ≡ 0 → x ≡ 0) → Replies S R (rest x)
Replies S R (Writes i v rest) = Replies S R rest
Replies S R (Done a) = R a

module _ (S : Type 0) (R : Reply → Type 0) where
  pub any_reply : ((a : Reply) → R a) → (e : Script Reply) → Replies S R e
  any_reply h (Asks i rest) = λ x. λ _. any_reply h (rest x)
  any_reply h (Writes i v rest) = any_reply h rest
  any_reply h (Done a) = h a

  puts_reply : (xs : List (ℕ × ℕ)) (e : Script Reply) → Replies S R e → Replies S R (puts xs e)
  puts_reply [] e h = h
  puts_reply (x ∷ xs) e h = puts_reply xs e h

  gets_reply : (i n : ℕ) (read : List ℕ) (next : List ℕ → Script Reply) → ((xs : List ℕ) → Replies S R (next xs)) → Replies S R (gets i n read next)
  gets_reply i zero read next h = h read
  gets_reply i (suc n) read next h = λ x. λ _. gets_reply (i + 1) n (read ++ x ∷ []) next h

  ruined_not : (x : ℕ) → (x == 1) ≡ true → (S → x ≡ 0) → S → ⊥
  ruined_not x is read s = let one : x ≡ 1 = eqb-true x 1 is in let none : x ≡ 0 = read s in omega arith

  pub consistent_replies : (l : Layout) (p : ℕ) → ((b : Bool) → R (Mended b)) → ((S → ⊥) → R (Ruined true)) → Replies S R (consistent l p)
  consistent_replies l p mended ruined = λ x. λ read.
      cond_both (x == 1) _ _ (Replies S R) (λ is. ruined (ruined_not x is (λ s. read s refl))) (λ _. λ armed. λ _.
      cond_both (armed == 0) _ _ (Replies S R) (λ _. mended false) (λ _. λ at. λ _. λ seq. λ _.
      gets_reply 6 l.width [] (redo l p at seq) (λ value. puts_reply (apply_steps l p (record_of at seq value)) (Done (Mended true)) (mended true))))

  -- a check under way
  pub check_replies : (left : Script Reply) → HasStep left → Checks left → R (Ruined false) → ((S → ⊥) → R (Ruined true)) → Replies S R left
  check_replies (Done a) step h whole ruined = absurd step
  check_replies (Writes i v rest) step h whole ruined = absurd h
  check_replies (Asks i rest) step h whole ruined = λ x. λ read.
      subst (Replies S R) (sym (h.1 x)) (elim (cases_Bool (x == 1)) [ inl is ↦ rw is (ruined (ruined_not x is (λ s. read s h.0))) | inr other ↦ rw other whole ])
