-- Each answer has its events in the call ("Reply"), of any process, from its own events alone.
use Rattle.std.proofs.Common.{◌≡◌, ℕ, zero, suc, ◌≤◌, max, Bool, true, false, ◌&&◌, ◌||◌, ◌==◌, nat_le, nat_lt, length, if◌then◌else◌, List, [], ◌∷◌, ◌++◌, Option, Some, None, IsSome, unwrap_or, refl, sym, ap, ◌∙◌, subst, inl, inr, ◌⊎◌, arith, eqb-true, leb-true, append_assoc}
use Rattle.rmeworld.proofs.Common.{cases_Bool, cases_lt, and_parts, eqb-false, Contains-append_left, Contains-push, CoreCall, Kind, Gets, Puts, Rereads, Open as Opens, Peek as Peeks, Take as Takes, Shut as Shuts}
use Rattle.rmeworld.proofs.Common.{Look as Looks, Weigh as Weighs, Mark as Marks, Drop as Drops, Glance as Glances, Word, Data as DataAt, Choosing as ChoosingOf, Number as NumberOf, answer, reread_answer, is_glance}
use Rattle.rmeworld.proofs.Common.{Place, Door, Wait, next, Rest, Reread, Shutting, Leaving, Withdrawing, Unmarking, Opening, Inside, Dead, has, without, others, is_before, restart, only, Layout, Reply, Ruined, Task}
use Rattle.rmeworld.proofs.Common.{Script, Get as Asks, Put as Writes, Done, script, consistent, Answer, Call, Lock, Unlock, Consistent, Recover, Append, Close, Withdraw, Purpose, Ruining, Mending, Working, Checking}
use Rattle.rmeworld.proofs.Common.{answer_at, answer_by, by_lock, by_script, next_or_same, last_process_state, ScriptState, Free, Doing, ProcessState, WorldEvent, Begins, Moves, process_after_script, script_state_entered, at_lock}
use Rattle.rmeworld.proofs.Common.{begun_from, moved_by, next_process_state, mended_entered, working, lock_part}
use Rattle.rmecore.specs.declared.core_call.CoreCall.TheVariants as core
use Rattle.rmecore.specs.declared.word.Word.TheVariants.{Inside as InsideOf}
use Rattle.redomail.specs.declared.reply.Reply.TheVariants as reply
use Rattle.redomail.specs.declared.task.Task.TheVariants as task
use Rattle.rmecore.specs.declared.core_done.CoreDone.TheVariants.{Out}
use Rattle.rmeworld.specs.Answered.{by_core, by_reply}
use Rattle.rmeworld.specs.declared.answer.Answer.TheVariants.{NumbersSpent, Withdrawn}
use Rattle.rmeworld.specs.CallWalk.{answer_to}
use Rattle.rmeworld.specs.ReplyEvents.{rereads, ruining, Enters, TakesNone, IsNoTake, HasPeeked, PlaysScript, HasEvents, IsMove, Follow, AnswersHaveTheirEvents}
use Rattle.rmeworld.specs.declared.call.Call.TheVariants.{Get, Put}
use Rattle.rmeworld.proofs.CallParts.{goes_on}
use Rattle.rmeworld.proofs.CallSteps.{IsOver, guard_process_state}

abbrev Never : Type 0
Never = true ≡ false

-- the rereads so far
abbrev Read : ℕ → List ℕ → List WorldEvent → Type 0
Read p [] es = es ≡ []
Read p (c ∷ []) es = es ≡ Moves p Rereads (ChoosingOf p) c ∷ []
Read p (c ∷ k ∷ []) es = es ≡ Moves p Rereads (ChoosingOf p) c ∷ Moves p Rereads (NumberOf p) k ∷ []
Read p _ es = Never

-- an entry, the ruin check that found the lock ruined, and these events
abbrev Barred : ℕ → List WorldEvent → List WorldEvent → Type 0
Barred p rest es = (front : List WorldEvent) × (first : Bool) × Enters p first front × (es ≡ front ++ Moves p Gets (DataAt 0) 1 ∷ rest)

-- the events of a lock so far, at each place
abbrev LockAt : ℕ → Place → Bool → List WorldEvent → Type 0
LockAt p (Reread core.Lock seen) c es = (c ≡ false) × Read p seen es
LockAt p Opening c es = (c ≡ false) × TakesNone es
LockAt p (Unmarking core.Lock) c es = (c ≡ false) × TakesNone es
LockAt p (Door unread g) c es = (c ≡ false) × TakesNone es × ((g ≡ 0) ⊎ HasPeeked p g es)
LockAt p (Shutting core.Lock k) c es = c ≡ false
LockAt p (Wait k unpassed looked) c es = c ≡ false
LockAt p Leaving c es = (c ≡ true) × Barred p [] es
LockAt p (Unmarking core.Unlock) c es = (c ≡ true) × Barred p (Moves p Drops (NumberOf p) 0 ∷ []) es
LockAt p _ c es = Never

-- of a recovery
abbrev RecoverAt : ℕ → Place → List WorldEvent → Type 0
RecoverAt p (Reread core.Recover seen) es = Read p seen es
RecoverAt p (Shutting core.Recover x) es = (c : ℕ) × (k : ℕ) × (i : ℕ) × (es ≡ rereads p (suc c) (suc k) i)
RecoverAt p (Unmarking core.Recover) es = (i : ℕ) × (es ≡ rereads p 0 0 (suc i))
RecoverAt p _ es = Never

-- of an exit, for a holder that is mended or not
abbrev ExitAt : ℕ → Bool → Place → Bool → List WorldEvent → Type 0
ExitAt p m Leaving c es = (c ≡ false) × (es ≡ ruining p m)
ExitAt p m (Unmarking core.Unlock) c es = (c ≡ false) × (es ≡ ruining p m ++ Moves p Drops (NumberOf p) 0 ∷ [])
ExitAt p m _ c es = Never

abbrev WithdrawAt : Place → List WorldEvent → Type 0
WithdrawAt Withdrawing es = es ≡ []
WithdrawAt _ es = Never

takes_more : (es : List WorldEvent) (e : WorldEvent) → TakesNone es → IsNoTake e → TakesNone (es ++ e ∷ [])
takes_more [] e h n = (n, tt)
takes_more (x ∷ es) e h n = (h.0, takes_more es e h.1 n)

peeked : (p g v j : ℕ) (es : List WorldEvent) → (g ≡ 0) ⊎ HasPeeked p g es → (max g v ≡ 0) ⊎ HasPeeked p (max g v) (es ++ Moves p Peeks (NumberOf j) v ∷ [])
peeked p g v j es h =
    elim (cases_lt g v) [
      | inl less ↦ (let is : v ≡ max g v = omega (arith, less) in inr (subst (λ x. HasPeeked p x (es ++ Moves p Peeks (NumberOf j) v ∷ [])) is (j, Contains-push es (Moves p Peeks (NumberOf j) v))))
      | inr most ↦
          (let is : g ≡ max g v = omega (arith, most) in
          subst (λ x. (x ≡ 0) ⊎ HasPeeked p x (es ++ Moves p Peeks (NumberOf j) v ∷ [])) is
          (elim h [ inl e ↦ inl e | inr before ↦ inr (before.0, Contains-append_left es (Moves p Peeks (NumberOf j) v ∷ []) (Moves p Peeks (NumberOf before.0) g) before.1) ]))
    ]

-- one more step of a script
plays_get : (p : ℕ) (s : Script Reply) (es : List WorldEvent) (j : ℕ) (rest : ℕ → Script Reply) (v : ℕ) → PlaysScript p s es (Asks j rest) → PlaysScript p s (es ++ Moves p Gets (DataAt j) v ∷ []) (rest v)
plays_get p s [] j rest v h = subst (λ x. PlaysScript p x (Moves p Gets (DataAt j) v ∷ []) (rest v)) (sym h) (v, refl, refl)
plays_get p (Asks i next) (x ∷ es) j rest v h = (h.0, h.1, plays_get p (next h.0) es j rest v h.2)
plays_get p (Writes i x next) (y ∷ es) j rest v h = (h.0, plays_get p next es j rest v h.1)
plays_get p (Done a) (y ∷ es) j rest v h = absurd h

plays_put : (p : ℕ) (s : Script Reply) (es : List WorldEvent) (j v : ℕ) (rest : Script Reply) → PlaysScript p s es (Writes j v rest) → PlaysScript p s (es ++ Moves p Puts (DataAt j) v ∷ []) rest
plays_put p s [] j v rest h = subst (λ x. PlaysScript p x (Moves p Puts (DataAt j) v ∷ []) rest) (sym h) (refl, refl)
plays_put p (Asks i next) (x ∷ es) j v rest h = (h.0, h.1, plays_put p (next h.0) es j v rest h.2)
plays_put p (Writes i x next) (y ∷ es) j v rest h = (h.0, plays_put p next es j v rest h.1)
plays_put p (Done a) (y ∷ es) j v rest h = absurd h

module _ (l : Layout) (limit p : ℕ) (some_number : 1 ≤ limit) (m : Bool) where
  -- the events of the call so far
  abbrev CameBy : Call → Place → Bool → Bool → ScriptState → List WorldEvent → Type 0
  CameBy Lock s b c Free es = LockAt p s c es
  CameBy Lock s b c (Doing Checking left) es = (c ≡ false) × (left ≡ script l p task.Check) × Enters p b es
  CameBy Recover s b c Free es = RecoverAt p s es
  CameBy Unlock s b c Free es = ExitAt p m s c es
  CameBy Unlock s b c (Doing Ruining left) es = (m ≡ false) × (c ≡ false) × (left ≡ script l p task.Ruin) × (es ≡ [])
  CameBy Withdraw s b c Free es = WithdrawAt s es
  CameBy Consistent s b c (Doing Mending left) es = PlaysScript p (consistent l p) es left
  CameBy (Append seq value) s b c (Doing (Working t) left) es = PlaysScript p (script l p (task.Append seq value)) es left
  CameBy Close s b c (Doing (Working t) left) es = PlaysScript p (script l p task.Close) es left
  CameBy (Get i) s b c (Doing (Working t) left) es = PlaysScript p (script l p (task.BoardGet i)) es left
  CameBy (Put i v) s b c (Doing (Working t) left) es = PlaysScript p (script l p (task.BoardPut i v)) es left
  CameBy _ s b c _ es = Never

  abbrev Came : Call → ProcessState → List WorldEvent → Type 0
  Came call x es = CameBy call x.lock x.mended x.barred x.script_state es

  -- after a step the call goes on, or it has its answer with its events
  abbrev To : Call → Option Answer → ProcessState → List WorldEvent → Type 0
  To call None x es = Came call x es
  To call (Some a) x es = IsOver x × HasEvents l limit p m call a es

  -- the process state after a step of the lock's part
  abbrev landed : Place → Bool → Bool → Place → ProcessState
  landed s b c t = record { lock = t; mended = mended_entered b s t; barred = c; script_state = script_state_entered l p s t }

  at_only : (test : Bool) (t s : Place) (b c : Bool) (d : ProcessState) (P : ProcessState → Type 0) → IsSome (at_lock l p s b c (only test t)) → (test ≡ true → P (landed s b c t)) → P (unwrap_or (at_lock l p s b c (only test t)) d)
  at_only true t s b c d P some h = h refl
  at_only false t s b c d P some h = absurd (cc)

  abbrev Step : Call → Place → Bool → Bool → ProcessState → Kind → Word → ℕ → List WorldEvent → Type 0
  Step call s b c d kind word v es = To call (by_lock c (answer s kind v)) (unwrap_or (at_lock l p s b c (next l.procs limit p s kind word v)) d) (es ++ Moves p kind word v ∷ [])

  -- a lock after its three rereads
  relocks : (x y v : ℕ) (b c : Bool) (es : List WorldEvent) → c ≡ false → es ≡ rereads p x y v → To Lock (by_lock c (reread_answer core.Lock x y v)) (landed (Reread core.Lock (x ∷ y ∷ [])) b c (restart l.procs p core.Lock x y v)) es
  relocks (suc x) zero v b c es off is = (off, subst TakesNone (sym is) (tt, (tt, (tt, tt))), inl refl)
  relocks (suc x) (suc y) v b c es off is = off
  relocks zero zero zero b c es off is = (off, subst TakesNone (sym is) (tt, (tt, (tt, tt))))
  relocks zero zero (suc v) b c es off is = (off, subst TakesNone (sym is) (tt, (tt, (tt, tt))))
  relocks zero (suc y) zero b c es off is = off
  relocks zero (suc y) (suc v) b c es off is = (off, refl, (y, v, is))

  -- a step of a lock's part
  lock_steps : (s : Place) (b c : Bool) (d : ProcessState) (kind : Kind) (word : Word) (v : ℕ) (es : List WorldEvent) → LockAt p s c es → IsSome (at_lock l p s b c (next l.procs limit p s kind word v)) → is_glance kind ≡ false → Step Lock s b c d kind word v es
  lock_steps (Reread core.Lock []) b c d Rereads (ChoosingOf q) v es h some moves =
      at_only (q == p) (Reread core.Lock (v ∷ [])) (Reread core.Lock []) b c d (λ x. Came Lock x (es ++ Moves p Rereads (ChoosingOf q) v ∷ [])) some
      (λ e. let own = eqb-true q p e in (h.0, λ i. h.1 i ++ Moves p Rereads (ChoosingOf (own i)) v ∷ []))
  lock_steps (Reread core.Lock (x ∷ [])) b c d Rereads (NumberOf q) v es h some moves =
      at_only (q == p) (Reread core.Lock (x ∷ v ∷ [])) (Reread core.Lock (x ∷ [])) b c d (λ x. Came Lock x (es ++ Moves p Rereads (NumberOf q) v ∷ [])) some
      (λ e. let own = eqb-true q p e in (h.0, λ i. h.1 i ++ Moves p Rereads (NumberOf (own i)) v ∷ []))
  lock_steps (Reread core.Lock (x ∷ y ∷ [])) b c d Rereads (InsideOf q) v es h some moves =
      at_only (q == p) (restart l.procs p core.Lock x y v) (Reread core.Lock (x ∷ y ∷ [])) b c d (λ z. To Lock (by_lock c (reread_answer core.Lock x y v)) z (es ++ Moves p Rereads (InsideOf q) v ∷ [])) some
      (λ e. let own = eqb-true q p e in relocks x y v b c (es ++ Moves p Rereads (InsideOf q) v ∷ []) h.0 (λ i. h.1 i ++ Moves p Rereads (InsideOf (own i)) v ∷ []))
  lock_steps Opening b c d Opens (ChoosingOf q) v es h some moves =
      at_only ((q == p) && (v == 1)) (Door (others l.procs p) 0) Opening b c d (λ x. Came Lock x (es ++ Moves p Opens (ChoosingOf q) v ∷ [])) some (λ e. (h.0, takes_more es (Moves p Opens (ChoosingOf q) v) h.1 tt, inl refl))
  lock_steps (Door unread g) b c d Peeks (NumberOf j) v es h some moves =
      at_only (has unread j) (Door (without j unread) (max g v)) (Door unread g) b c d (λ x. Came Lock x (es ++ Moves p Peeks (NumberOf j) v ∷ [])) some
      (λ e. (h.0, takes_more es (Moves p Peeks (NumberOf j) v) h.1 tt, peeked p g v j es h.2))
  lock_steps (Door [] g) b c d Takes (NumberOf q) v es h some moves =
      at_only _ (Shutting core.Lock v) (Door [] g) b c d (λ x. Came Lock x (es ++ Moves p Takes (NumberOf q) v ∷ [])) some (λ e. h.0)
  lock_steps (Door [] g) b c d Shuts (ChoosingOf q) v es h some moves =
      at_only ((q == p) && (nat_le limit g && (v == 0))) Rest (Door [] g) b c d (λ x. To Lock (Some NumbersSpent) x (es ++ Moves p Shuts (ChoosingOf q) v ∷ [])) some
      (λ e.
      let both = and_parts (q == p) (nat_le limit g && (v == 0)) e in
      let rest = and_parts (nat_le limit g) (v == 0) both.1 in
      let own = eqb-true q p both.0 in
      let nil = eqb-true v 0 rest.1 in
      let most : limit ≤ g = leb-true limit g rest.0 in
      ((refl, refl), (es, g, h.1, most, (elim h.2 [ inl z ↦ absurd (omega (arith, z, most, some_number)) | inr x ↦ x ]), λ i. es ++ Moves p Shuts (ChoosingOf (own i)) (nil i) ∷ [])))
  lock_steps (Shutting core.Lock k) b c d Shuts (ChoosingOf q) v es h some moves =
      at_only ((q == p) && (v == 0)) (Wait k (others l.procs p) None) (Shutting core.Lock k) b c d (λ x. Came Lock x (es ++ Moves p Shuts (ChoosingOf q) v ∷ [])) some (λ e. h)
  lock_steps (Wait k unpassed None) b c d Looks (ChoosingOf j) v es h some moves =
      at_only (has unpassed j) (if v == 0 then Wait k unpassed (Some j) else Wait k unpassed None) (Wait k unpassed None) b c d (λ x. Came Lock x (es ++ Moves p Looks (ChoosingOf j) v ∷ [])) some
      (λ e. elim (cases_Bool (v == 0)) [ inl z ↦ rw z h | inr z ↦ rw z h ])
  lock_steps (Wait k unpassed (Some o)) b c d Weighs (NumberOf j) v es h some moves =
      at_only (j == o) (if (v == 0) || is_before k p v j then Wait k (without j unpassed) None else Wait k unpassed (Some o)) (Wait k unpassed (Some o)) b c d (λ x. Came Lock x (es ++ Moves p Weighs (NumberOf j) v ∷ [])) some
      (λ e. elim (cases_Bool ((v == 0) || is_before k p v j)) [ inl z ↦ rw z h | inr z ↦ rw z h ])
  lock_steps (Wait k [] None) b c d Marks (InsideOf q) v es h some moves =
      at_only ((q == p) && (v == 1)) Inside (Wait k [] None) b c d (λ x. Came Lock x (es ++ Moves p Marks (InsideOf q) v ∷ [])) some
      (λ e.
      let both = and_parts (q == p) (v == 1) e in
      let own = eqb-true q p both.0 in
      let one = eqb-true v 1 both.1 in
      (h, refl, (es, λ i. es ++ Moves p Marks (InsideOf (own i)) (one i) ∷ [])))
  lock_steps Leaving b c d Drops (NumberOf q) v es h some moves =
      at_only ((q == p) && (v == 0)) (Unmarking core.Unlock) Leaving b c d (λ x. Came Lock x (es ++ Moves p Drops (NumberOf q) v ∷ [])) some
      (λ e.
      let both = and_parts (q == p) (v == 0) e in
      let own = eqb-true q p both.0 in
      let nil = eqb-true v 0 both.1 in
      let z = h.1 in
      (h.0, (z.0, z.1, z.2, (λ i. z.3 i ++ Moves p Drops (NumberOf (own i)) (nil i) ∷ []) ∙ append_assoc z.0 _ _)))
  lock_steps (Unmarking core.Lock) b c d Marks (InsideOf q) v es h some moves =
      at_only ((q == p) && (v == 0)) Opening (Unmarking core.Lock) b c d (λ x. Came Lock x (es ++ Moves p Marks (InsideOf q) v ∷ [])) some (λ e. (h.0, takes_more es (Moves p Marks (InsideOf q) v) h.1 tt))
  lock_steps (Unmarking core.Unlock) b c d Marks (InsideOf q) v es h some moves =
      at_only ((q == p) && (v == 0)) Rest (Unmarking core.Unlock) b c d (λ x. To Lock (by_core c Out) x (es ++ Moves p Marks (InsideOf q) v ∷ [])) some
      (λ e.
      let both = and_parts (q == p) (v == 0) e in
      let own = eqb-true q p both.0 in
      let nil = eqb-true v 0 both.1 in
      let z = h.1 in
      subst (λ x. To Lock (by_core x Out) (landed (Unmarking core.Unlock) b c Rest) (es ++ Moves p Marks (InsideOf q) v ∷ [])) (sym h.0)
      ((refl, refl), (z.0, z.1, z.2, (λ i. z.3 i ++ Moves p Marks (InsideOf (own i)) (nil i) ∷ []) ∙ append_assoc z.0 _ _)))
  lock_steps s b c d Glances word v es h some moves = absurd (cc)
  lock_steps _ b c d _ _ v es h some moves = absurd (cc)

  -- a recovery after its three rereads
  recovers : (x y v : ℕ) (b c : Bool) (es : List WorldEvent) → es ≡ rereads p x y v → To Recover (by_lock c (reread_answer core.Recover x y v)) (landed (Reread core.Recover (x ∷ y ∷ [])) b c (restart l.procs p core.Recover x y v)) es
  recovers (suc x) zero v b c es is = ((refl, refl), (suc x, 0, v, refl, is))
  recovers (suc x) (suc y) v b c es is = (x, y, v, is)
  recovers zero zero zero b c es is = ((refl, refl), (0, 0, 0, refl, is))
  recovers zero zero (suc v) b c es is = (v, is)
  recovers zero (suc y) zero b c es is = ((refl, refl), (0, suc y, 0, refl, is))
  recovers zero (suc y) (suc v) b c es is = ((refl, refl), (0, suc y, suc v, refl, is))

  recover_steps : (s : Place) (b c : Bool) (d : ProcessState) (kind : Kind) (word : Word) (v : ℕ) (es : List WorldEvent) → RecoverAt p s es → IsSome (at_lock l p s b c (next l.procs limit p s kind word v)) → is_glance kind ≡ false → Step Recover s b c d kind word v es
  recover_steps (Reread core.Recover []) b c d Rereads (ChoosingOf q) v es h some moves =
      at_only (q == p) (Reread core.Recover (v ∷ [])) (Reread core.Recover []) b c d (λ x. Came Recover x (es ++ Moves p Rereads (ChoosingOf q) v ∷ [])) some
      (λ e. let own = eqb-true q p e in λ i. h i ++ Moves p Rereads (ChoosingOf (own i)) v ∷ [])
  recover_steps (Reread core.Recover (x ∷ [])) b c d Rereads (NumberOf q) v es h some moves =
      at_only (q == p) (Reread core.Recover (x ∷ v ∷ [])) (Reread core.Recover (x ∷ [])) b c d (λ x. Came Recover x (es ++ Moves p Rereads (NumberOf q) v ∷ [])) some
      (λ e. let own = eqb-true q p e in λ i. h i ++ Moves p Rereads (NumberOf (own i)) v ∷ [])
  recover_steps (Reread core.Recover (x ∷ y ∷ [])) b c d Rereads (InsideOf q) v es h some moves =
      at_only (q == p) (restart l.procs p core.Recover x y v) (Reread core.Recover (x ∷ y ∷ [])) b c d (λ z. To Recover (by_lock c (reread_answer core.Recover x y v)) z (es ++ Moves p Rereads (InsideOf q) v ∷ [])) some
      (λ e. let own = eqb-true q p e in recovers x y v b c (es ++ Moves p Rereads (InsideOf q) v ∷ []) (λ i. h i ++ Moves p Rereads (InsideOf (own i)) v ∷ []))
  recover_steps (Shutting core.Recover k) b c d Shuts (ChoosingOf q) v es h some moves =
      at_only ((q == p) && (v == 0)) Rest (Shutting core.Recover k) b c d (λ x. To Recover (by_lock c (answer (Shutting core.Recover k) Shuts v)) x (es ++ Moves p Shuts (ChoosingOf q) v ∷ [])) some
      (λ e.
      let both = and_parts (q == p) (v == 0) e in
      let own = eqb-true q p both.0 in
      let nil = eqb-true v 0 both.1 in
      ((refl, refl), (suc h.0, suc h.1, h.2, refl, λ i. h.3 i ++ Moves p Shuts (ChoosingOf (own i)) (nil i) ∷ [])))
  recover_steps (Unmarking core.Recover) b c d Marks (InsideOf q) v es h some moves =
      at_only ((q == p) && (v == 0)) Rest (Unmarking core.Recover) b c d (λ x. To Recover (by_lock c (answer (Unmarking core.Recover) Marks v)) x (es ++ Moves p Marks (InsideOf q) v ∷ [])) some
      (λ e.
      let both = and_parts (q == p) (v == 0) e in
      let own = eqb-true q p both.0 in
      let nil = eqb-true v 0 both.1 in
      ((refl, refl), (0, 0, suc h.0, refl, λ i. h.1 i ++ Moves p Marks (InsideOf (own i)) (nil i) ∷ [])))
  recover_steps s b c d Glances word v es h some moves = absurd (cc)
  recover_steps _ b c d _ _ v es h some moves = absurd (cc)

  exit_steps : (s : Place) (b c : Bool) (d : ProcessState) (kind : Kind) (word : Word) (v : ℕ) (es : List WorldEvent) → ExitAt p m s c es → IsSome (at_lock l p s b c (next l.procs limit p s kind word v)) → is_glance kind ≡ false → Step Unlock s b c d kind word v es
  exit_steps Leaving b c d Drops (NumberOf q) v es h some moves =
      at_only ((q == p) && (v == 0)) (Unmarking core.Unlock) Leaving b c d (λ x. Came Unlock x (es ++ Moves p Drops (NumberOf q) v ∷ [])) some
      (λ e.
      let both = and_parts (q == p) (v == 0) e in
      let own = eqb-true q p both.0 in
      let nil = eqb-true v 0 both.1 in
      (h.0, λ i. h.1 i ++ Moves p Drops (NumberOf (own i)) (nil i) ∷ []))
  exit_steps (Unmarking core.Unlock) b c d Marks (InsideOf q) v es h some moves =
      at_only ((q == p) && (v == 0)) Rest (Unmarking core.Unlock) b c d (λ x. To Unlock (by_core c Out) x (es ++ Moves p Marks (InsideOf q) v ∷ [])) some
      (λ e.
      let both = and_parts (q == p) (v == 0) e in
      let own = eqb-true q p both.0 in
      let nil = eqb-true v 0 both.1 in
      subst (λ x. To Unlock (by_core x Out) (landed (Unmarking core.Unlock) b c Rest) (es ++ Moves p Marks (InsideOf q) v ∷ [])) (sym h.0)
      ((refl, refl), (λ i. h.1 i ++ Moves p Marks (InsideOf (own i)) (nil i) ∷ []) ∙ append_assoc (ruining p m) _ _))
  exit_steps s b c d Glances word v es h some moves = absurd (cc)
  exit_steps _ b c d _ _ v es h some moves = absurd (cc)

  withdraw_steps : (s : Place) (b c : Bool) (d : ProcessState) (kind : Kind) (word : Word) (v : ℕ) (es : List WorldEvent) → WithdrawAt s es → IsSome (at_lock l p s b c (next l.procs limit p s kind word v)) → is_glance kind ≡ false → Step Withdraw s b c d kind word v es
  withdraw_steps Withdrawing b c d Drops (NumberOf q) v es h some moves =
      at_only ((q == p) && (v == 0)) Rest Withdrawing b c d (λ x. To Withdraw (Some Withdrawn) x (es ++ Moves p Drops (NumberOf q) v ∷ [])) some
      (λ e.
      let both = and_parts (q == p) (v == 0) e in
      let own = eqb-true q p both.0 in
      let nil = eqb-true v 0 both.1 in
      ((refl, refl), λ i. h i ++ Moves p Drops (NumberOf (own i)) (nil i) ∷ []))
  withdraw_steps s b c d Glances word v es h some moves = absurd (cc)
  withdraw_steps _ b c d _ _ v es h some moves = absurd (cc)

  -- the ruin check
  checked : (b ruined : Bool) (i v : ℕ) (es : List WorldEvent) → (v == 1) ≡ ruined → i ≡ 0 → Enters p b es → To Lock (by_reply Checking b (Ruined ruined)) (process_after_script b false Checking (Done (Ruined ruined))) (es ++ Moves p Gets (DataAt i) v ∷ [])
  checked b true i v es is at h = let one = eqb-true v 1 is in (refl, (es, b, h, λ j. es ++ Moves p Gets (DataAt (at j)) (one j) ∷ []))
  checked true false i v es is at h = ((refl, refl), (es, v, h, eqb-false v 1 is, λ j. es ++ Moves p Gets (DataAt (at j)) v ∷ []))
  checked false false i v es is at h = ((refl, refl), (es, v, h, eqb-false v 1 is, λ j. es ++ Moves p Gets (DataAt (at j)) v ∷ []))

  -- a step of a script
  abbrev Acts : Call → Place → Bool → Bool → ScriptState → ProcessState → Kind → Word → ℕ → List WorldEvent → Type 0
  Acts call s b c e d kind word v es =
      IsSome (moved_by l limit p s b c e kind word v) → To call (answer_by s b c e kind v) (unwrap_or (moved_by l limit p s b c e kind word v) d) (es ++ Moves p kind word v ∷ [])

  check_steps : (s : Place) (b : Bool) (d : ProcessState) (kind : Kind) (word : Word) (v : ℕ) (es : List WorldEvent) → Enters p b es → Acts Lock s b false (Doing Checking (script l p task.Check)) d kind word v es
  check_steps s b d Gets (DataAt i) v es h some =
      guard_process_state (i == 0) (process_after_script b false Checking (Done (Ruined (v == 1)))) d (λ x. To Lock (by_reply Checking b (Ruined (v == 1))) x (es ++ Moves p Gets (DataAt i) v ∷ [])) some
      (λ e. checked b (v == 1) i v es refl (eqb-true i 0 e) h)
  check_steps s b d _ _ v es h some = absurd (cc)

  ruin_steps : (s : Place) (b : Bool) (d : ProcessState) (kind : Kind) (word : Word) (v : ℕ) (es : List WorldEvent) → m ≡ false → es ≡ [] → Acts Unlock s b false (Doing Ruining (script l p task.Ruin)) d kind word v es
  ruin_steps s b d Puts (DataAt i) v es off is some =
      guard_process_state ((i == 0) && (v == 1)) (process_after_script b false Ruining (Done reply.Done)) d (λ x. To Unlock None x (es ++ Moves p Puts (DataAt i) v ∷ [])) some
      (λ e.
      let both = and_parts (i == 0) (v == 1) e in
      let at = eqb-true i 0 both.0 in
      let one = eqb-true v 1 both.1 in
      (refl, (λ j. is j ++ Moves p Puts (DataAt (at j)) (one j) ∷ []) ∙ ap (ruining p) (sym off)))
  ruin_steps s b d _ _ v es off is some = absurd (cc)

  -- a script of which the events are a beginning
  abbrev Going : Call → Script Reply → Purpose → Type 0
  Going call whole purpose = (b c : Bool) (x : Script Reply) (es : List WorldEvent) → PlaysScript p whole es x → CameBy call Inside b c (Doing purpose x) es

  abbrev Ending : Call → Script Reply → Purpose → Type 0
  Ending call whole purpose = (b c : Bool) (a : Reply) (es : List WorldEvent) → PlaysScript p whole es (Done a) → To call (by_reply purpose b a) (process_after_script b c purpose (Done a)) es

  settles : (call : Call) (whole : Script Reply) (purpose : Purpose) (b c : Bool) (x : Script Reply) (es : List WorldEvent) → Going call whole purpose → Ending call whole purpose → PlaysScript p whole es x → To call (by_script purpose b x) (process_after_script b c purpose x) es
  settles call whole purpose b c (Asks i rest) es goes ends h = goes b c (Asks i rest) es h
  settles call whole purpose b c (Writes i v rest) es goes ends h = goes b c (Writes i v rest) es h
  settles call whole purpose b c (Done a) es goes ends h = ends b c a es h

  script_steps : (call : Call) (whole : Script Reply) (purpose : Purpose) (s : Place) (b c : Bool) (left : Script Reply) (d : ProcessState) (kind : Kind) (word : Word) (v : ℕ) (es : List WorldEvent) → Going call whole purpose → Ending call whole purpose → PlaysScript p whole es left
      → Acts call s b c (Doing purpose left) d kind word v es
  script_steps call whole purpose s b c (Asks j rest) d Gets (DataAt i) v es goes ends h some =
      guard_process_state (i == j) (process_after_script b c purpose (rest v)) d (λ x. To call (by_script purpose b (rest v)) x (es ++ Moves p Gets (DataAt i) v ∷ [])) some
      (λ e.
      subst (λ z. To call (by_script purpose b (rest v)) (process_after_script b c purpose (rest v)) (es ++ Moves p Gets (DataAt z) v ∷ [])) (sym (eqb-true i j e))
      (settles call whole purpose b c (rest v) (es ++ Moves p Gets (DataAt j) v ∷ []) goes ends (plays_get p whole es j rest v h)))
  script_steps call whole purpose s b c (Writes j x rest) d Puts (DataAt i) v es goes ends h some =
      guard_process_state ((i == j) && (v == x)) (process_after_script b c purpose rest) d (λ y. To call (by_script purpose b rest) y (es ++ Moves p Puts (DataAt i) v ∷ [])) some
      (λ e.
      let both = and_parts (i == j) (v == x) e in
      let at = eqb-true i j both.0 in
      let value = eqb-true v x both.1 in
      let same : es ++ Moves p Puts (DataAt j) x ∷ [] ≡ es ++ Moves p Puts (DataAt i) v ∷ [] = λ k. es ++ Moves p Puts (DataAt (sym at k)) (sym value k) ∷ [] in
      subst (To call (by_script purpose b rest) (process_after_script b c purpose rest)) same
      (settles call whole purpose b c rest (es ++ Moves p Puts (DataAt j) x ∷ []) goes ends (plays_put p whole es j x rest h)))
  script_steps call whole purpose s b c _ d _ _ v es goes ends h some = absurd (cc)

  mend_ends : Ending Consistent (consistent l p) Mending
  mend_ends b c (Ruined ruined) es h = ((refl, refl), (ruined, h))
  mend_ends b c _ es h = ((refl, refl), h)

  -- one step of a call
  moves_on : (call : Call) (s : Place) (b c : Bool) (e : ScriptState) (d : ProcessState) (kind : Kind) (word : Word) (v : ℕ) (es : List WorldEvent) → CameBy call s b c e es → is_glance kind ≡ false → Acts call s b c e d kind word v es
  moves_on Lock s b c Free d kind word v es h moves some = lock_steps s b c d kind word v es h some moves
  moves_on Recover s b c Free d kind word v es h moves some = recover_steps s b c d kind word v es h some moves
  moves_on Unlock s b c Free d kind word v es h moves some = exit_steps s b c d kind word v es h some moves
  moves_on Withdraw s b c Free d kind word v es h moves some = withdraw_steps s b c d kind word v es h some moves
  moves_on Lock s b c (Doing Checking left) d kind word v es h moves some =
      subst (λ z. Acts Lock s b z (Doing Checking left) d kind word v es) (sym h.0) (subst (λ x. Acts Lock s b false (Doing Checking x) d kind word v es) (sym h.1) (check_steps s b d kind word v es h.2)) some
  moves_on Unlock s b c (Doing Ruining left) d kind word v es h moves some =
      subst (λ z. Acts Unlock s b z (Doing Ruining left) d kind word v es) (sym h.1) (subst (λ x. Acts Unlock s b false (Doing Ruining x) d kind word v es) (sym h.2) (ruin_steps s b d kind word v es h.0 h.3)) some
  moves_on Consistent s b c (Doing Mending left) d kind word v es h moves some = script_steps Consistent (consistent l p) Mending s b c left d kind word v es (λ b c x es k. k) mend_ends h some
  moves_on (Append seq value) s b c (Doing (Working t) left) d kind word v es h moves some =
      script_steps (Append seq value) (script l p (task.Append seq value)) (Working t) s b c left d kind word v es (λ b c x es k. k) (λ b c a es k. ((refl, refl), k)) h some
  moves_on Close s b c (Doing (Working t) left) d kind word v es h moves some = script_steps Close (script l p task.Close) (Working t) s b c left d kind word v es (λ b c x es k. k) (λ b c a es k. ((refl, refl), k)) h some
  moves_on (Get i) s b c (Doing (Working t) left) d kind word v es h moves some = script_steps (Get i) (script l p (task.BoardGet i)) (Working t) s b c left d kind word v es (λ b c x es k. k) (λ b c a es k. ((refl, refl), k)) h some
  moves_on (Put i x) s b c (Doing (Working t) left) d kind word v es h moves some =
      script_steps (Put i x) (script l p (task.BoardPut i x)) (Working t) s b c left d kind word v es (λ b c x es k. k) (λ b c a es k. ((refl, refl), k)) h some
  moves_on _ s b c _ d kind word v es h moves some = absurd (cc)

  step : (call : Call) (x : ProcessState) (kind : Kind) (word : Word) (v : ℕ) (es : List WorldEvent) → Came call x es → IsSome (next_process_state l limit x (Moves p kind word v)) → is_glance kind ≡ false
      → To call (answer_at x kind v) (next_or_same l limit x (Moves p kind word v)) (es ++ Moves p kind word v ∷ [])
  step call x kind word v es h some moves = moves_on call x.lock x.mended x.barred x.script_state x kind word v es h moves some

  -- where no call is under way no step is allowed
  rests : (x : ProcessState) (kind : Kind) (word : Word) (v : ℕ) → IsOver x → IsSome (next_process_state l limit x (Moves p kind word v)) → is_glance kind ≡ false → ⊥
  rests x kind word v over some moves =
      none (next l.procs limit p x.lock kind word v) (subst (λ e. IsSome (moved_by l limit p x.lock x.mended x.barred e kind word v)) over.1 some)
      (λ may. let part : IsSome (lock_part x.lock) = (goes_on l.procs p limit x.lock kind word v may moves).0 in let gone : IsSome {T = CoreCall} None = subst IsSome over.0 part in absurd (cc))
    where
      none : (o : Option Place) → IsSome (at_lock l p x.lock x.mended x.barred o) → (IsSome o → ⊥) → ⊥
      none None some h = absurd (cc)
      none (Some t) some h = h refl

  nothing_more : (es : List WorldEvent) (e : WorldEvent) (x : ProcessState) → IsOver x → Follow l limit p x (es ++ e ∷ []) → ⊥
  nothing_more [] (Moves q kind word v) x over f = rests x kind word v over (subst (λ r. IsSome (next_process_state l limit x (Moves r kind word v))) f.0.0 f.1) f.0.1
  nothing_more [] _ x over f = absurd f.0
  nothing_more (Moves q kind word v ∷ es) e x over f = rests x kind word v over (subst (λ r. IsSome (next_process_state l limit x (Moves r kind word v))) f.0.0 f.1) f.0.1
  nothing_more (_ ∷ es) e x over f = absurd f.0

  own_step : (call : Call) (x : ProcessState) (q : ℕ) (kind : Kind) (word : Word) (v : ℕ) (es : List WorldEvent) → Came call x es → IsMove p (Moves q kind word v) → IsSome (next_process_state l limit x (Moves q kind word v))
      → To call (answer_at x kind v) (next_or_same l limit x (Moves q kind word v)) (es ++ Moves q kind word v ∷ [])
  own_step call x q kind word v es h own some =
      subst (λ r. To call (answer_at x kind v) (next_or_same l limit x (Moves r kind word v)) (es ++ Moves r kind word v ∷ [])) (sym own.0) (step call x kind word v es h (subst (λ r. IsSome (next_process_state l limit x (Moves r kind word v))) own.0 some) own.1)

  walks : (call : Call) (es : List WorldEvent) (x : ProcessState) (front : List WorldEvent) (e : WorldEvent) (a : Answer) → Came call x front → Follow l limit p x (es ++ e ∷ []) → answer_to (last_process_state l limit x es) e ≡ Some a → HasEvents l limit p m call a (front ++ (es ++ e ∷ []))
  walks call [] x front (Moves q kind word v) a h f is =
      (subst (λ o. To call o (next_or_same l limit x (Moves q kind word v)) (front ++ Moves q kind word v ∷ [])) is (own_step call x q kind word v front h f.0 f.1)).1
  walks call [] x front _ a h f is = absurd f.0
  walks call (Moves q kind word v ∷ es) x front e a h f is =
      by (answer_at x kind v) (own_step call x q kind word v front h f.0 f.1) (λ t. walks call es (next_or_same l limit x (Moves q kind word v)) (front ++ Moves q kind word v ∷ []) e a t f.2 is)
    where
      by : (o : Option Answer) → To call o (next_or_same l limit x (Moves q kind word v)) (front ++ Moves q kind word v ∷ [])
          → (Came call (next_or_same l limit x (Moves q kind word v)) (front ++ Moves q kind word v ∷ []) → HasEvents l limit p m call a ((front ++ Moves q kind word v ∷ []) ++ (es ++ e ∷ []))) → HasEvents l limit p m call a (front ++ (Moves q kind word v ∷ (es ++ e ∷ [])))
      by None t rest = subst (HasEvents l limit p m call a) (append_assoc front (Moves q kind word v ∷ []) (es ++ e ∷ [])) (rest t)
      by (Some y) t rest = absurd (nothing_more es e (next_or_same l limit x (Moves q kind word v)) t.0 f.2)
  walks call (_ ∷ es) x front e a h f is = absurd f.0

  works : (call : Call) (s : Place) (b fits : Bool) (t : Task) (d : ProcessState) → IsSome (working l p s b fits t) → CameBy call Inside b false (Doing (Working t) (script l p t)) [] → Came call (unwrap_or (working l p s b fits t) d) []
  works call Inside b fits t d some h = guard_process_state fits (record { lock = Inside; mended = b; barred = false; script_state = Doing (Working t) (script l p t) }) d (λ x. Came call x []) some (λ e. h)
  works call _ b fits t d some h = absurd (cc)

  begun : (s : Place) (b : Bool) (e : ScriptState) (call : Call) (d : ProcessState) → b ≡ m → IsSome (begun_from l p s b e call) → Came call (unwrap_or (begun_from l p s b e call) d) []
  begun Rest b Free Lock d is some = (refl, refl)
  begun Dead b Free Lock d is some = (refl, refl)
  begun Rest b Free Recover d is some = refl
  begun Dead b Free Recover d is some = refl
  begun (Wait k unpassed looked) b Free Withdraw d is some = refl
  begun Inside true Free Unlock d is some = (refl, ap (ruining p) is)
  begun Inside false Free Unlock d is some = (sym is, refl, refl, refl)
  begun Inside false Free Consistent d is some = refl
  begun s b Free (Append seq value) d is some = works (Append seq value) s b (b && (length value == l.width)) (task.Append seq value) d some refl
  begun s b Free Close d is some = works Close s b b task.Close d some refl
  begun s b Free (Get i) d is some = works (Get i) s b (nat_lt i 4) (task.BoardGet i) d some refl
  begun s b Free (Put i v) d is some = works (Put i v) s b (nat_lt i 4) (task.BoardPut i v) d some refl
  begun s b (Doing purpose left) call d is some = absurd (cc)
  begun _ true Free _ d is some = absurd (cc)
  begun _ false Free _ d is some = absurd (cc)

pub answers_have_their_events : AnswersHaveTheirEvents
answers_have_their_events l limit p x call es e a number some follow is =
    walks l limit p number x.mended call es (next_or_same l limit x (Begins p call)) [] e a (begun l limit p number x.mended x.lock x.mended x.script_state call x refl some) follow is
