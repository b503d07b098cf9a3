-- A worker that is answered NotRecoverable has read that the lock is ruined.
use Rattle.std.proofs.Common.{◌≡◌, ℕ, ◌==◌, Bool, true, false, if◌then◌else◌, List, [], ◌∷◌, ◌++◌, Option, Some, None, Result, Ok, Err, IfErr, IsSome, refl, sym, ap, ◌∙◌, subst, inl, inr, append_assoc, eqb-true}
use Rattle.table_runs.proofs.Common.{cases_Bool, All-head, All-tail, Kind, Word, Data as DataAt, answer, is_glance, Place, Layout, Reply, Task, Script, Done, tail, repair, consistent}
use Rattle.table_runs.proofs.Common.{Answer, NotRecoverable as RuinedAnswer, OwnerDied, Unlocked, Call, Lock, Append, Checking, Ruining, Mending, Working, by_lock, by_reply, by_script, answer_at, answer_by}
use Rattle.table_runs.proofs.Common.{and_answer, is_idle, ScriptState, Free, Doing, ProcessState, next_process_state, WorldEvent, at_rest, Moves, process_after_script, moved_by, TakenStep, LockFault, Setup, AreMoves, answers_from}
use Rattle.table_runs.proofs.Common.{ServedAll, process_state_before, free_to_start, process_state_now, own_of, last_call, last_of, AreInWorkerOrder, ReadsRuin, HasReadRuin, Seated, began, before, access_event, world_events, events_of_run}
use Rattle.table_runs.proofs.Common.{IsRun, process_state_past, AllowsEvents, AllReplies, Askings, WholeEnds, AppendFails, append_request, IsWholeOutcome}
use Rattle.rmecore.specs.declared.core_done.CoreDone.{CoreDone}
use Rattle.rmecore.specs.declared.core_done.CoreDone.TheVariants as ends
use Rattle.rmecore.specs.declared.kind.Kind.TheVariants.{Get as Gets}
use Rattle.redomail.specs.declared.reply.Reply.TheVariants as reply
use Rattle.table_runs.specs.declared.lock_fault.LockFault.TheVariants.{NumbersSpent, NotRecoverable, NotYet}
use Rattle.rmeworld.proofs.CallSteps.{guard_process_state}
use Rattle.table_runs.proofs.Begun.{replies_tail}
use Rattle.table_runs.proofs.OneStep.{run_goes, goes_front, goes_back}
use Rattle.table_runs.proofs.Ordered.{own_now, mine_order}
use Rattle.table_runs.proofs.Outside.{ready_same}
use Rattle.table_runs.proofs.Ruins.{IsMended, IsRuin, Stands, StandsAt, entry_stands, before_stands, walk, later_ruin}
use Rattle.table_runs.proofs.Running.{taken_moves}
use Rattle.table_runs.proofs.Runs.{spelled-append}

lock_never_crashes : (o : Option CoreDone) → by_lock false o ≡ Some RuinedAnswer → ⊥
lock_never_crashes None e = absurd (cc)
lock_never_crashes (Some ends.In) e = absurd (cc)
lock_never_crashes _ e = absurd (cc)

check_never_crashes : (b ruined : Bool) → by_reply Checking b (reply.Ruined ruined) ≡ Some RuinedAnswer → ⊥
check_never_crashes b true e = absurd (cc)
check_never_crashes true false e = absurd (cc)
check_never_crashes false false e = absurd (cc)

mended_never_crashes : (left : Script Reply) (b : Bool) → AllReplies IsMended left → by_script Mending b left ≡ Some RuinedAnswer → ⊥
mended_never_crashes (Done (reply.Mended x)) b h e = absurd (cc)
mended_never_crashes (Done _) b h e = absurd h
mended_never_crashes _ b h e = absurd (cc)

work_never_crashes : (t : Task) (left : Script Reply) (b : Bool) → by_script (Working t) b left ≡ Some RuinedAnswer → ⊥
work_never_crashes t (Done r) b e = absurd (cc)
work_never_crashes t _ b e = absurd (cc)

module _ (l : Layout) (last : Option Call) (s : Place) (b c : Bool) (limit p : ℕ) where
  -- the reading with which a mending begins
  first_ruin : (q : ℕ) (kind : Kind) (word : Word) (v : ℕ) → IsSome (moved_by l limit p s b c (Doing Mending (consistent l q)) kind word v) → by_script Mending b (tail (consistent l q) v) ≡ Some RuinedAnswer → IsRuin kind word v
  first_ruin q Gets (DataAt i) v some e =
      guard_process_state (i == 0) (process_after_script b c Mending (if v == 1 then Done (reply.Ruined true) else repair l q)) at_rest (λ t. IsRuin Gets (DataAt i) v) some
      (λ is. elim (cases_Bool (v == 1)) [ inl ruined ↦ (refl, ap DataAt (eqb-true i 0 is), eqb-true v 1 ruined) | inr other ↦ absurd (let no : by_script Mending b (repair l q) ≡ Some RuinedAnswer = rw other at e in cc) ])
  first_ruin q _ _ v some e = absurd (cc)

  ruin_reported : (e : ScriptState) (kind : Kind) (word : Word) (v : ℕ) → Stands l last s b c e → IsSome (moved_by l limit p s b c e kind word v) → answer_by s b c e kind v ≡ Some RuinedAnswer → IsRuin kind word v
  ruin_reported Free kind word v h some a = absurd (lock_never_crashes (answer s kind v) (subst (λ (x : Bool). by_lock x (answer s kind v) ≡ Some RuinedAnswer) h.0 a))
  ruin_reported (Doing Checking left) kind word v h some a = absurd (check_never_crashes b (v == 1) (subst (λ (r : Script Reply). by_script Checking b (tail r v) ≡ Some RuinedAnswer) h.1 a))
  ruin_reported (Doing Ruining left) kind word v h some a = absurd h
  ruin_reported (Doing Mending left) kind word v (never_crashes, inl (q, is)) some a =
      first_ruin q kind word v (subst (λ (r : Script Reply). IsSome (moved_by l limit p s b c (Doing Mending r) kind word v)) is some) (subst (λ (r : Script Reply). by_script Mending b (tail r v) ≡ Some RuinedAnswer) is a)
  ruin_reported (Doing Mending left) kind word v (never_crashes, inr h) some a = absurd (mended_never_crashes (tail left v) b (replies_tail IsMended left v h) a)
  ruin_reported (Doing (Working t) left) kind word v h some a = absurd (work_never_crashes t (tail left v) b a)

module _ (s : Setup) where
  -- an entry with this answer
  entry_reported : (last : Option Call) (q : ProcessState) (e : TakenStep) → StandsAt s.layout last q → AreInWorkerOrder last (e ∷ []) → AllowsEvents s q (world_events e) → is_glance e.step.kind ≡ false → answer_at (process_state_before s q e) e.step.kind e.value ≡ Some RuinedAnswer → ReadsRuin e
  entry_reported last q e h order goes move a =
      let hs = before e.step.crashed e.step.start e.by in
      let x = access_event e.by e.step.kind e.step.word e.value in
      let t = process_state_past s q hs in
      let first = before_stands s last e.step.crashed e.step.start e.by q h order.0 (goes_front s q hs (x ∷ []) goes) in
      let some : IsSome (next_process_state s.layout s.limit t (Moves e.by e.step.kind e.step.word e.value)) = subst (λ (y : WorldEvent). IsSome (next_process_state s.layout s.limit t y)) (taken_moves e.by e.step.kind e.step.word e.value move) (goes_back s q hs (x ∷ []) goes).0 in
      ruin_reported s.layout (last_call last e.step.crashed e.step.start) t.lock t.mended t.barred s.limit e.by t.script_state e.step.kind e.step.word e.value first some a

  pub reported_ruin : (last : Option Call) (q : ProcessState) (es : List TakenStep) (reports rest : List Answer) → StandsAt s.layout last q → AreInWorkerOrder last es → AllowsEvents s q (events_of_run es) → AreMoves es → answers_from s q es ≡ reports ++ RuinedAnswer ∷ rest → HasReadRuin es
  reported_ruin last q [] [] rest h order goes moves a = absurd (cc)
  reported_ruin last q [] (t ∷ ts) rest h order goes moves a = absurd (let k : [] ≡ t ∷ (ts ++ RuinedAnswer ∷ rest) = a in cc)
  reported_ruin last q (e ∷ es) reports rest h order goes moves a = go (answer_at (process_state_before s q e) e.step.kind e.value) refl reports a (λ more k.
      next (λ stands.
      reported_ruin (last_call last e.step.crashed e.step.start) (process_state_past s q (world_events e)) es more rest stands order.1 (goes_back s q (world_events e) (events_of_run es) goes) (All-tail (λ (f : TakenStep). is_glance f.step.kind ≡ false) e es moves) k))
    where
      M : TakenStep → Type 0
      M f = is_glance f.step.kind ≡ false

      here_goes : AllowsEvents s q (world_events e)
      here_goes = goes_front s q (world_events e) (events_of_run es) goes

      others : List Answer
      others = answers_from s (process_state_past s q (world_events e)) es

      next : (StandsAt s.layout (last_call last e.step.crashed e.step.start) (process_state_past s q (world_events e)) → HasReadRuin es) → HasReadRuin (e ∷ es)
      next later = elim (entry_stands s last q e h order.0 here_goes) [
        | inl ruin ↦ record { front = []; entry = e; back = es; is = refl; reads = ruin }
        | inr stands ↦ later_ruin s e es (later stands)
      ]

      go : (o : Option Answer) → answer_at (process_state_before s q e) e.step.kind e.value ≡ o → (before_it : List Answer) → answers_from s q (e ∷ es) ≡ before_it ++ RuinedAnswer ∷ rest → ((more : List Answer) → others ≡ more ++ RuinedAnswer ∷ rest → HasReadRuin (e ∷ es)) → HasReadRuin (e ∷ es)
      go None none before_it k later = later before_it (subst (λ (o : Option Answer). and_answer o others ≡ before_it ++ RuinedAnswer ∷ rest) none k)
      go (Some d) some [] k later =
          let whole : d ∷ others ≡ RuinedAnswer ∷ rest = subst (λ (o : Option Answer). and_answer o others ≡ RuinedAnswer ∷ rest) some k in
          let same : d ≡ RuinedAnswer = cc in
          record { front = []; entry = e; back = es; is = refl; reads = entry_reported last q e h (order.0, tt) here_goes (All-head M e es moves) (some ∙ ap Some same) }
      go (Some d) some (f ∷ fs) k later =
          let whole : d ∷ others ≡ f ∷ (fs ++ RuinedAnswer ∷ rest) = subst (λ (o : Option Answer). and_answer o others ≡ f ∷ (fs ++ RuinedAnswer ∷ rest)) some k in
          later fs (let same : others ≡ fs ++ RuinedAnswer ∷ rest = cc in same)

  left_ruin : (xs ys : List TakenStep) → HasReadRuin xs → HasReadRuin (xs ++ ys)
  left_ruin xs ys h = record { front = h.front; entry = h.entry; back = h.back ++ ys; is = ap (λ (l : List TakenStep). l ++ ys) h.is ∙ append_assoc h.front (h.entry ∷ h.back) ys; reads = h.reads }

  right_ruin : (xs ys : List TakenStep) → HasReadRuin ys → HasReadRuin (xs ++ ys)
  right_ruin xs ys h = record { front = xs ++ h.front; entry = h.entry; back = h.back; is = ap (λ (l : List TakenStep). xs ++ l) h.is ∙ sym (append_assoc xs h.front (h.entry ∷ h.back)); reads = h.reads }

-- calls, one of which has this answer
served_reported : (x y : Seated) (order : List Call) (answers reports rest : List Answer) (blocked : ℕ) (mine : List TakenStep) → ServedAll (began (free_to_start x) Lock) order answers blocked y mine → AreInWorkerOrder None (own_of x.seat_view) → AreInWorkerOrder None (own_of x.seat_view ++ mine) → answers ≡ reports ++ RuinedAnswer ∷ rest
    → HasReadRuin (own_of y.seat_view)
served_reported x y order answers reports rest blocked mine served old all is =
    let z = began (free_to_start x) Lock in
    let s = z.seat_view.setup in
    let own_y = own_now x y mine served.calls in
    let own_z = (ready_same (is_idle (process_state_now x.seat_view)) x).2 in
    let run : IsRun s y.seat_view.seen = subst (λ (u : Setup). IsRun u y.seat_view.seen) served.calls.setup served.calls.run in
    let goes : AllowsEvents s at_rest (events_of_run (own_of x.seat_view) ++ events_of_run mine) = subst (AllowsEvents s at_rest) (ap events_of_run own_y ∙ spelled-append (own_of x.seat_view) mine) (run_goes s y.seat_view.seen y.seat_view.by run) in
    subst HasReadRuin (sym own_y) (elim (walk s None at_rest (own_of x.seat_view) (refl, λ e. absurd (cc)) old (goes_front s at_rest (events_of_run (own_of x.seat_view)) (events_of_run mine) goes)) [
      | inl ruin ↦ left_ruin s (own_of x.seat_view) mine ruin
      | inr stands ↦
          right_ruin s (own_of x.seat_view) mine
          (reported_ruin s (last_of None (own_of x.seat_view)) (process_state_past s at_rest (events_of_run (own_of x.seat_view))) mine reports rest stands (mine_order None (own_of x.seat_view) mine all) (goes_back s at_rest (events_of_run (own_of x.seat_view)) (events_of_run mine) goes) served.moves
          (subst (λ (es : List TakenStep). answers_from s (process_state_past s at_rest (events_of_run es)) mine ≡ reports ++ RuinedAnswer ∷ rest) own_z (served.answered ∙ is)))
    ])

module _ (x y : Seated) (seq : ℕ) (value : List ℕ) (a b : Askings) (old : AreInWorkerOrder None (own_of x.seat_view)) (now : AreInWorkerOrder None (own_of y.seat_view)) where
  whole_reported : (turns : ℕ) (e : LockFault) → e ≡ NotRecoverable → WholeEnds (began (free_to_start x) Lock) turns (Append seq value) (Err e) y a b → HasReadRuin (own_of y.seat_view)
  whole_reported turns e is h = by h.3
    where
      all : AreInWorkerOrder None (own_of x.seat_view ++ h.4.0)
      all = subst (AreInWorkerOrder None) (own_now x y h.4.0 h.4.1.calls) now

      by : IsWholeOutcome turns (Append seq value) (Err e) h.0 h.1 h.2 → HasReadRuin (own_of y.seat_view)
      by (inl k) = absurd (let no_turn : NotYet ≡ NotRecoverable = sym k.0 ∙ is in cc)
      by (inr (few, inl k)) = absurd (let spent : NumbersSpent ≡ NotRecoverable = sym k.0 ∙ is in cc)
      by (inr (few, inr (inl k))) = served_reported x y h.0 h.1 [] [] h.2 h.4.0 h.4.1 old all k.2
      by (inr (few, inr (inr k))) = served_reported x y h.0 h.1 (OwnerDied ∷ []) (Unlocked ∷ []) h.2 h.4.0 h.4.1 old all k.2

  fails_reported : (turns : ℕ) (e : LockFault) → e ≡ NotRecoverable → AppendFails x turns (append_request seq value) y a b e → HasReadRuin (own_of y.seat_view)
  fails_reported turns e is (inl h) = absurd (cc)
  fails_reported turns e is (inr (wide, inl h)) = absurd (cc)
  fails_reported turns e is (inr (wide, inr (may, inl h))) = absurd (let k = h.0 in cc)
  fails_reported turns e is (inr (wide, inr (may, inr h))) = whole_reported turns e is h

  pub append_reported : (r : Result Reply LockFault) (e : LockFault) → r ≡ Err e → e ≡ NotRecoverable → IfErr r (λ e. (turns : ℕ) × AppendFails x turns (append_request seq value) y a b e) → HasReadRuin (own_of y.seat_view)
  append_reported (Ok reply) e is ruined h = absurd (cc)
  append_reported (Err f) e is ruined h = fails_reported h.0 f (let same : f ≡ e = cc in same ∙ ruined) h.1
