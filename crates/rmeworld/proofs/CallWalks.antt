-- The steps of one call, of any process, from its own events alone.
use Rattle.std.proofs.Common.{◌≡◌, ℕ, suc, ◌+◌, ◌<◌, Bool, true, false, if◌then◌else◌, List, [], ◌∷◌, length, Option, Some, None, IsSome, refl, sym, ap, ◌∙◌, subst, arith}
use Rattle.rmeworld.proofs.Common.{Kind, Own, Word, Layout, Mended, Answer, Mail, Call, Unlock, Consistent, answer_at, blocked_by, next_or_same, Walks, blocked_in, and_answer, answers_in, last_process_state}
use Rattle.rmeworld.proofs.Common.{WalksCall, call_begin, CallsTakeTheirSteps, own_steps, ProcessState, WorldEvent, Begins, Moves, next_process_state, part_call, call_by, call_at}
use Rattle.rmeworld.proofs.CallBounds.{fewer_at}
use Rattle.rmeworld.proofs.CallSteps.{more, IsOver, To, step_by, start_to, over_rests}

-- only an unlock depends on whether the holder is mended
same_table : (l : Layout) (w : Own) (call : Call) (a : Answer) (m m' : Bool) → (Some call ≡ Some Unlock → m ≡ m') → own_steps l w m call a ≡ own_steps l w m' call a
same_table l w Unlock a m m' same = ap (λ b. own_steps l w b Unlock a) (same refl)
same_table l w Consistent (Mail (Mended b)) m m' same = refl
same_table l w _ _ m m' same = refl

pub over_is_none : (process_state : ProcessState) → IsOver process_state → call_at process_state ≡ None
over_is_none process_state over = ap (call_by process_state.lock process_state.barred) over.1 ∙ ap (λ part. part_call part process_state.barred) over.0

counts : (b : Bool) (x k blocked : ℕ) → k ≡ x + blocked → k + 1 ≡ more b x + (blocked + (if b then 1 else 0))
counts true x k blocked h = omega arith
counts false x k blocked h = omega arith

module _ (l : Layout) (limit p : ℕ) (w : Own) (below : p < l.procs) where
  moved : (m : Bool) (call : Call) (answers : List Answer) (process_state : ProcessState) (n n' b b' : ℕ) → n ≡ n' → b ≡ b' → WalksCall l (call_begin w m) call answers process_state n b → WalksCall l (call_begin w m) call answers process_state n' b'
  moved m call answers process_state n n' b b' e f h = subst (λ x. WalksCall l (call_begin w m) call answers process_state x b') e (subst (λ x. WalksCall l (call_begin w m) call answers process_state n x) f h)

  -- after one step, with this answer
  after_it : (o : Option Answer) (es : List WorldEvent) (process_state t : ProcessState) (m : Bool) (call : Call) (x k b : ℕ) → To l w process_state.mended (call_at process_state) o t x → call_at process_state ≡ Some call → (Some call ≡ Some Unlock → process_state.mended ≡ m) → k ≡ x + b → Walks l limit p w t es
      → (To l w m (Some call) None t x → WalksCall l (call_begin w m) call (answers_in l limit t es) (last_process_state l limit t es) (k + length es) (b + blocked_in l limit t es))
      → WalksCall l (call_begin w m) call (and_answer o (answers_in l limit t es)) (last_process_state l limit t es) (k + length es) (b + blocked_in l limit t es)
  after_it None es process_state t m call x k b to is same sum walks rest = rest (to.0, to.1 ∙ is, (λ e. to.2 (is ∙ e) ∙ same e))
  after_it (Some a) [] process_state t m call x k b to is same sum walks rest =
      let own = to.2 in
      let it : own.0 ≡ call = let f : Some own.0 ≡ Some call = sym own.1 ∙ is in cc in
      (over_is_none t to.1, (x, sym (same_table l w call a process_state.mended m same) ∙ ap (λ c. own_steps l w process_state.mended c a) (sym it) ∙ own.2, (let f : k + 0 ≡ x + (b + 0) = omega arith in f)))
  after_it (Some a) (Moves q kind word v ∷ es) process_state t m call x k b to is same sum walks rest =
      absurd (over_rests l p w limit below t kind word v to.1 (subst (λ r. IsSome (next_process_state l limit t (Moves r kind word v))) walks.0.0 walks.1) walks.0.1)
  after_it (Some a) (_ ∷ es) process_state t m call x k b to is same sum walks rest = absurd walks.0

  abbrev Telling : List WorldEvent → Type 0
  Telling es =
      (process_state : ProcessState) (m : Bool) (call : Call) (x k b : ℕ) → To l w m (Some call) None process_state x → k ≡ x + b → Walks l limit p w process_state es
      → WalksCall l (call_begin w m) call (answers_in l limit process_state es) (last_process_state l limit process_state es) (k + length es) (b + blocked_in l limit process_state es)

  one_more : (kind : Kind) (word : Word) (v : ℕ) (es : List WorldEvent) → Telling es → Telling (Moves p kind word v ∷ es)
  one_more kind word v es rest process_state m call x k b to sum walks =
      let blocked : Bool = blocked_by p process_state.lock process_state.script_state kind v in
      let t : ProcessState = next_or_same l limit process_state (Moves p kind word v) in
      let step = step_by l p w limit below process_state kind word v x walks.1 walks.0.1 (λ free. walks.0.2) to.0 in
      let count = counts blocked x k b sum in
      let long : k + 1 + length es ≡ k + suc (length es) = omega arith in
      let all : b + (if blocked then 1 else 0) + blocked_in l limit t es ≡ b + ((if blocked then 1 else 0) + blocked_in l limit t es) = omega arith in
      moved m call _ _ _ _ _ _ long all
      (after_it (answer_at process_state kind v) es process_state t m call (more blocked x) (k + 1) (b + (if blocked then 1 else 0)) step to.1 to.2 count walks.2
      (λ now. rest t m call (more blocked x) (k + 1) (b + (if blocked then 1 else 0)) now count walks.2))

  tells : (es : List WorldEvent) → Telling es
  tells [] process_state m call x k b to sum walks = (to.1, (x, to.0, (let f : k + 0 ≡ x + (b + 0) = omega arith in f), fewer_at l w (omega arith) process_state call x to.1 to.0))
  tells (Moves q kind word v ∷ es) process_state m call x k b to sum walks =
      subst (λ r. Telling (Moves r kind word v ∷ es)) (sym walks.0.0) (one_more kind word v es (tells es)) process_state m call x k b to sum walks
  tells (_ ∷ es) process_state m call x k b to sum walks = absurd walks.0

pub calls_take_their_steps : CallsTakeTheirSteps
calls_take_their_steps l limit p began process_state call es below some walks =
    let first : ProcessState = next_or_same l limit process_state (Begins p call) in
    let long : 0 + length es ≡ length es = omega arith in
    let blocked : 0 + blocked_in l limit first es ≡ blocked_in l limit first es = omega arith in
    moved l limit p began below process_state.mended call _ _ _ _ _ _ long blocked (tells l limit p began below es first process_state.mended call 0 0 0 (start_to l p began limit process_state call some) refl walks)
