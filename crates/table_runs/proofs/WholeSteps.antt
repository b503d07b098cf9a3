-- The steps that a whole mailbox call counts are the sum of the table, and at most its bound.
use Rattle.std.proofs.Common.{◌≡◌, ℕ, ◌+◌, ◌*◌, ◌≤◌, Bool, true, false, List, [], ◌∷◌, Option, Some, None, IfSome, Err, refl, sym, ap, ◌∙◌, subst, inl, inr, arith}
use Rattle.table_runs.proofs.Common.{Own, Layout, Reply, Mended, Answer, Call, Lock, Unlock, Consistent, Append, Close, most_steps, own_steps, Entry as Entering, Setup, Askings, AnsweredBy, call_series, LockBy, free_to_start, answer_of}
use Rattle.table_runs.proofs.Common.{process_state_now, Seated, began, many_more, after_further_start, CountsAtMost, words_begun, process_state_begun, table_steps, IsAnswerOf, IsHolder, IsTask, WholeBy, whole_task, mended_by, SumCounts, InsideCounts}
use Rattle.table_runs.proofs.Common.{both, table_sum, StoredAppendSteps, most_inside, most_whole}
use Rattle.rmeworld.specs.declared.answer.Answer.TheVariants as answer
use Rattle.table_runs.specs.declared.lock_fault.LockFault.TheVariants as fault
use Rattle.table_runs.specs.declared.entry_kind.Entry.TheVariants as entering
use Rattle.table_runs.proofs.Counted.{few_out}
use Rattle.table_runs.proofs.Mended.{still_mended, still_unmended}
use Rattle.table_runs.proofs.Tabled.{calls_keep_the_table}
use Rattle.crash_plans.proofs.Counted.{many_add}

both_are : (o p : Option ℕ) (j k : ℕ) → o ≡ Some j → p ≡ Some k → both o p ≡ Some (j + k)
both_are o p j k e f = λ i. both (e i) (f i)

-- the table's number of a task doesn't depend on the words
task_words : (l : Layout) (w u : Own) (m n : Bool) (call : Call) (reply : Reply) → IsTask l call → own_steps l w m call (answer.Mail reply) ≡ own_steps l u n call (answer.Mail reply)
task_words l w u m n (Append seq value) reply is = refl
task_words l w u m n Close reply is = refl
task_words l w u m n _ reply is = absurd is

-- that of an unlock depends only on whether there is something to mend
unlock_words : (l j : Layout) (w u : Own) (m n : Bool) (k : ℕ) → m ≡ n → own_steps j u m Unlock answer.Unlocked ≡ Some k → own_steps l w n Unlock answer.Unlocked ≡ Some k
unlock_words l j w u m n k same h = subst (λ (b : Bool). own_steps l w b Unlock answer.Unlocked ≡ Some k) same h

reply_keeps : (reply : Reply) → mended_by true (answer.Mail reply) ≡ true
reply_keeps (Mended repaired) = refl
reply_keeps _ = refl

entry_mends : (m : Bool) (entry : Entering) → mended_by m (answer_of entry) ≡ mended_by true (answer_of entry)
entry_mends m entering.Clean = refl
entry_mends m entering.OwnerDied = refl

-- one call, by the table
abbrev One : Seated → Call → Answer → ℕ → Seated → Type 0
One x call a blocked y = (k : ℕ) × (table_steps x.seat_view call a ≡ Some k) × (y.steps ≡ many_more (k + blocked) x.steps)

one_counts : (x y : Seated) (call : Call) (a : Answer) (blocked more : ℕ) (a0 a1 : Askings) → AnsweredBy more x (call_series (call ∷ []) (a ∷ []) blocked) y a0 a1 → One x call a blocked y
one_counts x y call a blocked more a0 a1 h =
    let reports = calls_keep_the_table x call (a ∷ []) blocked y h.0 h.1 in
    (reports.0, reports.1, h.1.steps ∙ ap (λ (n : ℕ). many_more n x.steps) reports.2)

-- a call of a holder, and the calls after it
inside_first : (x y z : Seated) (m n : Bool) (c : Call) (a : Answer) (order : List Call) (answers : List Answer) (k : ℕ) → y.seat_view.setup ≡ x.seat_view.setup → mended_by m a ≡ n → ((w : Own) → own_steps x.seat_view.setup.layout w m c a ≡ Some k) → y.steps ≡ many_more (k + 0) x.steps
    → InsideCounts y n order answers z → InsideCounts x m (c ∷ order) (a ∷ answers) z
inside_first x y z m n c a order answers k same mends reports steps h = (
  k + h.0,
  λ w. both_are (own_steps x.seat_view.setup.layout w m c a) (table_sum x.seat_view.setup.layout w (mended_by m a) order answers) k h.0 (reports w)
      (subst (λ (u : Setup × Bool). table_sum u.0.layout w u.1 order answers ≡ Some h.0) (λ i. (same i, sym mends i)) (h.1 w)),
  h.2 ∙ ap (many_more h.0) steps ∙ many_add (k + 0) h.0 x.steps ∙ ap (λ (t : ℕ). many_more t x.steps) (let j = h.0 in let e : (k + 0) + j ≡ k + j = omega arith in e),
)

module _ (x y : Seated) (a : Answer) (a0 a1 : Askings) where
  -- the unlock
  left_counts : (m : Bool) → a ≡ answer.Unlocked → (process_state_begun x.seat_view).mended ≡ m → AnsweredBy 0 x (call_series (Unlock ∷ []) (a ∷ []) 0) y a0 a1 → InsideCounts x m (Unlock ∷ []) (answer.Unlocked ∷ []) y
  left_counts m is mended h =
      let t : AnsweredBy 0 x (call_series (Unlock ∷ []) (answer.Unlocked ∷ []) 0) y a0 a1 = subst (λ (u : Answer). AnsweredBy 0 x (call_series (Unlock ∷ []) (u ∷ []) 0) y a0 a1) is h in
      let one = one_counts x y Unlock answer.Unlocked 0 0 a0 a1 t in
      inside_first x y y m m Unlock answer.Unlocked [] [] one.0 t.1.calls.setup refl (λ w. unlock_words x.seat_view.setup.layout x.seat_view.setup.layout w (words_begun x.seat_view) (process_state_begun x.seat_view).mended m one.0 mended one.1) one.2 (0, (λ w. refl), refl)

module _ (x y z : Seated) (a b : Answer) (a0 a1 a2 : Askings) (idle : x.seat_view.start ≡ None) where
  -- the task and the unlock
  pub work_counts : (task : Call) (reply : Reply) → IsHolder (process_state_now x.seat_view) → (process_state_now x.seat_view).mended ≡ true → IsTask x.seat_view.setup.layout task → a ≡ answer.Mail reply → b ≡ answer.Unlocked
      → AnsweredBy 0 x (call_series (task ∷ []) (a ∷ []) 0) y a0 a1 → AnsweredBy 0 y (call_series (Unlock ∷ []) (b ∷ []) 0) z a1 a2 → InsideCounts x true (task ∷ Unlock ∷ []) (answer.Mail reply ∷ answer.Unlocked ∷ []) z
  work_counts task reply holder mended fits is so h t =
      let d : AnsweredBy 0 x (call_series (task ∷ []) (answer.Mail reply ∷ []) 0) y a0 a1 = subst (λ (u : Answer). AnsweredBy 0 x (call_series (task ∷ []) (u ∷ []) 0) y a0 a1) is h in
      let one = one_counts x y task (answer.Mail reply) 0 0 a0 a1 d in
      let still : (process_state_begun y.seat_view).mended ≡ true = still_mended x y task (answer.Mail reply) 0 d.0 idle d.1 fits holder mended in
      inside_first x y z true true task (answer.Mail reply) (Unlock ∷ []) (answer.Unlocked ∷ []) one.0 d.1.calls.setup (reply_keeps reply)
      (λ w. task_words x.seat_view.setup.layout w (words_begun x.seat_view) true (process_state_begun x.seat_view).mended task reply fits ∙ one.1) one.2 (left_counts y z b a1 a2 true so still t)

  -- a mending that finds the lock ruined, and the unlock
  pub ruined_counts : IsHolder (process_state_now x.seat_view) → (process_state_now x.seat_view).mended ≡ false → a ≡ answer.NotRecoverable → b ≡ answer.Unlocked
      → AnsweredBy 0 x (call_series (Consistent ∷ []) (a ∷ []) 0) y a0 a1 → AnsweredBy 0 y (call_series (Unlock ∷ []) (b ∷ []) 0) z a1 a2 → InsideCounts x false (Consistent ∷ Unlock ∷ []) (answer.NotRecoverable ∷ answer.Unlocked ∷ []) z
  ruined_counts holder unmended is so h t =
      let d : AnsweredBy 0 x (call_series (Consistent ∷ []) (answer.NotRecoverable ∷ []) 0) y a0 a1 = subst (λ (u : Answer). AnsweredBy 0 x (call_series (Consistent ∷ []) (u ∷ []) 0) y a0 a1) is h in
      let one = one_counts x y Consistent answer.NotRecoverable 0 0 a0 a1 d in
      let still : (process_state_begun y.seat_view).mended ≡ false = still_unmended x y Consistent answer.NotRecoverable 0 d.0 idle d.1 refl refl holder unmended in
      inside_first x y z false false Consistent answer.NotRecoverable (Unlock ∷ []) (answer.Unlocked ∷ []) one.0 d.1.calls.setup refl (λ w. one.1) one.2 (left_counts y z b a1 a2 false so still t)

-- a mending, and the calls after it
pub mend_counts : (x y z : Seated) (a : Answer) (a0 a1 : Askings) (mended : Bool) (order : List Call) (answers : List Answer) → a ≡ answer.Mail (Mended mended) → AnsweredBy 0 x (call_series (Consistent ∷ []) (a ∷ []) 0) y a0 a1
    → InsideCounts y true order answers z → InsideCounts x false (Consistent ∷ order) (answer.Mail (Mended mended) ∷ answers) z
mend_counts x y z a a0 a1 mended order answers is h t =
    let d : AnsweredBy 0 x (call_series (Consistent ∷ []) (answer.Mail (Mended mended) ∷ []) 0) y a0 a1 = subst (λ (u : Answer). AnsweredBy 0 x (call_series (Consistent ∷ []) (u ∷ []) 0) y a0 a1) is h in
    let one = one_counts x y Consistent (answer.Mail (Mended mended)) 0 0 a0 a1 d in
    inside_first x y z false true Consistent (answer.Mail (Mended mended)) order answers one.0 d.1.calls.setup refl (λ w. one.1) one.2 t

-- a lock that entered, and the calls after it
pub whole_counts : (x y z : Seated) (turns : ℕ) (entry : Entering) (order : List Call) (answers : List Answer) (a0 a1 : Askings) → (h : LockBy 0 x turns (Some (answer_of entry)) y a0 a1) → InsideCounts y (mended_by true (answer_of entry)) order answers z
    → SumCounts x (Lock ∷ order) (answer_of entry ∷ answers) (h.0 + 0) z
whole_counts x y z turns entry order answers a0 a1 h t =
    let l : Layout = x.seat_view.setup.layout in
    let w : Own = words_begun x.seat_view in
    let m : Bool = (process_state_begun x.seat_view).mended in
    let a : Answer = answer_of entry in
    let one = one_counts x y Lock a h.0 0 a0 a1 h.2 in
    let same : y.seat_view.setup ≡ x.seat_view.setup = h.2.1.calls.setup in
    let later : table_sum l w (mended_by m a) order answers ≡ Some t.0 = subst (λ (u : Setup × Bool). table_sum u.0.layout w u.1 order answers ≡ Some t.0) (λ i. (same i, sym (entry_mends m entry) i)) (t.1 w) in (
      one.0 + t.0,
      both_are (table_steps x.seat_view Lock a) (table_sum l w (mended_by m a) order answers) one.0 t.0 one.1 later,
      t.2 ∙ ap (many_more t.0) one.2 ∙ many_add (one.0 + h.0) t.0 x.steps ∙ ap (λ (n : ℕ). many_more n x.steps) (let j = one.0 in let b = h.0 in let k = t.0 in let e : (j + b) + k ≡ (j + k) + (b + 0) = omega arith in e),
    )

-- a lock with another answer
module _ (x y : Seated) (turns : ℕ) (a0 a1 : Askings) (task : Call) where
  lock_sum : (a : Answer) → (h : LockBy 0 x turns (Some a) y a0 a1) → SumCounts x (Lock ∷ []) (a ∷ []) h.0 y
  lock_sum a h =
      let one = one_counts x y Lock a h.0 0 a0 a1 h.2 in
      (one.0 + 0, both_are (table_steps x.seat_view Lock a) (Some 0) one.0 0 one.1 refl, one.2 ∙ ap (λ (n : ℕ). many_more n x.steps) (let j = one.0 in let b = h.0 in let e : j + b ≡ (j + 0) + b = omega arith in e))

  pub spent_whole : LockBy 0 x turns (Some answer.NumbersSpent) y a0 a1 → WholeBy 0 x (whole_task turns task) (Err fault.NumbersSpent) y a0 a1
  spent_whole h = (Lock ∷ [], answer.NumbersSpent ∷ [], h.0, inr (h.1, inl (refl, refl, refl)), h.2, lock_sum answer.NumbersSpent h)

  pub ruined_whole : LockBy 0 x turns (Some answer.NotRecoverable) y a0 a1 → WholeBy 0 x (whole_task turns task) (Err fault.NotRecoverable) y a0 a1
  ruined_whole h = (Lock ∷ [], answer.NotRecoverable ∷ [], h.0, inr (h.1, inr (inl (refl, refl, refl))), h.2, lock_sum answer.NotRecoverable h)

  pub late_whole : LockBy 0 x turns None y a0 a1 → WholeBy 0 x (whole_task turns task) (Err fault.NotYet) y a0 a1
  late_whole h =
      let reports = calls_keep_the_table x Lock [] (turns + 1) y h.0 h.1 in
      (Lock ∷ [], [], turns + 1, inl (refl, refl, refl, refl), h, (reports.0, reports.2, h.1.steps ∙ ap (λ (n : ℕ). many_more n x.steps) reports.1))

-- upper bounds of two parts add up
pub at_most_both : (x y z : Seated) (j k : ℕ) → CountsAtMost j x y → CountsAtMost k y z → CountsAtMost (j + k) x z
at_most_both x y z j k h t = (h.0 + t.0, (let a = h.1 in let b = t.1 in omega arith), t.2 ∙ ap (many_more t.0) h.2 ∙ many_add h.0 t.0 x.steps)

pub at_most_more : (x y z : Seated) (j most : ℕ) → j ≤ most → CountsAtMost j x y → z.steps ≡ y.steps → CountsAtMost most x z
at_most_more x y z j most few h same = (h.0, (let a = h.1 in omega arith), same ∙ h.2)

pub none_at_most : (x z : Seated) (most : ℕ) → z.steps ≡ x.steps → CountsAtMost most x z
none_at_most x z most same = (0, omega arith, same)

-- a call after another one counts on
pub few_after : (y w z : Seated) (call : Call) → w ≡ after_further_start y call → CountsAtMost (most_steps w.seat_view.setup.layout call) w z → CountsAtMost (most_steps y.seat_view.setup.layout call) y z
few_after y w z call e h = subst (λ (u : Seated). CountsAtMost (most_steps u.seat_view.setup.layout call) u z) e h

pub awaits : (y w : Seated) (call : Call) → w ≡ after_further_start y call → w.seat_view.start ≡ Some call
awaits y w call e = ap (λ (u : Seated). u.seat_view.start) e

-- sums of the parts' bounds
sum_joined : (a b c : ℕ) → a + (b + c) ≤ (a + b) + c
sum_joined a b c = omega arith

sum_moved : (a b c : ℕ) → (a + b) + c ≤ (a + c) + b
sum_moved a b c = omega arith

sum_less : (a b c : ℕ) → a + b ≤ (a + c) + b
sum_less a b c = omega arith

-- a mending, and the calls after it
pub mend_few : (x y z : Seated) (task : Call) → y.seat_view.setup ≡ x.seat_view.setup → CountsAtMost (most_steps x.seat_view.setup.layout Consistent) x y → CountsAtMost (most_steps y.seat_view.setup.layout task + 3) y z → CountsAtMost (most_inside x.seat_view.setup.layout task) x z
mend_few x y z task same h t =
    let l : Layout = x.seat_view.setup.layout in
    let mended : ℕ = most_steps l Consistent in
    let worked : ℕ = most_steps l task in
    let later : CountsAtMost (worked + 3) y z = subst (λ (s : Setup). CountsAtMost (most_steps s.layout task + 3) y z) same t in
    at_most_more x z z (mended + (worked + 3)) (most_inside l task) (sum_joined mended worked 3) (at_most_both x y z mended (worked + 3) h later) refl

pub ruined_few : (x y z : Seated) (task : Call) → CountsAtMost (most_steps x.seat_view.setup.layout Consistent) x y → CountsAtMost 3 y z → CountsAtMost (most_inside x.seat_view.setup.layout task) x z
ruined_few x y z task h t =
    let l : Layout = x.seat_view.setup.layout in
    let mended : ℕ = most_steps l Consistent in
    at_most_more x z z (mended + 3) (most_inside l task) (sum_less mended 3 (most_steps l task)) (at_most_both x y z mended 3 h t) refl

-- the answer of a lock that had no other outcome
pub ruined_is : (a : Answer) → IsAnswerOf Lock a → (a ≡ answer.Clean → ⊥) → (a ≡ answer.OwnerDied → ⊥) → (a ≡ answer.NumbersSpent → ⊥) → a ≡ answer.NotRecoverable
ruined_is answer.Clean f clean died spent = absurd (clean refl)
ruined_is answer.OwnerDied f clean died spent = absurd (died refl)
ruined_is answer.NumbersSpent f clean died spent = absurd (spent refl)
ruined_is answer.NotRecoverable f clean died spent = refl
ruined_is _ f clean died spent = absurd f

pub fits_some : (o : Option Answer) (a : Answer) (P : Answer → Type 0) → o ≡ Some a → IfSome o P → P a
fits_some o a P is h = subst (λ (p : Option Answer). IfSome p P) is h

-- the lock, and what comes after it
module _ (x u y z : Seated) (task : Call) (turns : ℕ) (e : u ≡ began (free_to_start x) Lock) where
  abbrev most_of : Layout → ℕ
  most_of l = most_whole l task + turns

  pub few_whole : y.seat_view.setup ≡ u.seat_view.setup → CountsAtMost (most_steps u.seat_view.setup.layout Lock + turns) u y → CountsAtMost (most_inside y.seat_view.setup.layout task) y z → z.steps ≤ most_whole x.seat_view.setup.layout task + turns
  few_whole same h t =
      let l : Layout = u.seat_view.setup.layout in
      let later : CountsAtMost (most_inside l task) y z = subst (λ (s : Setup). CountsAtMost (most_inside s.layout task) y z) same t in
      few_out x u z Lock most_of e (at_most_more u z z ((most_steps l Lock + turns) + most_inside l task) (most_of l) (sum_moved (most_steps l Lock) turns (most_inside l task)) (at_most_both u y z (most_steps l Lock + turns) (most_inside l task) h later) refl)

  -- a lock that is cut off
  pub few_lock : CountsAtMost (most_steps u.seat_view.setup.layout Lock + turns) u y → y.steps ≤ most_whole x.seat_view.setup.layout task + turns
  few_lock h =
      let l : Layout = u.seat_view.setup.layout in
      few_out x u y Lock most_of e (at_most_more u y y (most_steps l Lock + turns) (most_of l) (sum_less (most_steps l Lock) turns (most_inside l task)) h refl)

-- an append that stores, in numbers
pub stored_append_steps : StoredAppendSteps
stored_append_steps l mended seq value = ap (λ (k : ℕ). Some k) (sums l.procs l.width)
  where
    sums : (n w : ℕ) → (3 * n + 4 + 1) + ((11 + 2 * w) + (2 + 0)) ≡ 3 * n + 18 + 2 * w
    sums n w = omega arith
