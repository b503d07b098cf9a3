-- The steps that a member counts of its calls are those of the table.
use Rattle.std.proofs.Common.{◌≡◌, ℕ, zero, suc, ◌+◌, ◌^◌, ◌<◌, ◌≤◌, List, [], ◌∷◌, ◌++◌, length, drop, Option, Some, None, Result, Ok, Err, IfOk, IfErr, OnOk, refl, sym, ap, ◌∙◌, subst, arith}
use Rattle.table_runs.proofs.Common.{one_more, Layout, IsLayout, Answer, Call, Lock, Consistent, Append, most_steps, is_idle, IsSize, TakenStep, LockFault, Setup, Served}
use Rattle.table_runs.proofs.Common.{answers_of, blocked_of, TakesSteps, blocks, Ran, CutOff, Askings, NeverCrashes, Turning, LockEnds, free_to_start, SeatView, IsSeatView, process_state_now, Calls, Seated, began, many_more, entries_of, KeepsTable}
use Rattle.table_runs.proofs.Common.{CountsAtMost, words_begun, process_state_begun, table_steps, blocked_since, LockCounts}
use Rattle.std.proofs.Math.Seq.{drop-append_seam}
use Rattle.rmeworld.proofs.CallBounds.{table_most}
use Rattle.table_runs.proofs.Turned.{later_blocked, turned_served, turned_cut, turned_out}
use Rattle.table_runs.proofs.Outside.{ready_same}
use Rattle.table_runs.proofs.Called.{first_crash, first_start, are_moves, calls_of}
use Rattle.table_runs.proofs.Tabled.{keeps_the_table, calls_keep_the_table}

many_small : (k : ℕ) → k < 2 ^ 64 → many_more k 0 ≡ k
many_small zero h = refl
many_small (suc k) h = let e : many_more k 0 ≡ k = many_small k (omega arith) in ap one_more e ∙ (let f : one_more k ≡ suc k = omega arith in f)

most_small : (l : Layout) → IsLayout l → (call : Call) → most_steps l call < 2 ^ 64
most_small l size Lock = let few = size.few in omega arith
most_small l size Consistent = let few = size.most in omega arith
most_small l size (Append seq value) = let few = size.most in omega arith
most_small l size _ = omega arith

-- a call that is never blocked
served_counts : (x y : Seated) (call : Call) (a : Answer) (mine : List TakenStep) → IsSize x.seat_view.setup.layout → Served (began x call) call (a ∷ []) 0 y mine → table_steps x.seat_view call a ≡ Some y.steps
served_counts x y call a mine size r =
    let reports = calls_keep_the_table (began x call) call (a ∷ []) 0 y mine r in
    let k : ℕ = reports.0 in
    let few : k ≤ most_steps x.seat_view.setup.layout call = table_most x.seat_view.setup.layout (words_begun x.seat_view) size.procs (process_state_begun x.seat_view).mended call a k reports.1 in
    let small : k < 2 ^ 64 = (let most = most_small x.seat_view.setup.layout size.layout call in omega arith) in
    let long : length mine ≡ k = (let sum = reports.2 in omega arith) in
    let counted : y.steps ≡ k = r.steps ∙ ap (λ (n : ℕ). many_more n 0) long ∙ many_small k small in
    reports.1 ∙ ap (λ (n : ℕ). Some n) (sym counted)

pub called_counts : (x z y : Seated) (call : Call) (a b : Askings) (r : Result Answer LockFault) → z ≡ began x call → IsSeatView z.seat_view
    → IfOk r (λ answer. (mine : List TakenStep) × Served z call (answer ∷ []) 0 y mine × NeverCrashes (length mine + 1) a b) → IfOk r (λ answer. table_steps x.seat_view call answer ≡ Some y.steps)
called_counts x z y call a b (Err e) is seat_view h = tt
called_counts x z y call a b (Ok answer) is seat_view h =
    let at = subst (λ (u : Seated). IsSeatView u.seat_view × Served u call (answer ∷ []) 0 y h.0) is (seat_view, h.1) in
    served_counts x y call answer h.0 at.0.size at.1

-- the entries between two views
since_is : (x y : SeatView) (mine : List TakenStep) → Calls x mine y → entries_of x.by (drop (length x.seen) y.seen) ≡ mine
since_is x y mine c = ap (λ (es : List TakenStep). entries_of x.by (drop (length x.seen) es)) c.seen ∙ ap (entries_of x.by) (drop-append_seam x.seen c.since) ∙ c.mine_are

blocked_is : (x y : Seated) (call : Call) (answers : List Answer) (blocked : ℕ) (mine : List TakenStep) → Served x call answers blocked y mine → blocked_since x.seat_view y.seat_view ≡ blocked
blocked_is x y call answers blocked mine r = ap (blocked_of x.seat_view) (since_is x.seat_view y.seat_view mine r.calls) ∙ r.blocks

counted_as : (x y : Seated) (call : Call) (answers : List Answer) (blocked : ℕ) (mine : List TakenStep) (k : ℕ) → Served x call answers blocked y mine → length mine ≡ k + blocked → y.steps ≡ many_more (k + blocked_since x.seat_view y.seat_view) x.steps
counted_as x y call answers blocked mine k r sum = r.steps ∙ ap (λ (n : ℕ). many_more n x.steps) (sum ∙ ap (λ (b : ℕ). k + b) (sym (blocked_is x y call answers blocked mine r)))

pub lock_counts : (x y : Seated) (turns : ℕ) (a b : Askings) (o : Option Answer) → LockEnds x turns o y a b → LockCounts x o y
lock_counts x y turns a b (Some answer) h =
    let r = h.2.1 in
    let reports = calls_keep_the_table x Lock (answer ∷ []) h.0 y h.2.0 r in
    (reports.0, reports.1, counted_as x y Lock (answer ∷ []) h.0 h.2.0 reports.0 r reports.2)
lock_counts x y turns a b None h =
    let r = h.1 in
    let reports = calls_keep_the_table x Lock [] (turns + 1) y h.0 r in
    (reports.0, reports.2, counted_as x y Lock [] (turns + 1) h.0 reports.0 r reports.1)

-- a call that a crash cuts off
many_at_most : (k : ℕ) → many_more k 0 ≤ k
many_at_most zero = omega arith
many_at_most (suc k) = let h = many_at_most k in omega arith

few_kept : (x : SeatView) (call : Call) (answers : List Answer) (blocked steps : ℕ) → 0 < x.setup.layout.procs → KeepsTable x call answers blocked steps → steps ≤ most_steps x.setup.layout call + blocked
few_kept x call [] blocked steps some h = let few = h.2 in let sum = h.1 in omega arith
few_kept x call (a ∷ []) blocked steps some h =
    let few : h.0 ≤ most_steps x.setup.layout call = table_most x.setup.layout (words_begun x) some (process_state_begun x).mended call a h.0 h.1 in
    let sum = h.2 in omega arith
few_kept x call (a ∷ b ∷ more) blocked steps some h = absurd h

none_few : (a b : ℕ) → 0 ≤ a + b
none_few a b = omega arith

takes_few : (x y : SeatView) (call : Call) (mine : List TakenStep) → IsSeatView x → x.start ≡ Some call → TakesSteps x mine y → length mine ≤ most_steps x.setup.layout call + blocked_of x mine
takes_few x y call [] seat_view start takes = none_few (most_steps x.setup.layout call) (blocked_of x [])
takes_few x y call (e ∷ es) seat_view start takes =
    few_kept x call (answers_of x (e ∷ es)) (blocked_of x (e ∷ es)) (length (e ∷ es)) seat_view.size.procs
    (keeps_the_table x y call (answers_of x (e ∷ es)) (blocked_of x (e ∷ es)) (e ∷ es) (calls_of x y (e ∷ es) seat_view.run takes) (first_crash x y (e ∷ es) takes) (first_start x y (e ∷ es) call takes start (λ none. cc)) (are_moves x y (e ∷ es) takes) refl refl)

-- steps of a call, of which at most `most` were blocked
pub few_taken : (x z : Seated) (y : SeatView) (call : Call) (mine : List TakenStep) (most : ℕ) → IsSeatView x.seat_view → x.seat_view.start ≡ Some call → TakesSteps x.seat_view mine y → most_steps x.seat_view.setup.layout call + blocked_of x.seat_view mine ≤ most → z.steps ≡ many_more (length mine) x.steps → CountsAtMost most x z
few_taken x z y call mine most seat_view start takes few steps = (length mine, (let all = takes_few x.seat_view y call mine seat_view start takes in omega arith), steps)

unblocked : (a b : ℕ) → b ≡ 0 → a + b ≤ a
unblocked a b e = omega arith

pub few_ran : (x y z : Seated) (call : Call) (a : Answer) (mine : List TakenStep) {o : Option Answer} → o ≡ Some a → IsSeatView x.seat_view → x.seat_view.start ≡ Some call → Ran x o y mine → z.steps ≡ y.steps → CountsAtMost (most_steps x.seat_view.setup.layout call) x z
few_ran x y z call a mine {o} is seat_view start r e =
    few_taken x z y.seat_view call mine (most_steps x.seat_view.setup.layout call) seat_view start r.takes (unblocked (most_steps x.seat_view.setup.layout call) (blocked_of x.seat_view mine) (r.blocked ∙ ap blocks is)) (e ∙ r.steps)

pub few_cut : (x z : Seated) (call : Call) (mine : List TakenStep) → IsSeatView x.seat_view → x.seat_view.start ≡ Some call → CutOff x mine z → blocked_of x.seat_view mine ≡ 0 → CountsAtMost (most_steps x.seat_view.setup.layout call) x z
few_cut x z call mine seat_view start cut none =
    few_taken x z cut.last.seat_view call mine (most_steps x.seat_view.setup.layout call) seat_view start cut.takes (unblocked (most_steps x.seat_view.setup.layout call) (blocked_of x.seat_view mine) none) (ap (λ (u : Seated). u.steps) cut.crash ∙ cut.steps)

-- from its start on, a call counts from 0
few_now : (x z : Seated) (call : Call) (most : ℕ) → CountsAtMost most (began x call) z → z.steps ≤ most
few_now x z call most h = let low = many_at_most h.0 in let few = h.1 in let is : z.steps ≡ many_more h.0 0 = h.2 in omega arith

pub few_begun : (x u z : Seated) (call : Call) → u ≡ began x call → CountsAtMost (most_steps u.seat_view.setup.layout call) u z → z.steps ≤ most_steps x.seat_view.setup.layout call
few_begun x u z call is h = few_now x z call (most_steps x.seat_view.setup.layout call) (subst (λ (w : Seated). CountsAtMost (most_steps w.seat_view.setup.layout call) w z) is h)

-- the same of a call that may start from anywhere outside the section
pub few_out : (x u z : Seated) (call : Call) (most : Layout → ℕ) → u ≡ began (free_to_start x) call → CountsAtMost (most u.seat_view.setup.layout) u z → z.steps ≤ most x.seat_view.setup.layout
few_out x u z call most is h =
    let few : z.steps ≤ most (free_to_start x).seat_view.setup.layout = few_now (free_to_start x) z call (most (free_to_start x).seat_view.setup.layout) (subst (λ (w : Seated). CountsAtMost (most w.seat_view.setup.layout) w z) is h) in
    subst (λ (s : Setup). z.steps ≤ most s.layout) (ready_same (is_idle (process_state_now x.seat_view)) x).0 few

pub err_any : {T E : Type 0} (r : Result T E) (Q : E → Type 0) (P : Type 0) → P → IfErr r (λ e. Q e → P)
err_any (Ok x) Q P p = tt
err_any (Err e) Q P p = λ q. p

pub ok_any : {T E : Type 0} (r : Result T E) (P : Type 0) → P → OnOk r P
ok_any (Ok x) P p = p
ok_any (Err e) P p = tt

-- a lock that was blocked some times
at_most_more : (a b k turns : ℕ) → b ≡ k → k ≤ turns → a + b ≤ a + turns
at_most_more a b k turns is few = omega arith

pub turned_few : (x y z : Seated) (a b : List TakenStep) (k turns : ℕ) → k ≤ turns → IsSeatView x.seat_view → x.seat_view.start ≡ Some Lock → Turning x a k y → (answer : Answer) {o : Option Answer} → o ≡ Some answer → Ran y o z b → CountsAtMost (most_steps x.seat_view.setup.layout Lock + turns) x z
turned_few x y z a b k turns few seat_view start t answer {o} is r =
    let served = turned_served x y z a b k t Lock answer is seat_view start r in
    (length (a ++ b), (let reports = few_kept x.seat_view Lock (answer ∷ []) k (length (a ++ b)) seat_view.size.procs (calls_keep_the_table x Lock (answer ∷ []) k z (a ++ b) served) in omega arith), served.steps)

pub turned_few_cut : (x y z : Seated) (a b : List TakenStep) (k turns : ℕ) → k ≤ turns → IsSeatView x.seat_view → x.seat_view.start ≡ Some Lock → Turning x a k y → CutOff y b z → blocked_of y.seat_view b ≡ 0 → CountsAtMost (most_steps x.seat_view.setup.layout Lock + turns) x z
turned_few_cut x y z a b k turns few seat_view start t cut none =
    let all = turned_cut x y z a b k t cut in
    let blocked : blocked_of x.seat_view (a ++ b) ≡ k = later_blocked x y z a b k t ∙ (let e : k + blocked_of y.seat_view b ≡ k = omega arith in e) in
    few_taken x z all.last.seat_view Lock (a ++ b) (most_steps x.seat_view.setup.layout Lock + turns) seat_view start all.takes (at_most_more (most_steps x.seat_view.setup.layout Lock) (blocked_of x.seat_view (a ++ b)) k turns blocked few) (ap (λ (u : Seated). u.steps) all.crash ∙ all.steps)

pub turned_few_out : (x z : Seated) (mine : List TakenStep) (k turns : ℕ) → k ≤ turns → IsSeatView x.seat_view → x.seat_view.start ≡ Some Lock → Turning x mine (k + 1) z → CountsAtMost (most_steps x.seat_view.setup.layout Lock + turns) x z
turned_few_out x z mine k turns few seat_view start t =
    let reports = calls_keep_the_table x Lock [] (k + 1) z mine (turned_out x z mine k Lock seat_view start t) in
    (length mine, (let sum = reports.1 in let less = reports.2 in omega arith), t.steps)
