-- Calls in a row are calls.
use Rattle.std.proofs.Common.{◌≡◌, ℕ, ◌+◌, ◌⊎◌, Bool, false, List, [], ◌∷◌, ◌++◌, length, Option, Some, None, All, refl, sym, ap, ◌∙◌, subst, inl, inr, arith, append-nil, append_assoc, length-append}
use Rattle.table_runs.proofs.Common.{All-nil, All-cons, All-append, is_glance, Answer, Call, Lock, ProcessState, at_rest, TakenStep, Setup, and_call, starts, FirstStart, FirstCrash, answers_of}
use Rattle.table_runs.proofs.Common.{blocked_of, Ran, CutOff, Crashes, StartsWith, FirstStarts, answers_from, blocked_from, ServedAll, CrashesIn, Askings, NeverCrashes, Fell, CutBy, CutIn, AnsweredBy, call_series, LockBy, LockEnds}
use Rattle.table_runs.proofs.Common.{SeatView, IsSeatView, EndsWith, Calls, Seated, many_more, fell, after_further_start, events_of_run, entries_of, process_state_past, process_state_of}
use Rattle.table_runs.proofs.Runs.{own-append, spelled-append}
use Rattle.table_runs.proofs.Leads.{gone-append}
use Rattle.table_runs.proofs.Called.{ends_cons, calls_fell, served_ran, crashes_of}
use Rattle.table_runs.proofs.Turned.{answers-append, blocked-append, many_append}
use Rattle.crash_plans.proofs.Counted.{asked_on, fell_on}

-- the state after some own entries
pub calls_process_state : (x y : SeatView) (mine : List TakenStep) → Calls x mine y → process_state_of y.setup y.by y.seen ≡ process_state_past x.setup (process_state_of x.setup x.by x.seen) (events_of_run mine)
calls_process_state x y mine c =
    let own_are : entries_of x.by y.seen ≡ entries_of x.by x.seen ++ mine = ap (entries_of x.by) c.seen ∙ own-append x.by x.seen c.since ∙ ap (λ (l : List TakenStep). entries_of x.by x.seen ++ l) c.mine_are in
    ap (λ (t : Setup × ℕ). process_state_of t.0 t.1 y.seen) (λ i. (c.setup i, c.by i))
    ∙ ap (λ (es : List TakenStep). process_state_past x.setup at_rest (events_of_run es)) own_are
    ∙ ap (process_state_past x.setup at_rest) (spelled-append (entries_of x.by x.seen) mine)
    ∙ gone-append x.setup at_rest (events_of_run (entries_of x.by x.seen)) (events_of_run mine)

ends_after : (a : List TakenStep) (f : TakenStep) (fs es : List TakenStep) → EndsWith (f ∷ fs) es → EndsWith (a ++ f ∷ fs) es
ends_after [] f fs es h = h
ends_after (e ∷ []) f fs es h = ends_cons e f fs es h
ends_after (e ∷ g ∷ gs) f fs es h = ends_cons e g (gs ++ f ∷ fs) es (ends_after (g ∷ gs) f fs es h)

ends_both : (a b es fs : List TakenStep) → EndsWith a es → EndsWith b fs → (b ≡ [] → fs ≡ es) → EndsWith (a ++ b) fs
ends_both a [] es fs h k none = subst (λ (t : List TakenStep × List TakenStep). EndsWith t.0 t.1) (λ i. (sym (append-nil a) i, sym (none refl) i)) h
ends_both a (f ∷ more) es fs h k none = ends_after a f more fs k

calls-append : (x y z : SeatView) (a b : List TakenStep) → Calls x a y → Calls y b z → (b ≡ [] → z.seen ≡ y.seen) → Calls x (a ++ b) z
calls-append x y z a b c d none = record {
  table = d.table ∙ c.table;
  setup = d.setup ∙ c.setup;
  by = d.by ∙ c.by;
  since = c.since ++ d.since;
  seen = d.seen ∙ ap (λ (l : List TakenStep). l ++ d.since) c.seen ∙ append_assoc x.seen c.since d.since;
  mine_are = own-append x.by c.since d.since ∙ ap (λ (l : List TakenStep). l ++ entries_of x.by d.since) c.mine_are ∙ ap (λ (l : List TakenStep). a ++ l) (ap (λ (p : ℕ). entries_of p d.since) (sym c.by) ∙ d.mine_are);
  last = ends_both a b y.seen z.seen c.last d.last none;
  run = d.run;
}

and_call-append : (o : Option Call) (xs ys : List Call) → and_call o (xs ++ ys) ≡ and_call o xs ++ ys
and_call-append None xs ys = refl
and_call-append (Some c) xs ys = refl

starts-append : (a b : List TakenStep) → starts (a ++ b) ≡ starts a ++ starts b
starts-append [] b = refl
starts-append (e ∷ es) b = ap (and_call e.step.start) (starts-append es b) ∙ and_call-append e.step.start (starts es) (starts b)

never_crashes_all : (b : List TakenStep) → FirstCrash false b → All (λ (f : TakenStep). f.step.crashed ≡ false) b
never_crashes_all [] h = All-nil _
never_crashes_all (e ∷ es) h = All-cons (λ (f : TakenStep). f.step.crashed ≡ false) e es h.0 h.1

first-append : (c : Bool) (a b : List TakenStep) → (a ≡ [] → ⊥) → FirstCrash c a → FirstCrash false b → FirstCrash c (a ++ b)
first-append c [] b some h k = absurd (some refl)
first-append c (e ∷ es) b some h k = (h.0, All-append (λ (f : TakenStep). f.step.crashed ≡ false) es b h.1 (never_crashes_all b k))

some_more : (a b : List TakenStep) → (a ≡ [] → ⊥) → a ++ b ≡ [] → ⊥
some_more [] b some e = some refl
some_more (x ∷ xs) b some e = absurd (let k : x ∷ (xs ++ b) ≡ [] = e in cc)

some_started : (c : Call) (cs : List Call) (mine : List TakenStep) → starts mine ≡ c ∷ cs → mine ≡ [] → ⊥
some_started c cs mine h none = absurd (let k : [] ≡ c ∷ cs = sym (ap starts none) ∙ h in cc)

starts_on : (c : Call) (a b : List TakenStep) → StartsWith c a → StartsWith c (a ++ b)
starts_on c [] b h = absurd h
starts_on c (e ∷ es) b h = h

starts_alone : (c : Call) (a : List TakenStep) → FirstStart c a → StartsWith c a
starts_alone c [] h = absurd h
starts_alone c (e ∷ es) h = h.0

first_more : (c d : Call) (cs ds : List Call) (a b : List TakenStep) → FirstStarts (c ∷ cs) a → FirstStarts (c ∷ cs ++ d ∷ ds) (a ++ b)
first_more c d [] ds a b h = starts_on c a b (starts_alone c a h)
first_more c d (k ∷ ks) ds a b h = starts_on c a b h

-- the base is the same where only a start is pending
calls_from : (y z : SeatView) (c : Call) (n : List TakenStep) → Calls (record y { start = Some c }) n z → Calls y n z
calls_from y z c n d = record { table = d.table; setup = d.setup; by = d.by; since = d.since; seen = d.seen; mine_are = d.mine_are; last = d.last; run = d.run }

served_from : (y z : Seated) (c : Call) (order : List Call) (reports : List Answer) (k : ℕ) (n : List TakenStep) → ServedAll (after_further_start y c) order reports k z n → ServedAll y order reports k z n
served_from y z c order reports k n s = record { calls = calls_from y.seat_view z.seat_view c n s.calls; crash = s.crash; started = s.started; first = s.first; moves = s.moves; answered = s.answered; blocks = s.blocks; steps = s.steps; alive = s.alive; idle = s.idle }

crashes_from : (y z : Seated) (c : Call) (P : List Call → Type 0) (n : List TakenStep) → CrashesIn (after_further_start y c) P z n → CrashesIn y P z n
crashes_from y z c P n s = record { calls = calls_from y.seat_view z.seat_view c n s.calls; unmoved = s.unmoved; crash = s.crash; started = s.started; steps = s.steps; fallen = s.fallen; idle = s.idle }

module _ (x y z : Seated) (c : Call) (cs : List Call) (reports : List Answer) (j : ℕ) (m : List TakenStep) (s : ServedAll x (c ∷ cs) reports j y m) where
  later_answers : (n : List TakenStep) → answers_of x.seat_view (m ++ n) ≡ reports ++ answers_of y.seat_view n
  later_answers n =
      answers-append x.seat_view.setup (process_state_of x.seat_view.setup x.seat_view.by x.seat_view.seen) m n ∙ ap (λ (l : List Answer). l ++ answers_from x.seat_view.setup (process_state_past x.seat_view.setup (process_state_of x.seat_view.setup x.seat_view.by x.seat_view.seen) (events_of_run m)) n) s.answered
      ∙ ap (λ (u : Setup × ProcessState). reports ++ answers_from u.0 u.1 n) (λ i. (sym s.calls.setup i, sym (calls_process_state x.seat_view y.seat_view m s.calls) i))

  later_blocked : (n : List TakenStep) → blocked_of x.seat_view (m ++ n) ≡ j + blocked_of y.seat_view n
  later_blocked n =
      blocked-append x.seat_view.setup (process_state_of x.seat_view.setup x.seat_view.by x.seat_view.seen) m n ∙ ap (λ (k : ℕ). k + blocked_from x.seat_view.setup (process_state_past x.seat_view.setup (process_state_of x.seat_view.setup x.seat_view.by x.seat_view.seen) (events_of_run m)) n) s.blocks
      ∙ ap (λ (u : Setup × ProcessState). j + blocked_from u.0 u.1 n) (λ i. (sym s.calls.setup i, sym (calls_process_state x.seat_view y.seat_view m s.calls) i))

  pub served-append : (d : Call) (ds : List Call) (bs : List Answer) (k : ℕ) (n : List TakenStep) → ServedAll y (d ∷ ds) bs k z n → ServedAll x (c ∷ cs ++ d ∷ ds) (reports ++ bs) (j + k) z (m ++ n)
  served-append d ds bs k n t = record {
    calls = calls-append x.seat_view y.seat_view z.seat_view m n s.calls t.calls (λ none. absurd (some_started d ds n t.started none));
    crash = first-append x.seat_view.fallen m n (some_started c cs m s.started) s.crash (subst (λ (b : Bool). FirstCrash b n) s.alive t.crash);
    started = starts-append m n ∙ ap (λ (l : List Call). l ++ starts n) s.started ∙ ap (λ (l : List Call). c ∷ cs ++ l) t.started;
    first = first_more c d cs ds m n s.first;
    moves = All-append (λ (e : TakenStep). is_glance e.step.kind ≡ false) m n s.moves t.moves;
    answered = later_answers n ∙ ap (λ (l : List Answer). reports ++ l) t.answered;
    blocks = later_blocked n ∙ ap (λ (b : ℕ). j + b) t.blocks;
    steps = t.steps ∙ ap (many_more (length n)) s.steps ∙ many_append m n x.steps;
    alive = t.alive;
    idle = t.idle;
  }

  -- a crash in the later calls
  pub crashes_after : (P Q : List Call → Type 0) (n : List TakenStep) → CrashesIn y P z n → Q (c ∷ cs) → ((ds : List Call) → P ds → Q (c ∷ cs ++ ds)) → CrashesIn x Q z (m ++ n)
  crashes_after P Q n t first more =
      let started : starts (m ++ n) ≡ c ∷ cs ++ starts n = starts-append m n ∙ ap (λ (l : List Call). l ++ starts n) s.started in
      record {
        calls = calls-append x.seat_view y.seat_view z.seat_view m n s.calls t.calls t.unmoved;
        unmoved = λ none. absurd (some_more m n (some_started c cs m s.started) none);
        crash = first-append x.seat_view.fallen m n (some_started c cs m s.started) s.crash (subst (λ (b : Bool). FirstCrash b n) s.alive t.crash);
        started = inr (subst Q (sym started) (either t.started));
        steps = t.steps ∙ ap (many_more (length n)) s.steps ∙ many_append m n x.steps;
        fallen = t.fallen;
        idle = t.idle;
      }
    where
      either : (n ≡ []) ⊎ P (starts n) → Q (c ∷ cs ++ starts n)
      either (inl none) = subst (λ (l : List Call). Q (c ∷ cs ++ l)) (sym (ap starts none)) (subst Q (sym (append-nil (c ∷ cs))) first)
      either (inr p) = more (starts n) p

  -- a crash right after them
  pub crashes_after_it : (Q : List Call → Type 0) → z ≡ fell y → Q (c ∷ cs) → CrashesIn x Q z m
  crashes_after_it Q e q = record {
    calls = calls_fell x.seat_view y.seat_view z.seat_view m s.calls (ap (λ (u : Seated). u.seat_view) e);
    unmoved = λ none. absurd (some_started c cs m s.started none);
    crash = s.crash;
    started = inr (subst Q (sym s.started) q);
    steps = ap (λ (u : Seated). u.steps) e ∙ s.steps;
    fallen = ap (λ (u : Seated). u.seat_view.fallen) e;
    idle = ap (λ (u : Seated). u.seat_view.start) e;
  }

pub none_more : (m : List TakenStep) {a b : Askings} → NeverCrashes (length m) a b → NeverCrashes (length m + 0) a b
none_more m {a} {b} h = subst (λ (t : ℕ). NeverCrashes t a b) (let e : length m ≡ length m + 0 = omega arith in e) h

-- the askings before the calls after others
lengths : (m n : List TakenStep) (more : ℕ) → (length m + 0) + (length n + more) ≡ length (m ++ n) + more
lengths m n more = let l = length-append m n in omega arith

one_asking : (m : List TakenStep) → (length m + 0) + 1 ≡ length m + 1
one_asking m = omega arith

-- the asking before the answer
pub asked_after : (x y z : Seated) (order : List Call) (reports : List Answer) (j : ℕ) (a0 a1 a2 : Askings) → AnsweredBy 0 x (call_series order reports j) y a0 a1 → z ≡ y → NeverCrashes 1 a1 a2 → AnsweredBy 1 x (call_series order reports j) z a0 a2
asked_after x y z order reports j a0 a1 a2 h e k = (h.0, subst (λ (u : Seated). ServedAll x order reports j u h.0) (sym e) h.1, asked_on h.2 k (one_asking h.0))

pub cut_asked : (x y z : Seated) (c : Call) (cs : List Call) (reports : List Answer) (j : ℕ) (a0 a1 a2 : Askings) (Q : List Call → Type 0) → AnsweredBy 0 x (call_series (c ∷ cs) reports j) y a0 a1 → z ≡ fell y → Fell 1 a1 a2 → Q (c ∷ cs) → CutBy x Q z a0 a2
cut_asked x y z c cs reports j a0 a1 a2 Q h e k q = (h.0, crashes_after_it x y z c cs reports j h.0 h.1 Q e q, fell_on h.2 k (one_asking h.0))

pub answered-append : (x y z : Seated) (c d : Call) (cs ds : List Call) (reports bs : List Answer) (j k more : ℕ) (a0 a1 a2 : Askings) → AnsweredBy 0 x (call_series (c ∷ cs) reports j) y a0 a1 → AnsweredBy more y (call_series (d ∷ ds) bs k) z a1 a2
    → AnsweredBy more x (call_series (c ∷ cs ++ d ∷ ds) (reports ++ bs) (j + k)) z a0 a2
answered-append x y z c d cs ds reports bs j k more a0 a1 a2 h t = (h.0 ++ t.0, served-append x y z c cs reports j h.0 h.1 d ds bs k t.0 t.1, asked_on h.2 t.2 (lengths h.0 t.0 more))

pub cut_after : (x y z : Seated) (c : Call) (cs : List Call) (reports : List Answer) (j : ℕ) (a0 a1 a2 : Askings) (P Q : List Call → Type 0) → AnsweredBy 0 x (call_series (c ∷ cs) reports j) y a0 a1 → CutBy y P z a1 a2 → Q (c ∷ cs) → ((ds : List Call) → P ds → Q (c ∷ cs ++ ds)) → CutBy x Q z a0 a2
cut_after x y z c cs reports j a0 a1 a2 P Q h t first more = (h.0 ++ t.0, crashes_after x y z c cs reports j h.0 h.1 P Q t.0 t.1 first more, fell_on h.2 t.2 (lengths h.0 t.0 1))

-- a call after another one
pub ran_after : (y z : Seated) (call : Call) (a : Answer) (n : List TakenStep) → IsSeatView (after_further_start y call).seat_view → Ran (after_further_start y call) (Some a) z n → ServedAll y (call ∷ []) (a ∷ []) 0 z n
ran_after y z call a n seat_view r = served_from y z call (call ∷ []) (a ∷ []) 0 n (served_ran (after_further_start y call) z call a n seat_view refl r)

pub cut_after_it : (y z : Seated) (call : Call) (n : List TakenStep) → IsSeatView (after_further_start y call).seat_view → CutOff (after_further_start y call) n z → Crashes y call z n
cut_after_it y z call n seat_view h = crashes_from y z call (λ (order : List Call). order ≡ call ∷ []) n (crashes_of (after_further_start y call) z call n seat_view refl h)

-- a lock and the asking before its answer
pub lock_asked : (x y z : Seated) (turns : ℕ) (o : Option Answer) (a0 a1 a2 : Askings) → LockBy 0 x turns o y a0 a1 → z ≡ y → NeverCrashes 1 a1 a2 → LockEnds x turns o z a0 a2
lock_asked x y z turns (Some a) a0 a1 a2 h e k = (h.0, h.1, asked_after x y z (Lock ∷ []) (a ∷ []) h.0 a0 a1 a2 h.2 e k)
lock_asked x y z turns None a0 a1 a2 h e k = asked_after x y z (Lock ∷ []) [] (turns + 1) a0 a1 a2 h e k

pub lock_cut : (x y z : Seated) (turns : ℕ) (o : Option Answer) (a0 a1 a2 : Askings) → LockBy 0 x turns o y a0 a1 → z ≡ fell y → Fell 1 a1 a2 → CutIn x Lock z a0 a2
lock_cut x y z turns (Some a) a0 a1 a2 h e k = cut_asked x y z Lock [] (a ∷ []) h.0 a0 a1 a2 (λ (order : List Call). order ≡ Lock ∷ []) h.2 e k refl
lock_cut x y z turns None a0 a1 a2 h e k = cut_asked x y z Lock [] [] (turns + 1) a0 a1 a2 (λ (order : List Call). order ≡ Lock ∷ []) h e k refl

pub lock_idle : (x y : Seated) (turns : ℕ) (o : Option Answer) (a0 a1 : Askings) → LockBy 0 x turns o y a0 a1 → y.seat_view.start ≡ None
lock_idle x y turns (Some a) a0 a1 h = h.2.1.idle
lock_idle x y turns None a0 a1 h = h.1.idle

pub lock_setup : (x y : Seated) (turns : ℕ) (o : Option Answer) (a0 a1 : Askings) → LockBy 0 x turns o y a0 a1 → y.seat_view.setup ≡ x.seat_view.setup
lock_setup x y turns (Some a) a0 a1 h = h.2.1.calls.setup
lock_setup x y turns None a0 a1 h = h.1.calls.setup
