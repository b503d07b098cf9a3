-- Steps of a lock, then more of its steps.
use Rattle.std.proofs.Common.{◌≡◌, ℕ, ◌+◌, List, [], ◌∷◌, ◌++◌, length, Option, Some, None, refl, sym, ap, ◌∙◌, arith, length-append}
use Rattle.table_runs.proofs.Common.{Answer, Call, and_answer, ProcessState, TakenStep, Setup, Served, answers_of, blocked_of, blocks, Ran, CutOff, answers_from, blocked_from, Turning}
use Rattle.table_runs.proofs.Common.{IsSeatView, Seated, many_more, events_of_run, process_state_past, process_state_of}
pub use Rattle.table_runs.proofs.Taken.{answers-append, blocked-append}
use Rattle.table_runs.proofs.Taken.{takes_sizes, takes_process_state, takes-append}
use Rattle.table_runs.proofs.Called.{served_of}
use Rattle.crash_plans.proofs.Counted.{many_add}

pub many_append : (a b : List TakenStep) (c : ℕ) → many_more (length b) (many_more (length a) c) ≡ many_more (length (a ++ b)) c
many_append a b c = many_add (length a) (length b) c ∙ ap (λ (m : ℕ). many_more m c) (sym (length-append a b))

pub length-fell : (a b : List TakenStep) → length a + (length b + 1) ≡ length (a ++ b) + 1
length-fell a b = let l = length-append a b in omega arith

pub turning_first : (x : Seated) → Turning x [] 0 x
turning_first x = record { takes = refl; answers = refl; blocked = refl; steps = refl }

module _ (x y z : Seated) (a b : List TakenStep) (k : ℕ) (t : Turning x a k y) where
  later_answers : answers_of x.seat_view (a ++ b) ≡ answers_of y.seat_view b
  later_answers =
      answers-append x.seat_view.setup (process_state_of x.seat_view.setup x.seat_view.by x.seat_view.seen) a b ∙ ap (λ (l : List Answer). l ++ answers_from x.seat_view.setup (process_state_past x.seat_view.setup (process_state_of x.seat_view.setup x.seat_view.by x.seat_view.seen) (events_of_run a)) b) t.answers
      ∙ ap (λ (u : Setup × ProcessState). answers_from u.0 u.1 b) (λ i. (sym (takes_sizes x.seat_view y.seat_view a t.takes).0 i, sym (takes_process_state x.seat_view y.seat_view a t.takes) i))

  pub later_blocked : blocked_of x.seat_view (a ++ b) ≡ k + blocked_of y.seat_view b
  later_blocked =
      blocked-append x.seat_view.setup (process_state_of x.seat_view.setup x.seat_view.by x.seat_view.seen) a b ∙ ap (λ (m : ℕ). m + blocked_from x.seat_view.setup (process_state_past x.seat_view.setup (process_state_of x.seat_view.setup x.seat_view.by x.seat_view.seen) (events_of_run a)) b) t.blocked
      ∙ ap (λ (u : Setup × ProcessState). k + blocked_from u.0 u.1 b) (λ i. (sym (takes_sizes x.seat_view y.seat_view a t.takes).0 i, sym (takes_process_state x.seat_view y.seat_view a t.takes) i))

  later_steps : z.steps ≡ many_more (length b) y.steps → z.steps ≡ many_more (length (a ++ b)) x.steps
  later_steps e = e ∙ ap (many_more (length b)) t.steps ∙ many_append a b x.steps

  pub turned : {o : Option Answer} → o ≡ None → Ran y o z b → Turning x (a ++ b) (k + 1) z
  turned {o} e r =
      record {
        takes = takes-append x.seat_view y.seat_view z.seat_view a b t.takes r.takes;
        answers = later_answers ∙ r.answers ∙ ap (λ (u : Option Answer). and_answer u []) e;
        blocked = later_blocked ∙ ap (λ (m : ℕ). k + m) (r.blocked ∙ ap blocks e);
        steps = later_steps r.steps;
      }

  pub turned_served : (call : Call) (c : Answer) {o : Option Answer} → o ≡ Some c → IsSeatView x.seat_view → x.seat_view.start ≡ Some call → Ran y o z b → Served x call (c ∷ []) k z (a ++ b)
  turned_served call c {o} e seat_view start r =
      let answers = later_answers ∙ r.answers ∙ ap (λ (u : Option Answer). and_answer u []) e in
      served_of x z call (c ∷ []) k (a ++ b) seat_view start (takes-append x.seat_view y.seat_view z.seat_view a b t.takes r.takes) answers (later_blocked ∙ ap (λ (m : ℕ). k + m) (r.blocked ∙ ap blocks e) ∙ (let n : k + 0 ≡ k = omega arith in n)) (later_steps r.steps)
      (λ none. absurd (let bad : [] ≡ c ∷ [] = sym (ap (answers_of x.seat_view) none) ∙ answers in cc))

  pub turned_cut : CutOff y b z → CutOff x (a ++ b) z
  turned_cut cut = record { last = cut.last; takes = takes-append x.seat_view y.seat_view cut.last.seat_view a b t.takes cut.takes; steps = cut.steps ∙ ap (many_more (length b)) t.steps ∙ many_append a b x.steps; crash = cut.crash }

pub turned_out : (x y : Seated) (mine : List TakenStep) (k : ℕ) (call : Call) → IsSeatView x.seat_view → x.seat_view.start ≡ Some call → Turning x mine (k + 1) y → Served x call [] (k + 1) y mine
turned_out x y mine k call seat_view start t =
    served_of x y call [] (k + 1) mine seat_view start t.takes t.answers t.blocked t.steps (λ none. let bad : 0 ≡ k + 1 = sym (ap (blocked_of x.seat_view) none) ∙ t.blocked in omega arith)
