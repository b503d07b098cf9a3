-- A script over a list of words: the state after some of its steps.
use Rattle.std.proofs.Common.{◌≡◌, ◌≢◌, ℕ, zero, suc, ◌+◌, ◌<◌, List, length, slice_index, slice_set, refl, sym, ◌∙◌, ap, subst, inl, inr, arith, get_or-set_same, get_or-set_other}
use Rattle.redomail.proofs.Common.{length-set, cases_eq, put, Deed, Layout, Message, saturate, Reply, Task, Words, words_of, size, Mailbox, added_by, ScriptRun, stepped_to, run_steps, start, Safe, Done, Put, Script, tail}
use Rattle.redomail.proofs.Common.{Get, head, Shape, script}
use Rattle.redomail.specs.declared.next.Next.TheVariants as want
use Rattle.redomail.specs.Cells.{step_over, steps_over, steps_left, outcome, IsOnWay, StopsAfter, Ready, TaskKept, TaskAnswered}
use Rattle.redomail.proofs.Words.{put-other, put-same}
use Rattle.redomail.proofs.Keeps.{tasks_keep, stood}

-- Some steps lead to this rest and these words, and from there to the same outcome.
pub record IsReached (e : Script Reply) (xs : List ℕ) (f : Script Reply) (ys : List ℕ) : Type 0 where
  pub count : ℕ
  pub left_is : (steps_over count e xs).0 ≡ f
  pub words_is : (steps_over count e xs).1 ≡ ys
  pub same : outcome f ys ≡ outcome e xs

-- The same, where each of these steps was one call, and so is each that is left.
pub record IsReachedBy (e : Script Reply) (xs : List ℕ) (f : Script Reply) (ys : List ℕ) (before now : ℕ) : Type 0 where
  pub reached : IsReached e xs f ys
  pub steps : reached.count + steps_left f ys ≡ steps_left e xs
  pub calls : saturate now ≡ saturate (before + reached.count)

outcome-step : (f : Script Reply) (ys : List ℕ) → outcome (step_over f ys).0 (step_over f ys).1 ≡ outcome f ys
outcome-step (Get i next) ys = refl
outcome-step _ ys = refl

abbrev reached_step : (e : Script Reply) (xs : List ℕ) (f : Script Reply) (ys : List ℕ) → IsReached e xs f ys → IsReached e xs (step_over f ys).0 (step_over f ys).1
reached_step e xs f ys h = record {
  count = suc h.count;
  left_is = rw (h.left_is, h.words_is) refl;
  words_is = rw (h.left_is, h.words_is) refl;
  same = outcome-step f ys ∙ h.same;
}

-- the next access decides which kind of script it is
step_of_get : (f : Script Reply) (ys : List ℕ) (i : ℕ) → want.Get i ≡ head f → step_over f ys ≡ (tail f (slice_index ys i), ys)
step_of_get (Get j next) ys i e =
    let same : i ≡ j = cc in rw same refl
step_of_get (Put j v rest) ys i e = cc
step_of_get (Done a) ys i e = cc

step_of_put : (f : Script Reply) (ys : List ℕ) (i v : ℕ) → want.Put i v ≡ head f → step_over f ys ≡ (tail f 0, slice_set ys i v)
step_of_put (Get j next) ys i v e = cc
step_of_put (Put j u rest) ys i v e =
    let same : i ≡ j = cc in
    let value : v ≡ u = cc in
    rw (same, value) refl
step_of_put (Done a) ys i v e = cc

pub is_done : (f : Script Reply) (a : Reply) → want.Done a ≡ head f → f ≡ Done a
is_done (Get j next) a e = cc
is_done (Put j u rest) a e = cc
is_done (Done b) a e =
    let same : a ≡ b = cc in rw same refl

-- one more step, in the form that a loop over the words needs
pub reached_got : (e : Script Reply) (xs : List ℕ) (f : Script Reply) (ys : List ℕ) (i word : ℕ) (f2 : Script Reply) (ys2 : List ℕ) → want.Get i ≡ head f → word ≡ slice_index ys i → f2 ≡ tail f word → ys2 ≡ ys
    → IsReached e xs f ys → IsReached e xs f2 ys2
reached_got e xs f ys i word f2 ys2 en ew ef ey h =
    let s : step_over f ys ≡ (tail f (slice_index ys i), ys) = step_of_get f ys i en in
    let a : (step_over f ys).0 ≡ f2 = ap (λ z. z.0) s ∙ sym (ef ∙ ap (tail f) ew) in
    let b : (step_over f ys).1 ≡ ys2 = ap (λ z. z.1) s ∙ sym ey in
    rw (← a, ← b) (reached_step e xs f ys h)

pub reached_put : (e : Script Reply) (xs : List ℕ) (f : Script Reply) (ys : List ℕ) (i v : ℕ) (f2 : Script Reply) (ys2 : List ℕ) → want.Put i v ≡ head f → f2 ≡ tail f 0 → ys2 ≡ slice_set ys i v
    → IsReached e xs f ys → IsReached e xs f2 ys2
reached_put e xs f ys i v f2 ys2 en ef ey h =
    let s : step_over f ys ≡ (tail f 0, slice_set ys i v) = step_of_put f ys i v en in
    let a : (step_over f ys).0 ≡ f2 = ap (λ z. z.0) s ∙ sym ef in
    let b : (step_over f ys).1 ≡ ys2 = ap (λ z. z.1) s ∙ sym ey in
    rw (← a, ← b) (reached_step e xs f ys h)

-- no step is taken yet
pub not_begun : (e : Script Reply) (xs : List ℕ) (before : ℕ) → IsReachedBy e xs e xs before before
not_begun e xs before =
    let same : before ≡ before + 0 = omega arith in
    record { reached = record { count = 0; left_is = refl; words_is = refl; same = refl }; steps = omega arith; calls = ap saturate same }

steps_of_get : (f : Script Reply) (ys : List ℕ) (i : ℕ) → want.Get i ≡ head f → steps_left f ys ≡ suc (steps_left (step_over f ys).0 (step_over f ys).1)
steps_of_get (Get j next) ys i e = refl
steps_of_get (Put j v rest) ys i e = cc
steps_of_get (Done a) ys i e = cc

steps_of_put : (f : Script Reply) (ys : List ℕ) (i v : ℕ) → want.Put i v ≡ head f → steps_left f ys ≡ suc (steps_left (step_over f ys).0 (step_over f ys).1)
steps_of_put (Get j next) ys i v e = cc
steps_of_put (Put j u rest) ys i v e = refl
steps_of_put (Done a) ys i v e = cc

-- one call more
called_more : (before k now later : ℕ) → saturate now ≡ saturate (before + k) → later ≡ saturate (now + 1) → saturate later ≡ saturate (before + suc k)
called_more before k now later here more = omega (arith, here, more)

steps_more : (e : Script Reply) (xs : List ℕ) (f : Script Reply) (ys : List ℕ) (k : ℕ) (f2 : Script Reply) (ys2 : List ℕ)
    → k + steps_left f ys ≡ steps_left e xs → steps_left f ys ≡ suc (steps_left f2 ys2) → suc k + steps_left f2 ys2 ≡ steps_left e xs
steps_more e xs f ys k f2 ys2 here one = omega (arith, here, one)

pub got_by : (e : Script Reply) (xs : List ℕ) (f : Script Reply) (ys : List ℕ) (i word : ℕ) (f2 : Script Reply) (ys2 : List ℕ) (before now later : ℕ) → want.Get i ≡ head f → word ≡ slice_index ys i → f2 ≡ tail f word → ys2 ≡ ys
    → later ≡ saturate (now + 1) → IsReachedBy e xs f ys before now → IsReachedBy e xs f2 ys2 before later
got_by e xs f ys i word f2 ys2 before now later en ew ef ey more h =
    let s : step_over f ys ≡ (tail f (slice_index ys i), ys) = step_of_get f ys i en in
    let a : (step_over f ys).0 ≡ f2 = ap (λ z. z.0) s ∙ sym (ef ∙ ap (tail f) ew) in
    let b : (step_over f ys).1 ≡ ys2 = ap (λ z. z.1) s ∙ sym ey in
    rw (← a, ← b) (record {
      reached = reached_step e xs f ys h.reached;
      steps = steps_more e xs f ys h.reached.count (step_over f ys).0 (step_over f ys).1 h.steps (steps_of_get f ys i en);
      calls = called_more before h.reached.count now later h.calls more;
    })

pub put_by : (e : Script Reply) (xs : List ℕ) (f : Script Reply) (ys : List ℕ) (i v : ℕ) (f2 : Script Reply) (ys2 : List ℕ) (before now later : ℕ) → want.Put i v ≡ head f → f2 ≡ tail f 0 → ys2 ≡ slice_set ys i v
    → later ≡ saturate (now + 1) → IsReachedBy e xs f ys before now → IsReachedBy e xs f2 ys2 before later
put_by e xs f ys i v f2 ys2 before now later en ef ey more h =
    let s : step_over f ys ≡ (tail f 0, slice_set ys i v) = step_of_put f ys i v en in
    let a : (step_over f ys).0 ≡ f2 = ap (λ z. z.0) s ∙ sym ef in
    let b : (step_over f ys).1 ≡ ys2 = ap (λ z. z.1) s ∙ sym ey in
    rw (← a, ← b) (record {
      reached = reached_step e xs f ys h.reached;
      steps = steps_more e xs f ys h.reached.count (step_over f ys).0 (step_over f ys).1 h.steps (steps_of_put f ys i v en);
      calls = called_more before h.reached.count now later h.calls more;
    })

-- a call of the next step stopped
pub stops_at_get : (e : Script Reply) (xs : List ℕ) (f : Script Reply) (ys zs : List ℕ) (i before now later : ℕ) → want.Get i ≡ head f → zs ≡ ys → later ≡ saturate (now + 1) → IsReachedBy e xs f ys before now → StopsAfter e xs zs before later
stops_at_get e xs f ys zs i before now later en same more h =
    let one = steps_of_get f ys i en in
    let steps = h.steps in
    let calls = h.calls in
    (h.reached.count, omega (arith, one, steps), same ∙ sym h.reached.words_is, omega (arith, calls, more))

pub stops_at_put : (e : Script Reply) (xs : List ℕ) (f : Script Reply) (ys zs : List ℕ) (i v before now later : ℕ) → want.Put i v ≡ head f → zs ≡ ys → later ≡ saturate (now + 1) → IsReachedBy e xs f ys before now → StopsAfter e xs zs before later
stops_at_put e xs f ys zs i v before now later en same more h =
    let one = steps_of_put f ys i v en in
    let steps = h.steps in
    let calls = h.calls in
    (h.reached.count, omega (arith, one, steps), same ∙ sym h.reached.words_is, omega (arith, calls, more))

-- nothing is left, so all its steps were taken
pub all_called : (e : Script Reply) (xs : List ℕ) (f : Script Reply) (ys : List ℕ) (a : Reply) (before now : ℕ) → f ≡ Done a → IsReachedBy e xs f ys before now → saturate now ≡ saturate (before + steps_left e xs)
all_called e xs f ys a before now ended h =
    let none : steps_left f ys ≡ 0 = subst (λ z. steps_left z ys ≡ 0) (sym ended) refl in
    let steps = h.steps in
    let calls = h.calls in
    let same : h.reached.count ≡ steps_left e xs = omega (arith, none, steps) in
    subst (λ k. saturate now ≡ saturate (before + k)) same calls

words_of-set : (xs : List ℕ) (i v : ℕ) → i < length xs → put (words_of xs) i v ≡ words_of (slice_set xs i v)
words_of-set xs i v l = λ t j. each j t
  where
    each : (j : ℕ) → put (words_of xs) i v j ≡ words_of (slice_set xs i v) j
    each j = elim (cases_eq j i) [
      | inl e ↦ put-same (words_of xs) i v j e ∙ (rw (e, get_or-set_same) refl)
      | inr ne ↦ put-other (words_of xs) i v j ne ∙ (let d : j ≢ i = ne in rw get_or-set_other refl)
    ]

-- the run over the list is the run over the words as a function
record Agrees (l : Layout) (x : ScriptRun Reply) (f : Script Reply) (ys : List ℕ) : Type 0 where
  pub left_is : x.left ≡ f
  pub words_is : x.words ≡ words_of ys
  pub size_is : length ys ≡ size l

agrees_by : (l : Layout) (p : ℕ) (m : Message) (s0 : Mailbox) (e : Script Reply) (ys : List ℕ) (ds : List Deed) (s : Mailbox) → Safe l p m s0 e (words_of ys) s → length ys ≡ size l
    → Agrees l (stepped_to l p e (words_of ys) ds) (step_over e ys).0 (step_over e ys).1
agrees_by l p m s0 (Get i next) ys ds s h n = record { left_is = refl; words_is = refl; size_is = n }
agrees_by l p m s0 (Put i v rest) ys ds s h n =
    let low : i < size l = h.1 in
    record { left_is = refl; words_is = words_of-set ys i v (omega arith); size_is = length-set ys i v ∙ n }
agrees_by l p m s0 (Done a) ys ds s h n = record { left_is = refl; words_is = refl; size_is = n }

agrees_step : (l : Layout) (p : ℕ) (m : Message) (s0 : Mailbox) (e : Script Reply) (w : Words) (ds : List Deed) (f : Script Reply) (ys : List ℕ) (s : Mailbox) → Safe l p m s0 e w s → e ≡ f → w ≡ words_of ys → length ys ≡ size l
    → Agrees l (stepped_to l p e w ds) (step_over f ys).0 (step_over f ys).1
agrees_step l p m s0 e w ds f ys s safe ef ew n =
    let here : Safe l p m s0 f (words_of ys) s = subst (λ z. Safe l p m s0 z (words_of ys) s) ef (subst (λ u. Safe l p m s0 e u s) ew safe) in
    let P : Script Reply → Type 0 = λ z. Agrees l (stepped_to l p z w ds) (step_over f ys).0 (step_over f ys).1 in
    let Q : Words → Type 0 = λ u. Agrees l (stepped_to l p f u ds) (step_over f ys).0 (step_over f ys).1 in
    subst P (sym ef) (subst Q (sym ew) (agrees_by l p m s0 f ys ds s here n))

agrees : (l : Layout) (p : ℕ) (e : Script Reply) (xs : List ℕ) (t : Task) (s : Mailbox) (k : ℕ) → Ready l p e xs t s → Agrees l (run_steps l p k (start (script l p t) (words_of xs))) (steps_over k e xs).0 (steps_over k e xs).1
agrees l p e xs t s zero h = record { left_is = sym h.begins; words_is = refl; size_is = h.size }
agrees l p e xs t s (suc k) h =
    let a = agrees l p e xs t s k h in
    let x : ScriptRun Reply = run_steps l p k (start (script l p t) (words_of xs)) in
    let g = stood l p t (words_of xs) s k h.may in
    agrees_step l p (added_by l t p (words_of xs)) s x.left x.words x.deeds (steps_over k e xs).0 (steps_over k e xs).1 g.0 g.2 a.left_is a.words_is a.size_is

pub on_way : (e : Script Reply) (xs : List ℕ) (f : Script Reply) (ys zs : List ℕ) → zs ≡ ys → IsReached e xs f ys → IsOnWay e xs zs
on_way e xs f ys zs same h = (h.count, same ∙ sym h.words_is)

pub kept_on_way : (e : Script Reply) (xs ys : List ℕ) → IsOnWay e xs ys → TaskKept e xs ys
kept_on_way e xs ys way l p t s h =
    let k : ℕ = way.0 in
    let a = agrees l p e xs t s k h in
    let same = way.1 in
    let kept = tasks_keep l p t (words_of xs) s k h.may in
    record {
      state = kept.state;
      deeds = (run_steps l p k (start (script l p t) (words_of xs))).deeds;
      legal = kept.legal;
      size = ap length same ∙ a.size_is;
      shape = subst (λ w. Shape l p w kept.state) (a.words_is ∙ ap words_of (sym same)) kept.shape;
      shown = kept.shown;
    }

pub answered_at : (e : Script Reply) (xs : List ℕ) (f : Script Reply) (ys : List ℕ) (reply : Reply) → f ≡ Done reply → IsReached e xs f ys → TaskAnswered e xs reply ys
answered_at e xs f ys reply ended r l p t s h =
    let k : ℕ = r.count in
    let a = agrees l p e xs t s k h in
    let m = added_by l t p (words_of xs) in
    let g = stood l p t (words_of xs) s k h.may in
    let x : ScriptRun Reply = run_steps l p k (start (script l p t) (words_of xs)) in
    let left : x.left ≡ Done reply = a.left_is ∙ (r.left_is ∙ ended) in
    let words : x.words ≡ words_of ys = a.words_is ∙ ap words_of r.words_is in
    let safe : Safe l p m s (Done reply) (words_of ys) g.0 = subst (λ z. Safe l p m s z (words_of ys) g.0) left (subst (λ u. Safe l p m s x.left u g.0) words g.2) in
    record {
      state = g.0;
      deeds = x.deeds;
      legal = g.1;
      shape = safe.0.0;
      disarmed = safe.2;
      tells = safe.1;
    }
