-- A step of a script, in the numbers of C.
use Rattle.std.proofs.Common.{◌≡◌, ℕ, ◌==◌, false, not, None, sym, ap, ◌∙◌, subst}
use Rattle.rme_c.proofs.Common.{Stage, place_of, Reply, Pending, script_left, job_after_word, Done, tail, Free as IsFree, Doing as Does, Purpose, by_script, by_reply, HasStep, end_place, end_mended, end_barred, MachineState}
use Rattle.rme_c.proofs.Common.{stepped_by, job_left, Effect, ScriptPosition, Position, Lock, Within, RmeProcess, script_state_of, layout_of, machine_state_at, FitsPosition, IsStep}
use Rattle.rme_c.proofs.Jobs.{stays, no_answer, is_reported, Report as IsReported}

module _ (p q : RmeProcess) (c : ScriptPosition) (w : Purpose) (job next : Pending) (v : ℕ)
    (doing : script_state_of (layout_of p) p.index p.value c ≡ Does w job) (feeds : job_after_word job v ≡ next)
    (has : HasStep (script_left job)) (follows : script_left next ≡ tail (script_left job) v) where
  abbrev s : MachineState
  s = machine_state_at p (Within c)

  at_job : s ≡ record s { script_state = Does w job }
  at_job = λ i. record s { script_state = doing i }

  steps : stepped_by s s.script_state v ≡ job_left s w next (script_left next)
  steps = ap (λ e. stepped_by s e v) doing ∙ ap (λ j. job_left s w j (script_left j)) feeds

  is_answered : IsReported s v (by_script w s.mended (script_left next))
  is_answered =
      subst (λ (x : MachineState). IsReported x v (by_script w s.mended (script_left next))) (sym at_job)
      (subst (λ e. IsReported (record s { script_state = Does w job }) v (by_script w s.mended e)) (sym follows) (is_reported s w job v has))

  -- it goes on with another script state
  pub goes : (d : ScriptPosition) (r : Position × Effect) → r ≡ (Within d, record { answer = None; blocked = false })
      → q ≡ record p { value = q.value } → script_state_of (layout_of p) p.index q.value d ≡ Does w next → HasStep (script_left next) → FitsPosition q (Within d) → IsStep p (Within c) v q r.0 r.1
  goes d r is same script_state more fits =
      subst (λ (x : Position × Effect). IsStep p (Within c) v q x.0 x.1) (sym is)
      (record {
        exact = ap (λ (x : RmeProcess). machine_state_at x (Within d)) same ∙ ((λ i. record s { script_state = script_state i }) ∙ (sym (stays s w next (script_left next) more) ∙ sym steps));
        answer = sym (is_answered.0 ∙ no_answer w s.mended (script_left next) more);
        blocked = sym is_answered.1;
        fits = fits;
      })

  -- it ends with this reply
  pub ends : (to : Stage) (reply : Reply) (r : Position × Effect) → r ≡ (Lock to, record { answer = by_reply w (p.unmended == 0) reply; blocked = false })
      → q ≡ record p { unmended = q.unmended; barred = q.barred } → script_left next ≡ Done reply
      → place_of p.procs p.index to ≡ end_place w reply → (q.unmended == 0) ≡ end_mended w (p.unmended == 0) reply → not (q.barred == 0) ≡ end_barred w (not (p.barred == 0)) reply
      → FitsPosition q (Lock to) → IsStep p (Within c) v q r.0 r.1
  ends to reply r is same done place mended barred fits =
      subst (λ (x : Position × Effect). IsStep p (Within c) v q x.0 x.1) (sym is)
      (record {
        exact =
            ap (λ (x : RmeProcess). machine_state_at x (Lock to)) same
            ∙ ((λ i. record { layout = layout_of p; limit = p.limit; index = p.index; lock = place i; mended = mended i; barred = barred i; script_state = IsFree })
            ∙ (sym (ap (job_left s w next) done) ∙ sym steps));
        answer = sym (is_answered.0 ∙ ap (by_script w s.mended) done);
        blocked = sym is_answered.1;
        fits = fits;
      })
