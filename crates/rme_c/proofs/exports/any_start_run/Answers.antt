use Rattle.std.proofs.Common.{◌≡◌, ◌≢◌, ℕ, ◌==◌, false, sym, ap, ◌∙◌, arith}
use Rattle.std.proofs.lemmas.Bool.{ne_eqb}
use Rattle.rme_c.proofs.Common.{MachineState, machine_state_of}
use Rattle.rme_c.proofs.RunFeeds.{refusal_small}
use Rattle.rme_c.specs.Runs.{start_code}
use Rattle.rme_c.specs.Starts.{start_cause}
use Rattle.rme_c.proofs.exports.any_start_run.Goals as goal

refused_code : (r k : ℕ) (s : MachineState) → r ≢ 0 → r ≡ k → r ≡ start_code k s
refused_code r k s some is = let no : (k == 0) ≡ false = ne_eqb k 0 (λ z. some (is ∙ z)) in rw no is

pub returns-then-refused-ne0 : goal.returns-then-refused-ne0
returns-then-refused-ne0 c =
    let e = c.rme_start-refused.ensures in
    let status = e.status in
    let small = refusal_small (start_cause (machine_state_of c.args.p.now) c.args.call.now) in
    record {
      code = refused_code _ _ (machine_state_of c.rme_start-refused.new.p) c.if-refused-ne0.true status;
      status = λ h. status;
      allowed = λ h. absurd (omega (arith, h, small, status));
      started = λ z. e.started (status ∙ z);
      steps = λ z. e.steps (status ∙ z);
      run = λ h. absurd (omega (arith, h, small, status));
      next = e.next;
      refused = λ h l. e.refused c.if-refused-ne0.true;
    }

pub returns : goal.returns
returns c =
    let e = c.rme_start-refused.ensures in
    let status = e.status in
    let b = c.run_at_start.ensures in
    let ok : c.rme_start-refused.result ≡ 0 = c.if-refused-ne0.false in
    record {
      code = b.code ∙ sym (ap (λ k. start_code k (machine_state_of c.rme_start-refused.new.p)) (sym status ∙ ok));
      status = λ h. (b.few h).0 ∙ sym ok ∙ e.status;
      allowed = λ h. sym e.status ∙ ok;
      started = λ z. e.started ok;
      steps = λ z. e.steps ok;
      run = b.run;
      next = λ z. (b.few (omega (arith, z))).1 ∙ e.next ok;
      refused = λ h l. let z = (b.few l).0 in absurd (omega (arith, h, z));
    }
