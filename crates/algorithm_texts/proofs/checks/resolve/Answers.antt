use Rattle.std.proofs.Common.{◌≡◌, ℕ, ◌+◌, map, drop, Some, sym, ap, ◌∙◌}
use Rattle.std.proofs.lemmas.List.{at_drop_all}
use Rattle.std.specs.List.{find}
use Rattle.algorithms.specs.Faults.{fault_of}
use Rattle.algorithms.specs.declared.fault.ReadFault.TheVariants.{BadLabel}
use Rattle.algorithm_texts.specs.declared.lines.Jump.{Jump}
use Rattle.algorithm_texts.specs.Drafts.{line_of}
use Rattle.algorithm_texts.specs.FinishedDrafts.{jumps_led}
use Rattle.algorithm_texts.specs.TextFaults.{leads_nowhere, number_at}
use Rattle.algorithm_texts.proofs.CallFaults.{found_here, jump_leads, jump_numbers, leads_to_none, lost_on, of_another, pass_on, led_on, skip_on}
use Rattle.algorithm_texts.proofs.RefusedCalls.{on_err}
use Rattle.algorithm_texts.proofs.RunFaults.{err_named}
use Rattle.algorithm_texts.proofs.checks.resolve.Goals as goal
use Rattle.algorithm_texts.proofs.checks.resolve.Goals.{then-is_within+in_ok-lead, else-is_within}

pub loop-jump-preserved : goal.loop-jump-preserved
loop-jump-preserved c =
    let labels = c.args.labels.now in
    let blocks = c.args.blocks.now in
    let call = c.args.call in
    let jumps = c.args.jumps.now in
    let i = c.loop-jump.jump-index in
    let jump = c.jump-item.result in
    let was = c.loop-jump.invariant in
    elim c.if-is_within.branch [
      | then-is_within+in_ok-lead w ↦
          let led = w.in_ok-lead.ensures.ok in
          let same = ap (λ ls. map line_of ls.items) w.lines-is in
          record {
            led = ap (λ ls. jumps_led labels blocks call (drop (i + 1) jumps) ls) same
                ∙ sym (led_on labels blocks call jumps (map line_of c.loop-jump.lines.items) (map line_of w.lead.new.lines.items) i jump c.loop-jump-test.true c.jump-item.is
                (sym c.is_within.ensures ∙ w.if-is_within.true) led)
                ∙ was.led;
            left = pass_on (leads_nowhere labels blocks call) jumps i jump c.loop-jump-test.true c.jump-item.is
                (jump_leads labels blocks call (map line_of c.loop-jump.lines.items) (map line_of w.lead.new.lines.items) jump led) ∙ was.left;
            numbers = λ k. ap (λ ls. number_at ls k) same
                ∙ jump_numbers labels blocks call (map line_of c.loop-jump.lines.items) (map line_of w.lead.new.lines.items) jump led k ∙ was.numbers k;
          }
      | else-is_within w ↦
          let same = ap (λ ls. map line_of ls.items) w.lines-is in
          let other = sym c.is_within.ensures ∙ w.if-is_within.false in
          record {
            led = ap (λ ls. jumps_led labels blocks call (drop (i + 1) jumps) ls) same
                ∙ sym (skip_on labels blocks call jumps (map line_of c.loop-jump.lines.items) i jump c.loop-jump-test.true c.jump-item.is other) ∙ was.led;
            left = pass_on (leads_nowhere labels blocks call) jumps i jump c.loop-jump-test.true c.jump-item.is (of_another labels blocks call jump other) ∙ was.left;
            numbers = λ k. ap (λ ls. number_at ls k) same ∙ was.numbers k;
          }
    ]

pub returns-clause-ok : goal.returns-clause-ok
returns-clause-ok c =
    sym c.loop-jump.invariant.led
    ∙ at_drop_all (λ js. jumps_led c.args.labels.now c.args.blocks.now c.args.call js (map line_of c.loop-jump.lines.items)) c.args.jumps.now c.loop-jump.jump-index c.loop-jump-test.false

pub returns-in_err-lead-clause-err : goal.returns-in_err-lead-clause-err
returns-in_err-lead-clause-err c =
    on_err c.from_residual.result (sym c.loop-jump.invariant.led
    ∙ lost_on c.args.labels.now c.args.blocks.now c.args.call c.args.jumps.now (map line_of c.loop-jump.lines.items) c.loop-jump.jump-index c.jump-item.result
    c.loop-jump-test.true c.jump-item.is (sym c.is_within.ensures ∙ c.if-is_within.true) c.in_err-lead.ensures.err)

pub returns-in_err-lead-clause-named : goal.returns-in_err-lead-clause-named
returns-in_err-lead-clause-named c =
    let labels = c.args.labels.now in
    let blocks = c.args.blocks.now in
    let call = c.args.call in
    let jumps = c.args.jumps.now in
    let jump = c.jump-item.result in
    let named = c.in_err-lead.ensures.named in
    err_named c.from_residual.result c.in_err-lead.field-0.0
    (λ fault. (x : Jump) × (find (leads_nowhere labels blocks call) jumps ≡ Some x) × (fault ≡ fault_of (number_at (map line_of c.args.lines.now.items) x.place) BadLabel))
    c.from_residual.ensures.1 (
      jump,
      sym c.loop-jump.invariant.left
          ∙ found_here (leads_nowhere labels blocks call) jumps c.loop-jump.jump-index jump c.loop-jump-test.true c.jump-item.is
          (leads_to_none labels blocks call jump (sym c.is_within.ensures ∙ c.if-is_within.true) named.0),
      named.1 ∙ ap (λ (n : ℕ). fault_of n BadLabel) (c.loop-jump.invariant.numbers jump.place),
    )
