use Rattle.std.proofs.Common.{◌≡◌, length, take, Some, refl, ap, ◌∙◌, arith, length-take}
use Rattle.rme_c.proofs.Common.{machine_state_of}
use Rattle.rme_c.proofs.AppendStarts.{may_append, appends}
use Rattle.rme_c.specs.Starts.{call_by, call_cause}
use Rattle.rmeworld.specs.declared.call.Call.TheVariants as start
use Rattle.rme_c.proofs.starts.start_append.Goals as goal

pub returns-clause-cause : goal.returns-clause-cause
returns-clause-cause c =
    let p = c.args.p.now in
    let call = c.args.call.now in
    let most = c.requires.sized.layout.most in
    let by : call_by p.width call ≡ Some (start.Append call.number (take p.width call.value)) = rw c.requires.append refl in
    let wide : length (take p.width call.value) ≡ p.width = omega (arith, length-take p.width call.value, c.requires.eight, most) in
    ap (call_cause (machine_state_of p)) by ∙ may_append p call.number (take p.width call.value) c.requires.here c.requires.mended wide

pub returns-clause-started : goal.returns-clause-started
returns-clause-started c =
    rw c.requires.append (appends c.args.p.now c.machine_state.new.p c.args.call.now.number c.args.call.now.value c.requires.here c.machine_state.ensures.is c.machine_state.ensures.same)
