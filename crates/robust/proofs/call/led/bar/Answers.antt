use Rattle.std.proofs.Common.{◌≡◌, ◌≤◌, None, ap, ◌∙◌, arith}
use Rattle.robust.proofs.CallCommon.{Wait, Layout, MachineState, machine_after_step}
use Rattle.rmecore.proofs.Scans.{above_past}
use Rattle.rmeworld.specs.MachineState.{process_state_of}
use Rattle.robust.proofs.FastCalls.{last_wait, asks_ruin, goes_out, comes_there, goes_there}
use Rattle.robust.proofs.call.led.bar.Goals as goal

pub returns : goal.returns
returns c =
    let s = c.args.process.now in
    let past : s.layout.procs ≤ c.layout-next.result.procs = (let e = ap (λ (l : Layout). l.procs) c.layout-next.ensures.layout in omega arith) in
    let none = above_past s.layout.procs s.index c.layout-next.result.procs past in
    let e1 : c.seam_machine_state.new.self ≡ last_wait s.layout s.limit s.index s.mended = c.seam_machine_state.ensures ∙ (λ i. record { layout = s.layout; limit = s.limit; index = s.index; lock = Wait 1 (none i) None; mended = s.mended; barred = c.requires.barred i; script_state = c.requires.free i }) in
    let e2 : c.feed.new.self ≡ asks_ruin s.layout s.limit s.index s.mended = c.feed.ensures.exact ∙ ap (λ (t : MachineState). machine_after_step t 1) e1 ∙ comes_there s.layout s.limit s.index s.mended in
    let e3 : c.feed-2.new.self ≡ goes_out s.layout s.limit s.index s.mended = c.feed-2.ensures.exact ∙ ap (λ (t : MachineState). machine_after_step t 1) e2 ∙ goes_there s.layout s.limit s.index s.mended in
    record { at = ap process_state_of e3; same = (ap (λ (t : MachineState). t.layout) e3, ap (λ (t : MachineState). t.limit) e3, ap (λ (t : MachineState). t.index) e3) }
