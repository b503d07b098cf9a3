use Rattle.std.proofs.Common.{◌≡◌, sym, ap, ◌∙◌}
use Rattle.rmeworld.proofs.Common.{progress, lock_access, IsFree as Free, by_lock, MachineState, standing, outcome, next_access}
use Rattle.rmeworld.proofs.Chores.{with, lock_outcome, standing_is}
use Rattle.rmeworld.proofs.process.Process.outlook.Goals as goal

pub returns-in-Free : goal.returns-in-Free
returns-in-Free c =
    let now : MachineState = c.args.self.now in
    let view = c.self.view_is in
    let lock = standing_is now c.self.inside.lock (c.self.invariant.procs ∙ ap (λ (s : MachineState). s.layout.procs) view) (ap (λ (s : MachineState). s.limit) view) (c.self.invariant.index ∙ ap (λ (s : MachineState). s.index) view) (ap (λ (s : MachineState). s.lock) view) in
    let is : c.outlook.result ≡ progress (standing now) (lock_access (standing now)) c.args.value = c.outlook.ensures ∙ ap (λ t. progress t (lock_access t) c.args.value) (sym lock) in
    let free : now.script_state ≡ Free = sym (ap (λ (s : MachineState). s.script_state) view) ∙ c.in-Free.is in
    let answer : by_lock c.self.inside.barred c.outlook.result.done ≡ by_lock now.barred (progress (standing now) (lock_access (standing now)) c.args.value).done = λ i. by_lock ((ap (λ (s : MachineState). s.barred) view) i) (is i).done in
    let reports : record { progress = c.outlook.result; answer = by_lock c.self.inside.barred c.outlook.result.done } ≡ outcome (with now Free) (next_access (with now Free)) c.args.value = (λ i. record { progress = is i; answer = answer i }) ∙ sym (lock_outcome now c.args.value) in
    c.lock_outcome.ensures ∙ reports ∙ ap (λ e. outcome (with now e) (next_access (with now e)) c.args.value) (sym free)
