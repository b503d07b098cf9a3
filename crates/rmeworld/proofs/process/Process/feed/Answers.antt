use Rattle.std.proofs.Common.{◌≡◌, sym, ap, ◌∙◌}
use Rattle.rmeworld.proofs.Common.{progress, lock_access, IsFree as Free, by_lock, MachineState, standing, outcome, next_access}
use Rattle.rmeworld.proofs.Chores.{with, lock_outcome}
use Rattle.rmeworld.proofs.process.Process.feed.Goals as goal

pub returns-in-Free-clause-outcome : goal.returns-in-Free-clause-outcome
returns-in-Free-clause-outcome c =
    let now : MachineState = c.args.self.now in
    let view = c.self.view_is in
    let is : c.move_on.result ≡ progress (standing now) (lock_access (standing now)) c.args.value = c.move_on.ensures.progress ∙ ap (λ (s : MachineState). progress (standing s) (lock_access (standing s)) c.args.value) view in
    let free : now.script_state ≡ Free = sym (ap (λ (s : MachineState). s.script_state) view) ∙ c.in-Free.is in
    let answer : by_lock c.self.inside.barred c.move_on.result.done ≡ by_lock now.barred (progress (standing now) (lock_access (standing now)) c.args.value).done = λ i. by_lock ((ap (λ (s : MachineState). s.barred) view) i) (is i).done in
    let reports : record { progress = c.move_on.result; answer = by_lock c.self.inside.barred c.move_on.result.done } ≡ outcome (with now Free) (next_access (with now Free)) c.args.value = (λ i. record { progress = is i; answer = answer i }) ∙ sym (lock_outcome now c.args.value) in
    c.lock_outcome.ensures ∙ reports ∙ ap (λ e. outcome (with now e) (next_access (with now e)) c.args.value) (sym free)
