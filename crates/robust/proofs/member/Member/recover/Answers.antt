use Rattle.std.proofs.Common.{rules, ◌≡◌, ◌≢◌, ◌≤◌, [], ◌∷◌, Some, Ok, subst}
use Rattle.robust.proofs.Common.{Layout, Answer, Found, Recover, most_steps, AlreadyIn, Served, free_to_start, Seated, few_out, err_any, called_counts}
use Rattle.table_runs.specs.Tabled.{table_steps}
use Rattle.robust.proofs.member.Member.recover.Goals as goal

pub returns-clause-table : goal.returns-clause-table
returns-clause-table g c =
    let x = c.self.inside.call_driver in
    let y = c.serve.new.self in
    let r = c.in_ok-found.ensures.answered in
    let out = c.in_ok-set_out.ensures.out in
    let is : c.in_ok-found.field-0 ≡ Found c.in-Found.found = search rules in
    let served = subst (λ (a : Answer). Served c.set_out.new.self Recover (a ∷ []) 0 y r.0) is r.1 in
    subst (λ (u : Seated). table_steps (free_to_start u).seat_view Recover (Found c.in-Found.found) ≡ Some y.steps) c.self.view_is
    (called_counts (free_to_start x) c.set_out.new.self y Recover _ _ (Ok (Found c.in-Found.found)) out.0 out.2 (r.0, served, r.2))

pub returns-in_err-found-clause-few : goal.returns-in_err-found-clause-few
returns-in_err-found-clause-few g c =
    let y = c.serve.new.self in
    err_any c.from_residual-in_err-found.result (λ e. e ≢ AlreadyIn) _
    (subst (λ (u : Seated). y.steps ≤ most_steps u.seat_view.setup.layout Recover) c.self.view_is (few_out c.self.inside.call_driver c.set_out.new.self y Recover (λ (l : Layout). most_steps l Recover) c.in_ok-set_out.ensures.out.0 c.serve.ensures.few))
