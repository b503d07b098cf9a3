use Rattle.std.proofs.Common.{◌-◌, ◌^◌, ◌≤◌, List, true, length, Some, None, refl, sym, ap, ◌∙◌, subst, arith}
use Rattle.robust.proofs.CallCommon.{Inside, Clean, ProcessState, TakenStep, Setup, Going, Ran, NeverCrashes, Lasts, process_state_now, Seated}
use Rattle.robust.proofs.FreeSteps.{seat}
use Rattle.robust.proofs.FastCalls.{fast_going, fast_blocked, fast_answered, run_by_stood, run_by_stage}
use Rattle.robust.proofs.call.call_driver.CallDriver.fast_lock.Goals as goal

pub returns-in-Stands-clause-on : goal.returns-in-Stands-clause-on
returns-in-Stands-clause-on g c = λ none.
    let w = c.self.inside in
    let k = c.in-Some-go_in.taken in
    let z = c.go_in.new.port in
    let small : w.steps ≤ 2 ^ 64 - 1 = omega arith in
    let h = c.in-Some-go_in.ensures.some.stands c.in-Stands.stage c.in-Stands.is in
    subst (λ (u : Seated). (mine : List TakenStep) × Going u mine (seat z c.saturating_add-self-inside.result) × NeverCrashes (length mine) (g.C.CrashPlan.askings c.args.plan.now) (g.C.CrashPlan.askings c.count_without_crash.new.plan)) c.self.view_is
    (fast_going w.port z k w.steps c.saturating_add-self-inside.result _ _ small c.saturating_add-self-inside.ensures c.count_without_crash.ensures h.1)

pub returns-in-Ruined-clause-on : goal.returns-in-Ruined-clause-on
returns-in-Ruined-clause-on g c = λ none.
    let w = c.self.inside in
    let k = c.in-Some-go_in.taken in
    let z = c.go_in.new.port in
    let small : w.steps ≤ 2 ^ 64 - 1 = omega arith in
    let h = c.in-Some-go_in.ensures.some.ruined c.in-Ruined.is in
    subst (λ (u : Seated). (mine : List TakenStep) × Going u mine (seat z c.saturating_add-self-inside.result) × NeverCrashes (length mine) (g.C.CrashPlan.askings c.args.plan.now) (g.C.CrashPlan.askings c.count_without_crash.new.plan)) c.self.view_is
    (fast_going w.port z k w.steps c.saturating_add-self-inside.result _ _ small c.saturating_add-self-inside.ensures c.count_without_crash.ensures h.1)

pub returns-in-Blocked-clause-ran : goal.returns-in-Blocked-clause-ran
returns-in-Blocked-clause-ran g c =
    let w = c.self.inside in
    let k = c.in-Some-go_in.taken in
    let z = c.go_in.new.port in
    let small : w.steps ≤ 2 ^ 64 - 1 = omega arith in
    let h = c.in-Some-go_in.ensures.some.blocked c.in-Blocked.stage c.in-Blocked.is in
    subst (λ (u : Seated). (mine : List TakenStep) × Ran u None (seat z c.saturating_add-self-inside.result) mine × NeverCrashes (length mine) (g.C.CrashPlan.askings c.args.plan.now) (g.C.CrashPlan.askings c.count_without_crash.new.plan)) c.self.view_is
    (fast_blocked w.port z k w.steps c.saturating_add-self-inside.result _ _ small c.saturating_add-self-inside.ensures c.count_without_crash.ensures h.1)

pub returns-in-Blocked-clause-still : goal.returns-in-Blocked-clause-still
returns-in-Blocked-clause-still g c =
    let h = c.in-Some-go_in.ensures.some.blocked c.in-Blocked.stage c.in-Blocked.is in
    let b = h.2 in
    let lasts = subst (λ (s : Setup). Lasts s.layout.procs 256 (process_state_now c.go_in.new.port)) (sym c.in-Some-go_in.ensures.some.same.0) b.2 in
    (refl, b.0, b.1, lasts, h.3)

pub returns-in-Clean-clause-ran : goal.returns-in-Clean-clause-ran
returns-in-Clean-clause-ran g c =
    let w = c.self.inside in
    let k = c.in-Some-go_in.taken in
    let z = c.go_in.new.port in
    let small : w.steps ≤ 2 ^ 64 - 1 = omega arith in
    let h = c.in-Some-go_in.ensures.some.clean c.in-Clean.is in
    subst (λ (u : Seated). (mine : List TakenStep) × Ran u (Some Clean) (seat z c.saturating_add-self-inside.result) mine × NeverCrashes (length mine) (g.C.CrashPlan.askings c.args.plan.now) (g.C.CrashPlan.askings c.count_without_crash.new.plan)) c.self.view_is
    (fast_answered w.port z k w.steps c.saturating_add-self-inside.result _ _ small c.saturating_add-self-inside.ensures c.count_without_crash.ensures Clean h.1)

pub invariant_of-self-in-Blocked : goal.invariant_of-self-in-Blocked
invariant_of-self-in-Blocked g c =
    let w = c.self.inside in
    let e = c.in-Some-go_in.ensures.some in
    run_by_stage w.port c.go_in.new.port w.process c.seam_machine_state.new.self c.in-Blocked.stage c.self.invariant e.same e.barred c.in-Some.ensures.free (e.blocked c.in-Blocked.stage c.in-Blocked.is).0 c.seam_machine_state.ensures

pub invariant_of-self-in-Stands : goal.invariant_of-self-in-Stands
invariant_of-self-in-Stands g c =
    let w = c.self.inside in
    let e = c.in-Some-go_in.ensures.some in
    run_by_stage w.port c.go_in.new.port w.process c.seam_machine_state-in-Stands.new.self c.in-Stands.stage c.self.invariant e.same e.barred c.in-Some.ensures.free (e.stands c.in-Stands.stage c.in-Stands.is).0 c.seam_machine_state-in-Stands.ensures

pub invariant_of-self-in-Clean : goal.invariant_of-self-in-Clean
invariant_of-self-in-Clean g c =
    let w = c.self.inside in
    let e = c.in-Some-go_in.ensures.some in
    run_by_stood w.port c.go_in.new.port w.process c.seam_machine_state_clean.new.self Inside true c.self.invariant e.same e.barred c.in-Some.ensures.free (e.clean c.in-Clean.is).0 c.seam_machine_state_clean.ensures

pub bar-requires-clause-barred : goal.bar-requires-clause-barred
bar-requires-clause-barred g c = ap (λ (q : ProcessState). q.barred) c.self.invariant.process_state ∙ c.in-Some-go_in.ensures.some.barred
