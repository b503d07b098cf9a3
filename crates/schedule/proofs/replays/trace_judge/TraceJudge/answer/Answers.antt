use Rattle.std.proofs.Common.{◌≡◌, ◌<◌, [], length, sym, ap, subst, ◌∙◌, arith}
use Rattle.schedule.proofs.ReplaysCommon.{nil_from_length, Stands, TraceJudgeState}
use Rattle.schedule.proofs.Answering.{ended_first, ended_judging, cut_faulty, cut_fine}
use Rattle.schedule.proofs.replays.trace_judge.TraceJudge.answer.Goals as goal

pub returns-in-Faulty : goal.returns-in-Faulty
returns-in-Faulty c lines follows few =
    let some : 0 < length c.args.rest.now = grind arith in
    let stage = sym (ap (λ (t : TraceJudgeState). t.stage) c.self.view_is) ∙ c.in-Faulty.is in
    rw c.text_fault.ensures (sym (cut_faulty lines c.args.rest.now c.in-Faulty.line c.in-Faulty.fault some (subst (λ s. Stands s lines) stage (follows few).1)))

pub returns-in_default : goal.returns-in_default
returns-in_default c lines follows few =
    let some : 0 < length c.args.rest.now = grind arith in
    let stage = sym (ap (λ (t : TraceJudgeState). t.stage) c.self.view_is) in
    let line = ap (λ (t : TraceJudgeState). t.line) c.self.view_is ∙ (follows few).0 in
    rw (c.text_fault-in_default.ensures, line) (sym (cut_fine c.self.inside.stage lines c.args.rest.now some c.in_default.not-Faulty (subst (λ s. Stands s lines) stage (follows few).1)))

pub returns-in-First : goal.returns-in-First
returns-in-First c lines follows few =
    let none : c.args.rest.now ≡ [] = nil_from_length c.args.rest.now (grind arith) in
    let stage = sym (ap (λ (t : TraceJudgeState). t.stage) c.self.view_is) ∙ c.in-First.is in
    rw (c.text_fault-in-First.ensures, none) (sym (ended_first lines (subst (λ s. Stands s lines) stage (follows few).1)))

pub returns-in-Judging : goal.returns-in-Judging
returns-in-Judging c lines follows few =
    let none : c.args.rest.now ≡ [] = nil_from_length c.args.rest.now (grind arith) in
    let stage = sym (ap (λ (t : TraceJudgeState). t.stage) c.self.view_is) ∙ c.in-Judging.is in
    rw (c.verdict.ensures, none) (sym (ended_judging lines c.in-Judging.field-0 c.in-Judging.field-1 c.in-Judging.running_verdict (subst (λ s. Stands s lines) stage (follows few).1)))
