use Rattle.std.proofs.Common.{◌∷◌, ◌++◌, [], sym, subst, arith, length-append}
use Rattle.schedule.proofs.ReplaysCommon.{deed_at, first_running_verdict, running_judge, trace_head_at, Stands}
use Rattle.schedule.specs.declared.replays.stage.TraceStage.TheVariants as stages
use Rattle.schedule.proofs.Heard.{hears_both}
use Rattle.schedule.proofs.Staging.{more_reads, more_fails, more_faulty}
use Rattle.schedule.proofs.replays.stage.TraceStage.take.Goals as goal

pub returns-in-Ok-clause-stands : goal.returns-in-Ok-clause-stands
returns-in-Ok-clause-stands c lines stands number =
    let head = c.in-Refused.head in
    let h : Stands (stages.Refused head c.in-Refused.field-1) lines = subst (λ s. Stands s lines) c.in-Refused.is stands in
    (h.0 ++ c.in-Ok.field-0 ∷ [], more_reads trace_head_at (λ g. deed_at g.width) lines c.args.line.now head h.0 c.in-Ok.field-0 h.1 c.in-Ok.ensures, h.2)

pub returns-in-Err-clause-stands : goal.returns-in-Err-clause-stands
returns-in-Err-clause-stands c lines stands number =
    let head = c.in-Refused.head in
    let h : Stands (stages.Refused head c.in-Refused.field-1) lines = subst (λ s. Stands s lines) c.in-Refused.is stands in (
      rw number (more_fails trace_head_at (λ g. deed_at g.width) lines c.args.line.now head h.0 c.in-Err.fault h.1 c.in-Err.ensures),
      omega (arith, length-append lines (c.args.line.now ∷ [])),
    )

pub returns-in-Ok-read_deed-clause-stands : goal.returns-in-Ok-read_deed-clause-stands
returns-in-Ok-read_deed-clause-stands c lines stands number =
    let head = c.in-Judging.head in
    let deed = c.in-Ok-read_deed.deed in
    let h : Stands (stages.Judging head c.in-Judging.judge c.in-Judging.running_verdict) lines = subst (λ s. Stands s lines) c.in-Judging.is stands in (
      h.0 ++ deed ∷ [],
      more_reads trace_head_at (λ g. deed_at g.width) lines c.args.line.now head h.0 deed h.1 c.in-Ok-read_deed.ensures,
      h.2,
      (h.3.0, h.3.1, hears_both (running_judge h.3.0 first_running_verdict) (running_judge c.in-Judging.judge c.in-Judging.running_verdict) (running_judge c.hear.new.judge c.hear.new.self) h.0 (deed ∷ []) h.3.2 c.hear.ensures),
    )

pub returns-in-Err-read_deed-clause-stands : goal.returns-in-Err-read_deed-clause-stands
returns-in-Err-read_deed-clause-stands c lines stands number =
    let head = c.in-Judging.head in
    let h : Stands (stages.Judging head c.in-Judging.judge c.in-Judging.running_verdict) lines = subst (λ s. Stands s lines) c.in-Judging.is stands in (
      rw number (more_fails trace_head_at (λ g. deed_at g.width) lines c.args.line.now head h.0 c.in-Err-read_deed.fault h.1 c.in-Err-read_deed.ensures),
      omega (arith, length-append lines (c.args.line.now ∷ [])),
    )

pub returns-in-Faulty-clause-stands : goal.returns-in-Faulty-clause-stands
returns-in-Faulty-clause-stands c lines stands number =
    let h : Stands (stages.Faulty c.in-Faulty.field-0 c.in-Faulty.field-1) lines = subst (λ s. Stands s lines) c.in-Faulty.is stands in
    let now : Stands (stages.Faulty c.in-Faulty.field-0 c.in-Faulty.field-1) (lines ++ c.args.line.now ∷ []) = (
      more_faulty trace_head_at (λ g. deed_at g.width) lines c.args.line.now (c.in-Faulty.field-0, c.in-Faulty.field-1) h.1 h.0,
      omega (arith, length-append lines (c.args.line.now ∷ [])),
    ) in
    subst (λ s. Stands s (lines ++ c.args.line.now ∷ [])) (sym c.in-Faulty.is) now
