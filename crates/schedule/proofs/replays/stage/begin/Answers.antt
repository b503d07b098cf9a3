use Rattle.std.proofs.Common.{[], Err, sym, ap, ◌∙◌, lit<}
use Rattle.schedule.proofs.ReplaysCommon.{empty_state, deed_at, first_running_verdict, running_judge, trace_head_at}
use Rattle.schedule.proofs.Heard.{hears_none}
use Rattle.schedule.proofs.Judging.{none_refused, is_refused, stands_first}
use Rattle.schedule.proofs.Staging.{first_fails, first_reads}
use Rattle.schedule.proofs.replays.stage.begin.Goals as goal

pub returns-in-Err-clause-stands : goal.returns-in-Err-clause-stands
returns-in-Err-clause-stands c = (first_fails trace_head_at (λ h. deed_at h.width) c.args.line.now c.in-Err.fault c.in-Err.ensures.head, lit< tt)

pub returns-in-Ok-new-clause-stands : goal.returns-in-Ok-new-clause-stands
returns-in-Ok-new-clause-stands c =
    let head = c.in-Ok.head in
    let judge = c.in-Ok-new.judge in (
      [],
      first_reads trace_head_at (λ h. deed_at h.width) c.args.line.now head c.in-Ok.ensures.head,
      none_refused head.procs head.cap (λ h. absurd (let no = c.in-Ok-new.ensures.procs.1 h in cc)) (λ h. absurd (let no = c.in-Ok-new.ensures.cap.1 h in cc)),
      (judge, stands_first (empty_state head.procs head.cap) judge c.in-Ok-new.ensures.made, hears_none (running_judge judge first_running_verdict)),
    )

pub returns-in-Some-clause-stands : goal.returns-in-Some-clause-stands
returns-in-Some-clause-stands c =
    let head = c.in-Ok.head in (
      [],
      first_reads trace_head_at (λ h. deed_at h.width) c.args.line.now head c.in-Ok.ensures.head,
      is_refused head.procs head.cap c.in-Err-new.refusal c.in-Some.number (λ e. c.in-Err-new.ensures.procs.0 (ap (λ r. Err r) e)) (λ e. c.in-Err-new.ensures.cap.0 (ap (λ r. Err r) e)) c.in-Err-new.ensures.only (sym c.number.ensures ∙ c.in-Some.is),
    )
