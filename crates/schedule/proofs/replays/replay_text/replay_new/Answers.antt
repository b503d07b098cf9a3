use Rattle.std.proofs.Common.{inl}
use Rattle.schedule.proofs.ReplaysCommon.{empty_state, new_refusal, scheduled_with, layout_of}
use Rattle.schedule.proofs.Heading.{header_refused, no_memory}
use Rattle.schedule.proofs.Judging.{stands_first}
use Rattle.schedule.proofs.replays.replay_text.replay_new.Goals as goal

pub returns-in-Err-clause-of : goal.returns-in-Err-clause-of
returns-in-Err-clause-of g c all read =
    let schedule = scheduled_with (c.args.head, all) in
    rw c.at_header.ensures (header_refused (g.W.Sink.tape c.args.w.now) schedule c.in-Err.refusal (new_refusal (layout_of schedule) schedule.limit) c.in-Err.ensures.refused)

pub returns-in-Err-new-clause-of : goal.returns-in-Err-new-clause-of
returns-in-Err-new-clause-of g c all read =
    let schedule = scheduled_with (c.args.head, all) in
    no_memory (g.W.Sink.tape c.args.w.now) schedule (new_refusal (layout_of schedule) schedule.limit) c.in-Ok.ensures.accepted

pub returns-clause-of : goal.returns-clause-of
returns-clause-of g c all read =
    let start = empty_state c.args.head.procs c.args.head.cap in
    let played = c.replay_in_place.ensures start all (stands_first start c.in-Ok-new.judge c.in-Ok-new.ensures.made) read in
    rw c.in-Ok.ensures.accepted (inl (rw (← c.in-Ok.ensures.ok) played))

pub returns-clause-fine : goal.returns-clause-fine
returns-clause-fine g c =
    let start = empty_state c.args.head.procs c.args.head.cap in
    let read = c.requires.read in
    let played = c.replay_in_place.ensures start read.0 (stands_first start c.in-Ok-new.judge c.in-Ok-new.ensures.made) read.1 in
    let reports = rw c.in-Ok.ensures.ok at played in
    c.worlds_are_never_found_out.ensures.replayed (layout_of (scheduled_with (c.args.head, read.0))) c.args.head.limit read.0 _ _ c.replay_in_place.result c.in-Ok.ensures.accepted reports
