use Rattle.std.proofs.Common.{refl, arith}
use Rattle.schedule.proofs.ReplaysCommon.{RunningVerdict, Against}
use Rattle.schedule.proofs.Heard.{hears_allowed, hears_refused}
use Rattle.schedule.proofs.replays.running_verdict.RunningVerdict.ask.Goals as goal

pub returns : goal.returns
returns c =
    let now : RunningVerdict = record { number = c.saturating_add-self.result; verdict = c.args.self.now.verdict } in
    hears_allowed c.args.judge.now c.feed_from.new.self c.args.self.now now c.args.deed.now c.requires c.requires (omega (arith, c.saturating_add-self.ensures)) (λ s keeps. c.in_default.ensures.judged s keeps)

pub returns-in-Err : goal.returns-in-Err
returns-in-Err c =
    let number = c.args.self.now.number in
    let now : RunningVerdict = record { number = number; verdict = Against number c.in-Err.fault } in
    hears_refused c.args.judge.now c.feed_from.new.self c.args.self.now now c.args.deed.now c.in-Err.fault c.requires refl c.in-Err.ensures.same (λ s keeps. c.in-Err.ensures.judged s keeps)
