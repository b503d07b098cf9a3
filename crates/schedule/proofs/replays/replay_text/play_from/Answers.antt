use Rattle.std.proofs.Common.{◌≡◌, ◌-◌, take, drop, length, arith, length-drop, take_all}
use Rattle.schedule.proofs.replays.replay_text.play_from.Goals as goal

pub returns : goal.returns
returns g c = λ lines read.
    let rest : take (length c.args.text.items - c.args.from) (drop c.args.from c.args.text.items) ≡ drop c.args.from c.args.text.items = take_all _ _ (omega (arith, length-drop c.args.from c.args.text.items)) in
    c.report_text.ensures lines (rw c.deref.ensures.value (rw rest read))
