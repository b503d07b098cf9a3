use Rattle.std.proofs.Common.{refl, inl}
use Rattle.schedule.proofs.Fragments.{crash_halts}
use Rattle.schedule.proofs.player.play_lines.take_crash.Goals as goal

pub returns-in-Err : goal.returns-in-Err
returns-in-Err g c =
    crash_halts g.M.Automaton.transitions g.L.Listener.effects c.args.p _ _ _ c.in-Err.refusal c.stop_of.result c.in-Err.ensures.refused c.in-Err.ensures.memory c.in-Err.ensures.err c.stop_of.ensures

pub returns-in-Err-hear_crash : goal.returns-in-Err-hear_crash
returns-in-Err-hear_crash g c = rw (c.in-Ok.ensures.accepted, ← c.in-Ok.ensures.said) (inl c.in-Err-hear_crash.ensures.err)

pub returns : goal.returns
returns g c =
    rw (c.in-Ok.ensures.accepted, ← c.in-Ok.ensures.said) record { hears = (c.hear_crash.new.self, c.in_default.ensures.ok, refl); stands = c.in-Ok.ensures.ok; refused_is = refl }
