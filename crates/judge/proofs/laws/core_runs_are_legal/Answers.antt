use Rattle.std.proofs.Common.{map}
use Rattle.judge.proofs.Common.{all_after, empty_state}
use Rattle.rmecore.specs.World.{at_rest}
use Rattle.rmecore.specs.World as world
use Rattle.redomail.specs.declared.deed.Deed.TheVariants.{Outer}
use Rattle.judge.proofs.Inside.{Sole-empty, NoTwoInside-from_allowed, DeadReenters-from_allowed}
use Rattle.judge.proofs.Order.{FirstComeFirstServed-from_allowed}
use Rattle.judge.proofs.Halves.{Allowed-outers, Leads-allowed}
use Rattle.judge.proofs.laws.core_runs_are_legal.Goals as goal

pub returns-clause-legal : goal.returns-clause-legal
returns-clause-legal c n limit cap events run =
    let ds = world.deeds n limit at_rest events in
    (all_after (empty_state n cap) (map Outer ds), Leads-allowed (empty_state n cap) (map Outer ds) (Allowed-outers n cap ds (c.every_run_is_legal.ensures n limit events run)))

pub returns-clause-plain : goal.returns-clause-plain
returns-clause-plain c n limit events run =
    let ds = world.deeds n limit at_rest events in
    let ok = Allowed-outers n 1 ds (c.every_run_is_legal.ensures n limit events run) in
    let sole = Sole-empty n 1 in
    record {
      no_two_inside = NoTwoInside-from_allowed (empty_state n 1) (map Outer ds) sole ok;
      dead_reenters = DeadReenters-from_allowed (empty_state n 1) (map Outer ds) sole ok;
      first_come = FirstComeFirstServed-from_allowed (empty_state n 1) (map Outer ds) ok;
    }
