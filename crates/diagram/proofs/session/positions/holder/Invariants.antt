use Rattle.std.proofs.Common.{◌≡◌, drop}
use Rattle.diagram.specs.Standings.{holder}
use Rattle.diagram.proofs.session.positions.holder.Given as goal

abbrev pub invariant-loop-own : goal.invariant-loop-own
invariant-loop-own l = (holder l.p (drop l.own-index l.owns) ≡ holder 0 l.owns) × (l.p ≡ l.own-index)
