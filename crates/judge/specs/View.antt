-- A judge's state as contracts see it.
use Rattle.judge.specs.Kept.{Kept}
use Rattle.judge.specs.declared.judge.Judge.TheInside.{Inside}

-- the state of a judge
abbrev pub kept_of : Inside → Kept
kept_of judge = record {
  procs = judge.procs;
  cap = judge.cap;
  most_inside = judge.most_inside;
  phases = judge.phases.items;
  ahead = judge.ahead.items;
  counts = judge.counts.items;
  shown = judge.shown;
  pending = judge.pending;
  closed = judge.closed;
  ruined = judge.ruined;
}
