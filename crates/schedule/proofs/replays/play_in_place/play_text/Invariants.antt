use Rattle.std.proofs.Common.{◌≡◌, ◌+◌, ◌≤◌, List, Ok, length}
use Rattle.schedule.proofs.ReplaysCommon.{Line, line_at, parts_of, items_at}
use Rattle.schedule.specs.Fragments.{itself, run_on}
use Rattle.schedule.proofs.Fragments.{RunsOn}
use Rattle.schedule.proofs.replays.play_in_place.play_text.Given as goal

abbrev pub invariant-loop-rest : goal.invariant-loop-rest
invariant-loop-rest g l =
    let m = g.M.Automaton.transitions in
    record {
      room : l.number + length l.rest ≤ 2 + length l.text;
      read : (all : List Line) × (items_at (line_at l.width) l.number (parts_of l.rest) ≡ Ok all);
      played : (lines : List Line) → items_at (line_at l.width) 2 (parts_of l.text) ≡ Ok lines
          → (left : List Line) × (items_at (line_at l.width) l.number (parts_of l.rest) ≡ Ok left)
          × RunsOn m g.L.Listener.effects (run_on m itself 2 l.fn.machine lines) l.fn.listener l.listener l.number l.machine left;
    }

abbrev pub decreases-loop-rest : goal.decreases-loop-rest
decreases-loop-rest g l = length l.rest
