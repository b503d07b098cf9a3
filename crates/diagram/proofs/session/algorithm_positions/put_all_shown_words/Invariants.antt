use Rattle.std.proofs.Common.{◌≡◌, ◌++◌, drop}
use Rattle.diagram.specs.AlgorithmStandings.{all_words_shown}
use Rattle.diagram.proofs.session.algorithm_positions.put_all_shown_words.Given as goal

-- what is written so far, and the declarations that are left
abbrev pub invariant-loop-at : goal.invariant-loop-at
invariant-loop-at l =
    l.out.items ++ all_words_shown l.procs l.limit l.rows l.at (drop l.at l.declarations) ≡ l.fn.out.items ++ all_words_shown l.procs l.limit l.rows 0 l.declarations
