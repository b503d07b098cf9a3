use Rattle.std.proofs.Common.{◌≡◌, ◌++◌, drop}
use Rattle.algorithm_lab.specs.Reports.{words_text}
use Rattle.algorithm_lab.proofs.report.put_all_words.Given as goal

-- what is written so far, and the lines that are left
abbrev pub invariant-loop-at : goal.invariant-loop-at
invariant-loop-at l = l.page.items ++ words_text l.procs l.limit l.rows l.at (drop l.at l.declarations) ≡ l.fn.page.items ++ words_text l.procs l.limit l.rows 0 l.declarations
