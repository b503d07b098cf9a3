use Rattle.std.proofs.Common.{◌≡◌, length, replicate, Option, ap, ◌∙◌, rules, arith}
use Rattle.std.proofs.lemmas.Grind.{common_steps}
use Rattle.std.specs.Arc.{arc_value}
use Rattle.algorithms.specs.FirstWords.{first_rows, rows_at_beginning, held_rows}
use Rattle.algorithms.specs.Worlds.{resting}
use Rattle.algorithms.specs.declared.algorithm.Algorithm.{Algorithm}
use Rattle.algorithms.specs.declared.first_rows.FirstRows.{FirstRows}
use Rattle.algorithms.proofs.Worlds.{first_with, world_with}
use Rattle.algorithms.proofs.world.AlgorithmWorld.new.Goals as goal

pub returns-clause-world : goal.returns-clause-world
returns-clause-world c =
    let s = c.args.algorithm in
    let words = c.in_ok-words.words.items in
    let processes = c.in_ok-processes.processes.items in
    let first : held_rows c.in_ok-rows.rows ≡ first_rows s.algorithm c.args.procs c.args.limit s.first_values = first_of (search rules, grind (arith, common_steps)) in
    let begun : words ≡ rows_at_beginning (held_rows c.in_ok-rows.rows) (length s.algorithm.declarations.items) = first_of (search rules, grind (arith, common_steps)) in
    let rested : processes ≡ replicate c.args.procs resting = first_of (search rules, grind (arith, common_steps)) in
    ap (λ (a : Algorithm). world_with a c.args.procs c.args.limit (held_rows (arc_value c.in_ok-first_rows.first_rows)) words processes) c.in_ok-algorithm.ensures.ok
    ∙ ap (λ (o : Option FirstRows). world_with s.algorithm c.args.procs c.args.limit (held_rows o) words processes) c.in_ok-first_rows.ensures.ok
    ∙ first_with s c.args.procs c.args.limit (held_rows c.in_ok-rows.rows) words processes first begun rested
