use Rattle.std.proofs.Common.{◌≡◌, ◌∙◌, List, length, ℕ, ap, subst, rules, arith}
use Rattle.std.proofs.lemmas.Grind.{common_steps}
use Rattle.std.proofs.lemmas.List.{with_items_is}
use Rattle.std.specs.Arc.{arc_value}
use Rattle.std.specs.Vec.{with_items}
use Rattle.algorithms.specs.FirstWords.{held_rows}
use Rattle.algorithms.specs.Worlds.{AlgorithmWorldState, words_after_access}
use Rattle.algorithms.proofs.Worlds.{blocked_step, stored_many}
use Rattle.algorithms.proofs.world.AlgorithmWorld.advance.Goals as goal

pub returns-else-not-advanced-clause-ok : goal.returns-else-not-advanced-clause-ok
returns-else-not-advanced-clause-ok c =
    let a = c.in_ok-advanced.advanced in
    let rows : List (List ℕ) = c.self.inside.words.items in
    let world : AlgorithmWorldState = record { algorithm = arc_value c.self.inside.algorithm; procs = c.self.inside.procs; limit = c.self.inside.limit; first_rows = held_rows (arc_value c.self.inside.first_rows); words = rows; processes = c.self.inside.processes.items } in
    let many : length rows ≡ c.self.inside.words.len = first_of (search rules, grind (arith, common_steps)) in
    let changed : c.store.new.words ≡ words_after_access rows a.access.address a.access.stores = search rules in
    let within : length c.store.new.words ≡ c.self.inside.words.len = ap length changed ∙ stored_many rows a.access.address a.access.stores ∙ many in
    let words : (with_items c.self.inside.words c.store.new.words).items ≡ words_after_access rows a.access.address a.access.stores = with_items_is c.self.inside.words c.store.new.words within ∙ changed in
    let now : AlgorithmWorldState = record world { words = (with_items c.self.inside.words c.store.new.words).items } in
    let after : now ≡ record world { words = words_after_access world.words a.access.address a.access.stores } = ap (λ (ws : List (List ℕ)). record world { words = ws }) words in
    blocked_step c.args.self.now now c.args.p c.in-At.at c.in_ok-process.process.now a c.take.new.state c.in_ok-process.ensures.ok c.in-At.is (search rules) (search rules)
    (subst (λ (w : AlgorithmWorldState). now ≡ record w { words = words_after_access w.words a.access.address a.access.stores }) c.self.view_is after)
