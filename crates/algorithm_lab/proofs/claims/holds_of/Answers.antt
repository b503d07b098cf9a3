use Rattle.std.proofs.Common.{◌≡◌, ◌∙◌}
use Rattle.algorithms.specs.Claims.{is_satisfied}
use Rattle.algorithm_lab.specs.Claims.{names_of_two, with_facts}
use Rattle.algorithm_lab.proofs.claims.holds_of.Goals as goal

-- the names are those of the claim, and the condition is tried with them
pub returns : goal.returns
returns c =
    let w = c.args.world.now in
    let claim = c.args.claim.now in
    let names : c.put_facts.new.names ≡ with_facts w c.args.phases.now claim.processes (names_of_two c.args.first c.args.second) claim.facts.items =
    c.put_facts.ensures ∙ (λ i. with_facts w c.args.phases.now claim.processes (c.names_of_two-names.ensures i) (c.as_slice.ensures.value i))
    in
    c.is_satisfied.ensures ∙ (λ i. is_satisfied (c.sizes.ensures i) (names i) claim.condition)
