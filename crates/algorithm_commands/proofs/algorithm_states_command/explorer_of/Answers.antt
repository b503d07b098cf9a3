use Rattle.std.proofs.Common.{Err, refl, inr, ap, ◌∙◌}
use Rattle.algorithm_explorer.specs.Spaces.{search_of}
use Rattle.algorithm_commands.proofs.AlgorithmExplores.{no_world}
use Rattle.algorithm_commands.proofs.algorithm_states_command.explorer_of.Goals as goal

pub returns-in-Err-Refused-clause-refused : goal.returns-in-Err-Refused-clause-refused
returns-in-Err-Refused-clause-refused c =
    inr (
      refl,
      no_world c.args.algorithm c.args.args.now (search_of c.in_ok-search.search) c.in-Err-Refused.field-0-0 c.in_ok-search.ensures
          ((c.new.ensures.refused c.in-Err-Refused.field-0-0).0 (c.in-Err-Refused.is ∙ ap Err c.in-Err-Refused.field-0-is)),
    )
