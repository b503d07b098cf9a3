use Rattle.cli.proofs.ReadWords.{unknown}
use Rattle.cli.proofs.arguments.words.command_of.Goals as goal

pub unreachable-requires : goal.unreachable-requires
unreachable-requires c =
    let other = c.in_default in
    unknown c.args.name.now c.requires other.not-replay other.not-run other.not-hunt other.not-explore other.not-cost other.not-export other.not-states other.not-judge other.not-draw other.not-shrink other.not-step other.not-explain
