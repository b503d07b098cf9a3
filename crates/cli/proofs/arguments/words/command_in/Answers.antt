use Rattle.std.proofs.Common.{sym, subst, IsSomeAnd, Option}
use Rattle.clap.specs.Words.{Text}
use Rattle.cli.specs.Given.{Given, given_in}
use Rattle.cli.specs.ReadWords.{IsName, ReadsCommand}
use Rattle.cli.proofs.ReadWords.{command_found}
use Rattle.cli.proofs.arguments.words.command_in.Goals as goal

pub command_of-requires : goal.command_of-requires
command_of-requires c =
    let at = command_found c.args.matches.now c.in-Some.name.now (given_in c.in-Some.given.now) c.in-Some.ensures.name c.in-Some.ensures.rows in
    subst (λ (o : Option (Text × Given)). IsSomeAnd o (λ command. IsName command.0)) at c.requires

pub returns-clause-reads : goal.returns-clause-reads
returns-clause-reads c =
    let at = command_found c.args.matches.now c.in-Some.name.now (given_in c.in-Some.given.now) c.in-Some.ensures.name c.in-Some.ensures.rows in
    subst (λ (o : Option (Text × Given)). IsSomeAnd o (λ command. ReadsCommand command.0 command.1 c.command_of.result)) (sym at) c.command_of.ensures.reads
