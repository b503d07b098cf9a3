use Rattle.cli.specs.Given.{given_in}
use Rattle.cli.proofs.Answered.{options_refused}
use Rattle.cli.proofs.arguments.cost_words.algorithm_words.Goals as goal

pub returns-in_ok-error_text-clause-reads : goal.returns-in_ok-error_text-clause-reads
returns-in_ok-error_text-clause-reads c =
    options_refused (given_in c.args.matches.now) c.has_no_rounds.result c.has_no_search.result c.requires.alone
    c.if-has_no_rounds.false c.has_no_rounds.ensures c.if-has_no_search.false c.has_no_search.ensures
