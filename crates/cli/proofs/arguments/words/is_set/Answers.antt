use Rattle.std.proofs.Common.{◌∙◌}
use Rattle.clap.specs.Words.{found_of, one_of, rows_of}
use Rattle.clap.proofs.WalkLemmas.{one_text-rows}
use Rattle.cli.proofs.Reading.{flag_read}
use Rattle.cli.proofs.arguments.words.is_set.Goals as goal

pub returns : goal.returns
returns c =
    let found = found_of c.args.matches.now in
    let same = one_text-rows found c.args.name.now in
    c.unwrap_or.ensures ∙ flag_read _ (one_of c.args.name.now (rows_of found)) c.get_one.result
    (λ none. c.get_one.ensures.none (same ∙ none)) (λ t some. c.get_one.ensures.value t (same ∙ some))
