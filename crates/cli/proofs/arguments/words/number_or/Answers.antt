use Rattle.std.proofs.Common.{◌∙◌}
use Rattle.std.specs.Str.Parse.{ParsesUnsigned, ExplainsUnsignedError, HasUnsignedDigitsIfOk}
use Rattle.clap.specs.Words.{found_of, one_of, rows_of}
use Rattle.clap.proofs.WalkLemmas.{one_text-rows}
use Rattle.cli.proofs.Reading.{number_read}
use Rattle.cli.proofs.arguments.words.number_or.Goals as goal

pub returns : goal.returns
returns c =
    let found = found_of c.args.matches.now in
    let same = one_text-rows found c.args.name.now in
    c.unwrap_or.ensures ∙ number_read
    (λ bs r. ParsesUnsigned 64 10 bs r × ExplainsUnsignedError 10 bs r × HasUnsignedDigitsIfOk bs r) (λ t x h. h.0) c.args.without
    (one_of c.args.name.now (rows_of found)) c.get_one.result (λ none. c.get_one.ensures.none (same ∙ none)) (λ t some. c.get_one.ensures.value t (same ∙ some))
