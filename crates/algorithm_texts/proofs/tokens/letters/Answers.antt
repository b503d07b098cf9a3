use Rattle.std.proofs.Common.{sym, ◌∙◌}
use Rattle.algorithm_texts.specs.Tokens.{is_name_byte}
use Rattle.algorithm_texts.proofs.LineTokens.{run_found, run_whole}
use Rattle.algorithm_texts.proofs.tokens.letters.Goals as goal

pub returns-in-Some : goal.returns-in-Some
returns-in-Some c = run_found is_name_byte c.args.bytes.now c.in-Some.end (sym c.other_than_letter.ensures ∙ c.in-Some.is)

pub returns-in-None : goal.returns-in-None
returns-in-None c = run_whole is_name_byte c.args.bytes.now (sym c.other_than_letter.ensures ∙ c.in-None.is)
