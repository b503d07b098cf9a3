use Rattle.std.proofs.Common.{sym, ◌∙◌}
use Rattle.std.specs.Char.{is_ascii_digit}
use Rattle.algorithm_texts.proofs.LineTokens.{run_found, run_whole}
use Rattle.algorithm_texts.proofs.tokens.digits.Goals as goal

pub returns-in-Some : goal.returns-in-Some
returns-in-Some c = run_found is_ascii_digit c.args.bytes.now c.in-Some.end (sym c.other_than_digit.ensures ∙ c.in-Some.is)

pub returns-in-None : goal.returns-in-None
returns-in-None c = run_whole is_ascii_digit c.args.bytes.now (sym c.other_than_digit.ensures ∙ c.in-None.is)
