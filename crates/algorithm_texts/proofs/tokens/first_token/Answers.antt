use Rattle.std.proofs.Common.{IsAscii, take, sym, subst}
use Rattle.std.specs.Str.Parse.{AllDigits}
use Rattle.algorithm_texts.proofs.LineTokens.{run_digits, run_ascii}
use Rattle.algorithm_texts.proofs.tokens.first_token.Goals as goal

pub number_token-requires-clause-digits : goal.number_token-requires-clause-digits
number_token-requires-clause-digits c = subst (λ n. AllDigits 10 (take n c.args.bytes.now)) (sym c.digits-end.ensures) (run_digits c.args.bytes.now)

pub word_token-requires : goal.word_token-requires
word_token-requires c = subst (λ n. IsAscii (take n c.args.bytes.now)) (sym c.letters-end.ensures) (run_ascii c.args.bytes.now)
