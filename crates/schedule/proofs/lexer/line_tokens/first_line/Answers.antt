use Rattle.std.proofs.Common.{◌≡◌, ◌++◌, ◌∷◌, subst}
use Rattle.schedule.proofs.LexerCommon.{word_of}
use Rattle.schedule.specs.declared.lines.command.Keyword.TheVariants as commands
use Rattle.schedule.proofs.Commands.{line_codec}
use Rattle.schedule.proofs.Tokens.{short_begins, long_begins}
use Rattle.schedule.proofs.lexer.line_tokens.first_line.Goals as goal

pub returns-in-Some : goal.returns-in-Some
returns-in-Some c =
    let front = subst (λ w. c.args.text.now ≡ word_of w ++ 32 ∷ c.in_ok-command.tail.now) c.in-Append.is c.in_ok-command.ensures in
    long_begins (line_codec c.args.width) (word_of commands.Append) c.in_ok-p.p c.in-Some.line c.args.text.now c.in_ok-command.tail.now c.in_ok-p.rest.now c.in-Some.after.now c.in-Some.ensures.1 c.in-Some.ensures.0 front c.in_ok-p.ensures.0

pub returns-in-Some-get : goal.returns-in-Some-get
returns-in-Some-get c =
    let front = subst (λ w. c.args.text.now ≡ word_of w ++ 32 ∷ c.in_ok-command.tail.now) c.in-Get.is c.in_ok-command.ensures in
    long_begins (line_codec c.args.width) (word_of commands.Get) c.in_ok-p.p c.in-Some-get.line c.args.text.now c.in_ok-command.tail.now c.in_ok-p.rest.now c.in-Some-get.after.now (c.in-Some-get.ensures.1 c.args.width) c.in-Some-get.ensures.0 front c.in_ok-p.ensures.0

pub returns-in-Some-put : goal.returns-in-Some-put
returns-in-Some-put c =
    let front = subst (λ w. c.args.text.now ≡ word_of w ++ 32 ∷ c.in_ok-command.tail.now) c.in-Put.is c.in_ok-command.ensures in
    long_begins (line_codec c.args.width) (word_of commands.Put) c.in_ok-p.p c.in-Some-put.line c.args.text.now c.in_ok-command.tail.now c.in_ok-p.rest.now c.in-Some-put.after.now (c.in-Some-put.ensures.1 c.args.width) c.in-Some-put.ensures.0 front c.in_ok-p.ensures.0

pub returns-in-Some-short_line : goal.returns-in-Some-short_line
returns-in-Some-short_line c =
    short_begins (line_codec c.args.width) (word_of c.in_ok-command.command) c.in_ok-p.p c.in-Some-short_line.line c.args.text.now c.in_ok-command.tail.now c.in_ok-p.rest.now c.in_ok-after-in_default.after.now (c.in-Some-short_line.ensures.1 c.args.width) c.in-Some-short_line.ensures.0
    c.in_ok-command.ensures c.in_ok-p.ensures.0 c.in_ok-after-in_default.ensures
