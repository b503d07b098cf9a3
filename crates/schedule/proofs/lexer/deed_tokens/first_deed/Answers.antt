use Rattle.std.proofs.Common.{◌≡◌, ◌++◌, ◌∷◌, subst}
use Rattle.schedule.specs.Deeds.{word_of}
use Rattle.schedule.specs.declared.lines.deed.DeedWord.TheVariants as names
use Rattle.schedule.proofs.Deeds.{deed_codec}
use Rattle.schedule.proofs.Tokens.{short_begins, long_begins}
use Rattle.schedule.proofs.lexer.deed_tokens.first_deed.Goals as goal

pub returns-in-Some : goal.returns-in-Some
returns-in-Some c =
    let front = subst (λ w. c.args.text.now ≡ word_of w ++ 32 ∷ c.in_ok-word.tail.now) c.in-Commit.is c.in_ok-word.ensures in
    long_begins (deed_codec c.args.width) (word_of names.Commit) c.in_ok-p.p c.in-Some.deed c.args.text.now c.in_ok-word.tail.now c.in_ok-p.rest.now c.in-Some.after.now c.in-Some.ensures.1 c.in-Some.ensures.0 front c.in_ok-p.ensures.0

pub returns-in-Some-show : goal.returns-in-Some-show
returns-in-Some-show c =
    let front = subst (λ w. c.args.text.now ≡ word_of w ++ 32 ∷ c.in_ok-word.tail.now) c.in-Show.is c.in_ok-word.ensures in
    long_begins (deed_codec c.args.width) (word_of names.Show) c.in_ok-p.p c.in-Some-show.deed c.args.text.now c.in_ok-word.tail.now c.in_ok-p.rest.now c.in-Some-show.after.now c.in-Some-show.ensures.1 c.in-Some-show.ensures.0 front c.in_ok-p.ensures.0

pub returns-in-Some-short_deed : goal.returns-in-Some-short_deed
returns-in-Some-short_deed c =
    short_begins (deed_codec c.args.width) (word_of c.in_ok-word.word) c.in_ok-p.p c.in-Some-short_deed.deed c.args.text.now c.in_ok-word.tail.now c.in_ok-p.rest.now c.in_ok-after-in_default.after.now (c.in-Some-short_deed.ensures.1 c.args.width) c.in-Some-short_deed.ensures.0
    c.in_ok-word.ensures c.in_ok-p.ensures.0 c.in_ok-after-in_default.ensures
