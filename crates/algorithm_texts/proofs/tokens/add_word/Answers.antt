use Rattle.std.proofs.Common.{◌≡◌, ◌<◌, not, length, sym, ap, ◌∙◌, arith, rules}
use Rattle.std.proofs.lemmas.Bool.Decides.{nat_tests}
use Rattle.std.proofs.lemmas.Grind.{common_steps}
use Rattle.algorithm_texts.proofs.Replies.{part_skipped, part_begins, part_follows}
use Rattle.algorithm_texts.proofs.tokens.add_word.Goals as goal

pub returns-then-is_empty-clause-ok : goal.returns-then-is_empty-clause-ok
returns-then-is_empty-clause-ok c = λ parts e. part_skipped parts c.args.answer.now.items c.args.part.now (ap not (sym c.is_empty.ensures ∙ c.if-is_empty.true)) e

pub returns-then-is_empty-2-clause-ok : goal.returns-then-is_empty-2-clause-ok
returns-then-is_empty-2-clause-ok c =
    let none : length c.args.answer.now.items ≡ 0 = first_of (search rules, grind (arith, nat_tests, common_steps)) in
    λ parts e. part_begins parts c.args.answer.now.items c.extend_from_slice.new.self.items c.args.part.now (ap not (sym c.is_empty.ensures ∙ c.if-is_empty.false))
    (sym c.is_answer_word.ensures ∙ c.if-not-is_answer_word.false) none c.in_ok-extend_from_slice.ensures.items e

pub returns-clause-ok : goal.returns-clause-ok
returns-clause-ok c =
    let some : 0 < length c.args.answer.now.items = first_of (search rules, grind (arith, nat_tests, common_steps)) in
    λ parts e. part_follows parts c.args.answer.now.items c.push.new.self.items c.extend_from_slice-2.new.self.items c.args.part.now (ap not (sym c.is_empty.ensures ∙ c.if-is_empty.false))
    (sym c.is_answer_word.ensures ∙ c.if-not-is_answer_word.false) some c.in_ok-push.ensures.items c.in_ok-extend_from_slice-2.ensures.items e
