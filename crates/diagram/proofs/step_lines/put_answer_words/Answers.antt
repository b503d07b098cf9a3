use Rattle.std.proofs.Common.{◌∷◌, codes}
use Rattle.std.specs.Fmt.{decimal}
use Rattle.std.specs.List.{join_with_byte}
use Rattle.schedule.specs.Answers.{words_of_answer}
use Rattle.diagram.proofs.Lines.{unended}
use Rattle.diagram.proofs.step_lines.put_answer_words.Goals as goal

pub returns : goal.returns
returns c =
    unended _ _ _ (join_with_byte 32 (codes "answer" ∷ decimal c.args.p ∷ words_of_answer c.args.answer)) 10 c.in_ok-put_answer.ensures c.take_last.ensures
