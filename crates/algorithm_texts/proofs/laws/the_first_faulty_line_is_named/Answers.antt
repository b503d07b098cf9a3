use Rattle.algorithm_texts.proofs.FirstFaults.{names_first_line}
use Rattle.algorithm_texts.proofs.laws.the_first_faulty_line_is_named.Goals as goal

pub returns : goal.returns
returns c = names_first_line
