use Rattle.std.proofs.Common.{option_copied}
use Rattle.algorithm_commands.proofs.AlgorithmTexts.{is_algorithm_fault}
use Rattle.algorithm_commands.proofs.algorithm_replay_command.algorithm_read.Goals as goal

pub returns-in-Err-clause-unread : goal.returns-in-Err-clause-unread
returns-in-Err-clause-unread c =
    is_algorithm_fault (option_copied c.args.text) c.in-Err.fault c.text_fault.result (rw c.text_of-bytes.ensures at c.in-Err.ensures.refuses) (rw c.text_of-bytes.ensures at c.in-Err.ensures.first)
    (rw c.text_of-bytes.ensures at c.text_fault.ensures)
