use Rattle.judge.proofs.RowWords.{row_word-bits, row_word-lt}
use Rattle.judge.proofs.laws.rows_have_their_bits.Goals as goal

pub returns-clause-bits : goal.returns-clause-bits
returns-clause-bits c = row_word-bits

pub returns-clause-below : goal.returns-clause-below
returns-clause-below c = row_word-lt
