use Rattle.algorithm_texts.proofs.BlockPaths.{make_blocks}
use Rattle.algorithm_texts.proofs.laws.lines_make_blocks.Goals as goal

pub returns : goal.returns
returns c = make_blocks
