use Rattle.std.proofs.Common.{◌∙◌, refl, append_assoc}
use Rattle.algorithm_commands.proofs.line.left_out_line.Goals as goal

pub returns : goal.returns
returns c =
    rw c.new-line.ensures at (rw c.put.ensures.bytes at (rw c.put-2.ensures.bytes at (rw c.put-3.ensures.bytes at c.push_str.ensures.bytes))) ∙ (simp append_assoc refl)
