use Rattle.std.proofs.Common.{ap, codes, ◌∙◌, ◌++◌}
use Rattle.diagram.proofs.Joined.{joined, two_parts}
use Rattle.diagram.specs.RemoteMarks.{text_if}
use Rattle.diagram.proofs.remote_marks.put_marks.Goals as goal

pub returns : goal.returns
returns c =
    let old = c.args.out.now.items in
    let one = c.in_ok-put_if.ensures ∙ ap (λ b. old ++ text_if b (codes " remote")) c.is_remote.ensures in
    let two = two_parts old _ _ _ _ one c.in_ok-put_if-2.ensures in
    let three = two_parts old _ _ _ _ two c.in_ok-put_if-3.ensures in
    rw c.in-Some.is (joined c.put_if-4.result old _ _ _ _ three c.put_if-4.ensures)
