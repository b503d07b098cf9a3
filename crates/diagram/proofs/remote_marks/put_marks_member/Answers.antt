use Rattle.diagram.proofs.Joined.{joined, two_parts}
use Rattle.diagram.proofs.remote_marks.put_marks_member.Goals as goal

pub returns : goal.returns
returns c =
    let old = c.args.out.now.items in
    let two = two_parts old _ _ _ _ c.in_ok-put_text.ensures c.in_ok-put_truth.ensures in
    let three = two_parts old _ _ _ _ two c.in_ok-put_text-2.ensures in
    let four = two_parts old _ _ _ _ three c.in_ok-put_truth-2.ensures in
    let five = two_parts old _ _ _ _ four c.in_ok-put_text-3.ensures in
    let six = two_parts old _ _ _ _ five c.in_ok-put_truth-3.ensures in
    rw c.in-Some.is (joined c.put_text-5.result old _ _ _ _ six c.put_text-5.ensures)
