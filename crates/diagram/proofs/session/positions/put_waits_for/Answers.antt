use Rattle.std.proofs.Common.{[], ◌++◌, ◌∙◌, append_assoc}
use Rattle.std.specs.Fmt.{decimal}
use Rattle.diagram.proofs.Common.{around, codes}
use Rattle.diagram.proofs.Joined.{joined}
use Rattle.diagram.proofs.session.positions.put_waits_for.Goals as goal

pub returns : goal.returns
returns c =
    let old = c.args.out.now.items in
    let number = decimal c.args.j in
    let first = c.in_ok-put_piece.ensures ∙ append_assoc old (codes "waits for process ") number in
    joined c.put_around.result old c.put_piece.new.out.items c.put_around.new.out.items (codes "waits for process " ++ number) (around (codes ", which has number ") c.args.value []) first
    c.put_around.ensures
