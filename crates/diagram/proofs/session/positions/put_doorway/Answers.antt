use Rattle.std.proofs.Common.{◌≡◌, ℕ, ◌-◌, ◌++◌, ◌∙◌, OnOk, subst, append_assoc}
use Rattle.std.specs.Fmt.{decimal}
use Rattle.diagram.proofs.Common.{around, codes}
use Rattle.diagram.proofs.Joined.{joined}
use Rattle.diagram.specs.Standings.{read_so_far}
use Rattle.diagram.proofs.session.positions.put_doorway.Goals as goal

pub returns : goal.returns
returns c =
    let r = c.put_around.result in
    let old = c.args.out.now.items in
    let mid = c.put_piece.new.out.items in
    let new = c.put_around.new.out.items in
    let number = decimal (read_so_far c.args.p c.args.last) in
    let wrote = subst (λ (n : ℕ). mid ≡ old ++ codes "in the doorway, has read " ++ decimal n) c.read_so_far-read.ensures c.in_ok-put_piece.ensures in
    let first = wrote ∙ append_assoc old (codes "in the doorway, has read ") number in
    let last = subst (λ (m : ℕ). OnOk r (new ≡ mid ++ around (codes " of ") m (codes " numbers"))) c.saturating_sub.ensures c.put_around.ensures in
    joined r old mid new (codes "in the doorway, has read " ++ number) (around (codes " of ") (c.args.procs - 1) (codes " numbers")) first last
