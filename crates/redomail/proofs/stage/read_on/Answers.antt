use Rattle.std.proofs.Common.{◌≡◌, ℕ, ◌+◌, true, List, length, take, slice_set, ap, ◌∙◌, arith, length-take, length-set}
use Rattle.redomail.proofs.Common.{Done, puts, record_of, redo}
use Rattle.redomail.specs.declared.reply.Reply.TheVariants.{Mended}
use Rattle.redomail.proofs.Scripts.{read-on, read-end, store-redo}
use Rattle.redomail.proofs.stage.read_on.Goals as goal

pub returns-then-read-layout-clause-left : goal.returns-then-read-layout-clause-left
returns-then-read-layout-clause-left c = λ p.
    read-on c.args.layout.width c.args.read c.args.words c.args.word _ (omega arith) (omega arith)

pub returns-clause-left : goal.returns-clause-left
returns-clause-left c = λ p.
    let l = c.args.layout in
    let words : List ℕ = slice_set c.args.words c.args.read c.args.word in
    let e : c.in-Ok.value ≡ take (c.args.read + 1) words = c.in-Ok.ensures.ok in
    let n : length c.in-Ok.value ≡ c.args.read + 1 =
    omega (arith, ap length e, length-take (c.args.read + 1) words, length-set c.args.words c.args.read c.args.word) in
    ap (λ xs. puts xs (Done (Mended true))) (store-redo l p (record_of c.args.at c.args.seq c.in-Ok.value) (3 + (c.args.read + 1)) (omega arith))
    ∙ (ap (redo l p c.args.at c.args.seq) e
    ∙ read-end l.width c.args.read c.args.words c.args.word (redo l p c.args.at c.args.seq) (omega arith) (omega arith))
