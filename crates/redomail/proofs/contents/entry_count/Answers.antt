use Rattle.std.proofs.Common.{◌≡◌, sym, ◌∙◌, ap, arith}
use Rattle.redomail.proofs.Common.{words_of, Words, place_at}
use Rattle.redomail.proofs.Readings.{counted_one, counted_none}
use Rattle.redomail.proofs.contents.entry_count.Goals as goal
use Rattle.redomail.proofs.contents.entry_count.Goals.{then-word-p, else-word-p}

pub loop-a-preserved : goal.loop-a-preserved
loop-a-preserved c =
    let w : Words = words_of c.args.words.now in
    let sender : c.word.result ≡ w (place_at c.args.layout c.loop-a.a) = c.word.ensures ∙ ap w c.place.ensures.at in
    let i = c.loop-a.invariant in
    elim c.if-word-p.branch [
      | then-word-p v ↦
          (let one = counted_one c.args.layout w c.loop-a.a c.args.p (sym sender ∙ v.if-word-p.true) in
          record { most = omega (arith, v.counted-is, i.most); counted = omega (arith, v.counted-is, one, i.counted) })
      | else-word-p v ↦
          (let none = counted_none c.args.layout w c.loop-a.a c.args.p (λ e. v.if-word-p.false (sender ∙ e)) in
          record { most = omega (arith, v.counted-is, i.most); counted = omega (arith, v.counted-is, none, i.counted) })
    ]
