use Rattle.std.proofs.Common.{◌≡◌, ◌++◌, ◌∷◌, [], ◌∙◌, sym, ap₂, subst, slice_index, arith}
use Rattle.redomail.proofs.Common.{Words, words_of, entries}
use Rattle.redomail.proofs.Changes.{entries-more}
use Rattle.redomail.proofs.contents.messages_below.Goals as goal

pub entry-requires-clause-room : goal.entry-requires-clause-room
entry-requires-clause-room g c = omega (arith, c.loop-a-test.true, c.word-a-end.ensures, c.requires.room)

pub loop-a-preserved : goal.loop-a-preserved
loop-a-preserved g c =
    c.in_ok-push.ensures.items ∙ (ap₂ (λ ms m. ms ++ m ∷ []) c.loop-a.invariant c.entry.ensures
    ∙ sym (entries-more c.args.layout (words_of c.args.words.now) c.loop-a.a))

pub returns : goal.returns
returns g c =
    let w : Words = words_of c.args.words.now in
    let last : c.loop-a.a ≡ slice_index c.args.words.now 2 = omega (arith, c.loop-a-test.false, c.loop-a.auto.a-end, c.word-a-end.ensures) in
    subst (λ k. c.loop-a.messages.items ≡ entries c.args.layout w k) last c.loop-a.invariant
