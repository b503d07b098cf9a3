use Rattle.std.proofs.Common.{◌∙◌, ℕ, List, Err, slice_index, sym, ap, subst}
use Rattle.robust.proofs.Common.{Layout, IsContent, words_of, IsNumbered, lawful_content, sizes_of}
use Rattle.robust.proofs.AllSent.{content_numbered}
use Rattle.robust.proofs.lab.lab_run.shown_messages.Goals as goal

pub unreachable-requires : goal.unreachable-requires
unreachable-requires c =
    let whole = lawful_content c.args.image.now c.requires.lawful in
    let here = subst (λ (u : Layout × List ℕ). IsContent u.0 u.1) (λ i. (c.requires.layout i, sym c.as_slice.ensures i)) whole in
    c.content.ensures.refused (c.in-Err-BadShape.is ∙ ap Err c.in-Err-BadShape.field-0-is) here

pub returns-in-Ok-clause-numbered : goal.returns-in-Ok-clause-numbered
returns-in-Ok-clause-numbered c =
    let numbered = content_numbered (sizes_of c.args.spec).layout c.as_slice.result.now c.in-Ok.ensures.kept in
    subst (λ (xs : List ℕ). IsNumbered (sizes_of c.args.spec).layout (words_of xs) (slice_index xs 2)) c.as_slice.ensures numbered
