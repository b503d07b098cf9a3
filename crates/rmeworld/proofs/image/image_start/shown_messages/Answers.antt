use Rattle.rmeworld.proofs.ImageCommon.{IsContent}
use Rattle.rmeworld.proofs.ImageRules.{lawful_content}
use Rattle.rmeworld.proofs.ImageStarts.{only_memory}
use Rattle.rmeworld.proofs.image.image_start.shown_messages.Goals as goal

pub returns-clause-err : goal.returns-clause-err
returns-clause-err c =
    let i = c.args.image.now in
    let content : IsContent c.layout.result c.as_slice.result.now = rw (c.layout.ensures, c.as_slice.ensures) (lawful_content i c.requires) in
    only_memory c.content.result (IsContent c.layout.result c.as_slice.result.now) c.content.ensures.only c.content.ensures.refused content
