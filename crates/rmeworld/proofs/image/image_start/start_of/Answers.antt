use Rattle.std.proofs.Common.{rules}
use Rattle.rmeworld.proofs.ImageCommon.{IfOk-weaker, IsStart, IsLawfulImage, IsStartOf}
use Rattle.rmeworld.proofs.ImageJudged.{is_start}
use Rattle.rmeworld.proofs.image.image_start.start_of.Goals as goal

pub returns-clause-judged : goal.returns-clause-judged
returns-clause-judged c =
    let i = c.args.image.now in
    let k : IsLawfulImage i = search rules in
    IfOk-weaker c.start_of_lawful.result (IsStartOf i) IsStart (λ s h. is_start i s k h) c.start_of_lawful.ensures.start
