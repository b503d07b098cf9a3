use Rattle.std.proofs.Common.{◌∙◌, map, position, sym, ap}
use Rattle.algorithm_texts.specs.Drafts.{line_of}
use Rattle.algorithm_texts.specs.NeverClaims.{is_access_line}
use Rattle.algorithm_texts.proofs.ClaimLabels.{access_none}
use Rattle.algorithm_texts.proofs.claim_labels.access_below.Goals as goal

pub returns-in-None : goal.returns-in-None
returns-in-None c =
    let none = ap (λ ls. position is_access_line (map line_of ls)) (sym c.lines_from.ensures) ∙ sym c.access_among.ensures ∙ c.in-None.is in
    sym (access_none c.args.lines.now c.args.place none)
