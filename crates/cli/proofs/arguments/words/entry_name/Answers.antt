use Rattle.std.proofs.Common.{◌∙◌, Some, ap, option_map, codes}
use Rattle.std.specs.List.{join_by}
use Rattle.clap.specs.Words.{Text, found_of}
use Rattle.clap.proofs.WalkLemmas.{raw_values-rows}
use Rattle.cli.proofs.Reading.{joined}
use Rattle.cli.proofs.arguments.words.entry_name.Goals as goal

pub returns-in_ok-join-in-Some : goal.returns-in_ok-join-in-Some
returns-in_ok-join-in-Some c =
    let all = c.in-Some.ensures ∙ raw_values-rows (found_of c.args.matches.now) (codes "WORDS") in
    ap (λ (t : Text). Some t) (c.in_ok-join-in-Some.ensures.ok ∙ joined (codes " ") c.in-Some.words.now) ∙ ap (option_map (join_by (λ word. word) (codes " "))) all

pub returns-in-None : goal.returns-in-None
returns-in-None c = ap (option_map (join_by (λ word. word) (codes " "))) (c.in-None.ensures ∙ raw_values-rows (found_of c.args.matches.now) (codes "WORDS"))
