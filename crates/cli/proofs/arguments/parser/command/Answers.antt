use Rattle.std.proofs.Common.{◌∙◌, ◌||◌, sym, ap, ap₂, List}
use Rattle.std.proofs.lemmas.List.{map_more}
use Rattle.clap.specs.Words.{Rule, with_rule}
use Rattle.cli.specs.CommandLine.{app_of_shape, part, rule_of_argument}
use Rattle.cli.proofs.arguments.parser.command.Goals as goal

pub loop-argument-preserved : goal.loop-argument-preserved
loop-argument-preserved c =
    let old = c.loop-argument.invariant in
    let added = c.in_ok-command.ensures in
    let name = c.args.name.now in
    let more = map_more rule_of_argument c.args.arguments.now c.loop-argument.argument-index _ c.loop-argument-test.true in (
      added.shape c.arg.ensures.local ∙ ap₂ with_rule old.0 c.arg.ensures.rule ∙ ap (λ (rules : List Rule). app_of_shape (part name rules)) (sym more),
      added.globals ∙ ap₂ (λ a b. a || b) old.1 c.arg.ensures.local,
    )
