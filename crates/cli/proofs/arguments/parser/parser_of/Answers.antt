use Rattle.std.proofs.Common.{◌≡◌, ◌∙◌, ◌||◌, sym, ap, ap₂, refl, List, [], ◌∷◌, ◌++◌, take, map}
use Rattle.std.proofs.lemmas.List.{map_more}
use Rattle.clap.specs.Words.{App, Shape, with_subcommand}
use Rattle.cli.specs.CommandLine.{app_of_shape, head, shape_of_part, with_subcommands}
use Rattle.cli.proofs.arguments.parser.parser_of.Goals as goal

with_more : (app : App) (shapes : List Shape) (shape : Shape) → with_subcommands app (shapes ++ shape ∷ []) ≡ with_subcommand (with_subcommands app shapes) shape
with_more app [] shape = refl
with_more app (first ∷ shapes) shape = with_more (with_subcommand app first) shapes shape

pub loop-part-preserved : goal.loop-part-preserved
loop-part-preserved c =
    let old = c.loop-part.invariant in
    let one = c.in_ok-part.ensures in
    let added = c.in_ok-whole.ensures in
    let shapes = map shape_of_part (take c.loop-part.part-index c.args.parts.now) in
    let more = map_more shape_of_part c.args.parts.now c.loop-part.part-index _ c.loop-part-test.true in (
      added.shape one.1 ∙ ap₂ with_subcommand old.0 (ap (λ (app : App). app.top) one.0) ∙ sym (with_more (app_of_shape head) shapes _) ∙ ap (with_subcommands (app_of_shape head)) (sym more),
      added.globals ∙ ap₂ (λ a b. a || b) old.1 one.1,
    )
