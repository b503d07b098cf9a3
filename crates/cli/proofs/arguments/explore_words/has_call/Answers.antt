use Rattle.std.proofs.Common.{◌∙◌, List, ℕ, Bor}
use Rattle.std.specs.Str.{bytes_eq}
use Rattle.clap.proofs.WalkLemmas.{list_any-map}
use Rattle.cli.proofs.arguments.explore_words.has_call.Goals as goal

pub returns : goal.returns
returns c = c.contains.ensures.value ∙ list_any-map (λ call. bytes_eq call c.args.name.now) (λ (call : Bor (List ℕ)). call.now) c.args.calls.now
