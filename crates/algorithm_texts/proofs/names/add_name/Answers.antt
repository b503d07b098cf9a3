use Rattle.std.proofs.Common.{◌≡◌, length, map, string_bytes, Some, ap, sym, ◌∙◌, arith, rules}
use Rattle.std.proofs.lemmas.Grind.{common_steps}
use Rattle.std.proofs.lemmas.Str.{IsUtf8-from_ascii}
use Rattle.algorithm_texts.specs.Parts.{Value, Private}
use Rattle.algorithm_texts.proofs.Stacked.{name_added}
use Rattle.algorithm_texts.proofs.names.add_name.Goals as goal

pub returns-clause-place : goal.returns-clause-place
returns-clause-place c =
    let index : c.len-index.result ≡ length c.args.algorithm.now.names.items = first_of (search rules, grind (arith, common_steps)) in
    name_added c.args.algorithm.now.names.items c.args.word.now c.in_ok-from_utf8_lossy.field-0 c.len-index.result (c.in_ok-from_utf8_lossy.ensures.ok (IsUtf8-from_ascii c.args.word.now c.requires)) index
    (omega arith)
    ∙ ap (λ ns. Some (Value (Private c.len-index.result), map (λ name. string_bytes name) ns)) (sym c.in_ok-push.ensures.items)
