use Rattle.std.proofs.Common.{◌≡◌, ◌++◌, ◌∷◌, [], ◌∙◌, ap, sym, map, string_bytes, append_assoc, List, ℕ, ◌+◌, String}
use Rattle.std.specs.declared.alloc.Global.{Global}
use Rattle.std.proofs.lemmas.List.{map-append}
use Rattle.algorithms.specs.declared.algorithm.Algorithm.{Algorithm}
use Rattle.algorithms.specs.FirstWords.{values_to}
use Rattle.algorithms.proofs.FirstWords.{values_more}
use Rattle.algorithm_texts.specs.Drafts.{element_letters}
use Rattle.algorithm_texts.specs.Operands.{names_of}
use Rattle.algorithm_texts.proofs.rows.push_names.Goals as goal

pub loop-index-preserved : goal.loop-index-preserved
loop-index-preserved c =
    let old = names_of c.args.algorithm.now in
    let names = c.loop-index.algorithm.names.items in
    let text = c.in_ok-element_name.field-0 in
    let letters = element_letters c.args.name.now in
    let more : map (λ (name : String Global). string_bytes name) (names ++ text ∷ []) ≡ old ++ values_to letters (c.loop-index.index + 1) =
    map-append (λ (name : String Global). string_bytes name) names (text ∷ [])
    ∙ ap (λ (ns : List (List ℕ)). ns ++ string_bytes text ∷ []) c.loop-index.invariant.names
    ∙ ap (λ (w : List ℕ). (old ++ values_to letters c.loop-index.index) ++ w ∷ []) c.in_ok-element_name.ensures.ok
    ∙ append_assoc old (values_to letters c.loop-index.index) (letters c.loop-index.index ∷ [])
    ∙ ap (λ (ws : List (List ℕ)). old ++ ws) (values_more letters c.loop-index.index) in
    record {
      names = ap (λ (ns : List (String Global)). map (λ (name : String Global). string_bytes name) ns) c.in_ok-push.ensures.items ∙ more;
      kept = ap (λ (a : Algorithm). record a { names = c.push.new.self }) c.loop-index.invariant.kept;
    }
