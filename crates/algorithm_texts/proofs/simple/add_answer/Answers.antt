use Rattle.std.proofs.Common.{◌≡◌, ℕ, List, [], ◌∷◌, ◌++◌, length, map, None, String, string_bytes, sym, ap, ◌∙◌, arith, rules}
use Rattle.std.proofs.lemmas.Grind.{common_steps}
use Rattle.std.proofs.lemmas.List.{length-map, map-append}
use Rattle.std.proofs.lemmas.Str.{IsUtf8-from_ascii}
use Rattle.std.specs.declared.alloc.Global.{Global}
use Rattle.algorithm_texts.specs.LineDrafts.{answer_place}
use Rattle.algorithm_texts.proofs.simple.add_answer.Goals as goal

abbrev Text : Type 0
Text = String Global

answer_added : (answers now : List Text) (answer : List ℕ) (text : Text) (index : ℕ) → string_bytes text ≡ answer → index ≡ length answers → now ≡ answers ++ text ∷ []
    → answer_place (map (λ other. string_bytes other) answers) answer None ≡ (index, map (λ other. string_bytes other) now)
answer_added answers now answer text index e len added =
    let many : length (map (λ other. string_bytes other) answers) ≡ index = length-map answers (λ other. string_bytes other) ∙ sym len in
    let more : map (λ other. string_bytes other) now ≡ map (λ other. string_bytes other) answers ++ answer ∷ [] =
    ap (map (λ other. string_bytes other)) added ∙ map-append (λ other. string_bytes other) answers (text ∷ []) ∙ ap (λ w. map (λ other. string_bytes other) answers ++ w ∷ []) e in
    ap (λ (k : ℕ). (k, map (λ other. string_bytes other) answers ++ answer ∷ [])) many ∙ ap (λ (ns : List (List ℕ)). (index, ns)) (sym more)

pub returns : goal.returns
returns c =
    let index : c.len-place.result ≡ length c.args.answers.now.items = first_of (search rules, grind (arith, common_steps)) in
    answer_added c.args.answers.now.items c.push.new.self.items c.args.answer.now c.in_ok-from_utf8_lossy.field-0 c.len-place.result
    (c.in_ok-from_utf8_lossy.ensures.ok (IsUtf8-from_ascii c.args.answer.now c.requires)) index c.in_ok-push.ensures.items
