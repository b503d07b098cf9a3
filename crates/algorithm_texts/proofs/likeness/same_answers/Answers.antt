use Rattle.std.proofs.Common.{◌≡◌, sym, ap, ◌∙◌, map, string_bytes}
use Rattle.algorithm_texts.proofs.likeness.same_answers.Goals as goal

pub returns : goal.returns
returns c =
    let left = c.as_slice.ensures.value in
    let right = c.as_slice-2.ensures.value in (
      (λ same. ap (map (λ answer. string_bytes answer)) (sym left) ∙ c.same_names.ensures.0 same ∙ ap (map (λ answer. string_bytes answer)) right),
      (λ same. c.same_names.ensures.1 (ap (map (λ answer. string_bytes answer)) left ∙ same ∙ ap (map (λ answer. string_bytes answer)) (sym right))),
    )
