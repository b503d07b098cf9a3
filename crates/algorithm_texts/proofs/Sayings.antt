-- Values and conditions are read as the grammar says them.
use Rattle.std.proofs.Common.{◌≡◌, ℕ, List, Some, refl, ap, subst}
use Rattle.algorithm_texts.specs.declared.tokens.Token.{Token}
use Rattle.algorithm_texts.specs.Parts.{Term, Formula, Value, Condition, value_in, condition_in, ◌>>=◌}
use Rattle.algorithm_texts.specs.Grammar.{Says}
unfoldable use Rattle.algorithm_texts.specs.Operands.{reserved}
use Rattle.algorithm_texts.specs.Stacks.{read_part}
use Rattle.algorithm_texts.specs.Drafts.{Drafted}
use Rattle.algorithm_texts.specs.LineDrafts.{scope_in, read_value, read_condition}
use Rattle.algorithm_texts.specs.Sayings.{AreReadAsSaid}
use Rattle.algorithm_texts.proofs.BlockTrees.{some_of}
use Rattle.algorithm_texts.proofs.Complete.{KnowsHeads, complete}
use Rattle.algorithm_texts.proofs.Sound.{some_same}
use Rattle.algorithm_texts.proofs.Stacked.{value_read, condition_read}

knows_heads_in : (d : Drafted) → KnowsHeads (scope_in d)
unfolding reserved
knows_heads_in d = record { not_word = refl; max_word = refl; min_word = refl; me_word = refl; procs_word = refl; limit_word = refl }

value_of : (d : Drafted) (names after : List (List ℕ)) (tokens : List Token) (v : Term) → read_value (scope_in d) names tokens ≡ Some (v, after)
    → Says (scope_in d) names tokens (Value v) after
value_of d names after tokens v e =
    let x = some_of (read_part (scope_in d) names tokens) (λ y. value_in y.0 >>= (λ w. Some (w, y.1))) (v, after) e in
    let y = some_of (value_in x.0.0) (λ w. Some (w, x.0.1)) (v, after) x.2 in
    let same = some_same {A = Term × List (List ℕ)} (y.0, x.0.1) (v, after) y.2 in
    subst (λ (p : Term × List (List ℕ)). Says (scope_in d) names tokens (Value p.0) p.1) same (value_read (scope_in d) names x.0.1 tokens x.0.0 y.0 x.1 y.1)

condition_of : (d : Drafted) (names after : List (List ℕ)) (tokens : List Token) (c : Formula) → read_condition (scope_in d) names tokens ≡ Some (c, after)
    → Says (scope_in d) names tokens (Condition c) after
condition_of d names after tokens c e =
    let x = some_of (read_part (scope_in d) names tokens) (λ y. condition_in y.0 >>= (λ w. Some (w, y.1))) (c, after) e in
    let y = some_of (condition_in x.0.0) (λ w. Some (w, x.0.1)) (c, after) x.2 in
    let same = some_same {A = Formula × List (List ℕ)} (y.0, x.0.1) (c, after) y.2 in
    subst (λ (p : Formula × List (List ℕ)). Says (scope_in d) names tokens (Condition p.0) p.1) same (condition_read (scope_in d) names x.0.1 tokens x.0.0 y.0 x.1 y.1)

pub are_read_as_said : AreReadAsSaid
are_read_as_said = λ d names after tokens. (
  λ v. (
    λ e. value_of d names after tokens v e,
    λ s. ap (λ o. o >>= (λ y. value_in y.0 >>= (λ w. Some (w, y.1)))) (complete (scope_in d) (knows_heads_in d) names tokens (Value v) after s),
  ),
  λ c. (
    λ e. condition_of d names after tokens c e,
    λ s. ap (λ o. o >>= (λ y. condition_in y.0 >>= (λ w. Some (w, y.1)))) (complete (scope_in d) (knows_heads_in d) names tokens (Condition c) after s),
  ),
)
