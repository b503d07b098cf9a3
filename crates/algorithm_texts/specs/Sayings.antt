-- Values and conditions that are read, and the grammar that says them.
use Rattle.std.specs.Prelude.{◌≡◌, ◌↔◌, ℕ, List, Some}
use Rattle.algorithm_texts.specs.declared.tokens.Token.{Token}
use Rattle.algorithm_texts.specs.Parts.{Term, Formula, Value, Condition}
use Rattle.algorithm_texts.specs.Grammar.{Says}
use Rattle.algorithm_texts.specs.Drafts.{Drafted}
use Rattle.algorithm_texts.specs.LineDrafts.{scope_in, read_value, read_condition}

-- where a line is read, tokens are a value or a condition just where the grammar says it of them
abbrev pub AreReadAsSaid : Type 0
AreReadAsSaid = (d : Drafted) (names after : List (List ℕ)) (tokens : List Token)
    → ((v : Term) → (read_value (scope_in d) names tokens ≡ Some (v, after)) ↔ Says (scope_in d) names tokens (Value v) after)
    × ((c : Formula) → (read_condition (scope_in d) names tokens ≡ Some (c, after)) ↔ Says (scope_in d) names tokens (Condition c) after)
