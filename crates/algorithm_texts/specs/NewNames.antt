-- Names that lines declare.
use Rattle.std.specs.Prelude.{ℕ, ◌||◌, List, Option, Some, None, if◌then◌else◌}
use Rattle.algorithm_texts.specs.declared.tokens.Token.{Token}
use Rattle.algorithm_texts.specs.Parts.{◌>>=◌}
use Rattle.algorithm_texts.specs.Grammar.{Scope, is_among}
use Rattle.algorithm_texts.specs.LineDrafts.{has_declaration, new_name}

-- a name that is not declared yet
abbrev pub undeclared_name : Scope → List (List ℕ) → Option Token → Option (List ℕ)
undeclared_name scope names token = do
  word ← new_name token
  if has_declaration scope word || is_among names word then None else Some word
