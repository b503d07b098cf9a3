-- What the options of several commands mean.
use Rattle.std.specs.Prelude.{ℕ, nat_lt, Bool, if◌then◌else◌, List, true, false, [], ◌++◌}
use Rattle.std.specs.Fmt.{decimal}
use Rattle.diagram.specs.declared.diagram_layout.Style.{Style}
use Rattle.diagram.specs.declared.diagram_layout.Style.TheVariants.{Svg, Text}
use Rattle.cli.specs.declared.arguments.args.Cycles.{Cycles}
use Rattle.cli.specs.declared.arguments.args.Cycles.TheVariants.{Nobody, Any}

-- the style of a drawing
abbrev pub style_of : Bool → Style
style_of svg = if svg then Svg else Text

-- these calls, if they are asked for
abbrev pub calls_if_asked : {C : Type 0} → Bool → List C → List C
calls_if_asked true calls = calls
calls_if_asked false calls = []

-- a number after this text, unless it is 0
abbrev pub some_number : List ℕ → ℕ → List ℕ
some_number name n = if nat_lt 0 n then name ++ decimal n else []

-- anybody may give up in the cycle
abbrev pub is_any : Cycles → Bool
is_any Nobody = false
is_any Any = true
