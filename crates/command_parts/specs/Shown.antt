-- The progress line of a search or a hunt.
use Rattle.std.specs.Prelude.{ℕ, List, [], ◌∷◌, ◌++◌, codes}
use Rattle.std.specs.Fmt.{decimal}
use Rattle.command_parts.specs.declared.progress.work.Work.{Work}
use Rattle.command_parts.specs.declared.progress.work.Work.TheVariants.{Search, Hunt}

-- it starts at the left edge, and clears the rest of the line
abbrev pub overwriting : List ℕ → List ℕ
overwriting text = 13 ∷ text ++ 27 ∷ 91 ∷ 75 ∷ []

-- the progress line of a search
abbrev pub search_line : ℕ → ℕ → ℕ → List ℕ
search_line moves states speed = overwriting (decimal states ++ codes " states, " ++ decimal moves ++ codes " moves deep, " ++ decimal speed ++ codes " states a second")

-- the progress line of a hunt
abbrev pub hunt_line : ℕ → ℕ → ℕ → List ℕ
hunt_line rounds moves speed = overwriting (decimal rounds ++ codes " rounds, " ++ decimal moves ++ codes " moves, " ++ decimal speed ++ codes " moves a second")

-- how far the work has got, how much is done, and how much a second
abbrev pub line_shown : Work → ℕ → ℕ → ℕ → List ℕ
line_shown Search moves states speed = search_line moves states speed
line_shown Hunt rounds moves speed = hunt_line rounds moves speed
