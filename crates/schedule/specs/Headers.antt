-- The header, the first line of a text: the word of its kind, its version, its sizes, each after its name, and in version 2
-- the width (the specification's Schedule text and Trace).
use Rattle.std.specs.Prelude.{◌≡◌, ℕ, ◌<◌, ◌≤◌, ◌^◌, ◌==◌, Bool, List, [], ◌∷◌, ◌++◌, drop, length, Result, Ok, Err, if◌then◌else◌, codes}
use Rattle.std.specs.List.{AllByRecursion}
use Rattle.std.specs.Fmt.{decimal}
use Rattle.schedule.specs.declared.lines.fault.LineFault.{LineFault}
use Rattle.schedule.specs.declared.lines.fault.LineFault.TheVariants.{NoHeader}
use Rattle.schedule.specs.Words.{WordShape, Fixed, Number, any, begins_with, has_fixed, numbers_at, ◌>>=◌}

-- the first word of a header, and the names of its sizes
pub record HeaderForm : Type 0 where
  pub word : List ℕ
  pub names : List (List ℕ)

-- ---- each header has one spelling

-- the sizes, each after its name
abbrev pub named_sizes : List (List ℕ) → List ℕ → List (List ℕ)
named_sizes [] sizes = []
named_sizes (name ∷ names) [] = []
named_sizes (name ∷ names) (size ∷ sizes) = name ∷ decimal size ∷ named_sizes names sizes

-- the last words: version 1 has no width
abbrev pub words_of_width : ℕ → List (List ℕ)
words_of_width width = if width == 1 then [] else codes "width" ∷ decimal width ∷ []

-- the words of a header
abbrev pub words_of_header : HeaderForm → List ℕ → ℕ → List (List ℕ)
words_of_header form sizes width =
    form.word ∷ (if width == 1 then codes "1" else codes "2") ∷ named_sizes form.names sizes ++ words_of_width width

-- what the types guarantee: a size for each name, numbers of 64 bits, and a width from 1 to 8
pub record IsHeader (form : HeaderForm) (sizes : List ℕ) (width : ℕ) : Type 0 where
  pub count : length sizes ≡ length form.names
  pub small : AllByRecursion (λ size. size < 2 ^ 64) sizes
  pub least : 1 ≤ width
  pub most : width ≤ 8

-- ---- reading

-- version 2, which has a width
abbrev pub is_wide : List (List ℕ) → Bool
is_wide ws = begins_with (codes "2") (drop 1 ws)

-- the places of the sizes
abbrev pub size_places : List (List ℕ) → List WordShape
size_places [] = []
size_places (name ∷ names) = Fixed name ∷ any ∷ size_places names

-- the places of the width
abbrev pub width_places : Bool → List WordShape
width_places wide = if wide then Fixed (codes "width") ∷ Number 2 8 ∷ [] else []

-- all places of a header
abbrev pub header_places : HeaderForm → Bool → List WordShape
header_places form wide = Fixed form.word ∷ Fixed (if wide then codes "2" else codes "1") ∷ size_places form.names ++ width_places wide

-- the header that these words say, or its fault: a fixed word that is wrong comes before any number
unfoldable pub header_at : {H : Type 0} → HeaderForm → (List ℕ → H) → List (List ℕ) → Result H LineFault
header_at form make ws =
    if has_fixed (header_places form (is_wide ws)) ws
    then (numbers_at (header_places form (is_wide ws)) ws >>= λ ns. Ok (make ns))
    else Err NoHeader
