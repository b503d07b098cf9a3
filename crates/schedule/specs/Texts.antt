-- A text is lines: a header, then an item on each line. The first faulty line gives the fault
-- (the specification's Faults of the text).
use Rattle.std.specs.Prelude.{◌≡◌, ℕ, ◌+◌, ◌==◌, List, [], ◌∷◌, length, Result, Ok, Err, if◌then◌else◌}
use Rattle.schedule.specs.declared.lines.fault.LineFault.{LineFault}
use Rattle.schedule.specs.declared.lines.fault.LineFault.TheVariants.{NoHeader, NoNewline}
use Rattle.schedule.specs.declared.texts.fault.TextFault.{TextFault}
use Rattle.schedule.specs.declared.texts.fault.TextFault.TheVariants as faults
use Rattle.schedule.specs.Numbers.{number_of}
use Rattle.schedule.specs.Words.{words_of, ◌>>=◌}

-- a fault, with the number of its line
abbrev pub on_line : {A : Type 0} → ℕ → Result A LineFault → Result A (ℕ × LineFault)
on_line k (Ok x) = Ok x
on_line k (Err fault) = Err (k, fault)

-- the items of the lines, of which the first has number k
unfoldable pub items_at : {A : Type 0} → (List (List ℕ) → Result A LineFault) → ℕ → List (List ℕ) → Result (List A) (ℕ × LineFault)
items_at item k [] = Ok []
items_at item k (rest ∷ []) = if length rest == 0 then Ok [] else Err (k, NoNewline)
items_at item k (line ∷ next ∷ parts) = do
  x ← on_line k (item (words_of line))
  xs ← items_at item (k + 1) (next ∷ parts)
  Ok (x ∷ xs)

-- the header and the items of a whole text, by its parts
unfoldable pub text_at : {H A : Type 0} → (List (List ℕ) → Result H LineFault) → (H → List (List ℕ) → Result A LineFault) → List (List ℕ) → Result (H × List A) (ℕ × LineFault)
text_at head item [] = Err (1, NoHeader)
text_at head item (rest ∷ []) = if length rest == 0 then Err (1, NoHeader) else Err (1, NoNewline)
text_at head item (line ∷ next ∷ parts) = do
  h ← on_line 1 (head (words_of line))
  xs ← items_at (item h) 2 (next ∷ parts)
  Ok (h, xs)

-- a fault that a function returns has the line of the definition's fault, and its number, unless memory ran out
abbrev pub Fails : {Y : Type 0} → TextFault → Result Y (ℕ × LineFault) → Type 0
Fails (faults.At line number) read = (fault : LineFault) × (read ≡ Err (line, fault)) × (number ≡ number_of fault)
Fails faults.OutOfMemory read = Unit {0}

-- what a function returns, seen by view, is what the definition gives, unless memory ran out
abbrev pub Gives : {X Y : Type 0} → (X → Y) → Result X TextFault → Result Y (ℕ × LineFault) → Type 0
Gives view (Ok x) read = read ≡ Ok (view x)
Gives view (Err e) read = Fails e read
