-- A report as one JSON object.
use Rattle.std.specs.Prelude.{◌≡◌, ℕ, ◌+◌, ◌-◌, ◌^◌, ◌==◌, min, List, [], ◌∷◌, ◌++◌, codes, length, map, take}
use Rattle.std.specs.List.{join_with_byte, slice_split}
use Rattle.schedule.specs.declared.replays.replay_fault.ReplayFault.{ReplayFault}
use Rattle.schedule.specs.declared.replays.replay_fault.ReplayFault.TheVariants.{OutOfMemory, Write}
use Rattle.schedule.specs.Tapes.{Begins, Tape}
use Rattle.schedule.specs.Wholes.{Silent}

-- the lines of a text that ends with a line feed, without their line feeds
abbrev pub lines_of : List ℕ → List (List ℕ)
lines_of text = slice_split (λ byte. byte == 10) (take (length text - 1) text)

-- a line in quotation marks
abbrev pub string_text : List ℕ → List ℕ
string_text line = 34 ∷ (line ++ 34 ∷ [])

-- lines in quotation marks, with commas between them
abbrev pub list_text : List (List ℕ) → List ℕ
list_text lines = join_with_byte 44 (map string_text lines)

-- the object with the one member `report`, the list of the lines of this text, and a line feed
abbrev pub report_object : List ℕ → List ℕ
report_object text = codes "{\"report\":[" ++ list_text (lines_of text) ++ codes "]}\n"

-- why an object was not written: a write has failed after a beginning of it; or memory has run out, and nothing was written
abbrev pub IsUnwritten : Tape → Tape → List ℕ → ReplayFault → Type 0
IsUnwritten before now object Write = Begins before.taken now.taken object × (now.failures ≡ min (before.failures + 1) (2 ^ 64 - 1))
IsUnwritten before now object OutOfMemory = Silent before now
IsUnwritten before now object fault = ⊥
