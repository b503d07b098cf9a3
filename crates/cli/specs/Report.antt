-- The text that `explain` writes.
use Rattle.std.specs.Prelude.{◌≡◌, ℕ, ◌+◌, ◌-◌, ◌^◌, min, List, [], ◌∷◌, ◌++◌, codes, Result, Ok, Err}
use Rattle.std.specs.List.{flat_map}
use Rattle.schedule.specs.Tapes.{Begins, Tape, Writes}
use Rattle.schedule.specs.declared.texts.device.Failed.{Failed}
use Rattle.cli.specs.declared.explain.meaning.Meaning.{Meaning}
use Rattle.cli.specs.declared.explain.dictionary_entry.DictionaryEntry.{DictionaryEntry}
use Rattle.cli.specs.Names.{name_of}

-- a line with the name and its meaning, and a line with the page
abbrev pub meaning_text : Meaning → List ℕ
meaning_text meaning =
    meaning.name.now ++ codes ": " ++ meaning.text.now ++ 10 ∷ codes "See " ++ meaning.page.now ++ codes "." ++ 10 ∷ []

-- the text was written; or a write has failed after a beginning of it
abbrev pub IsWritten : Tape → Tape → List ℕ → Result (Unit {0}) Failed → Type 0
IsWritten before now text (Ok x) = Writes before now text
IsWritten before now text (Err failed) = Begins before.taken now.taken text × (now.failures ≡ min (before.failures + 1) (2 ^ 64 - 1))

-- the meaning of an entry is written, under its name
abbrev pub TellsDictionaryEntry : DictionaryEntry → Tape → Tape → Result (Unit {0}) Failed → Type 0
TellsDictionaryEntry dictionary_entry before now result =
    (meaning : Meaning) × (meaning.name.now ≡ name_of dictionary_entry) × IsWritten before now (meaning_text meaning) result

-- one line for each name
abbrev pub list_of : List DictionaryEntry → List ℕ
list_of dictionary_entries = flat_map (λ dictionary_entry. name_of dictionary_entry ++ 10 ∷ []) dictionary_entries
