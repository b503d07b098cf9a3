-- The one line of a fault.
use Rattle.std.specs.Prelude.{◌≡◌, ℕ, ◌+◌, ◌-◌, ◌^◌, ◌⊎◌, min, List, [], ◌∷◌, ◌++◌, codes}
use Rattle.std.specs.Fmt.{decimal}
use Rattle.command_parts.specs.declared.fault.CommandFault.TheVariants.{Text, Refused, OutOfRange, Image, Algorithm, BadVariant, BadSize, Read, Write, OutOfMemory, Member, TooManyStates, States}
use Rattle.command_parts.specs.AlgorithmFaults.{column_text, number_of_text_fault, sentence_with}
use Rattle.command_parts.specs.StatesFaults.{number_of_states_fault, sentence_of_states_fault}
use Rattle.schedule.specs.Words.{line_of}
use Rattle.schedule.specs.Tapes.{Begins, Tape, Writes}
use Rattle.command_parts.specs.Endings.{CommandFault}

-- the words for a fault of a line of the input
abbrev pub words_of_place : ℕ → List ℕ → ℕ → List (List ℕ)
words_of_place line cause number = codes "line" ∷ (decimal line ++ codes ":") ∷ cause ∷ decimal number ∷ []

-- the words of a fault's line
abbrev pub words_of_fault : CommandFault → List (List ℕ)
words_of_fault (Text line number) = words_of_place line (codes "fault") number
words_of_fault (Refused line number) = words_of_place line (codes "refused") number
words_of_fault (OutOfRange line algorithm_line) =
    codes "line" ∷ (decimal line ++ codes ":") ∷ codes "refused" ∷ codes "16:" ∷ codes "out" ∷ codes "of" ∷ codes "range" ∷ codes "at"
    ∷ codes "algorithm" ∷ codes "line" ∷ decimal algorithm_line ∷ []
words_of_fault (Image rule) = codes "image:" ∷ codes "rule" ∷ decimal rule ∷ []
words_of_fault (Algorithm line fault detail) =
    codes "algorithm" ∷ codes "line" ∷ (decimal line ++ column_text detail ++ codes ":") ∷ codes "fault"
    ∷ (decimal (number_of_text_fault fault) ++ codes ":") ∷ sentence_with fault detail ∷ []
words_of_fault (States line fault) =
    codes "states" ∷ codes "line" ∷ (decimal line ++ codes ":") ∷ codes "fault" ∷ (decimal (number_of_states_fault fault) ++ codes ":")
    ∷ sentence_of_states_fault fault ∷ []
words_of_fault BadVariant = codes "bad" ∷ codes "variant" ∷ []
words_of_fault BadSize = codes "bad" ∷ codes "size" ∷ []
words_of_fault Read = codes "read" ∷ codes "failed" ∷ []
words_of_fault Write = codes "write" ∷ codes "failed" ∷ []
words_of_fault OutOfMemory = codes "out" ∷ codes "of" ∷ codes "memory" ∷ []
words_of_fault TooManyStates = codes "too" ∷ codes "many" ∷ codes "states" ∷ []
words_of_fault (Member p) = codes "member" ∷ decimal p ∷ codes "failed" ∷ []

-- the line of a fault on standard error
abbrev pub fault_line : CommandFault → List ℕ
fault_line fault = line_of (codes "rmelab:" ∷ words_of_fault fault)

-- the line was written, or the device has failed after a prefix of it
abbrev pub IsLineWritten : Tape → Tape → List ℕ → Type 0
IsLineWritten before now line = Writes before now line ⊎ (Begins before.taken now.taken line × (now.failures ≡ min (before.failures + 1) (2 ^ 64 - 1)))
