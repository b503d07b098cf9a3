-- Where each process of an algorithm stands, in words, and the shared words that are not 0.
use Rattle.std.specs.Prelude.{ℕ, ◌+◌, ◌==◌, Bool, true, false, List, [], ◌∷◌, ◌++◌, codes, take, Option, Some, None, slice_get, slice_index_or, if◌then◌else◌, String, string_bytes}
use Rattle.std.specs.Fmt.{decimal}
use Rattle.std.specs.declared.alloc.Global.{Global}
use Rattle.rmecore.specs.declared.phase.Phase.{Phase}
use Rattle.rmecore.specs.declared.phase.Phase.TheVariants as phases
use Rattle.algorithms.specs.declared.algorithm.Algorithm.{Algorithm}
use Rattle.algorithms.specs.declared.algorithm.Declaration.{Declaration}
use Rattle.algorithms.specs.declared.line.AlgorithmLine.{AlgorithmLine}
use Rattle.algorithms.specs.declared.process.AlgorithmPlace.{AlgorithmPlace}
use Rattle.algorithms.specs.declared.process.AlgorithmPlace.TheVariants.{Rest, Dead, At}
use Rattle.algorithms.specs.declared.process.AlgorithmProcess.{AlgorithmProcess}
use Rattle.algorithm_lab.specs.Monitors.{MonitorState}
use Rattle.algorithm_lab.specs.Reports.{words_used, words_line}
use Rattle.diagram.specs.Pictures.{around}

-- ---- a process

-- its phase, by the deeds of it that are heard
abbrev pub phase_text : Phase → List ℕ
phase_text phases.Out = codes "outside"
phase_text phases.Door = codes "in the doorway"
phase_text phases.Ready = codes "waiting"
phase_text phases.Inside = codes "inside"
phase_text phases.DeadIn = codes "crashed inside"

-- the number that a line has in the text; 0 where there is no line
abbrev pub number_of_line : Option AlgorithmLine → ℕ
number_of_line None = 0
number_of_line (Some line) = line.number

-- where it is among the lines
abbrev pub place_text : Algorithm → AlgorithmPlace → List ℕ
place_text a Rest = codes ", no call"
place_text a Dead = codes ", no call since its crash"
place_text a (At at) = around (codes ", before line ") (number_of_line (slice_get a.lines.items at)) []

-- a private name, where it is not 0
abbrev pub name_text : List ℕ → ℕ → List ℕ
name_text name value = if value == 0 then [] else codes ", " ++ name ++ codes "=" ++ decimal value

-- the private names, of which the first has the value at this place
abbrev pub names_text : List ℕ → ℕ → List (String Global) → List ℕ
names_text store at [] = []
names_text store at (name ∷ names) = name_text (string_bytes name) (slice_index_or store at 0) ++ names_text store (at + 1) names

-- its line
unfoldable pub process_line : Algorithm → ℕ → Phase → AlgorithmProcess → List ℕ
process_line a p phase process =
    around (codes "process ") p (codes ": ") ++ phase_text phase ++ place_text a process.place ++ names_text process.store 0 a.names.items ++ 10 ∷ []

-- the processes from p on
abbrev pub process_lines : Algorithm → List Phase → ℕ → List AlgorithmProcess → List ℕ
process_lines a heard p [] = []
process_lines a heard p (process ∷ processes) =
    process_line a p (slice_index_or heard p phases.Out) process ++ process_lines a heard (p + 1) processes

-- ---- the shared words

-- whether one of them is not 0
abbrev pub has_value : List ℕ → Bool
has_value [] = false
has_value (word ∷ words) = if word == 0 then has_value words else true

-- the line of a declaration, as at the end of a report. None where its words are 0
abbrev pub words_shown : ℕ → ℕ → Declaration → List ℕ → List ℕ
words_shown procs limit declaration row =
    if has_value (take (words_used procs limit declaration) row) then words_line procs limit declaration row else []

-- the lines of declarations, of which the first has the row at this place
abbrev pub all_words_shown : ℕ → ℕ → List (List ℕ) → ℕ → List Declaration → List ℕ
all_words_shown procs limit rows at [] = []
all_words_shown procs limit rows at (declaration ∷ declarations) =
    words_shown procs limit declaration (slice_index_or rows at []) ++ all_words_shown procs limit rows (at + 1) declarations

-- ---- the state of a world with its monitor

abbrev pub algorithm_state_text : MonitorState → List ℕ
algorithm_state_text m =
    process_lines m.world.algorithm m.phases 0 m.world.processes
    ++ all_words_shown m.world.procs m.world.limit m.world.words 0 m.world.algorithm.declarations.items
