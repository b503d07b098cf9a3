-- What is given to a command: a row for each argument that has values, as `clap` reads the words.
use Rattle.std.specs.Prelude.{◌≡◌, ◌==◌, ℕ, Bool, true, false, List, [], ◌∷◌, Option, Some, unwrap_or, option_map, codes, if◌then◌else◌}
use Rattle.std.specs.List.{join_by, list_all, list_any, slice_split}
use Rattle.std.specs.Option.{option_map_or}
use Rattle.std.specs.Str.{bytes_eq}
use Rattle.std.specs.Str.Parse.{digits_value, without_leading_plus}
use Rattle.clap.specs.ValueTests.{is_unsigned_in}
use Rattle.clap.specs.Words.{Row, Text, first_of, one_of, all_of, found_of, rows_of}
use Rattle.clap.specs.declared.parser.matches.ArgMatches.{ArgMatches}
use Rattle.crashlab.specs.declared.variants.variant.Variant.{Variant}
use Rattle.crashlab.specs.declared.variants.variant.Variant.TheVariants.{Right, NoLook, NoTies, Renumber, ExitOnCrash, CountUp, LastSkipped}
use Rattle.cli.specs.declared.arguments.args.Alphabet.{Alphabet}
use Rattle.cli.specs.declared.arguments.args.AlgorithmCalls.{AlgorithmCalls}
use Rattle.cli.specs.declared.arguments.args.Cycles.{Cycles}
use Rattle.cli.specs.declared.arguments.args.Cycles.TheVariants.{Nobody, Any}
use Rattle.algorithms.specs.declared.remote_references.memory_model.MemoryModel.{MemoryModel}
use Rattle.algorithms.specs.declared.remote_references.memory_model.MemoryModel.TheVariants.{Distributed, WriteThrough, WriteBack}
use Rattle.algorithms.specs.declared.remote_references.memory_model.PassageKind.{PassageKind}
use Rattle.algorithms.specs.declared.remote_references.memory_model.PassageKind.TheVariants.{Passage, SuperPassage}
use Rattle.cli.specs.declared.arguments.args.StatesTool.{StatesTool}
use Rattle.cli.specs.declared.arguments.args.StatesTool.TheVariants.{First, Expand, Lead, Home, Check, Walk}

abbrev pub Given : Type 0
Given = List Row

abbrev pub given_in : ArgMatches → Given
given_in matches = rows_of (found_of matches)

-- the flag is among the words
abbrev pub is_set : Text → Given → Bool
is_set name given = option_map_or (λ text. bytes_eq text (codes "true")) (one_of name given) false

-- the number that the text spells; `without`, where it spells none below 2^64, which `clap` refuses
abbrev pub number_in : ℕ → Text → ℕ
number_in without text = if is_unsigned_in 0 18446744073709551615 text then digits_value 10 (without_leading_plus text) else without

-- the number with this name; `without`, where it is left out
abbrev pub number_or : ℕ → Text → Given → ℕ
number_or without name given = option_map_or (number_in without) (one_of name given) without

abbrev pub word_of_variant : Variant → Text
word_of_variant Right = codes "right"
word_of_variant NoLook = codes "no-look"
word_of_variant NoTies = codes "no-ties"
word_of_variant Renumber = codes "renumber"
word_of_variant ExitOnCrash = codes "exit-on-crash"
word_of_variant CountUp = codes "count-up"
word_of_variant LastSkipped = codes "last-skipped"

-- the variant is the one that is asked for; `without` is its name, where none is asked for
abbrev pub AsksFor : Text → Given → Variant → Type 0
AsksFor without given variant = word_of_variant variant ≡ unwrap_or (first_of (codes "variant") given) without

-- there is no such variant
abbrev pub AsksForNone : Text → Given → Type 0
AsksForNone without given = (variant : Variant) → AsksFor without given variant → ⊥

abbrev pub word_of_cycles : Cycles → Text
word_of_cycles Nobody = codes "nobody"
word_of_cycles Any = codes "any"

-- starvation is looked for in these cycles, or not at all
abbrev pub AsksForCycles : Given → Option Cycles → Type 0
AsksForCycles given cycles = option_map word_of_cycles cycles ≡ first_of (codes "starving") given

-- there are no such cycles
abbrev pub AsksForNoCycles : Given → Type 0
AsksForNoCycles given = (cycles : Option Cycles) → AsksForCycles given cycles → ⊥

abbrev pub word_of_tool : StatesTool → Text
word_of_tool First = codes "first"
word_of_tool Expand = codes "expand"
word_of_tool Lead = codes "lead"
word_of_tool Home = codes "home"
word_of_tool Check = codes "check"
word_of_tool Walk = codes "walk"

-- the tool is the one that is asked for
abbrev pub AsksForTool : Given → StatesTool → Type 0
AsksForTool given tool = Some (word_of_tool tool) ≡ first_of (codes "TOOL") given

-- there is no such tool
abbrev pub AsksForNoTool : Given → Type 0
AsksForNoTool given = (tool : StatesTool) → AsksForTool given tool → ⊥

abbrev pub word_of_model : MemoryModel → Text
word_of_model Distributed = codes "dsm"
word_of_model WriteThrough = codes "write-through"
word_of_model WriteBack = codes "write-back"

-- the model is the one that is asked for
abbrev pub AsksForModel : Given → MemoryModel → Type 0
AsksForModel given model = Some (word_of_model model) ≡ first_of (codes "model") given

-- there is no such model
abbrev pub AsksForNoModel : Given → Type 0
AsksForNoModel given = (model : MemoryModel) → AsksForModel given model → ⊥

-- whether passages or super-passages are asked for
abbrev pub kind_asked : Given → PassageKind
kind_asked given = if is_set (codes "super-passages") given then SuperPassage else Passage

-- the names of a list that has commas between them
abbrev pub names_in : Text → List Text
names_in list = slice_split (λ byte. byte == 44) list

-- the calls of a variant's search, where they are left out: the way home of a search for stuck states needs `consistent`
abbrev pub calls_without : Bool → Text
calls_without true = codes "lock,unlock,consistent"
calls_without false = codes "lock,unlock"

-- the calls that a search of a variant starts, by name
abbrev pub calls_of : Given → List Text
calls_of given = names_in (unwrap_or (first_of (codes "calls") given) (calls_without (is_set (codes "stuck") given)))

abbrev pub has_call : Text → List Text → Bool
has_call name calls = list_any (λ call. bytes_eq call name) calls

abbrev pub is_call : Text → Bool
is_call name = list_any (λ call. bytes_eq name call)
    (codes "lock" ∷ codes "unlock" ∷ codes "recover" ∷ codes "consistent" ∷ codes "withdraw" ∷ codes "append" ∷ codes "close" ∷ [])

abbrev pub alphabet_of : List Text → Alphabet
alphabet_of calls = record {
  lock = has_call (codes "lock") calls;
  unlock = has_call (codes "unlock") calls;
  recover = has_call (codes "recover") calls;
  consistent = has_call (codes "consistent") calls;
  withdraw = has_call (codes "withdraw") calls;
  append = has_call (codes "append") calls;
  close = has_call (codes "close") calls;
}

-- the calls that a text of an algorithm can have
abbrev pub is_algorithm_call : Text → Bool
is_algorithm_call name = list_any (λ call. bytes_eq name call) (codes "lock" ∷ codes "unlock" ∷ codes "recover" ∷ codes "withdraw" ∷ [])

abbrev pub algorithm_calls_of : List Text → AlgorithmCalls
algorithm_calls_of calls = record {
  lock = has_call (codes "lock") calls;
  unlock = has_call (codes "unlock") calls;
  recover = has_call (codes "recover") calls;
  withdraw = has_call (codes "withdraw") calls;
}

-- the calls that a search of an algorithm starts; none, where they are left out
abbrev pub algorithm_calls_in : Given → Option AlgorithmCalls
algorithm_calls_in given = option_map (λ list. algorithm_calls_of (names_in list)) (first_of (codes "calls") given)

-- those that are given are calls that a text can have
abbrev pub are_algorithm_calls : Given → Bool
are_algorithm_calls given = option_map_or (λ list. list_all is_algorithm_call (names_in list)) (first_of (codes "calls") given) true

-- the name of the entry that is to be explained: its words with a space between two
abbrev pub entry_named : Given → Option Text
entry_named given = option_map (join_by (λ word. word) (codes " ")) (all_of (codes "WORDS") given)
