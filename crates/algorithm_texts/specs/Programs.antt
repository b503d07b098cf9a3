-- Texts as trees: the two lines of the head, declarations, and calls with their blocks. What they mean.
use Rattle.std.specs.Prelude.{◌≡◌, ℕ, false, List, [], ◌∷◌, ◌++◌, drop, slice_get, Option, Some, None, if◌then◌else◌, codes}
use Rattle.algorithms.specs.FirstWords.{from_zeros}
use Rattle.algorithms.specs.declared.first_values.InitializedAlgorithm.{InitializedAlgorithm}
use Rattle.algorithm_texts.specs.Parts.{◌>>=◌}
use Rattle.algorithm_texts.specs.Fronts.{is_the_word}
use Rattle.algorithm_texts.specs.Drafts.{Drafted}
use Rattle.algorithm_texts.specs.TextDrafts.{Spoken, with_number, empty_draft, end_call, read_call, read_declaration, read_head, read_promises}
use Rattle.algorithm_texts.specs.TextLines.{TextSays}
use Rattle.algorithm_texts.specs.Blocks.{Block, lines_in, draft_after_block}
use Rattle.algorithm_texts.specs.FinishedDrafts.{finished_draft}
use Rattle.algorithm_texts.specs.UnreachedLines.{IsInitializedBy}
use Rattle.algorithm_texts.specs.Lawful.{IsLawfulDraft, CallsFit}

-- the line that begins a call, and the lines after it
pub record CallLines : Type 0 where
  pub first : Spoken
  pub block : Block

pub record Program : Type 0 where
  pub head : Spoken
  pub promises : Spoken
  pub declarations : List Spoken
  pub calls : List CallLines

abbrev pub calls_lines : List CallLines → List Spoken
calls_lines [] = []
calls_lines (c ∷ cs) = c.first ∷ (lines_in c.block ++ calls_lines cs)

-- the lines of a program
abbrev pub program_lines : Program → List Spoken
program_lines p = p.head ∷ (p.promises ∷ (p.declarations ++ calls_lines p.calls))

abbrev pub declarations_made : List Spoken → Drafted → Option Drafted
declarations_made [] d = Some d
declarations_made (s ∷ ss) d = read_declaration (with_number s.number d) s.tokens >>= declarations_made ss

abbrev pub call_begun : Drafted → Spoken → Option Drafted
call_begun d s = if is_the_word (slice_get s.tokens 0) (codes "call") then read_call (with_number s.number d) (drop 1 s.tokens) d.number else None

abbrev pub calls_made : List CallLines → Drafted → Option Drafted
calls_made [] d = end_call d.number d
calls_made (c ∷ cs) d = do
  begun ← call_begun d c.first
  now ← draft_after_block c.block begun
  calls_made cs now

-- what a program means, with gotos that lead nowhere yet
abbrev pub meaning_of : Program → Option Drafted
meaning_of p = do
  head ← read_head p.head.tokens
  promises ← read_promises p.promises.tokens
  declared ← declarations_made p.declarations (empty_draft head promises p.promises.number)
  calls_made p.calls declared

-- the lines of a text are those of a program whose calls fit, and the draft is what it means
pub record SpellsDraft (text : List ℕ) (d : Drafted) : Type 0 where
  pub program : Program
  pub says : TextSays text (program_lines program)
  pub means : (meaning_of program >>= finished_draft) ≡ Some d
  pub fit : CallsFit d

-- the lines of a text are those of a program that keeps the rules, and the algorithm is what it means
pub record SpellsAlgorithm (text : List ℕ) (a : InitializedAlgorithm) : Type 0 where
  pub program : Program
  pub says : TextSays text (program_lines program)
  pub draft : Drafted
  pub means : (meaning_of program >>= finished_draft) ≡ Some draft
  pub lawful : IsLawfulDraft draft
  pub is_of : IsInitializedBy draft a

-- the algorithms that a text spells are all what one draft says
abbrev pub SpellOne : Type 0
SpellOne = (text : List ℕ) (a b : InitializedAlgorithm) → SpellsAlgorithm text a → SpellsAlgorithm text b
    → (d : Drafted) × IsInitializedBy d a × IsInitializedBy d b

-- where a text says no first value, names no constant and has no array of a size, all words are 0 at the beginning
abbrev pub BeginAtZero : Type 0
BeginAtZero = (text : List ℕ) (a : InitializedAlgorithm) (s : SpellsAlgorithm text a) → s.draft.says_values ≡ false → a ≡ from_zeros a.algorithm
