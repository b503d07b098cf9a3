-- Blocks of lines as trees, and what they make of a draft. The blocks that are open in a draft are those round the line.
use Rattle.std.specs.Prelude.{◌≡◌, ℕ, List, [], ◌∷◌, ◌++◌, length, drop, slice_get, Option, Some, None, if◌then◌else◌, codes}
use Rattle.algorithm_texts.specs.declared.lines.Block.TheVariants.{If as IfBlock}
use Rattle.algorithm_texts.specs.declared.lines.Opened.{Opened}
use Rattle.algorithm_texts.specs.declared.tokens.Sign.TheVariants.{Colon}
use Rattle.algorithm_texts.specs.declared.tokens.Token.{Token}
use Rattle.algorithm_texts.specs.Parts.{◌>>=◌}
use Rattle.algorithm_texts.specs.Fronts.{is_the_word, is_the_sign, value_if, is_over, begins_no_simple}
use Rattle.algorithm_texts.specs.Drafts.{Drafted}
use Rattle.algorithm_texts.specs.LineDrafts.{opening, read_test, read_then, read_for, else_in, end_in, read_label, read_simple, read_statement}
use Rattle.algorithm_texts.specs.TextDrafts.{Spoken, with_number}

-- lines, one after the other: a line alone, lines from an `if` or a `for` to their `end`, and lines with an `else` between
pub data Block : Type 0 where
  Empty : Block
  Line : Spoken → Block → Block
  Enclosed : Spoken → Block → Spoken → Block → Block
  Divided : Spoken → Block → Spoken → Block → Spoken → Block → Block

-- the lines of a block
abbrev pub lines_in : Block → List Spoken
lines_in Empty = []
lines_in (Line s rest) = s ∷ lines_in rest
lines_in (Enclosed s body e rest) = s ∷ (lines_in body ++ (e ∷ lines_in rest))
lines_in (Divided s body o other e rest) = s ∷ (lines_in body ++ (o ∷ (lines_in other ++ (e ∷ lines_in rest))))

-- ---- kinds of lines

-- `if CONDITION then` alone
abbrev pub read_if_block : Drafted → List Token → Option Drafted
read_if_block d tokens = do
  test ← read_test d tokens
  if is_over test.1 then opening (length d.lines) IfBlock test.0 else None

-- `if CONDITION then` with a statement after it
abbrev pub read_if_line : Drafted → List Token → List ℕ → Option Drafted
read_if_line d tokens answer = do
  test ← read_test d tokens
  if is_over test.1 then None else if begins_no_simple test.1 then None else read_then (length d.lines) test.0 test.1 answer

-- a line that begins a block
abbrev pub begins_block : Drafted → List Token → Option Drafted
begins_block d tokens =
    if is_the_word (slice_get tokens 0) (codes "if") then read_if_block d (drop 1 tokens)
    else if is_the_word (slice_get tokens 0) (codes "for") then read_for d (drop 1 tokens)
    else None

-- a line that neither begins nor ends a block
abbrev pub read_alone : Drafted → List Token → List ℕ → Option Drafted
read_alone d tokens answer =
    if is_the_word (slice_get tokens 0) (codes "if") then read_if_line d (drop 1 tokens) answer
    else if is_the_word (slice_get tokens 0) (codes "for") then None
    else if is_the_word (slice_get tokens 0) (codes "else") then None
    else if is_the_word (slice_get tokens 0) (codes "end") then None
    else if is_the_sign (slice_get tokens 1) Colon then read_label d tokens
    else read_simple d tokens answer

-- an `else`, where these blocks are open
abbrev pub divides : List Opened → Drafted → List Token → Option Drafted
divides opened d tokens =
    if is_the_word (slice_get tokens 0) (codes "else") then value_if (is_over (drop 1 tokens)) (else_in opened d) else None

-- an `end`, where these blocks are open
abbrev pub ends : List Opened → Drafted → List Token → Option Drafted
ends opened d tokens = if is_the_word (slice_get tokens 0) (codes "end") then value_if (is_over (drop 1 tokens)) (end_in opened d) else None

-- ---- what they make

abbrev pub draft_after_statement : Drafted → Spoken → Option Drafted
draft_after_statement d s = read_alone (with_number s.number d) s.tokens s.answer

abbrev pub beginning : Drafted → Spoken → Option Drafted
beginning d s = begins_block (with_number s.number d) s.tokens

abbrev pub dividing : List Opened → Drafted → Spoken → Option Drafted
dividing opened d s = divides opened (with_number s.number d) s.tokens

abbrev pub ending : List Opened → Drafted → Spoken → Option Drafted
ending opened d s = ends opened (with_number s.number d) s.tokens

-- the draft after the lines of a block
abbrev pub draft_after_block : Block → Drafted → Option Drafted
draft_after_block Empty d = Some d
draft_after_block (Line s rest) d = draft_after_statement d s >>= draft_after_block rest
draft_after_block (Enclosed s body e rest) d = do
  begun ← beginning d s
  inner ← draft_after_block body begun
  after ← ending begun.opened inner e
  draft_after_block rest after
draft_after_block (Divided s body o other e rest) d = do
  begun ← beginning d s
  inner ← draft_after_block body begun
  divided ← dividing begun.opened inner o
  second ← draft_after_block other divided
  after ← ending divided.opened second e
  draft_after_block rest after

-- lines that are read one after the other
abbrev pub read_statements : Drafted → List Spoken → Option Drafted
read_statements d [] = Some d
read_statements d (s ∷ ss) = do
  now ← read_statement (with_number s.number d) s.tokens s.answer
  read_statements now ss

-- lines of a call that are read to its end are those of a block, and make of the draft what the block does
abbrev pub MakeBlocks : Type 0
MakeBlocks = (d now : Drafted) (lines : List Spoken) → d.opened ≡ [] → read_statements d lines ≡ Some now → now.opened ≡ []
    → (block : Block) × (lines_in block ≡ lines) × (draft_after_block block d ≡ Some now)
