-- What more is said of a faulty line: which token is at fault, or which of the commonest slips it is.
use Rattle.std.specs.Prelude.{ℕ, ◌+◌, ◌-◌, ◌==◌, nat_lt, Bool, true, false, not, ◌&&◌, List, length, map, take, slice_get, slice_index, position, Option, Some, None, option_map, option_and_then, Result, Err, if◌then◌else◌, codes}
use Rattle.std.specs.List.{list_any, slice_split}
use Rattle.std.specs.Option.{option_or}
use Rattle.std.specs.Char.{is_ascii_digit}
use Rattle.algorithms.specs.declared.fault.ReadFault.{ReadFault}
use Rattle.algorithms.specs.declared.fault.ReadFault.TheVariants.{BadCharacter, BadForm, NameTaken, UnknownName, TwoAccesses, NotAssignable, BadBlock, BadLabel, BadDeed, TooBig}
use Rattle.algorithm_texts.specs.BlockLines.{block_line, innermost_open, open_block}
use Rattle.algorithm_texts.specs.declared.block_lines.BlockLine.{BlockLine}
use Rattle.algorithm_texts.specs.declared.block_lines.BlockLine.TheVariants.{BeginsFor, IsElse, IsEnd}
use Rattle.algorithm_texts.specs.declared.fault_details.FaultDetail.{FaultDetail}
use Rattle.algorithm_texts.specs.declared.fault_details.FaultDetail.TheVariants.{Tab, CarriageReturn, Unprintable, NoToken, LeadingZero, LargeNumber, LongName, LongLine, NoThen, WrongIndexes, ReservedWord, EqualSign, UnfitDeed, AtColumn, NoEnd, NoBlock, NoIf}
use Rattle.algorithm_texts.specs.declared.index_counts.IndexCount.{IndexCount}
use Rattle.algorithm_texts.specs.declared.tokens.Token.{Token}
use Rattle.algorithm_texts.specs.IndexCounts.{first_miscount}
use Rattle.algorithm_texts.specs.NamePlaces.{name_place, label_place, deed_place, equal_place, is_reserved_at}
use Rattle.algorithm_texts.specs.NameUses.{second_access, unknown_place}
use Rattle.algorithm_texts.specs.TokenPlaces.{token_places, read_at, is_word_at, is_word_of, column_of}
use Rattle.algorithm_texts.specs.Tokens.{is_printable, before_comment}

-- ---- characters, and tokens that are none

abbrev pub byte_detail : ℕ → ℕ → FaultDetail
byte_detail byte column = if byte == 9 then Tab column else if byte == 13 then CarriageReturn column else Unprintable column

-- the first byte that is not printable
abbrev pub unprintable_detail : List ℕ → Option FaultDetail
unprintable_detail line =
    option_map (λ place. byte_detail (slice_index line place) (column_of line place)) (position (λ b. not (is_printable b)) line)

-- a number or a name that is too big
abbrev pub large_token : Bool → ℕ → FaultDetail
large_token digit column = if digit then LargeNumber column else LongName column

abbrev pub token_detail : Bool → ℕ → Result Token ReadFault → Option FaultDetail
token_detail digit column (Err BadCharacter) = Some (NoToken column)
token_detail digit column (Err BadForm) = Some (LeadingZero column)
token_detail digit column (Err TooBig) = Some (large_token digit column)
token_detail digit column other = None

abbrev pub detail_at : List ℕ → ℕ → Option FaultDetail
detail_at code place = token_detail (is_ascii_digit (slice_index code place)) (column_of code place) (read_at code place)

-- a token that is at fault is the last one
abbrev pub last_token_detail : List ℕ → List ℕ → Option FaultDetail
last_token_detail code places = option_and_then (detail_at code) (slice_get places (length places - 1))

-- ---- words

-- an `if` that no `then` follows
abbrev pub no_then_detail : List ℕ → List ℕ → Option FaultDetail
no_then_detail code places =
    if is_word_of (codes "if") code (slice_get places 0) && not (list_any (is_word_at (codes "then") code) places) then Some NoThen else None

-- a token, of which the fault says all
abbrev pub at_column : List ℕ → Option ℕ → Option FaultDetail
at_column code place = option_map (λ place. AtColumn (column_of code place)) place

-- a name that is taken, at this place
abbrev pub taken_detail_at : List ℕ → ℕ → FaultDetail
taken_detail_at code place = if is_reserved_at code place then ReservedWord (column_of code place) else AtColumn (column_of code place)

abbrev pub taken_detail : List ℕ → List ℕ → Option FaultDetail
taken_detail code places = option_map (taken_detail_at code) (name_place code places)

abbrev pub deed_detail : List ℕ → List ℕ → Option FaultDetail
deed_detail code places = option_map (λ place. UnfitDeed (column_of code place)) (deed_place code places)

abbrev pub equal_detail : List ℕ → List ℕ → Option FaultDetail
equal_detail code places = option_map (λ place. EqualSign (column_of code place)) (equal_place code places)

-- ---- blocks

-- of a line after which lines it ends a block or is an `else`, within this block
abbrev pub own_detail : BlockLine → Option BlockLine → Option FaultDetail
own_detail IsEnd None = Some NoBlock
own_detail IsElse None = Some NoIf
own_detail IsElse (Some BeginsFor) = Some NoIf
own_detail IsElse (Some IsElse) = Some NoIf
own_detail line block = None

-- of the last of these lines, by the block in which it stands
abbrev pub last_line_detail : List BlockLine → Option FaultDetail
last_line_detail lines =
    option_and_then (λ line. own_detail line (open_block (take (length lines - 1) lines))) (slice_get lines (length lines - 1))

-- of the last of these lines, or else of the one whose block has no `end`
abbrev pub block_detail : List BlockLine → Option FaultDetail
block_detail lines = option_or (last_line_detail lines) (option_map (λ place. NoEnd (place + 1)) (innermost_open lines))

-- ---- a text

-- a word that these lines declare, with other indexes
abbrev pub index_detail : List (List ℕ) → List ℕ → List ℕ → Option FaultDetail
index_detail lines code places =
    option_map (λ (count : IndexCount). WrongIndexes (column_of code count.place) count.declared count.given) (first_miscount lines code None places)

abbrev pub form_detail : List (List ℕ) → List ℕ → List ℕ → Option FaultDetail
form_detail lines code places =
    option_or (last_token_detail code places)
    (option_or (no_then_detail code places) (option_or (index_detail lines code places) (equal_detail code places)))

-- a shared word that is not the line's access
abbrev pub access_detail : List (List ℕ) → List ℕ → List ℕ → Option FaultDetail
access_detail lines code places = at_column code (second_access lines code None None places)

-- a name that is not known
abbrev pub unknown_detail : List (List ℕ) → List (List ℕ) → List ℕ → List ℕ → Option FaultDetail
unknown_detail first lines code places = at_column code (unknown_place first lines code places)

-- of the last of the first lines of a text
abbrev pub token_details : ReadFault → List (List ℕ) → List (List ℕ) → List ℕ → List ℕ → Option FaultDetail
token_details BadCharacter first lines code places = last_token_detail code places
token_details BadForm first lines code places = form_detail first code places
token_details TooBig first lines code places = last_token_detail code places
token_details NameTaken first lines code places = taken_detail code places
token_details UnknownName first lines code places = unknown_detail first lines code places
token_details TwoAccesses first lines code places = access_detail first code places
token_details NotAssignable first lines code places = at_column code (name_place code places)
token_details BadLabel first lines code places = at_column code (label_place code places)
token_details BadDeed first lines code places = deed_detail code places
token_details other first lines code places = None

-- what bytes say before the tokens do
abbrev pub bytes_detail : ReadFault → List ℕ → Option FaultDetail
bytes_detail BadCharacter line = unprintable_detail line
bytes_detail TooBig line = if nat_lt 1000 (length line) then Some LongLine else None
bytes_detail other line = None

-- of a line, which is the last of the first lines of a text
abbrev pub line_detail : ReadFault → List (List ℕ) → List (List ℕ) → List ℕ → Option FaultDetail
line_detail fault first lines line =
    option_or (bytes_detail fault line) (token_details fault first lines (before_comment line) (token_places (before_comment line)))

abbrev pub lines_of : List ℕ → List (List ℕ)
lines_of text = slice_split (λ byte. byte == 10) text

abbrev pub is_of_blocks : ReadFault → Bool
is_of_blocks BadBlock = true
is_of_blocks other = false

-- of the last of the first lines of a text; of blocks all the first ones decide
abbrev pub detail_in : ReadFault → List (List ℕ) → List (List ℕ) → Option FaultDetail
detail_in fault first lines =
    if is_of_blocks fault then block_detail (map block_line first)
    else option_and_then (line_detail fault first lines) (slice_get first (length first - 1))

-- what more is said of this fault of the line of this number
abbrev pub fault_detail : List ℕ → ℕ → ReadFault → Option FaultDetail
fault_detail text number fault = detail_in fault (take number (lines_of text)) (lines_of text)
