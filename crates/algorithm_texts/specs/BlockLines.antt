-- What lines do to blocks, and which block is open after them.
use Rattle.std.specs.Prelude.{ℕ, ◌+◌, ◌-◌, ◌==◌, Bool, true, false, ◌&&◌, List, [], ◌∷◌, length, slice_get, count_by, Option, Some, None, option_map, option_and_then, if◌then◌else◌, codes}
use Rattle.std.specs.Option.{option_or}
use Rattle.algorithm_texts.specs.declared.block_lines.BlockLine.{BlockLine}
use Rattle.algorithm_texts.specs.declared.block_lines.BlockLine.TheVariants.{BeginsIf, BeginsFor, IsElse, IsEnd, OfNoBlock}
use Rattle.algorithm_texts.specs.TokenPlaces.{token_places, is_word_of}
use Rattle.algorithm_texts.specs.Tokens.{before_comment}

-- what the line with tokens at these places does to blocks
abbrev pub block_line_at : List ℕ → List ℕ → BlockLine
block_line_at code places =
    if is_word_of (codes "for") code (slice_get places 0) then BeginsFor
    else if is_word_of (codes "else") code (slice_get places 0) then IsElse
    else if is_word_of (codes "end") code (slice_get places 0) then IsEnd
    else if is_word_of (codes "if") code (slice_get places 0) && is_word_of (codes "then") code (slice_get places (length places - 1)) then BeginsIf
    else OfNoBlock

abbrev pub block_line : List ℕ → BlockLine
block_line line = block_line_at (before_comment line) (token_places (before_comment line))

abbrev pub begins_block : BlockLine → Bool
begins_block BeginsIf = true
begins_block BeginsFor = true
begins_block IsElse = false
begins_block IsEnd = false
begins_block OfNoBlock = false

abbrev pub ends_block : BlockLine → Bool
ends_block BeginsIf = false
ends_block BeginsFor = false
ends_block IsElse = false
ends_block IsEnd = true
ends_block OfNoBlock = false

-- an `end` is wanted for the block of this line
abbrev pub may_stay_open : BlockLine → Bool
may_stay_open BeginsIf = true
may_stay_open BeginsFor = true
may_stay_open IsElse = true
may_stay_open IsEnd = false
may_stay_open OfNoBlock = false

-- after this line as many blocks begin as end
abbrev pub stays_open : BlockLine → List BlockLine → Bool
stays_open line lines = may_stay_open line && count_by begins_block lines == count_by ends_block lines

-- the place of the last line whose block is open at the end
abbrev pub innermost_open : List BlockLine → Option ℕ
innermost_open [] = None
innermost_open (line ∷ lines) = option_or (option_map (λ place. place + 1) (innermost_open lines)) (if stays_open line lines then Some 0 else None)

-- the block in which the next line stands
abbrev pub open_block : List BlockLine → Option BlockLine
open_block lines = option_and_then (slice_get lines) (innermost_open lines)
