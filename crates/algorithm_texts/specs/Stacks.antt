-- Reading values and conditions from the left, with a stack of what waits for the part after it. What is read so is what the
-- grammar says: proofs/Exact.antt.
use Rattle.std.specs.Prelude.{ℕ, ◌+◌, nat_le, nat_lt, Bool, true, false, List, [], ◌∷◌, Option, Some, None, if◌then◌else◌, codes, bytes_eq}
use Rattle.algorithm_texts.specs.declared.tokens.Sign.TheVariants.{Open, Close, OpenIndex, CloseIndex, Comma, Operator as OperatorSign, Comparison as ComparisonSign}
use Rattle.algorithm_texts.specs.declared.tokens.Token.{Token}
use Rattle.algorithm_texts.specs.declared.tokens.Token.TheVariants.{Number as NumberToken, Word, Sign}
use Rattle.algorithm_texts.specs.declared.operands.Bracket.{Bracket}
use Rattle.algorithm_texts.specs.declared.operands.Bracket.TheVariants.{Plain, Not, Max, Min}
use Rattle.algorithm_texts.specs.declared.operands.Joint.{Joint}
use Rattle.algorithm_texts.specs.declared.operands.Joint.TheVariants.{Operator as ByOperator, Comparison as ByComparison, And, Or}
use Rattle.algorithm_texts.specs.Parts.{Term, OperandPart, Value, Number, join_of, enclosed_part, enclosed_two, ◌>>=◌}
use Rattle.algorithm_texts.specs.Grammar.{Scope, strength, word_value, row_read, element_part}

-- what waits for the part after it: a part with an operator after it, an open bracket, one with a part and a comma after it, or the
-- open index of a row with this first name and this size
pub data Waits : Type 0 where
  Joining : OperandPart → Joint → Waits
  Opened : Bracket → Waits
  Halfway : Bracket → OperandPart → Waits
  Indexing : ℕ → Term → Waits

-- what comes next: a part, the bracket after a word, the index of a row, or what follows this part
pub data NextToken : Type 0 where
  Begins : NextToken
  Heads : Bracket → NextToken
  Indexes : ℕ → Term → NextToken
  Follows : OperandPart → NextToken

-- the private names, what waits, the last first, and what comes next
pub record OperandReading : Type 0 where
  pub names : List (List ℕ)
  pub waiting : List Waits
  pub next : NextToken

abbrev pub reading : List (List ℕ) → List Waits → NextToken → OperandReading
reading names waiting next = record { names = names; waiting = waiting; next = next }

-- whether it is a bracket
abbrev pub is_open : Waits → Bool
is_open (Joining part joint) = false
is_open (Opened head) = true
is_open (Halfway head part) = true
is_open (Indexing first size) = true

-- how many brackets are open
abbrev pub brackets : List Waits → ℕ
brackets [] = 0
brackets (Joining part joint ∷ ws) = brackets ws
brackets (Opened head ∷ ws) = brackets ws + 1
brackets (Halfway head part ∷ ws) = brackets ws + 1
brackets (Indexing first size ∷ ws) = brackets ws + 1

-- a part is joined to what waits for it, as far as the operators are at least this strong
abbrev pub stack_reduction : ℕ → List Waits → OperandPart → Option (List Waits × OperandPart)
stack_reduction least [] part = Some ([], part)
stack_reduction least (Joining left joint ∷ ws) part =
    if nat_le least (strength joint) then (join_of joint left part >>= stack_reduction least ws) else Some (Joining left joint ∷ ws, part)
stack_reduction least (Opened head ∷ ws) part = Some (Opened head ∷ ws, part)
stack_reduction least (Halfway head first ∷ ws) part = Some (Halfway head first ∷ ws, part)
stack_reduction least (Indexing first size ∷ ws) part = Some (Indexing first size ∷ ws, part)

abbrev pub reading_after_bracket : List (List ℕ) → List Waits → Bracket → Option OperandReading
reading_after_bracket names ws head = if nat_lt (brackets ws) 16 then Some (reading names (Opened head ∷ ws) Begins) else None

abbrev pub reading_after_row : List (List ℕ) → List Waits → ℕ → Term → Token → Option OperandReading
reading_after_row names ws first size (Sign OpenIndex) = if nat_lt (brackets ws) 16 then Some (reading names (Indexing first size ∷ ws) Begins) else None
reading_after_row names ws first size other = None

-- the bracket that comes next after this word
abbrev pub head_of : List ℕ → Option Bracket
head_of word =
    if bytes_eq word (codes "not") then Some Not
    else if bytes_eq word (codes "max") then Some Max
    else if bytes_eq word (codes "min") then Some Min
    else None

abbrev pub reading_after_value : List Waits → Option (OperandPart × List (List ℕ)) → Option OperandReading
reading_after_value ws (Some x) = Some (reading x.1 ws (Follows x.0))
reading_after_value ws None = None

-- the index of a row comes next after its name
abbrev pub reading_after_name : Scope → List (List ℕ) → List Waits → List ℕ → Option (ℕ × Term) → Option OperandReading
reading_after_name scope names ws word (Some row) = Some (reading names ws (Indexes row.0 row.1))
reading_after_name scope names ws word None = reading_after_value ws (word_value scope names word)

abbrev pub reading_after_word : Scope → List (List ℕ) → List Waits → List ℕ → Option Bracket → Option OperandReading
reading_after_word scope names ws word (Some head) = Some (reading names ws (Heads head))
reading_after_word scope names ws word None = reading_after_name scope names ws word (row_read scope word)

-- a token where a part begins
abbrev pub reading_at_part : Scope → List (List ℕ) → List Waits → Token → Option OperandReading
reading_at_part scope names ws (NumberToken n) = Some (reading names ws (Follows (Value (Number n))))
reading_at_part scope names ws (Word word) = reading_after_word scope names ws word (head_of word)
reading_at_part scope names ws (Sign Open) = reading_after_bracket names ws Plain
reading_at_part scope names ws (Sign other) = None

-- a token after the word before a bracket
abbrev pub reading_after_head : List (List ℕ) → List Waits → Bracket → Token → Option OperandReading
reading_after_head names ws head (Sign Open) = reading_after_bracket names ws head
reading_after_head names ws head other = None

abbrev pub enclosing : List (List ℕ) → List Waits → Option OperandPart → Option OperandReading
enclosing names ws None = None
enclosing names ws (Some part) = Some (reading names ws (Follows part))

-- a bracket ends
abbrev pub closes : List (List ℕ) → List Waits → OperandPart → Option OperandReading
closes names [] part = None
closes names (Joining left joint ∷ ws) part = None
closes names (Opened head ∷ ws) part = enclosing names ws (enclosed_part head part)
closes names (Halfway head first ∷ ws) part = enclosing names ws (enclosed_two head first part)
closes names (Indexing first size ∷ ws) part = None

-- an index ends
abbrev pub closes_index : List (List ℕ) → List Waits → OperandPart → Option OperandReading
closes_index names [] part = None
closes_index names (Joining left joint ∷ ws) part = None
closes_index names (Opened head ∷ ws) part = None
closes_index names (Halfway head first ∷ ws) part = None
closes_index names (Indexing first size ∷ ws) part = enclosing names ws (element_part first size part)

-- a comma comes, after the first of two parts
abbrev pub halves : List (List ℕ) → List Waits → OperandPart → Option OperandReading
halves names [] part = None
halves names (Joining left joint ∷ ws) part = None
halves names (Opened Not ∷ ws) part = None
halves names (Opened head ∷ ws) part = Some (reading names (Halfway head part ∷ ws) Begins)
halves names (Halfway head first ∷ ws) part = None
halves names (Indexing first size ∷ ws) part = None

-- what a token between two parts is
abbrev pub joint_of : Token → Option Joint
joint_of (Sign (OperatorSign o)) = Some (ByOperator o)
joint_of (Sign (ComparisonSign c)) = Some (ByComparison c)
joint_of (Sign other) = None
joint_of (Word word) = if bytes_eq word (codes "and") then Some And else if bytes_eq word (codes "or") then Some Or else None
joint_of (NumberToken n) = None

abbrev pub joining : List (List ℕ) → List Waits → OperandPart → Option Joint → Option OperandReading
joining names ws part None = None
joining names ws part (Some joint) = do
  r ← stack_reduction (strength joint) ws part
  Some (reading names (Joining r.1 joint ∷ r.0) Begins)

-- a token after a part
abbrev pub reading_after_part : List (List ℕ) → List Waits → OperandPart → Token → Option OperandReading
reading_after_part names ws part (Sign Close) = do
  r ← stack_reduction 1 ws part
  closes names r.0 r.1
reading_after_part names ws part (Sign CloseIndex) = do
  r ← stack_reduction 1 ws part
  closes_index names r.0 r.1
reading_after_part names ws part (Sign Comma) = do
  r ← stack_reduction 1 ws part
  halves names r.0 r.1
reading_after_part names ws part token = joining names ws part (joint_of token)

abbrev pub reading_after_token : Scope → List (List ℕ) → List Waits → NextToken → Token → Option OperandReading
reading_after_token scope names ws Begins token = reading_at_part scope names ws token
reading_after_token scope names ws (Heads head) token = reading_after_head names ws head token
reading_after_token scope names ws (Indexes first size) token = reading_after_row names ws first size token
reading_after_token scope names ws (Follows part) token = reading_after_part names ws part token

-- one more token
abbrev pub turn : Scope → OperandReading → Token → Option OperandReading
turn scope r token = reading_after_token scope r.names r.waiting r.next token

-- all tokens, one after the other
abbrev pub run : Scope → List Token → OperandReading → Option OperandReading
run scope [] r = Some r
run scope (token ∷ tokens) r = turn scope r token >>= run scope tokens

abbrev pub sole_part : List (List ℕ) → List Waits × OperandPart → Option (OperandPart × List (List ℕ))
sole_part names ([], part) = Some (part, names)
sole_part names (w ∷ ws, part) = None

-- the one part that is left at the end, and the private names
abbrev pub part_at_end : List (List ℕ) → List Waits → NextToken → Option (OperandPart × List (List ℕ))
part_at_end names ws Begins = None
part_at_end names ws (Heads head) = None
part_at_end names ws (Indexes first size) = None
part_at_end names ws (Follows part) = stack_reduction 1 ws part >>= sole_part names

-- what all tokens say
abbrev pub read_part : Scope → List (List ℕ) → List Token → Option (OperandPart × List (List ℕ))
read_part scope names tokens = do
  r ← run scope tokens (reading names [] Begins)
  part_at_end r.names r.waiting r.next
