-- What comes next in a line: its tokens, one after the other.
use Rattle.std.specs.Prelude.{ℕ, ◌+◌, ◌-◌, ◌==◌, nat_eq, Bool, false, ◌&&◌, ◌||◌, List, [], ◌∷◌, length, take, drop, slice_get, Option, Some, None, if◌then◌else◌, codes, bytes_eq}
use Rattle.algorithms.specs.declared.condition.Comparison.{Comparison}
use Rattle.algorithms.specs.declared.condition.Comparison.TheVariants.{Equal, NotEqual, Less, AtMost, Greater, AtLeast}
use Rattle.algorithms.specs.declared.expression.Operator.{Operator}
use Rattle.algorithms.specs.declared.expression.Operator.TheVariants.{Sum, Difference, Product, Quotient, Remainder, Maximum, Minimum, Within}
use Rattle.algorithms.specs.declared.line.AlgorithmDeed.{AlgorithmDeed}
use Rattle.algorithms.specs.declared.line.AlgorithmDeed.TheVariants.{Begin, Ready, Enter, Reenter, Leave, Quit}
use Rattle.algorithms.specs.declared.line.Members.{Members}
use Rattle.algorithms.specs.declared.line.Members.TheVariants.{All, Others, Lower, Higher}
use Rattle.algorithm_texts.specs.declared.tokens.Sign.{Sign}
use Rattle.algorithm_texts.specs.declared.tokens.Sign.TheVariants.{Assign, Colon, Comma, Open, Close, OpenIndex, CloseIndex, Operator as OperatorSign, Comparison as ComparisonSign}
use Rattle.algorithm_texts.specs.declared.tokens.Token.{Token}
use Rattle.algorithm_texts.specs.declared.tokens.Token.TheVariants.{Number, Word, Sign as Mark}
use Rattle.algorithm_texts.specs.Parts.{◌>>=◌}
use Rattle.algorithm_texts.specs.Tokens.{value_of_name}

-- ---- tests of one token

abbrev pub operator_number : Operator → ℕ
operator_number Sum = 0
operator_number Difference = 1
operator_number Product = 2
operator_number Quotient = 3
operator_number Remainder = 4
operator_number Maximum = 5
operator_number Minimum = 6
operator_number Within = 20

abbrev pub comparison_number : Comparison → ℕ
comparison_number Equal = 7
comparison_number NotEqual = 8
comparison_number Less = 9
comparison_number AtMost = 10
comparison_number Greater = 11
comparison_number AtLeast = 12

-- signs have different numbers
abbrev pub sign_number : Sign → ℕ
sign_number (OperatorSign o) = operator_number o
sign_number (ComparisonSign c) = comparison_number c
sign_number Assign = 13
sign_number Colon = 14
sign_number Comma = 15
sign_number Open = 16
sign_number Close = 17
sign_number OpenIndex = 18
sign_number CloseIndex = 19

abbrev pub is_the_sign : Option Token → Sign → Bool
is_the_sign None sign = false
is_the_sign (Some (Number n)) sign = false
is_the_sign (Some (Word letters)) sign = false
is_the_sign (Some (Mark other)) sign = nat_eq (sign_number other) (sign_number sign)

abbrev pub is_the_word : Option Token → List ℕ → Bool
is_the_word None word = false
is_the_word (Some (Number n)) word = false
is_the_word (Some (Word letters)) word = bytes_eq letters word
is_the_word (Some (Mark sign)) word = false

abbrev pub is_me : Token → Bool
is_me token = is_the_word (Some token) (codes "me")

-- the letters of a word
abbrev pub letters_of : Option Token → Option (List ℕ)
letters_of None = None
letters_of (Some (Number n)) = None
letters_of (Some (Word letters)) = Some letters
letters_of (Some (Mark sign)) = None

abbrev pub number_in : Option Token → Option ℕ
number_in None = None
number_in (Some (Number n)) = Some n
number_in (Some (Word letters)) = None
number_in (Some (Mark sign)) = None

-- ---- what has to come next

-- a value where the test holds
abbrev pub value_if : {A : Type 0} → Bool → Option A → Option A
value_if test o = if test then o else None

-- the tokens after a word that comes next
abbrev pub past_word : List Token → List ℕ → Option (List Token)
past_word tokens word = value_if (is_the_word (slice_get tokens 0) word) (Some (drop 1 tokens))

-- the tokens after a sign that comes next
abbrev pub past_sign : List Token → Sign → Option (List Token)
past_sign tokens sign = value_if (is_the_sign (slice_get tokens 0) sign) (Some (drop 1 tokens))

abbrev pub is_over : List Token → Bool
is_over tokens = length tokens == 0

-- what a word names
abbrev pub named_by : {A : Type 0} → List (List ℕ × A) → Option Token → Option A
named_by names token = letters_of token >>= value_of_name names

abbrev pub deed_words : List (List ℕ × AlgorithmDeed)
deed_words =
    (codes "begin", Begin)
    ∷ (codes "ready", Ready)
    ∷ (codes "enter", Enter)
    ∷ (codes "reenter", Reenter)
    ∷ (codes "leave", Leave)
    ∷ (codes "quit", Quit)
    ∷ []

abbrev pub members_words : List (List ℕ × Members)
members_words =
    (codes "all", All)
    ∷ (codes "others", Others)
    ∷ (codes "lower", Lower)
    ∷ (codes "higher", Higher)
    ∷ []

-- `this is DEED`
abbrev pub deed_said : List Token → Option AlgorithmDeed
deed_said tokens = do
  this ← past_word tokens (codes "this")
  rest ← past_word this (codes "is")
  deed ← named_by deed_words (slice_get rest 0)
  value_if (is_over (drop 1 rest)) (Some deed)

-- `in MEMBERS`
abbrev pub members_said : List Token → Option Members
members_said tokens = do
  rest ← past_word tokens (codes "in")
  members ← named_by members_words (slice_get rest 0)
  value_if (is_over (drop 1 rest)) (Some members)

-- the tokens after `may withdraw`, where it comes next
abbrev pub past_withdraw : List Token → Option (List Token)
past_withdraw tokens =
    if is_the_word (slice_get tokens 0) (codes "may") then past_word (drop 1 tokens) (codes "withdraw") else Some tokens

-- a value or a condition ends before this token
abbrev pub ends_value : Token → Bool
ends_value token =
    is_the_word (Some token) (codes "then")
    || is_the_word (Some token) (codes "may")
    || is_the_word (Some token) (codes "this")
    || is_the_word (Some token) (codes "until")
    || is_the_word (Some token) (codes "if")
    || is_the_word (Some token) (codes "done")
    || is_the_sign (Some token) Assign

-- how many indexes are open after this token
abbrev pub open_after : ℕ → Token → ℕ
open_after depth token =
    if is_the_sign (Some token) OpenIndex then depth + 1 else if is_the_sign (Some token) CloseIndex then depth - 1 else depth

-- a value ends before this token, where this number of indexes is open: also before the end of an index that is not its own
abbrev pub ends_here : ℕ → Token → Bool
ends_here depth token = ends_value token || (depth == 0 && is_the_sign (Some token) CloseIndex)

-- how many tokens a value or a condition has, where this number of indexes is open
abbrev pub value_size_in : ℕ → List Token → ℕ
value_size_in depth [] = 0
value_size_in depth (token ∷ tokens) = if ends_here depth token then 0 else value_size_in (open_after depth token) tokens + 1

abbrev pub value_size : List Token → ℕ
value_size tokens = value_size_in 0 tokens

-- the tokens of a value or a condition, and those after it
abbrev pub value_tokens : List Token → List Token
value_tokens tokens = take (value_size tokens) tokens

abbrev pub value_rest : List Token → List Token
value_rest tokens = drop (value_size tokens) tokens

-- a block or a label begins here
abbrev pub begins_no_simple : List Token → Bool
begins_no_simple tokens =
    is_the_word (slice_get tokens 0) (codes "if") || is_the_word (slice_get tokens 0) (codes "for") || is_the_sign (slice_get tokens 1) Colon
