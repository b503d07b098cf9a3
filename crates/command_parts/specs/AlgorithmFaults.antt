-- The faults of an algorithm's text and of its runs, as faults of a command.
use Rattle.std.specs.Prelude.{ℕ, List, [], ◌++◌, codes, Option, Some, None, option_and_then, unwrap_or}
use Rattle.std.specs.Fmt.{decimal}
use Rattle.algorithm_texts.specs.declared.fault_details.FaultDetail.{FaultDetail}
use Rattle.algorithm_texts.specs.declared.fault_details.FaultDetail.TheVariants as details
use Rattle.algorithms.specs.declared.fault.ReadFault.{ReadFault}
use Rattle.algorithms.specs.declared.fault.ReadFault.TheVariants as texts
use Rattle.cli.specs.Names.{number_of_algorithm_fault}

-- the number that is printed for a fault of a text
abbrev pub number_of_text_fault : ReadFault → ℕ
number_of_text_fault fault = unwrap_or (number_of_algorithm_fault fault) 0

-- the sentence after it
abbrev pub sentence_of : ReadFault → List ℕ
sentence_of texts.NoHeader = codes "the first two lines are no header and promises"
sentence_of texts.BadCharacter = codes "a character that means nothing here"
sentence_of texts.NoNewline = codes "the last line is not ended by a line feed"
sentence_of texts.BadForm = codes "no line has this form"
sentence_of texts.NameTaken = codes "the name is taken"
sentence_of texts.UnknownName = codes "there is no such name"
sentence_of texts.TwoAccesses = codes "a second access in one line"
sentence_of texts.NotAssignable = codes "this can't be set"
sentence_of texts.BadBlock = codes "an `end`, an `else` or a `call` in the wrong place"
sentence_of texts.BadLabel = codes "there is no such label, or not from here"
sentence_of texts.Unset = codes "a name may be read before it is set"
sentence_of texts.Endless = codes "lines can go round without a step"
sentence_of texts.NoStep = codes "this can come before the first step of the call"
sentence_of texts.FallsOff = codes "the call can go past its last line"
sentence_of texts.BadDeed = codes "a deed does not fit, or `enter` or `leave` is missing"
sentence_of texts.TooBig = codes "a limit is passed"
sentence_of texts.BadCall = codes "the calls do not fit together"
sentence_of texts.NeverReached = codes "no run comes to this line"
sentence_of texts.OutOfMemory = codes "out of memory"

-- ---- what is said more

-- the column at which it is
abbrev pub column_of_detail : FaultDetail → Option ℕ
column_of_detail (details.Tab column) = Some column
column_of_detail (details.CarriageReturn column) = Some column
column_of_detail (details.Unprintable column) = Some column
column_of_detail (details.NoToken column) = Some column
column_of_detail (details.LeadingZero column) = Some column
column_of_detail (details.LargeNumber column) = Some column
column_of_detail (details.LongName column) = Some column
column_of_detail details.LongLine = Some 1001
column_of_detail details.NoThen = None
column_of_detail (details.WrongIndexes column declared given) = Some column
column_of_detail (details.ReservedWord column) = Some column
column_of_detail (details.EqualSign column) = Some column
column_of_detail (details.UnfitDeed column) = Some column
column_of_detail (details.AtColumn column) = Some column
column_of_detail (details.NoEnd line) = None
column_of_detail details.NoBlock = None
column_of_detail details.NoIf = None

-- what it says, where no number belongs to it: of a token alone, nothing
abbrev pub words_of_detail : FaultDetail → List ℕ
words_of_detail (details.Tab column) = codes "a tab"
words_of_detail (details.CarriageReturn column) = codes "a carriage return: a line ends with LF alone"
words_of_detail (details.Unprintable column) = codes "a byte that is not printable ASCII"
words_of_detail (details.NoToken column) = codes "a character of no word, number or sign"
words_of_detail (details.LeadingZero column) = codes "a number with a leading zero"
words_of_detail (details.LargeNumber column) = codes "a number above 18446744073709551615"
words_of_detail (details.LongName column) = codes "a name of more than 32 characters"
words_of_detail details.LongLine = codes "a line of more than 1000 characters"
words_of_detail details.NoThen = codes "an `if` without `then`"
words_of_detail (details.WrongIndexes column declared given) = []
words_of_detail (details.ReservedWord column) = codes "a word of the format as a name"
words_of_detail (details.EqualSign column) = codes "a `=` where `:=` is meant"
words_of_detail (details.UnfitDeed column) = codes "this deed does not fit here"
words_of_detail (details.AtColumn column) = []
words_of_detail (details.NoEnd line) = []
words_of_detail details.NoBlock = codes "an `end` without a block"
words_of_detail details.NoIf = codes "an `else` without an `if`"

abbrev pub text_of_detail : FaultDetail → List ℕ
text_of_detail (details.WrongIndexes column declared given) = codes "indexes given: " ++ decimal given ++ codes ", declared: " ++ decimal declared
text_of_detail (details.NoEnd line) = codes "no `end` for the block of line " ++ decimal line
text_of_detail other = words_of_detail other

-- the column after the line's number
abbrev pub text_of_column : Option ℕ → List ℕ
text_of_column None = []
text_of_column (Some column) = codes ", column " ++ decimal column

abbrev pub column_text : Option FaultDetail → List ℕ
column_text detail = text_of_column (option_and_then column_of_detail detail)

-- what is said more, or else the sentence of the fault, also where a column alone is said
abbrev pub sentence_with : ReadFault → Option FaultDetail → List ℕ
sentence_with fault None = sentence_of fault
sentence_with fault (Some (details.AtColumn column)) = sentence_of fault
sentence_with fault (Some other) = text_of_detail other
