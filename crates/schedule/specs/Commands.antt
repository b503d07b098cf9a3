-- The lines of a schedule after the header (the specification's Schedule text).
use Rattle.std.specs.Prelude.{◌≡◌, ℕ, Bool, true, ◌<◌, ◌≤◌, ◌^◌, ◌==◌, List, [], ◌∷◌, map, drop, length, Result, if◌then◌else◌, codes, slice_index, slice_index_or}
use Rattle.std.specs.List.{AllByRecursion}
use Rattle.std.specs.Fmt.{decimal}
use Rattle.schedule.specs.declared.lines.fault.LineFault.{LineFault}
use Rattle.schedule.specs.declared.lines.command.Keyword.{Keyword}
use Rattle.schedule.specs.declared.lines.command.Keyword.TheVariants as commands
use Rattle.rmeworld.specs.declared.call.Call.{Call}
use Rattle.rmeworld.specs.declared.call.Call.TheVariants as calls
use Rattle.schedule.specs.declared.lines.line.Line.{Line}
use Rattle.schedule.specs.declared.lines.line.Line.TheVariants.{Start, Step, Crash, CrashAll}
use Rattle.schedule.specs.Words.{WordShape, Fixed, Number, any, repeated_shape, begins_with, is_nil, item_at}

-- ---- each line has one spelling

-- the words of a line that starts a call of p
abbrev pub words_of_call : ℕ → Call → List (List ℕ)
words_of_call p calls.Lock = codes "lock" ∷ decimal p ∷ []
words_of_call p calls.Unlock = codes "unlock" ∷ decimal p ∷ []
words_of_call p calls.Consistent = codes "consistent" ∷ decimal p ∷ []
words_of_call p calls.Recover = codes "recover" ∷ decimal p ∷ []
words_of_call p (calls.Append seq value) = codes "append" ∷ decimal p ∷ decimal seq ∷ map decimal value
words_of_call p calls.Close = codes "close" ∷ decimal p ∷ []
words_of_call p (calls.Put i v) = codes "put" ∷ decimal p ∷ decimal i ∷ decimal v ∷ []
words_of_call p (calls.Get i) = codes "get" ∷ decimal p ∷ decimal i ∷ []
words_of_call p calls.Withdraw = codes "withdraw" ∷ decimal p ∷ []

-- the words of a line
abbrev pub words_of_line : Line → List (List ℕ)
words_of_line (Start p call) = words_of_call p call
words_of_line (Step p k) = codes "step" ∷ decimal p ∷ (if k == 1 then [] else decimal k ∷ [])
words_of_line (Crash p) = codes "crash" ∷ decimal p ∷ []
words_of_line CrashAll = codes "crash" ∷ codes "all" ∷ []

-- what the types guarantee: numbers of 64 bits, K from 1 to 1,000,000, and a value of the schedule's width
abbrev pub IsCall : ℕ → Call → Type 0
IsCall width (calls.Append seq value) = (seq < 2 ^ 64) × (length value ≡ width) × AllByRecursion (λ v. v < 2 ^ 64) value
IsCall width (calls.Put i v) = (i < 2 ^ 64) × (v < 2 ^ 64)
IsCall width (calls.Get i) = i < 2 ^ 64
IsCall width call = Unit {0}

-- the same of a line
abbrev pub IsLine : ℕ → Line → Type 0
IsLine width (Start p call) = (p < 2 ^ 64) × IsCall width call
IsLine width (Step p k) = (p < 2 ^ 64) × (1 ≤ k) × (k ≤ 1000000)
IsLine width (Crash p) = p < 2 ^ 64
IsLine width CrashAll = Unit {0}

-- whether each value that it holds has this width
abbrev pub call_fits : ℕ → Call → Bool
call_fits width (calls.Append seq value) = length value == width
call_fits width call = true

-- whether each value that a line holds has this width
abbrev pub fits : ℕ → Line → Bool
fits width (Start p call) = call_fits width call
fits width line = true

-- ---- reading: the command, then its numbers

-- the name of a command
abbrev pub word_of : Keyword → List ℕ
word_of commands.Lock = codes "lock"
word_of commands.Unlock = codes "unlock"
word_of commands.Consistent = codes "consistent"
word_of commands.Recover = codes "recover"
word_of commands.Append = codes "append"
word_of commands.Close = codes "close"
word_of commands.Put = codes "put"
word_of commands.Get = codes "get"
word_of commands.Withdraw = codes "withdraw"
word_of commands.Step = codes "step"
word_of commands.Crash = codes "crash"

-- a command with its name
abbrev pub entry : Keyword → List ℕ × Keyword
entry command = (word_of command, command)

-- all commands by their names
abbrev pub commands_by_name : List (List ℕ × Keyword)
commands_by_name =
    entry commands.Lock
    ∷ entry commands.Unlock
    ∷ entry commands.Consistent
    ∷ entry commands.Recover
    ∷ entry commands.Append
    ∷ entry commands.Close
    ∷ entry commands.Put
    ∷ entry commands.Get
    ∷ entry commands.Withdraw
    ∷ entry commands.Step
    ∷ entry commands.Crash
    ∷ []

-- the places after a command; a step has a second one only where a second word follows, and a crash of all has no number
abbrev pub places : ℕ → Keyword → List (List ℕ) → List WordShape
places width commands.Append ws = any ∷ any ∷ repeated_shape width
places width commands.Put ws = any ∷ any ∷ any ∷ []
places width commands.Get ws = any ∷ any ∷ []
places width commands.Step ws = if is_nil (drop 1 ws) then any ∷ [] else any ∷ Number 2 1000000 ∷ []
places width commands.Crash ws = if begins_with (codes "all") ws then Fixed (codes "all") ∷ [] else any ∷ []
places width command ws = any ∷ []

-- the crash of this process, or of all where there is no number
abbrev pub crash_of : List ℕ → Line
crash_of [] = CrashAll
crash_of (p ∷ ns) = Crash p

-- the line that a command makes of these numbers; a step with one number is one step
abbrev pub line_with : Keyword → List ℕ → Line
line_with commands.Lock ns = Start (slice_index ns 0) calls.Lock
line_with commands.Unlock ns = Start (slice_index ns 0) calls.Unlock
line_with commands.Consistent ns = Start (slice_index ns 0) calls.Consistent
line_with commands.Recover ns = Start (slice_index ns 0) calls.Recover
line_with commands.Append ns = Start (slice_index ns 0) (calls.Append (slice_index ns 1) (drop 2 ns))
line_with commands.Close ns = Start (slice_index ns 0) calls.Close
line_with commands.Put ns = Start (slice_index ns 0) (calls.Put (slice_index ns 1) (slice_index ns 2))
line_with commands.Get ns = Start (slice_index ns 0) (calls.Get (slice_index ns 1))
line_with commands.Withdraw ns = Start (slice_index ns 0) calls.Withdraw
line_with commands.Step ns = Step (slice_index ns 0) (slice_index_or ns 1 1)
line_with commands.Crash ns = crash_of ns

-- the line that these words say, or its fault (the specification's Schedule grammar)
abbrev pub line_at : ℕ → List (List ℕ) → Result Line LineFault
line_at width ws = item_at commands_by_name (places width) line_with ws
