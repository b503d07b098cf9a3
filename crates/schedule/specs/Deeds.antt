-- The deed lines of a report, which are the lines of a trace after the header (the specification's Report and Trace).
use Rattle.std.specs.Prelude.{◌≡◌, ℕ, Bool, true, ◌==◌, ◌<◌, ◌^◌, List, [], ◌∷◌, map, drop, length, Result, codes, slice_index}
use Rattle.std.specs.List.{AllByRecursion}
use Rattle.std.specs.Fmt.{decimal}
use Rattle.schedule.specs.declared.lines.fault.LineFault.{LineFault}
use Rattle.rmecore.specs.declared.outer.Outer.TheVariants as outers
use Rattle.rmecore.specs.declared.outer.Outer.{Outer}
use Rattle.rmecore.specs.AbstractLock.{doer}
use Rattle.redomail.specs.declared.deed.Deed.{Deed}
use Rattle.redomail.specs.declared.deed.Deed.TheVariants as deeds
use Rattle.schedule.specs.declared.lines.deed.DeedWord.{DeedWord}
use Rattle.schedule.specs.declared.lines.deed.DeedWord.TheVariants as names
use Rattle.schedule.specs.Words.{WordShape, any, repeated_shape, item_at}

-- ---- each deed has one spelling

-- the words of a deed's line
abbrev pub words_of_outer : Outer → List (List ℕ)
words_of_outer (outers.Begin p) = codes "begin" ∷ decimal p ∷ []
words_of_outer (outers.Ready p) = codes "ready" ∷ decimal p ∷ []
words_of_outer (outers.Enter p) = codes "enter" ∷ decimal p ∷ []
words_of_outer (outers.Crash p) = codes "crash" ∷ decimal p ∷ []
words_of_outer (outers.Reenter p) = codes "reenter" ∷ decimal p ∷ []
words_of_outer (outers.Leave p) = codes "leave" ∷ decimal p ∷ []
words_of_outer (outers.Quit p) = codes "quit" ∷ decimal p ∷ []

-- the words of a deed's line
abbrev pub words_of_deed : Deed → List (List ℕ)
words_of_deed (deeds.Outer outer) = words_of_outer outer
words_of_deed (deeds.Commit p seq value) = codes "commit" ∷ decimal p ∷ decimal seq ∷ map decimal value
words_of_deed (deeds.Show p at seq value) = codes "show" ∷ decimal p ∷ decimal at ∷ decimal seq ∷ map decimal value
words_of_deed (deeds.Close p) = codes "close" ∷ decimal p ∷ []
words_of_deed (deeds.Ruin p) = codes "ruin" ∷ decimal p ∷ []

-- what the types guarantee: numbers of 64 bits, and a value of the trace's width
abbrev pub IsValue : ℕ → List ℕ → Type 0
IsValue width value = (length value ≡ width) × AllByRecursion (λ v. v < 2 ^ 64) value

-- the same of a deed
abbrev pub IsDeed : ℕ → Deed → Type 0
IsDeed width (deeds.Outer outer) = doer outer < 2 ^ 64
IsDeed width (deeds.Commit p seq value) = (p < 2 ^ 64) × (seq < 2 ^ 64) × IsValue width value
IsDeed width (deeds.Show p at seq value) = (p < 2 ^ 64) × (at < 2 ^ 64) × (seq < 2 ^ 64) × IsValue width value
IsDeed width (deeds.Close p) = p < 2 ^ 64
IsDeed width (deeds.Ruin p) = p < 2 ^ 64

-- whether each value that it holds has this width
abbrev pub fits : ℕ → Deed → Bool
fits width (deeds.Commit p seq value) = length value == width
fits width (deeds.Show p at seq value) = length value == width
fits width deed = true

-- ---- reading

-- the name of a deed
abbrev pub word_of : DeedWord → List ℕ
word_of names.Begin = codes "begin"
word_of names.Ready = codes "ready"
word_of names.Enter = codes "enter"
word_of names.Crash = codes "crash"
word_of names.Reenter = codes "reenter"
word_of names.Leave = codes "leave"
word_of names.Quit = codes "quit"
word_of names.Commit = codes "commit"
word_of names.Show = codes "show"
word_of names.Close = codes "close"
word_of names.Ruin = codes "ruin"

-- a deed's word with its name
abbrev pub entry : DeedWord → List ℕ × DeedWord
entry name = (word_of name, name)

-- all deeds' words by their names
abbrev pub deeds_by_name : List (List ℕ × DeedWord)
deeds_by_name =
    entry names.Begin
    ∷ entry names.Ready
    ∷ entry names.Enter
    ∷ entry names.Crash
    ∷ entry names.Reenter
    ∷ entry names.Leave
    ∷ entry names.Quit
    ∷ entry names.Commit
    ∷ entry names.Show
    ∷ entry names.Close
    ∷ entry names.Ruin
    ∷ []

-- the places after a name
abbrev pub places : ℕ → DeedWord → List (List ℕ) → List WordShape
places width names.Commit ws = any ∷ any ∷ repeated_shape width
places width names.Show ws = any ∷ any ∷ any ∷ repeated_shape width
places width _ ws = any ∷ []

-- the deed that a name makes of these numbers
abbrev pub deed_with : DeedWord → List ℕ → Deed
deed_with names.Begin ns = deeds.Outer (outers.Begin (slice_index ns 0))
deed_with names.Ready ns = deeds.Outer (outers.Ready (slice_index ns 0))
deed_with names.Enter ns = deeds.Outer (outers.Enter (slice_index ns 0))
deed_with names.Crash ns = deeds.Outer (outers.Crash (slice_index ns 0))
deed_with names.Reenter ns = deeds.Outer (outers.Reenter (slice_index ns 0))
deed_with names.Leave ns = deeds.Outer (outers.Leave (slice_index ns 0))
deed_with names.Quit ns = deeds.Outer (outers.Quit (slice_index ns 0))
deed_with names.Commit ns = deeds.Commit (slice_index ns 0) (slice_index ns 1) (drop 2 ns)
deed_with names.Show ns = deeds.Show (slice_index ns 0) (slice_index ns 1) (slice_index ns 2) (drop 3 ns)
deed_with names.Close ns = deeds.Close (slice_index ns 0)
deed_with names.Ruin ns = deeds.Ruin (slice_index ns 0)

-- the deed that these words say, or its fault (the specification's Trace)
abbrev pub deed_at : ℕ → List (List ℕ) → Result Deed LineFault
deed_at width ws = item_at deeds_by_name (places width) deed_with ws
