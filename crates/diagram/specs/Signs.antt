-- How an access is written.
use Rattle.std.specs.Prelude.{ℕ, ◌+◌, ◌-◌, ◌/◌, ◌%◌, ◌^◌, ◌==◌, min, nat_lt, Bool, true, false, List, [], ◌∷◌, ◌++◌, codes, if◌then◌else◌}
use Rattle.std.specs.Fmt.{decimal}
use Rattle.rmecore.specs.declared.happened.Happened.{Happened}
use Rattle.rmecore.specs.declared.kind.Kind.{Kind}
use Rattle.rmecore.specs.declared.kind.Kind.TheVariants as kinds
use Rattle.rmecore.specs.declared.word.Word.{Word}
use Rattle.rmecore.specs.declared.word.Word.TheVariants as words
use Rattle.redomail.specs.declared.layout.Layout.{Layout}
pub use Rattle.passages.specs.LockMemory.{stores}
use Rattle.diagram.specs.declared.act.RowAct.{RowAct}
use Rattle.diagram.specs.declared.act.RowAct.TheVariants.{Silent, Telling, Fell}

-- the name of a kind of step (step kinds of docs/theory/model.md)
abbrev pub name_of : Kind → List ℕ
name_of kinds.Open = codes "open"
name_of kinds.Peek = codes "peek"
name_of kinds.Take = codes "take"
name_of kinds.Shut = codes "shut"
name_of kinds.Look = codes "look"
name_of kinds.Weigh = codes "weigh"
name_of kinds.Mark = codes "mark"
name_of kinds.Drop = codes "drop"
name_of kinds.Reread = codes "reread"
name_of kinds.Get = codes "get"
name_of kinds.Put = codes "put"
name_of kinds.Glance = codes "glance"

-- a name with an index in brackets
abbrev pub indexed_name : List ℕ → ℕ → List ℕ
indexed_name name i = name ++ 91 ∷ (decimal i ++ 93 ∷ [])

-- a lock word of process j, as p writes it: its own without an index
abbrev pub lock_word : List ℕ → ℕ → ℕ → List ℕ
lock_word name p j = if j == p then name else indexed_name name j

-- the word k of the entry at a place
abbrev pub entry_word : ℕ → ℕ → List ℕ
entry_word at k =
    if k == 0 then indexed_name (codes "sender") at
    else if k == 1 then indexed_name (codes "seq") at
    else indexed_name (codes "value") at ++ indexed_name [] (k - 2)

-- the number of words of an entry: sender, number and value
abbrev pub entry_size : Layout → ℕ
entry_size l = min (l.width + 2) (2 ^ 64 - 1)

-- the data words after the record's, counted from there: the board, the last numbers, the entries
abbrev pub word_after_record : Layout → ℕ → List ℕ
word_after_record l i =
    if nat_lt i 4 then indexed_name (codes "board") i
    else if nat_lt (i - 4) l.procs then indexed_name (codes "last") (i - 4)
    else entry_word ((i - 4 - l.procs) / entry_size l) ((i - 4 - l.procs) % entry_size l)

-- the data words from the record's value on, counted from there
abbrev pub recorded_word : Layout → ℕ → List ℕ
recorded_word l i = if nat_lt i l.width then indexed_name (codes "rec_value") i else word_after_record l (i - l.width)

-- the data word at an index
abbrev pub data_word : Layout → ℕ → List ℕ
data_word l i =
    if i == 0 then codes "ruined"
    else if i == 1 then codes "closed"
    else if i == 2 then codes "count"
    else if i == 3 then codes "armed"
    else if i == 4 then codes "rec_at"
    else if i == 5 then codes "rec_seq"
    else recorded_word l (i - 6)

-- the name of a word, as p writes it (Shared words of docs/theory/model.md)
abbrev pub word_sign : Layout → ℕ → Word → List ℕ
word_sign l p (words.Choosing j) = lock_word (codes "choosing") p j
word_sign l p (words.Number j) = lock_word (codes "number") p j
word_sign l p (words.Inside j) = lock_word (codes "inside") p j
word_sign l p (words.Data i) = data_word l i

-- a store as w number=3, a load as r number[1] 3
abbrev pub access_sign : Layout → ℕ → Happened → List ℕ
access_sign l p h =
    if stores h.kind then codes "w " ++ word_sign l p h.word ++ codes "=" ++ decimal h.value
    else codes "r " ++ word_sign l p h.word ++ codes " " ++ decimal h.value

-- a repeated load as weigh number[1] 1 ×17; the two bytes of the sign are its UTF-8
abbrev pub repeated_sign : Layout → ℕ → Happened → ℕ → List ℕ
repeated_sign l p h times = name_of h.kind ++ codes " " ++ word_sign l p h.word ++ codes " " ++ decimal h.value ++ 32 ∷ 195 ∷ 151 ∷ decimal times

-- what a row does. A crash has no text
abbrev pub sign : Layout → ℕ → RowAct → List ℕ
sign l p (Silent h times) = if times == 1 then access_sign l p h else repeated_sign l p h times
sign l p (Telling step) = access_sign l p step.happened
sign l p (Fell deed) = []
