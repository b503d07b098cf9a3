-- The rows of a run's events: a blocked step that repeats the row before counts once more in it.
use Rattle.std.specs.Prelude.{ℕ, ◌+◌, ◌-◌, ◌^◌, ◌==◌, nat_lt, ◌&&◌, not, Bool, true, false, List, [], ◌∷◌, ◌++◌, length, slice_get, slice_set, Option, Some, None, is_some, if◌then◌else◌}
use Rattle.rmecore.specs.declared.happened.Happened.{Happened}
use Rattle.rmecore.specs.declared.kind.Kind.{Kind}
use Rattle.rmecore.specs.declared.kind.Kind.TheVariants.{Look, Weigh}
use Rattle.rmecore.specs.declared.word.Word.{Word}
use Rattle.rmecore.specs.declared.word.Word.TheVariants.{Choosing, Number, Inside, Data}
use Rattle.diagram.specs.declared.act.RowAct.{RowAct}
use Rattle.diagram.specs.declared.act.RowAct.TheVariants.{Silent}
use Rattle.diagram.specs.declared.act.DiagramRow.{DiagramRow}
use Rattle.diagram.specs.Events.{DiagramEvent}
use Rattle.diagram.specs.Followed.{row_of}

-- ---- repetitions

-- both kinds are the same, and may be blocked
abbrev pub wait_alike : Kind → Kind → Bool
wait_alike Look Look = true
wait_alike Weigh Weigh = true
wait_alike first second = false

abbrev pub is_same_word : Word → Word → Bool
is_same_word (Choosing i) (Choosing j) = i == j
is_same_word (Number i) (Number j) = i == j
is_same_word (Inside i) (Inside j) = i == j
is_same_word (Data i) (Data j) = i == j
is_same_word first second = false

-- a step with no deed of the lock, and no answer of the lock's part
abbrev pub is_bare : Happened → Bool
is_bare happened = not (is_some happened.outer) && not (is_some happened.done)

-- the second step repeats the first: a blocked step that reads the same value of the same word
abbrev pub repeats : Happened → Happened → Bool
repeats first second =
    wait_alike first.kind second.kind && is_same_word first.word second.word && first.value == second.value && is_bare first && is_bare second

-- ---- rows

-- the last of the rows so far
abbrev pub last_of : List DiagramRow → Option DiagramRow
last_of rows = slice_get rows (length rows - 1)

-- a row, counted once more where p repeats its step
abbrev pub counted_by : ℕ → DiagramRow → RowAct → RowAct → Option DiagramRow
counted_by p row (Silent before times) (Silent happened once) =
    if p == row.p && repeats before happened && nat_lt times (2 ^ 64 - 1) then Some (record { p = row.p; act = Silent before (times + 1) }) else None
counted_by p row before now = None

abbrev pub counted_last : DiagramRow → Option DiagramRow → Option DiagramRow
counted_last row None = None
counted_last row (Some last) = counted_by row.p last last.act row.act

abbrev pub with_counted : List DiagramRow → DiagramRow → Option DiagramRow → List DiagramRow
with_counted rows row None = rows ++ row ∷ []
with_counted rows row (Some last) = slice_set rows (length rows - 1) last

-- the rows after one more row
abbrev pub with_row : List DiagramRow → DiagramRow → List DiagramRow
with_row rows row = with_counted rows row (counted_last row (last_of rows))

-- the rows after events
abbrev pub with_events : List DiagramRow → List DiagramEvent → List DiagramRow
with_events rows [] = rows
with_events rows (event ∷ events) = with_events (with_row rows (row_of event)) events
