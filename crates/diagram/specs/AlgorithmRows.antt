-- The rows of a drawing of an algorithm's run, and what they show.
use Rattle.std.specs.Prelude.{ℕ, ◌+◌, ◌-◌, ◌^◌, ◌==◌, nat_lt, ◌&&◌, Bool, List, [], ◌∷◌, ◌++◌, map, drop, length, codes, slice_get, slice_set, Option, Some, None, is_some, if◌then◌else◌, string_bytes}
use Rattle.std.specs.Fmt.{decimal}
use Rattle.std.specs.List.{flat_map}
use Rattle.redomail.specs.declared.deed.Deed.{Deed}
use Rattle.redomail.specs.declared.deed.Deed.TheVariants.{Outer}
use Rattle.algorithms.specs.declared.access.WordAccess.{WordAccess}
use Rattle.algorithms.specs.declared.access.Address.{Address}
use Rattle.algorithms.specs.declared.algorithm.Algorithm.{Algorithm}
use Rattle.algorithms.specs.declared.algorithm.Declaration.{Declaration}
use Rattle.algorithms.specs.declared.algorithm.Extent.{Extent}
use Rattle.algorithms.specs.declared.algorithm.Extent.TheVariants.{One, Each, Array, Table}
use Rattle.algorithm_lab.specs.Reports.{line_of_report}
use Rattle.algorithm_lab.specs.declared.run_report.TextReport.{TextReport}
use Rattle.algorithm_lab.specs.declared.run_report.TextReport.TheVariants.{Did, Answered, Exceeded, Broken}
use Rattle.diagram.specs.declared.algorithm.row.AlgorithmAct.{AlgorithmAct}
use Rattle.diagram.specs.declared.algorithm.row.AlgorithmAct.TheVariants.{Took, Blocked, Further, Crashed}
use Rattle.diagram.specs.declared.algorithm.row.AlgorithmRow.{AlgorithmRow}
use Rattle.diagram.specs.declared.mark.Mark.{Mark}
use Rattle.diagram.specs.declared.mark.Mark.TheVariants as marks
use Rattle.diagram.specs.AlgorithmEvents.{AlgorithmEvent}
use Rattle.diagram.specs.ShownRows.{ShownRowState, sign_width}
use Rattle.diagram.specs.Signs.{indexed_name}

-- ---- the rows of events

-- a further line of what a row of p reports
abbrev pub further_row : ℕ → TextReport → AlgorithmRow
further_row p reports = record { p = p; act = Further; phase = None; reports = Some reports }

-- the rows of an event: one for each line that it reports, and at least one
abbrev pub rows_of : AlgorithmEvent → List AlgorithmRow
rows_of event =
    record { p = event.p; act = event.act; phase = Some event.phase; reports = slice_get event.reports 0 }
    ∷ map (further_row event.p) (drop 1 event.reports)

-- the last of the rows so far
abbrev pub last_of : List AlgorithmRow → Option AlgorithmRow
last_of rows = slice_get rows (length rows - 1)

abbrev pub is_same_word : Address → Address → Bool
is_same_word a b = a.declaration == b.declaration && a.index == b.index

-- a blocked reading counts once more where the row before is the same reading of the same process, and it reports nothing
abbrev pub counted_by : ℕ → AlgorithmRow → AlgorithmAct → AlgorithmAct → Option AlgorithmRow
counted_by p row (Blocked access value times) (Blocked again read once) =
    if p == row.p && is_same_word again.address access.address && read == value && nat_lt times (2 ^ 64 - 1)
    then Some (record { p = row.p; act = Blocked access value (times + 1); phase = row.phase; reports = row.reports })
    else None
counted_by p row before now = None

abbrev pub row_counted_again : ℕ → AlgorithmAct → Option AlgorithmRow → Option AlgorithmRow
row_counted_again p act None = None
row_counted_again p act (Some row) = counted_by p row row.act act

abbrev pub with_counted : List AlgorithmRow → AlgorithmEvent → Option AlgorithmRow → List AlgorithmRow
with_counted rows event None = rows ++ rows_of event
with_counted rows event (Some row) = slice_set rows (length rows - 1) row

-- an event that reports something has rows of its own
abbrev pub counted_unless : List TextReport → Option AlgorithmRow → Option AlgorithmRow
counted_unless [] row = row
counted_unless (report ∷ reports) row = None

-- the rows after an event
abbrev pub with_event : List AlgorithmRow → AlgorithmEvent → List AlgorithmRow
with_event rows event = with_counted rows event (counted_unless event.reports (row_counted_again event.p event.act (last_of rows)))

-- the rows after events
abbrev pub with_events : List AlgorithmRow → List AlgorithmEvent → List AlgorithmRow
with_events rows [] = rows
with_events rows (event ∷ events) = with_events (with_event rows event) events

-- ---- what a row shows

-- a shared word, by its name, with its place where its declaration has an array of words
abbrev pub word_name : Extent → List ℕ → ℕ → List ℕ
word_name One name index = name
word_name Each name index = indexed_name name index
word_name (Array size) name index = indexed_name name index
word_name (Table size columns) name index = indexed_name name index

abbrev pub word_of : Option Declaration → ℕ → List ℕ
word_of None index = []
word_of (Some declaration) index = word_name declaration.extent (string_bytes declaration.name) index

abbrev pub word_sign : Algorithm → Address → List ℕ
word_sign a address = word_of (slice_get a.declarations.items address.declaration) address.index

-- a load as r turn 1
abbrev pub load_sign : Algorithm → Address → ℕ → List ℕ
load_sign a address value = codes "r " ++ word_sign a address ++ codes " " ++ decimal value

-- the value that a swap stores, where it does
abbrev pub stored_sign : Option ℕ → List ℕ
stored_sign None = []
stored_sign (Some value) = codes "=" ++ decimal value

-- a swap that reads 2 and stores 0 as s tail 2=0
abbrev pub swap_sign : Algorithm → WordAccess → ℕ → List ℕ
swap_sign a access value = codes "s " ++ word_sign a access.address ++ codes " " ++ decimal value ++ stored_sign access.stores

-- a store as w flag[0]=1
abbrev pub access_sign : Algorithm → WordAccess → ℕ → List ℕ
access_sign a access value =
    if access.swaps then swap_sign a access value
    else if is_some access.stores then codes "w " ++ word_sign a access.address ++ codes "=" ++ decimal value
    else load_sign a access.address value

-- a repeated reading as await turn 1 ×17; the two bytes of the sign are its UTF-8
abbrev pub blocked_sign : Algorithm → WordAccess → ℕ → ℕ → List ℕ
blocked_sign a access value times =
    if times == 1 then access_sign a access value
    else codes "await " ++ word_sign a access.address ++ codes " " ++ decimal value ++ 32 ∷ 195 ∷ 151 ∷ decimal times

abbrev pub sign_of : Algorithm → AlgorithmAct → List ℕ
sign_of a (Took access value) = access_sign a access value
sign_of a (Blocked access value times) = blocked_sign a access value times
sign_of a Further = []
sign_of a Crashed = []

abbrev pub wide_of : AlgorithmAct → ℕ
wide_of (Blocked access value times) = sign_width times
wide_of act = sign_width 1

abbrev pub mark_of : AlgorithmAct → Mark
mark_of Further = marks.Nothing
mark_of Crashed = marks.Crash
mark_of act = marks.Step

-- the deed in what a row reports
abbrev pub deed_report : Option TextReport → Option Deed
deed_report (Some (Did outer)) = Some (Outer outer)
deed_report reports = None

-- the line of the answer or of the breach in what a row reports
abbrev pub answer_reported : Algorithm → Option TextReport → List ℕ
answer_reported a (Some (Answered p answer)) = line_of_report a (Answered p answer)
answer_reported a (Some (Exceeded p section)) = line_of_report a (Exceeded p section)
answer_reported a (Some (Broken line)) = line_of_report a (Broken line)
answer_reported a reports = []

abbrev pub shown_in : Algorithm → AlgorithmRow → ShownRowState
shown_in a row =
    record {
      p = row.p;
      sign = sign_of a row.act;
      wide = wide_of row.act;
      mark = mark_of row.act;
      phase = row.phase;
      deed = deed_report row.reports;
      answer = answer_reported a row.reports;
    }

-- ---- what rows report

-- the line that a row reports, if it reports one
abbrev pub reported_by : Option TextReport → List TextReport
reported_by None = []
reported_by (Some reports) = reports ∷ []

-- what rows report
abbrev pub reported_in : List AlgorithmRow → List TextReport
reported_in rows = flat_map (λ row. reported_by row.reports) rows
