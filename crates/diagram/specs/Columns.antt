-- The drawing as text: a column for each process, a row for each step or crash, and at the right what it reports.
use Rattle.std.specs.Prelude.{ℕ, ◌+◌, ◌-◌, ◌==◌, Bool, List, [], ◌∷◌, ◌++◌, length, codes, Option, Some, None, if◌then◌else◌}
use Rattle.std.specs.Fmt.{decimal}
use Rattle.std.proofs.Math.ListN.{replicate}
use Rattle.redomail.specs.declared.deed.Deed.{Deed}
use Rattle.schedule.specs.Reports.{line_of_report, verdict_line}
use Rattle.schedule.specs.Runs.{Did}
use Rattle.diagram.specs.declared.drawing.End.{End}
use Rattle.diagram.specs.declared.drawing.End.TheVariants.{Judged, Refused}
use Rattle.diagram.specs.declared.mark.Mark.{Mark}
use Rattle.diagram.specs.declared.mark.Mark.TheVariants.{Crash}
use Rattle.diagram.specs.declared.phase.LifelinePhase.{LifelinePhase}
use Rattle.diagram.specs.declared.phase.LifelinePhase.TheVariants.{Rest, Doorway, Waiting, Section, Dead}
use Rattle.diagram.specs.ShownRows.{ShownRowState}

-- ---- the columns

-- this many spaces
abbrev pub spaces : ℕ → List ℕ
spaces n = replicate n 32

-- a text with spaces up to a width
abbrev pub padded_text : ℕ → List ℕ → List ℕ
padded_text wide text = text ++ spaces (wide - length text)

-- the bar of a phase: . rest, : doorway, | waiting, # section
abbrev pub bar_of : LifelinePhase → ℕ
bar_of Rest = 46
bar_of Doorway = 58
bar_of Waiting = 124
bar_of Section = 35
bar_of Dead = 32

-- a crash is an x
abbrev pub bar_at : Mark → LifelinePhase → ℕ
bar_at Crash phase = 120
bar_at mark phase = bar_of phase

-- the cell of a row
abbrev pub cell : ShownRowState → List ℕ
cell row = 32 ∷ padded_text row.wide row.sign

-- a column without an access
unfoldable pub blank : LifelinePhase → List ℕ
blank phase = bar_of phase ∷ spaces 25

-- the column of process q
abbrev pub column : ShownRowState → ℕ → LifelinePhase → List ℕ
column row q phase = if q == row.p then bar_at row.mark phase ∷ cell row else blank phase

-- the columns of the processes from q on
abbrev pub columns : ShownRowState → ℕ → List LifelinePhase → List ℕ
columns row q [] = []
columns row q (phase ∷ phases) = column row q phase ++ columns row (q + 1) phases

-- columns without an access
abbrev pub bars : List LifelinePhase → List ℕ
bars [] = []
bars (phase ∷ phases) = blank phase ++ bars phases

-- ---- a row

-- before a deed; the one that the verdict is against is marked
abbrev pub lead : Bool → List ℕ
lead marked = if marked then codes " >>> " else codes " "

-- what a row reports, as lines of the report. The second line has a row of its own
abbrev pub telling : List LifelinePhase → Bool → Option Deed → List ℕ → List ℕ
telling phases marked None answer = if length answer == 0 then 10 ∷ [] else 32 ∷ answer
telling phases marked (Some deed) answer =
    lead marked ++ line_of_report (Did deed) ++ (if length answer == 0 then [] else bars phases ++ 124 ∷ 32 ∷ answer)

-- a row, with what it reports at the right
abbrev pub row_text : List LifelinePhase → Bool → ShownRowState → List ℕ
row_text phases marked row = columns row 0 phases ++ 124 ∷ telling phases marked row.deed row.answer

-- ---- above and below

-- the number of a process above its column
unfoldable pub head : ℕ → List ℕ
head p = padded_text 26 (decimal p)

-- the numbers of the processes from p on, above their columns
abbrev pub heads : ℕ → List LifelinePhase → List ℕ
heads p [] = []
heads p (phase ∷ phases) = head p ++ heads (p + 1) phases

-- the line above the rows
abbrev pub top_text : List LifelinePhase → List ℕ
top_text phases = heads 0 phases ++ 124 ∷ 10 ∷ []

-- the verdict, or the line that was refused
abbrev pub end_line : End → List ℕ
end_line (Judged verdict) = verdict_line verdict
end_line (Refused line number verdict) = codes "line " ++ decimal line ++ codes " refused " ++ decimal number ++ 10 ∷ []

-- how the run ends, and what the bars mean
abbrev pub end_text : End → List ℕ
end_text end = end_line end ++ codes ". rest  : doorway  | waiting  # section  x crash" ++ 10 ∷ []
