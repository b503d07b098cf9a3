-- The drawing as SVG: a lifeline for each process, time downward. What is drawn later covers what was drawn before.
use Rattle.std.specs.Prelude.{ℕ, ◌+◌, ◌-◌, ◌*◌, ◌^◌, ◌==◌, min, Bool, List, [], ◌∷◌, ◌++◌, length, codes, Option, Some, None, if◌then◌else◌}
use Rattle.std.specs.Fmt.{decimal}
use Rattle.redomail.specs.declared.deed.Deed.{Deed}
use Rattle.redomail.specs.declared.deed.Deed.TheVariants.{Outer}
use Rattle.schedule.specs.Reports.{line_of_report}
use Rattle.schedule.specs.Runs.{Did}
use Rattle.diagram.specs.declared.drawing.End.{End}
use Rattle.diagram.specs.declared.mark.Mark.{Mark}
use Rattle.diagram.specs.declared.mark.Mark.TheVariants.{Step, Crash, Nothing}
use Rattle.diagram.specs.declared.phase.LifelinePhase.{LifelinePhase}
use Rattle.diagram.specs.declared.phase.LifelinePhase.TheVariants.{Rest, Doorway, Waiting, Section, Dead}
use Rattle.diagram.specs.Columns.{end_line}
use Rattle.diagram.specs.ShownRows.{ShownRowState}

-- ---- positions in pixels, which stop at the greatest u64

-- a number, at most the greatest u64
abbrev pub at_most_greatest : ℕ → ℕ
at_most_greatest n = min n (2 ^ 64 - 1)

-- the x of a process's lifeline; that of the mailbox is the x of a next process
abbrev pub x_of : ℕ → ℕ
x_of p = 192 * min p 64 + 60

-- the distance from process p's lifeline to the mailbox's
abbrev pub far_from : ℕ → ℕ → ℕ
far_from procs p = x_of procs - x_of p

-- the y of a row; rows count from 1
abbrev pub y_of : ℕ → ℕ
y_of row = at_most_greatest (at_most_greatest (row * 18) + 82)

-- the y where the lifelines end, below this many rows
abbrev pub bottom_of : ℕ → ℕ
bottom_of rows = at_most_greatest (y_of rows + 18)

-- ---- pieces

-- a text around a number
abbrev pub around : List ℕ → ℕ → List ℕ → List ℕ
around before n after = before ++ decimal n ++ after

-- the name of a phase, which is the class of its colour
abbrev pub class_of : LifelinePhase → List ℕ
class_of Rest = codes "rest"
class_of Doorway = codes "doorway"
class_of Waiting = codes "waiting"
class_of Section = codes "section"
class_of Dead = codes "dead"

-- a lifeline downward from here, in the colour of a phase
unfoldable pub lifeline : LifelinePhase → ℕ → List ℕ
lifeline phase long = codes "<rect class='" ++ class_of phase ++ around (codes "' x='-4.5' y='.5' width='9' height='") long (codes "'/>")

-- such a lifeline, if there is a phase
abbrev pub lifeline_if : Option LifelinePhase → ℕ → List ℕ
lifeline_if None long = []
lifeline_if (Some phase) long = lifeline phase long

-- a group: what follows is drawn from this point on
unfoldable pub group_at : ℕ → ℕ → List ℕ
group_at x y = around (codes "<g transform='translate(") x (around (codes " ") y (codes ")'>"))

-- the end of a group
abbrev pub group_end : List ℕ
group_end = codes "</g>" ++ 10 ∷ []

-- ---- a row

-- the line of a deed, if there is one
abbrev pub deed_line : Option Deed → List ℕ
deed_line None = []
deed_line (Some deed) = line_of_report (Did deed)

-- the lines that a row reports
abbrev pub reports : Option Deed → List ℕ → List ℕ
reports deed answer = deed_line deed ++ answer

-- the title of a row, which a viewer shows where the reader points at it
unfoldable pub row_title : ℕ → List ℕ → Option Deed → List ℕ → List ℕ
row_title p sign deed answer =
    around (codes "<title>process ") p (codes " ") ++ sign ++ 10 ∷ (reports deed answer ++ codes "</title>")

-- the dot of a step, with its access
unfoldable pub step_mark : ℕ → List ℕ → List ℕ
step_mark p sign = around (codes "<circle r='3'/><text x='10' y='4'><tspan class='p'>") p (codes "</tspan> ") ++ sign ++ codes "</text>"

-- a step is a dot with its access beside it, a crash is a cross
abbrev pub marked_by : Mark → ℕ → List ℕ → List ℕ
marked_by Step p sign = step_mark p sign
marked_by Crash p sign = codes "<path class='crash' d='M-6 -6l12 12m0 -12l-12 12'/>"
marked_by Nothing p sign = []

-- the line from a deed to the mailbox, this long
unfoldable pub joint : ℕ → List ℕ
joint far = around (codes "<path class='join' d='M0 7H") far (around (codes "'/><circle r='4' cy='7' cx='") far (codes "'/>"))

-- a deed of the mailbox is joined to the mailbox's lifeline
abbrev pub join : Option Deed → ℕ → List ℕ
join None far = []
join (Some (Outer outer)) far = []
join (Some deed) far = joint far

-- what a step reports, in one line
abbrev pub remarks : Option Deed → List ℕ → List ℕ
remarks None answer = answer
remarks (Some deed) answer = line_of_report (Did deed) ++ (if length answer == 0 then [] else codes " / " ++ answer)

-- what a step reports, at the right
unfoldable pub remarks_at : ℕ → Option Deed → List ℕ → List ℕ
remarks_at far deed answer = around (codes "<text y='4' x='") (far + 16) (codes "'>") ++ remarks deed answer ++ codes "</text>"

-- this line at the right
abbrev pub margin : ℕ → Option Deed → List ℕ → List ℕ
margin far None answer = if length answer == 0 then [] else remarks_at far None answer
margin far deed answer = remarks_at far deed answer

-- a frame around the deed that the verdict is against
abbrev pub flag : Bool → ℕ → List ℕ
flag marked far =
    if marked then around (codes "<circle class='against' r='8'/><rect class='against' y='-9' height='17' width='270' x='") (far + 10)
    (codes "'><title>the verdict is against this deed</title></rect>")
    else []

-- the part of a row at the lifeline of its process, with this much room below it
unfoldable pub left_of : ShownRowState → ℕ → List ℕ
left_of row below = row_title row.p row.sign row.deed row.answer ++ lifeline_if row.phase below ++ marked_by row.mark row.p row.sign

-- the part of a row at its right
unfoldable pub right_of : ShownRowState → ℕ → Bool → List ℕ
right_of row far marked = join row.deed far ++ margin far row.deed row.answer ++ flag marked far

-- a row at this height, in a picture with this number of processes
abbrev pub row_picture : ℕ → ℕ → ℕ → Bool → ShownRowState → List ℕ
row_picture procs y below marked row =
    group_at (x_of row.p) y ++ left_of row below ++ right_of row (far_from procs row.p) marked ++ group_end

-- ---- above and below

-- the size of the picture
unfoldable pub measured : ℕ → ℕ → List ℕ
measured wide high = around (codes "<svg xmlns='http://www.w3.org/2000/svg' width='") wide (around (codes "' height='") high (codes "'"))

-- the view box of the picture
unfoldable pub viewed : ℕ → ℕ → List ℕ
viewed wide high = around (codes " viewBox='0 0 ") wide (around (codes " ") high (codes "'>" ++ 10 ∷ []))

-- the styles. The colours differ in hue for every eye, and in lightness where they are printed in grey
unfoldable pub text_looks : List ℕ
text_looks =
    codes "<title>a run of the lock, time downward</title><style>text{font:12px monospace;fill:#000}.p{font-weight:bold}circle{stroke:#fff}"
    ++ codes ".rest{fill:#fff;stroke:#777}.doorway{fill:#f0e442;stroke:#555}.waiting{fill:#e69f00;stroke:#555}.section{fill:#0072b2;stroke:#0072b2}"

-- the styles of the other marks
unfoldable pub line_looks : List ℕ
line_looks =
    codes ".dead{fill:url(#gone);stroke:#fff;stroke-width:2}.crash{fill:none;stroke:#000;stroke-width:2.5}.mailbox{stroke:#555;stroke-width:3}"
    ++ (codes ".join{stroke:#555;stroke-dasharray:2}.against{fill:none;stroke:#d55e00;stroke-width:2}</style>" ++ 10 ∷ [])

-- the pattern of a dead process's lifeline, and a white background
unfoldable pub paper : List ℕ
paper =
    codes "<defs><pattern id='gone' width='8' height='6' x='-4' patternUnits='userSpaceOnUse'><rect width='8' height='6' fill='#fff'/>"
    ++ codes "<rect x='3' width='2' height='2'/></pattern></defs><rect width='100%' height='100%' fill='#fff'/>" ++ 10 ∷ []

-- the name of a colour in the key
unfoldable pub key_name : LifelinePhase → List ℕ
key_name phase = codes "<text x='10' y='12'>" ++ class_of phase ++ codes "</text>"

-- what a colour means
unfoldable pub key : ℕ → LifelinePhase → List ℕ
key x phase = group_at x 30 ++ lifeline phase 14 ++ key_name phase ++ group_end

-- the key: what the colours, the cross and the ring mean
unfoldable pub keys : List ℕ
keys =
    key 24 Rest ++ key 84 Doorway ++ key 168 Waiting ++ key 252 Section ++ key 336 Dead
    ++ codes "<path class='crash' d='M394 32l10 10m0 -10l-10 10'/><text x='412' y='42'>crash</text>"
    ++ (codes "<circle class='against' cx='470' cy='37' r='6'/><text x='482' y='42'>against</text>" ++ 10 ∷ [])

-- the head of the file, and the key
unfoldable pub head_picture : ℕ → ℕ → List ℕ
head_picture wide high = measured wide high ++ viewed wide high ++ text_looks ++ line_looks ++ paper ++ keys

-- the name of a process above its lifeline
unfoldable pub lifeline_name : ℕ → List ℕ
lifeline_name p = around (codes "<title>process ") p (around (codes "</title><text class='p' text-anchor='middle' y='-8'>") p (codes "</text>"))

-- the top of a lifeline of a process
unfoldable pub lifeline_top : ℕ → LifelinePhase → ℕ → List ℕ
lifeline_top p phase long = group_at (x_of p) 80 ++ lifeline_name p ++ lifeline phase long ++ group_end

-- those of the processes from p on
abbrev pub lifeline_tops : ℕ → ℕ → List LifelinePhase → List ℕ
lifeline_tops long p [] = []
lifeline_tops long p (phase ∷ phases) = lifeline_top p phase long ++ lifeline_tops long (p + 1) phases

-- the lifeline of the mailbox
unfoldable pub mailbox_top : ℕ → ℕ → List ℕ
mailbox_top x long =
    group_at x 80 ++ around (codes "<title>mailbox</title><text class='p' text-anchor='middle' y='-8'>mailbox</text><path class='mailbox' d='M0 0V") long (codes "'/>")
    ++ group_end

-- the lifeline of the mailbox, where there is one
abbrev pub mailbox_if : Bool → ℕ → ℕ → List ℕ
mailbox_if mailbox x long = if mailbox then mailbox_top x long else []

-- the part above the rows
abbrev pub top_picture : Bool → ℕ → ℕ → List LifelinePhase → List ℕ
top_picture mailbox procs bottom phases =
    head_picture (x_of procs + 300) (at_most_greatest (bottom + 40)) ++ mailbox_if mailbox (x_of procs) (bottom - 80) ++ lifeline_tops (bottom - 80) 0 phases

-- how the run ends, at this height, and the end of the file
abbrev pub last_picture : ℕ → End → List ℕ
last_picture y end = around (codes "<text x='20' y='") y (codes "'>") ++ end_line end ++ (codes "</text></svg>" ++ 10 ∷ [])

-- how the run ends, below the lifelines, and the end of the file
abbrev pub end_picture : ℕ → End → List ℕ
end_picture bottom end = last_picture (at_most_greatest (bottom + 24)) end
