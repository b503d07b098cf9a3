-- Where each process stands, in words: its lock words, the row of the restart table that they are, and what its last steps
-- have shown; and who is inside.
use Rattle.std.specs.Prelude.{ℕ, ◌+◌, ◌-◌, ◌==◌, nat_lt, Bool, List, [], ◌∷◌, ◌++◌, codes, Option, Some, None, get_or, if◌then◌else◌, not, ◌&&◌}
use Rattle.std.specs.Fmt.{decimal}
use Rattle.rmecore.specs.declared.happened.Happened.{Happened}
use Rattle.rmecore.specs.declared.kind.Kind.{Kind}
use Rattle.rmecore.specs.declared.kind.Kind.TheVariants as kinds
use Rattle.rmecore.specs.declared.own.Own.{Own}
use Rattle.rmecore.specs.declared.word.Word.{Word}
use Rattle.rmecore.specs.declared.word.Word.TheVariants as words
use Rattle.rmecore.specs.Place.{is_before}
use Rattle.diagram.specs.declared.phase.LifelinePhase.{LifelinePhase}
use Rattle.diagram.specs.declared.phase.LifelinePhase.TheVariants.{Rest, Doorway, Waiting, Section, Dead}
use Rattle.diagram.specs.Pictures.{around}
use Rattle.diagram.specs.LastSteps.{LastStepsState}

-- ---- the restart table

-- the words of a process that has no number: doorway unfinished, leaving or idle
abbrev pub row_without_number : Own → List ℕ
row_without_number own =
    if not (own.choosing == 0) then codes "1,0,0 doorway unfinished"
    else if not (own.inside == 0) then codes "0,0,1 leaving"
    else codes "0,0,0 idle"

-- the words of a process that has one: number taken, inside or waiting
abbrev pub row_with_number : Own → List ℕ
row_with_number own =
    if not (own.choosing == 0) then codes "1,k,0 number taken"
    else if not (own.inside == 0) then codes "0,k,1 inside"
    else codes "0,k,0 waiting"

-- the row of the restart table that the words are (Restart table of docs/theory/model.md)
abbrev pub restart_row : Own → List ℕ
restart_row own = if own.number == 0 then row_without_number own else row_with_number own

-- the words are those of one that is inside
abbrev pub is_inside : Own → Bool
is_inside own = not (own.number == 0) && not (own.inside == 0)

-- ---- the place

-- how many numbers p has read after that of process j: it reads them by rising index, without its own
abbrev pub numbers_read : ℕ → ℕ → ℕ
numbers_read p j = if nat_lt j p then j + 1 else j

-- the numbers that were read by the last access
abbrev pub read_by : ℕ → Kind → Word → ℕ
read_by p kinds.Peek (words.Number j) = numbers_read p j
read_by p kind word = 0

-- the numbers that a process in the doorway has read
abbrev pub read_so_far : ℕ → Option Happened → ℕ
read_so_far p None = 0
read_so_far p (Some h) = read_by p h.kind h.word

-- in the doorway
abbrev pub doorway_text : ℕ → ℕ → Option Happened → List ℕ
doorway_text procs p last =
    around (codes "in the doorway, has read ") (read_so_far p last) (around (codes " of ") (procs - 1) (codes " numbers"))

-- after a look: the process looked at is in its doorway, or it is not
abbrev pub look_text : ℕ → ℕ → List ℕ
look_text j value =
    if value == 0 then around (codes "waits, process ") j (codes " is not in the doorway")
    else around (codes "waits for process ") j (codes ", which is in the doorway")

-- the process that is waited for, and its number
abbrev pub waits_for : ℕ → ℕ → List ℕ
waits_for j value = around (codes "waits for process ") j (around (codes ", which has number ") value [])

-- after a weigh: the pair of the process weighed is smaller, or it is passed (Lamport's order of pairs)
abbrev pub weigh_text : ℕ → Own → ℕ → ℕ → List ℕ
weigh_text p own j value =
    if not (value == 0) && not (is_before own.number p value j)
    then waits_for j value
    else around (codes "waits, has passed process ") j []

-- by the last access of one that waits
abbrev pub waiting_by : ℕ → Own → Kind → Word → ℕ → List ℕ
waiting_by p own kinds.Look (words.Choosing j) value = look_text j value
waiting_by p own kinds.Weigh (words.Number j) value = weigh_text p own j value
waiting_by p own kind word value = codes "waits"

abbrev pub waiting_text : ℕ → Own → Option Happened → List ℕ
waiting_text p own None = codes "waits"
waiting_text p own (Some h) = waiting_by p own h.kind h.word h.value

-- after a crash, before a step shows where the process goes on
abbrev pub dead_text : Option Happened → List ℕ
dead_text None = codes "crashed"
dead_text (Some h) = codes "crashed, rereads its words"

-- where a process stands
abbrev pub place_text : ℕ → ℕ → Own → LifelinePhase → Option Happened → List ℕ
place_text procs p own Rest last = codes "outside"
place_text procs p own Doorway last = doorway_text procs p last
place_text procs p own Waiting last = waiting_text p own last
place_text procs p own Section last = codes "inside"
place_text procs p own Dead last = dead_text last

-- ---- all processes

-- the lock words
unfoldable pub own_text : Own → List ℕ
own_text own = decimal own.choosing ++ around (codes ",") own.number (around (codes ",") own.inside [])

-- a process: its words, their row, and where it stands
unfoldable pub process_line : ℕ → ℕ → Own → LifelinePhase → Option Happened → List ℕ
process_line procs p own phase last =
    around (codes "process ") p (codes ": ") ++ own_text own ++ codes " (row " ++ restart_row own ++ codes "), "
    ++ place_text procs p own phase last ++ 10 ∷ []

-- the processes from p on
abbrev pub process_lines : LastStepsState → ℕ → ℕ → List Own → List ℕ
process_lines last_steps procs p [] = []
process_lines last_steps procs p (own ∷ owns) =
    process_line procs p own (get_or last_steps.phases p Rest) (get_or last_steps.lasts p None) ++ process_lines last_steps procs (p + 1) owns

-- the first process from p on whose words are inside; no two are (the lock theorem)
abbrev pub holder : ℕ → List Own → Option ℕ
holder p [] = None
holder p (own ∷ owns) = if is_inside own then Some p else holder (p + 1) owns

-- who is inside
abbrev pub inside_line : Option ℕ → List ℕ
inside_line None = codes "inside: nobody" ++ 10 ∷ []
inside_line (Some p) = around (codes "inside: process ") p (10 ∷ [])

-- the state of the world
abbrev pub state_text : ℕ → List Own → LastStepsState → List ℕ
state_text procs owns last_steps = process_lines last_steps procs 0 owns ++ inside_line (holder 0 owns)
