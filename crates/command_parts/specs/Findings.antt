-- What is written of what a command has found, or that it has found nothing.
use Rattle.std.specs.Prelude.{ℕ, max, List, [], ◌∷◌, codes, Option, Some, None, Result, Ok, Err}
use Rattle.std.specs.Fmt.{decimal}
use Rattle.schedule.specs.Schedules.{Scheduled, spelling}
use Rattle.schedule.specs.Words.{line_of}
use Rattle.schedule.specs.declared.replays.verdict.Verdict.TheVariants.{Fine}
use Rattle.schedule.specs.Reports.{verdict_line}
use Rattle.command_parts.specs.Endings.{CommandFault, Ending}

-- the line `nothing found`
abbrev pub nothing_line : List ℕ
nothing_line = line_of (codes "nothing" ∷ codes "found" ∷ [])

-- the line `nothing found within K moves`
abbrev pub within_line : ℕ → List ℕ
within_line moves = line_of (codes "nothing" ∷ codes "found" ∷ codes "within" ∷ decimal moves ∷ codes "moves" ∷ [])

-- the line `nothing found: all N states`
abbrev pub all_line : ℕ → List ℕ
all_line states = line_of (codes "nothing" ∷ codes "found:" ∷ codes "all" ∷ decimal states ∷ codes "states" ∷ [])

-- the line `never stuck: all N states`
abbrev pub never_line : ℕ → List ℕ
never_line states = line_of (codes "never" ∷ codes "stuck:" ∷ codes "all" ∷ decimal states ∷ codes "states" ∷ [])

-- the status of two answers: 1, where one of them is a schedule
abbrev pub both_of : Ending → Result Ending CommandFault → Result ℕ CommandFault
both_of first (Ok second) = Ok (max first.status second.status)
both_of first (Err fault) = Err fault

-- the text that is written: the shrunk schedule, or the line of a fine verdict
abbrev pub shrunk_text : Option Scheduled → List ℕ
shrunk_text (Some least) = spelling least
shrunk_text None = verdict_line Fine

-- the exit status: 1 if there was something to shrink
abbrev pub shrunk_status : Option Scheduled → ℕ
shrunk_status (Some least) = 1
shrunk_status None = 0

-- the line `starves P cycle K`
abbrev pub starves_line : ℕ → ℕ → List ℕ
starves_line process cycle = line_of (codes "starves" ∷ decimal process ∷ codes "cycle" ∷ decimal cycle ∷ [])

-- the line `never starving: all N states`
abbrev pub never_starving_line : ℕ → List ℕ
never_starving_line states = line_of (codes "never" ∷ codes "starving:" ∷ codes "all" ∷ decimal states ∷ codes "states" ∷ [])
