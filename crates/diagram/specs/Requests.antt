-- The lines of a session: those of a schedule, and its own.
use Rattle.std.specs.Prelude.{ℕ, List, [], ◌∷◌, drop, codes, slice_index, Option, Some, None, Result, Ok, Err, if◌then◌else◌}
use Rattle.schedule.specs.declared.lines.fault.LineFault.{LineFault}
use Rattle.schedule.specs.declared.lines.fault.LineFault.TheVariants.{BadWord}
use Rattle.schedule.specs.Commands.{line_at}
use Rattle.schedule.specs.Words.{◌>>=◌, any, begins_with, first_of, value_of_name, numbers_at}
use Rattle.diagram.specs.declared.session.request.Request.{Request}
use Rattle.diagram.specs.declared.session.request.Request.TheVariants as requests
use Rattle.diagram.specs.declared.session.request.Verb.{Verb}
use Rattle.diagram.specs.declared.session.request.Verb.TheVariants as verbs

-- the words of a session's own by their names
abbrev pub verbs_by_name : List (List ℕ × Verb)
verbs_by_name =
    (codes "undo", verbs.Undo)
    ∷ (codes "redo", verbs.Redo)
    ∷ (codes "to", verbs.To)
    ∷ (codes "save", verbs.Save)
    ∷ (codes "help", verbs.Help)
    ∷ (codes "quit", verbs.Quit)
    ∷ []

-- no word is left after these
abbrev pub sole_request : Request → List (List ℕ) → Result Request LineFault
sole_request request ws = numbers_at [] ws >>= λ ns. Ok request

-- `to answer P`
abbrev pub to_answer : List (List ℕ) → Result Request LineFault
to_answer ws = if begins_with (codes "answer") ws then numbers_at (any ∷ []) (drop 1 ws) >>= (λ ns. Ok (requests.ToAnswer (slice_index ns 0))) else Err BadWord

-- `save FILE`
abbrev pub save_to : List (List ℕ) → Result Request LineFault
save_to [] = Err BadWord
save_to (file ∷ ws) = sole_request requests.Save ws

-- what a word of the session's own asks for, with the words after it
abbrev pub asked_by : Verb → List (List ℕ) → Result Request LineFault
asked_by verbs.Undo ws = sole_request requests.Undo ws
asked_by verbs.Redo ws = sole_request requests.Redo ws
asked_by verbs.To ws = to_answer ws
asked_by verbs.Save ws = save_to ws
asked_by verbs.Help ws = sole_request requests.Help ws
asked_by verbs.Quit ws = sole_request requests.Quit ws

-- a line of a schedule
abbrev pub line_asked : ℕ → List (List ℕ) → Result Request LineFault
line_asked width ws = line_at width ws >>= λ line. Ok (requests.Play line)

-- by the word that comes first, if it is one of the session's own
abbrev pub asked_with : ℕ → List (List ℕ) → Option Verb → Result Request LineFault
asked_with width ws None = line_asked width ws
asked_with width ws (Some verb) = asked_by verb (drop 1 ws)

-- the word of the session's own that these words begin with
abbrev pub verb_of : Option (List ℕ) → Option Verb
verb_of None = None
verb_of (Some word) = value_of_name verbs_by_name word

-- what the words of a line ask for, or their fault
abbrev pub request_at : ℕ → List (List ℕ) → Result Request LineFault
request_at width ws = asked_with width ws (verb_of (first_of ws))
