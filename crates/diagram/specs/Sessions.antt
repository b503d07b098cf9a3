-- A session: a schedule that grows by a line at a time, and goes back, and a simulation that plays it. What is written for a
-- line is a function of the schedule before it, of the simulation, of what was undone, and of the line.
use Rattle.std.specs.Prelude.{◌≡◌, ℕ, ◌+◌, ◌-◌, ◌≤◌, List, [], ◌∷◌, ◌++◌, codes, length, take, Option, Some, None, Result, Ok, Err, slice_get}
use Rattle.schedule.specs.declared.lines.fault.LineFault.{LineFault}
use Rattle.schedule.specs.declared.lines.line.Line.{Line}
use Rattle.schedule.specs.declared.lines.line.Line.TheVariants.{Step}
use Rattle.schedule.specs.declared.texts.head.Head.{Head}
use Rattle.schedule.specs.Numbers.{number_of as number_of_line}
use Rattle.schedule.specs.Schedules.{Scheduled, head_of}
use Rattle.schedule.specs.Words.{words_of}
use Rattle.diagram.specs.declared.session.request.Request.{Request}
use Rattle.diagram.specs.declared.session.request.Request.TheVariants as requests
use Rattle.diagram.specs.declared.session.opened.SessionReply.{SessionReply}
use Rattle.diagram.specs.declared.session.opened.SessionReply.TheVariants as replies
use Rattle.diagram.specs.Helps.{help_text}
use Rattle.diagram.specs.Pictures.{around}
use Rattle.diagram.specs.Requests.{request_at}
use Rattle.diagram.specs.Semantics.{Semantics, lines_on}

-- the schedule so far, with its simulation; and the lines that were undone, the last one first to be taken again
pub record SessionState (S : Type 0) : Type 0 where
  pub schedule : Scheduled
  pub undone : List Line
  pub simulation : S

-- a value has from 1 to 8 words, as in each schedule
abbrev pub HasWidth : Scheduled → Type 0
HasWidth schedule = (1 ≤ schedule.width) × (schedule.width ≤ 8)

-- the last of some lines
abbrev pub last_line : List Line → Option Line
last_line lines = slice_get lines (length lines - 1)

-- the lines before the last
abbrev pub without_last : List Line → List Line
without_last lines = take (length lines - 1) lines

-- a schedule without its last line
abbrev pub without_last_line : Scheduled → Scheduled
without_last_line schedule = record schedule { lines = without_last schedule.lines }

-- the number that the next line has in the schedule's text; the header has number 1
abbrev pub next_number : {S : Type 0} → SessionState S → ℕ
next_number session = length session.schedule.lines + 2

-- why a line is not taken
abbrev pub fault_text : ℕ → List ℕ → ℕ → List ℕ
fault_text line name number = around (codes "line ") line (codes ": ") ++ around name number (10 ∷ [])

-- what a line asks for
abbrev pub request_in : {S : Type 0} → SessionState S → List ℕ → Result Request LineFault
request_in session line = request_at session.schedule.width (words_of line)

-- what is to be done besides
abbrev pub reply_to : Result Request LineFault → SessionReply
reply_to (Ok requests.Save) = replies.Saves
reply_to (Ok requests.Quit) = replies.Quits
reply_to request = replies.Goes

module _ {S : Type 0} (b : Semantics S) where
  -- ---- the simulation of a schedule

  -- after a schedule
  abbrev pub state_of : S → Scheduled → S
  state_of s schedule = lines_on b.after (b.first s (head_of schedule)) schedule.lines

  -- a session at a schedule
  abbrev pub at_schedule : S → Scheduled → List Line → SessionState S
  at_schedule s schedule undone = record { schedule = schedule; undone = undone; simulation = state_of s schedule }

  -- the lines that say where the processes stand
  abbrev pub standing_text : SessionState S → List ℕ
  standing_text session = b.state_text (head_of session.schedule) session.simulation

  -- what a session shows is the simulation of its schedule, played from its begin
  abbrev pub IsOfSchedule : SessionState S → Type 0
  IsOfSchedule session = session.simulation ≡ state_of session.simulation session.schedule

  -- ---- a line of the schedule

  -- the number of the refusal of a line, if it is refused
  abbrev pub refusal_in : SessionState S → Line → Option ℕ
  refusal_in session line = b.refusal session.simulation line

  -- the session after a line that is taken, with these lines undone
  abbrev pub taken : SessionState S → List Line → Line → SessionState S
  taken session undone line =
      record {
        schedule = record session.schedule { lines = session.schedule.lines ++ line ∷ [] };
        undone = undone;
        simulation = b.after session.simulation line;
      }

  -- the steps of the line, and the state after it; or the line of its refusal
  abbrev pub play_text_by : SessionState S → Line → Option ℕ → List ℕ
  play_text_by session line None =
      b.steps_text (head_of session.schedule) session.simulation line ++ b.state_text (head_of session.schedule) (b.after session.simulation line)
  play_text_by session line (Some number) = fault_text (next_number session) (codes "refused ") number

  abbrev pub play_text : SessionState S → Line → List ℕ
  play_text session line = play_text_by session line (refusal_in session line)

  -- the session after the line, with these lines undone; where it is refused, nothing has changed
  abbrev pub played_by : SessionState S → List Line → Line → Option ℕ → SessionState S
  played_by session undone line None = taken session undone line
  played_by session undone line (Some number) = session

  abbrev pub played : SessionState S → List Line → Line → SessionState S
  played session undone line = played_by session undone line (refusal_in session line)

  -- ---- back, and on again

  -- the session before the last line of its schedule
  abbrev pub undone_by : SessionState S → Option Line → SessionState S
  undone_by session None = session
  undone_by session (Some line) = at_schedule session.simulation (without_last_line session.schedule) (session.undone ++ line ∷ [])

  abbrev pub after_undo : SessionState S → SessionState S
  after_undo session = undone_by session (last_line session.schedule.lines)

  -- the state there
  abbrev pub undo_text_by : SessionState S → Option Line → List ℕ
  undo_text_by session None = codes "nothing to undo" ++ 10 ∷ []
  undo_text_by session (Some line) = b.state_text (head_of session.schedule) (state_of session.simulation (without_last_line session.schedule))

  abbrev pub undo_text : SessionState S → List ℕ
  undo_text session = undo_text_by session (last_line session.schedule.lines)

  -- the line that was undone last is taken again
  abbrev pub redone_by : SessionState S → Option Line → SessionState S
  redone_by session None = session
  redone_by session (Some line) = played session (without_last session.undone) line

  abbrev pub after_redo : SessionState S → SessionState S
  after_redo session = redone_by session (last_line session.undone)

  abbrev pub redo_text_by : SessionState S → Option Line → List ℕ
  redo_text_by session None = codes "nothing to redo" ++ 10 ∷ []
  redo_text_by session (Some line) = play_text session line

  abbrev pub redo_text : SessionState S → List ℕ
  redo_text session = redo_text_by session (last_line session.undone)

  -- ---- until a call is answered

  abbrev pub way_of : SessionState S → ℕ → Option ℕ
  way_of session p = b.steps_to_answer session.schedule session.simulation p

  -- the line of that many steps
  abbrev pub answered_by : SessionState S → ℕ → Option ℕ → SessionState S
  answered_by session p None = session
  answered_by session p (Some n) = played session [] (Step p n)

  abbrev pub answer_text_by : SessionState S → ℕ → Option ℕ → List ℕ
  answer_text_by session p None = around (codes "process ") p (codes " gets no answer by its own steps" ++ 10 ∷ [])
  answer_text_by session p (Some n) = play_text session (Step p n)

  -- ---- one line of the input

  -- the session after a request
  abbrev pub after_request : SessionState S → Result Request LineFault → SessionState S
  after_request session (Ok (requests.Play line)) = played session [] line
  after_request session (Ok requests.Undo) = after_undo session
  after_request session (Ok requests.Redo) = after_redo session
  after_request session (Ok (requests.ToAnswer p)) = answered_by session p (way_of session p)
  after_request session request = session

  -- what is written for a request. What is written for a schedule that is saved depends on the file
  abbrev pub text_of_request : SessionState S → Result Request LineFault → List ℕ
  text_of_request session (Ok (requests.Play line)) = play_text session line
  text_of_request session (Ok requests.Undo) = undo_text session
  text_of_request session (Ok requests.Redo) = redo_text session
  text_of_request session (Ok (requests.ToAnswer p)) = answer_text_by session p (way_of session p)
  text_of_request session (Ok requests.Save) = []
  text_of_request session (Ok requests.Help) = help_text
  text_of_request session (Ok requests.Quit) = []
  text_of_request session (Err fault) = fault_text (next_number session) (codes "fault ") (number_of_line fault)

  -- ---- lines of the input, one after another

  -- the session after them
  abbrev pub session_after : SessionState S → List (List ℕ) → SessionState S
  session_after session [] = session
  session_after session (line ∷ lines) = session_after (after_request session (request_in session line)) lines

  -- the steps that are written for lines of a schedule
  abbrev pub lines_text : Head → S → List Line → List ℕ
  lines_text head s [] = []
  lines_text head s (line ∷ lines) = b.steps_text head s line ++ lines_text head (b.after s line) lines
