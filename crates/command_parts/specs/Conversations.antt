-- A session over its input: the lines are answered one after another, up to the one that ends it or to the end of the input.
use Rattle.std.specs.Prelude.{◌≡◌, ◌⊎◌, ℕ, ◌+◌, ◌-◌, ◌^◌, min, Bool, true, false, List, [], ◌∷◌, ◌++◌, codes, get_or, String, string_bytes, Vec, Option, Some, None, Result, Ok, Err}
use Rattle.std.specs.declared.alloc.Global.{Global}
use Rattle.schedule.specs.declared.replays.replay_fault.ReplayFault.{ReplayFault}
use Rattle.schedule.specs.declared.replays.replay_fault.ReplayFault.TheVariants.{Read, Write, OutOfMemory}
use Rattle.schedule.specs.Schedules.{Scheduled, schedule_at, spelling}
use Rattle.schedule.specs.Tapes.{Tape, Reading, Begins, Writes}
use Rattle.schedule.specs.Words.{parts_of, words_of}
use Rattle.diagram.specs.declared.session.opened.SessionReply.{SessionReply}
use Rattle.diagram.specs.declared.session.opened.SessionReply.TheVariants as replies
use Rattle.command_parts.specs.Devices.{Devices, devices}
use Rattle.command_parts.specs.Folders.{Used}
use Rattle.command_parts.specs.Endings.{CommandFault, Ending, FailsIn, FailsToRead}
use Rattle.command_parts.specs.Statuses.{fault_of_replay}
use Rattle.command_parts.specs.ScheduleTexts.{IsNoSchedule}
use Rattle.schedule.specs.Wholes.{Silent}
use Rattle.diagram.specs.Semantics.{Semantics}
use Rattle.diagram.specs.Sessions.{SessionState, after_request, standing_text, fault_text, next_number, reply_to, request_in, text_of_request}

-- the file that a line names
abbrev pub file_in : List ℕ → List ℕ
file_in line = get_or (words_of line) 1 []

-- what a session says of a file
abbrev pub saved_text : Bool → List ℕ
saved_text true = codes "saved" ++ 10 ∷ []
saved_text false = codes "not saved" ++ 10 ∷ []

-- this text was to be written to the file of this name
pub record WritesFile (before now : Used) (file text : List ℕ) : Type 0 where
  pub name : String Global
  pub named : string_bytes name ≡ file
  pub names : now.saved ≡ before.saved ++ name ∷ []
  pub bytes : Vec ℕ Global
  pub spelled : bytes.items ≡ text
  pub texts : now.texts ≡ before.texts ++ bytes ∷ []
  pub opened : now.opened ≡ before.opened

-- the text was written to the file; or that has failed, or the name is no text
abbrev pub IsSaved : Used → Used → List ℕ → List ℕ → Bool → Type 0
IsSaved before now file text true = WritesFile before now file text
IsSaved before now file text false = (now ≡ before) ⊎ WritesFile before now file text

-- an unfinished last line has the fault of one
abbrev pub last_text : {S : Type 0} → SessionState S → List ℕ → List ℕ
last_text session [] = []
last_text session rest = fault_text (next_number session) (codes "fault ") 5

-- the text was written; or a write has failed after a beginning of it; or memory has run out, and nothing was written
abbrev pub WritesOr : Tape → Tape → List ℕ → Result (Unit {0}) ReplayFault → Type 0
WritesOr before now text (Ok x) = Writes before now text
WritesOr before now text (Err fault) = FailsIn text before now (fault_of_replay fault)

-- what has failed: a read, a write, or memory
abbrev pub FailsBy : ReplayFault → Reading → Reading → Tape → Tape → Type 0
FailsBy Read old new blank written = (new.failures ≡ min (old.failures + 1) (2 ^ 64 - 1)) × (written.failures ≡ blank.failures)
FailsBy Write old new blank written = (new.failures ≡ old.failures) × (written.failures ≡ min (blank.failures + 1) (2 ^ 64 - 1))
FailsBy OutOfMemory old new blank written = (new.failures ≡ old.failures) × (written.failures ≡ blank.failures)
FailsBy fault old new blank written = ⊥

module _ {S : Type 0} (b : Semantics S) where
  -- the answer to one line, by what is to be done
  abbrev pub IsAnswerBy : SessionReply → SessionState S → List ℕ → Used → Used → List ℕ → Type 0
  IsAnswerBy replies.Saves session line before now text =
      (done : Bool) × IsSaved before now (file_in line) (spelling session.schedule) done × (text ≡ saved_text done)
  IsAnswerBy reply session line before now text = (now ≡ before) × (text ≡ text_of_request b session (request_in session line))

  abbrev pub IsAnswer : SessionState S → List ℕ → Used → Used → List ℕ → Type 0
  IsAnswer session line before now text = IsAnswerBy (reply_to (request_in session line)) session line before now text

  -- the session after a line
  abbrev pub after_line : SessionState S → List ℕ → SessionState S
  after_line session line = after_request b session (request_in session line)

  -- the answers to lines, none of which ends the session, and the session after them
  abbrev pub AreAnswers : SessionState S → List (List ℕ) → Used → Used → SessionState S → List ℕ → Type 0
  AreAnswers session [] before now after text = (now ≡ before) × (after ≡ session) × (text ≡ [])
  AreAnswers session (line ∷ lines) before now after text =
      (mid : Used) × (front : List ℕ) × (rest : List ℕ) × (reply_to (request_in session line) ≡ replies.Quits → ⊥)
      × IsAnswer session line before mid front × AreAnswers (after_line session line) lines mid now after rest × (text ≡ front ++ rest)

  -- the input was read up to a line that ends the session, or to its end; all lines before were answered
  pub record Converses (session : SessionState S) (input : List ℕ) (ended : Bool) (before now : Used) (said : List ℕ) : Type 0 where
    pub lines : List (List ℕ)
    pub after : SessionState S
    pub answers : List ℕ
    pub last : List ℕ
    pub more : List (List ℕ)
    pub parts : parts_of input ≡ lines ++ last ∷ more
    pub answered : AreAnswers session lines before now after answers
    pub ends : ((reply_to (request_in after last) ≡ replies.Quits) × (said ≡ answers))
        ⊎ ((more ≡ []) × (ended ≡ true) × (said ≡ answers ++ last_text after last))

  -- the files that a line that was read, and not answered, has written: where it saves, perhaps its file
  abbrev pub IsBegunBy : SessionReply → SessionState S → List ℕ → Used → Used → Type 0
  IsBegunBy replies.Saves session line before now = (now ≡ before) ⊎ WritesFile before now (file_in line) (spelling session.schedule)
  IsBegunBy reply session line before now = now ≡ before

  abbrev pub IsBegun : SessionState S → List ℕ → Used → Used → Type 0
  IsBegun session line before now = IsBegunBy (reply_to (request_in session line)) session line before now

  -- what is due of this line, with these after it: nothing yet; its answer; or the fault of an unfinished last line
  abbrev pub IsDueOf : SessionState S → List ℕ → List (List ℕ) → Used → Used → List ℕ → Type 0
  IsDueOf session line rest before now text =
      IsBegun session line before now × (text ≡ [])
      ⊎ (IsAnswer session line before now text ⊎ (rest ≡ []) × (now ≡ before) × (text ≡ last_text session line))

  -- what is due after the lines that were answered: nothing, or something of the next
  abbrev pub IsDue : SessionState S → List (List ℕ) → Used → Used → List ℕ → Type 0
  IsDue session more before now text =
      (now ≡ before) × (text ≡ [])
      ⊎ ((line : List ℕ) × (rest : List (List ℕ)) × (more ≡ line ∷ rest) × IsDueOf session line rest before now text)

  -- the session has broken off: these lines were answered, each file that they name was written, and of what is due after them a beginning
  -- was written
  pub record BreaksOff (session : SessionState S) (input : List ℕ) (before now : Used) (blank written : Tape) : Type 0 where
    pub lines : List (List ℕ)
    pub more : List (List ℕ)
    pub parts : parts_of input ≡ lines ++ more
    pub after : SessionState S
    pub used : Used
    pub answers : List ℕ
    pub answered : AreAnswers session lines before used after answers
    pub text : List ℕ
    pub due : IsDue after more used now text
    pub beginning : Begins (blank.taken ++ answers) written.taken text

  -- in the text that was read
  abbrev pub BreaksOffIn : SessionState S → List ℕ → Devices → Devices → Type 0
  BreaksOffIn session buffer before now =
      (text : List ℕ) × (now.input.given ≡ before.input.given ++ text)
      × BreaksOff session (buffer ++ text) before.files now.files before.output now.output

  -- what was read, kept and written of the lines of a session
  abbrev pub HoldsSession : SessionState S → List ℕ → Devices → Devices → Result (Unit {0}) ReplayFault → Type 0
  HoldsSession session buffer before now (Ok x) =
      (text : List ℕ) × (now.input.given ≡ before.input.given ++ text) × (now.input.failures ≡ before.input.failures)
      × ((said : List ℕ) × Converses session (buffer ++ text) now.input.ended before.files now.files said × Writes before.output now.output said)
  HoldsSession session buffer before now (Err fault) =
      FailsBy fault before.input now.input before.output now.output × BreaksOffIn session buffer before now

  -- a session has broken off after a schedule and this buffer were read: the state at its begin was not written, or what follows it. The
  -- input had been read so far
  abbrev pub BreaksAfter : SessionState S → List ℕ → Reading → Devices → Devices → CommandFault → Type 0
  BreaksAfter session buffer opened before now fault =
      (now.input ≡ opened) × (now.files ≡ before.files) × FailsIn (standing_text b session) before.output now.output fault
      ⊎ ((opening : Tape) × Writes before.output opening (standing_text b session) × ((broke : ReplayFault) × (fault ≡ fault_of_replay broke)
      × HoldsSession session buffer (devices opened before.files opening) now (Err broke)))

  -- how a session ends that was held from its begin: with status 0, where that state was written, and then the answers
  abbrev pub HeldSessionEnds : SessionState S → List ℕ → Devices → Devices → Result Ending CommandFault → Type 0
  HeldSessionEnds session buffer before now (Ok ending) =
      (opening : Tape) × (ending.status ≡ 0) × Writes before.output opening (standing_text b session)
      × HoldsSession session buffer (devices before.input before.files opening) now (Ok tt)
  HeldSessionEnds session buffer before now (Err fault) = BreaksAfter session buffer before.input before now fault

-- ---- where a session begins

-- this is the first line of what was read, with its LF, and what was read after it
abbrev pub IsFirstLine : List ℕ → List ℕ → List ℕ → Type 0
IsFirstLine more buffer text = (line : List ℕ) × (parts_of more ≡ line ∷ parts_of buffer) × (text ≡ line ++ 10 ∷ [])

-- no line was read up to the end of the input, and this is all
abbrev pub IsRestOfInput : Bool → List ℕ → List ℕ → List ℕ → Type 0
IsRestOfInput ended more buffer text = (ended ≡ true) × (parts_of more ≡ more ∷ []) × (buffer ≡ more) × (text ≡ more)

-- the text of the schedule that a session begins with, and what was read after it: the text that is given; or the first line
-- of the input, or all of an input that has none
abbrev pub BeginsWith : Option (List ℕ) → Reading → Reading → List ℕ → List ℕ → Type 0
BeginsWith (Some given) old now buffer text = (now ≡ old) × (buffer ≡ []) × (text ≡ given)
BeginsWith None old now buffer text =
    (more : List ℕ) × (now.given ≡ old.given ++ more) × (now.failures ≡ old.failures) × (IsFirstLine more buffer text ⊎ IsRestOfInput now.ended more buffer text)

-- the schedule that a session begins with
abbrev pub OpensSession : Option (List ℕ) → Reading → Reading → List ℕ → Scheduled → Type 0
OpensSession start old now buffer schedule = (text : List ℕ) × BeginsWith start old now buffer text × (schedule_at text ≡ Ok schedule)

-- that text is no schedule
abbrev pub HasNoSchedule : Option (List ℕ) → Reading → Reading → CommandFault → Type 0
HasNoSchedule start old now fault = (text : List ℕ) × (buffer : List ℕ) × BeginsWith start old now buffer text × IsNoSchedule text fault

-- ---- the whole, on a machine

-- what a session shows of a machine, where it begins with a schedule, and which schedules it can begin with
pub record SessionMachine (S : Type 0) : Type 1 where
  pub semantics : Semantics S
  pub session : Scheduled → SessionState S
  pub accepts : Scheduled → Type 0
  -- why it can't begin with this one
  pub refuses : Scheduled → CommandFault → Type 0

module _ {S : Type 0} (machine : SessionMachine S) where
  -- why a session can't begin
  abbrev pub CantBegin : Option (List ℕ) → Reading → Reading → CommandFault → Type 0
  CantBegin start old now fault =
      HasNoSchedule start old now fault
      ⊎ ((buffer : List ℕ) × (schedule : Scheduled) × OpensSession start old now buffer schedule × machine.refuses schedule fault)

  -- the state at its begin was written, and then the answers
  pub record IsHeld (start : Option (List ℕ)) (before now : Devices) : Type 0 where
    pub schedule : Scheduled
    pub opened : Reading
    pub buffer : List ℕ
    pub opens : OpensSession start before.input opened buffer schedule
    pub accepted : machine.accepts schedule
    pub opening : Tape
    pub first : Writes before.output opening (standing_text machine.semantics (machine.session schedule))
    pub holds : HoldsSession machine.semantics (machine.session schedule) buffer (devices opened before.files opening) now (Ok tt)

  -- it began with this schedule, and has broken off
  pub record IsCutOff (start : Option (List ℕ)) (before now : Devices) (fault : CommandFault) : Type 0 where
    pub schedule : Scheduled
    pub opened : Reading
    pub buffer : List ℕ
    pub opens : OpensSession start before.input opened buffer schedule
    pub accepted : machine.accepts schedule
    pub breaks : BreaksAfter machine.semantics (machine.session schedule) buffer opened before now fault

  -- how a session ends: at its end with status 0; or it can't begin, or a read or memory has failed, and nothing was written; or it has
  -- broken off
  abbrev pub SessionEnds : Option (List ℕ) → Devices → Devices → Result Ending CommandFault → Type 0
  SessionEnds start before now (Ok ending) = (ending.status ≡ 0) × IsHeld start before now
  SessionEnds start before now (Err fault) =
      (FailsToRead before.input now.input fault ⊎ CantBegin start before.input now.input fault) × Silent before.output now.output
      × (now.files ≡ before.files)
      ⊎ IsCutOff start before now fault
