-- Schedules as texts (the specification's Schedule grammar).
use Rattle.std.specs.Prelude.{ℕ, List, [], ◌∷◌, ◌++◌, Result, Ok, codes, slice_index, slice_index_or}
use Rattle.std.specs.List.{AllByRecursion, flat_map}
use Rattle.schedule.specs.declared.lines.fault.LineFault.{LineFault}
use Rattle.schedule.specs.declared.lines.line.Line.{Line}
use Rattle.schedule.specs.declared.texts.head.Head.{Head}
use Rattle.schedule.specs.Words.{◌>>=◌, line_of, parts_of}
use Rattle.schedule.specs.Headers.{HeaderForm, IsHeader, words_of_header, header_at}
use Rattle.schedule.specs.Commands.{words_of_line, IsLine, line_at}
use Rattle.schedule.specs.Texts.{text_at}

-- a schedule as a value, without its memory
pub record Scheduled : Type 0 where
  pub procs : ℕ
  pub limit : ℕ
  pub cap : ℕ
  pub width : ℕ
  pub lines : List Line

-- the form of a schedule's header
abbrev pub schedule_form : HeaderForm
schedule_form = record { word = codes "rme"; names = codes "procs" ∷ codes "limit" ∷ codes "cap" ∷ [] }

-- the sizes of a header, in their order
abbrev pub sizes_of : Head → List ℕ
sizes_of h = h.procs ∷ h.limit ∷ h.cap ∷ []

-- the header of a schedule
abbrev pub head_of : Scheduled → Head
head_of schedule = record { procs = schedule.procs; limit = schedule.limit; cap = schedule.cap; width = schedule.width }

-- ---- each schedule has one spelling

-- the words of a header
abbrev pub words_of_head : Head → List (List ℕ)
words_of_head h = words_of_header schedule_form (sizes_of h) h.width

-- the text of a schedule
abbrev pub spelling : Scheduled → List ℕ
spelling schedule = line_of (words_of_head (head_of schedule)) ++ flat_map (λ line. line_of (words_of_line line)) schedule.lines

-- what the types guarantee
abbrev pub IsHead : Head → Type 0
IsHead h = IsHeader schedule_form (sizes_of h) h.width

-- a schedule whose header and lines keep to their types
pub record IsScheduled (schedule : Scheduled) : Type 0 where
  pub head : IsHead (head_of schedule)
  pub lines : AllByRecursion (IsLine schedule.width) schedule.lines

-- ---- reading

-- the header that these numbers make; without a fourth one the width is 1
abbrev pub head_with : List ℕ → Head
head_with ns = record { procs = slice_index ns 0; limit = slice_index ns 1; cap = slice_index ns 2; width = slice_index_or ns 3 1 }

-- the header that these words say, or its fault
abbrev pub head_at : List (List ℕ) → Result Head LineFault
head_at ws = header_at schedule_form head_with ws

-- the schedule of a header and lines
abbrev pub scheduled_with : Head × List Line → Scheduled
scheduled_with read = record { procs = read.0.procs; limit = read.0.limit; cap = read.0.cap; width = read.0.width; lines = read.1 }

-- the schedule of a text, or its fault
abbrev pub schedule_at : List ℕ → Result Scheduled (ℕ × LineFault)
schedule_at text = text_at head_at (λ h. line_at h.width) (parts_of text) >>= λ read. Ok (scheduled_with read)
