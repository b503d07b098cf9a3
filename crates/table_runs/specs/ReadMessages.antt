-- What a reader of the mailbox is given: the messages that the mailbox list shows at one point of the run.
use Rattle.std.specs.Prelude.{◌≡◌, ℕ, zero, suc, ◌+◌, ◌*◌, ◌<◌, ◌≤◌, false, List, [], ◌∷◌, ◌++◌, length, drop}
use Rattle.rmecore.specs.declared.word.Word.{Word}
use Rattle.rmecore.specs.declared.word.Word.TheVariants.{Data as DataAt}
use Rattle.redomail.specs.declared.layout.Layout.{Layout}
use Rattle.redomail.specs.declared.message.Message.{Message}
use Rattle.redomail.specs.Layout.{Words, place_at, IsLayout}
use Rattle.redomail.specs.Shape.{entry, entries}
use Rattle.judge.specs.Legal.{Leads}
use Rattle.judge.specs.Table.{State, empty_state}
use Rattle.rmeworld.specs.World.{at_first, reading, deeds}
use Rattle.table_runs.specs.declared.setup.Setup.{Setup}
use Rattle.table_runs.specs.declared.entry.TakenStep.{TakenStep}
use Rattle.table_runs.specs.Runs.{entries_of, events_of_run, IsRun, end_of, stores}
use Rattle.table_runs.specs.SeatView.{SeatView, glance_entry, Looks, Calls}
use Rattle.table_runs.specs.WorkingMembers.{Seated}

-- the data words after a run
abbrev pub cells_of : Setup → List TakenStep → Words
cells_of s es = (end_of s es).cells

-- the messages that the mailbox list (Mailbox list of docs/theory/mailbox.md) shows after the deeds of a run
abbrev pub AreMessagesShown : Setup → List TakenStep → List Message → Type 0
AreMessagesShown s es messages =
    (t : State) × Leads (empty_state s.layout.procs s.layout.cap) (deeds s.layout s.limit at_first (events_of_run es)) t × (t.mail.shown ≡ messages)

-- n consecutive data words from i on
abbrev pub row_words : ℕ → ℕ → List Word
row_words i zero = []
row_words i (suc n) = row_words i n ++ DataAt (i + n) ∷ []

-- the words of n entries from place a on: of each its sender, its sequence number and its value
abbrev pub entry_words : Layout → ℕ → ℕ → List Word
entry_words l a zero = []
entry_words l a (suc n) = entry_words l a n ++ row_words (place_at l (a + n)) (2 + l.width)

-- glances at these words in turn. They aren't own steps of a call
abbrev pub Glances : Seated → List Word → Seated → Type 0
Glances x [] y = y ≡ x
Glances x (w ∷ ws) y = (z : Seated) × (v : ℕ) × Looks x.seat_view w v z.seat_view × (z.steps ≡ x.steps) × Glances z ws y

-- these entries are the process's glances at these words
abbrev pub AreGlances : SeatView → List Word → List TakenStep → Type 0
AreGlances x [] [] = Unit {0}
AreGlances x (w ∷ ws) (e ∷ es) = (e ≡ glance_entry x w e.value) × AreGlances x ws es
AreGlances x _ _ = ⊥

-- the run up to the reader's glance of count, which is its last entry
abbrev pub up_to_count : SeatView → List TakenStep → ℕ → List TakenStep
up_to_count x between count = (x.seen ++ between) ++ glance_entry x (DataAt 2) count ∷ []

-- A reading of the mailbox from a place on. The run up to the glance of count begins with all that the caller had seen. The
-- answer is what the mailbox list shows at that point, from the place on. The caller's own entries are that glance and those
-- at the words of the messages answered. A pending crash or start stays pending, and the count of own steps stays.
pub record ReadsFrom (x : Seated) (place : ℕ) (messages : List Message) (y : Seated) : Type 0 where
  pub between : List TakenStep
  pub apart : entries_of x.seat_view.by between ≡ []
  pub count : ℕ
  pub shown : List Message
  pub are_shown : AreMessagesShown x.seat_view.setup (up_to_count x.seat_view between count) shown
  pub counted : count ≡ length shown
  pub answer : messages ≡ drop place shown
  pub later : List TakenStep
  pub seen : y.seat_view.seen ≡ up_to_count x.seat_view between count ++ later
  pub mine : List TakenStep
  pub calls : Calls x.seat_view mine y.seat_view
  pub glances : AreGlances x.seat_view (DataAt 2 ∷ entry_words x.seat_view.setup.layout place (length messages)) mine
  pub own_steps : length mine ≡ 1 + (2 + x.seat_view.setup.layout.width) * length messages
  pub steps : y.steps ≡ x.steps
  pub fallen : y.seat_view.fallen ≡ x.seat_view.fallen
  pub start : y.seat_view.start ≡ x.seat_view.start

-- what a reading that ran out of memory leaves: only the glance of count was taken, and the place is below count
pub record ReadsCount (x : Seated) (place : ℕ) (y : Seated) : Type 0 where
  pub count : ℕ
  pub below : place < count
  pub looks : Looks x.seat_view (DataAt 2) count y.seat_view
  pub steps : y.steps ≡ x.steps

-- A load finds the word's value in the global state right before it.
abbrev pub LoadsTell : Type 0
LoadsTell = (s : Setup) (es : List TakenStep) (e : TakenStep) → IsRun s (es ++ e ∷ []) → stores e ≡ false → reading (end_of s es) e.step.word ≡ e.value

-- After every run the entries below count are the messages shown, and count is within the mailbox's room.
abbrev pub RunsShow : Type 0
RunsShow =
    (s : Setup) (es : List TakenStep) → IsLayout s.layout → IsRun s es
    → AreMessagesShown s es (entries s.layout (cells_of s es) (cells_of s es 2)) × (cells_of s es 2 ≤ s.layout.cap)

-- Whatever any process does later in a run, count doesn't fall and the entries below it stay as they are.
abbrev pub EntriesStandInRuns : Type 0
EntriesStandInRuns =
    (s : Setup) (es later : List TakenStep) → IsLayout s.layout → IsRun s (es ++ later)
    → (cells_of s es 2 ≤ cells_of s (es ++ later) 2)
    × ((a : ℕ) → a < cells_of s es 2 → entry s.layout (cells_of s (es ++ later)) a ≡ entry s.layout (cells_of s es) a)
