-- The rule of the table (Pass of docs/theory/model.md): there is one run, its words are the table's, and each view is a prefix
-- of it.
use Rattle.std.specs.Prelude.{◌≡◌, ℕ, zero, suc, ◌<◌, true, false, if◌then◌else◌, ltb, List, [], ◌∷◌, ◌++◌, length, slice_index, All, None}
use mathlib.Core.Option.{some}
use lib.ListN.{get_elem?}
use Rattle.atomic_table.specs.Table.{State}
use Rattle.rmecore.specs.World.{is_store}
use Rattle.rmecore.specs.declared.kind.Kind.TheVariants.{Glance}
use Rattle.rmecore.specs.declared.word.Word.TheVariants.{Choosing as ChoosingOf}
use Rattle.table_runs.specs.declared.setup.Setup.{Setup}
use Rattle.table_runs.specs.declared.entry.Step.{Step}
use Rattle.table_runs.specs.declared.entry.TakenStep.{TakenStep}
use Rattle.table_runs.specs.declared.entry.View.{View}
use Rattle.table_runs.specs.declared.entry.SeatKnowledge.{SeatKnowledge}
use Rattle.table_runs.specs.Runs.{entries_of, has, process_state_of, world_events, IsRun, end_of, AllowsEvents, index, InTable, IsBeyond, Shows}

-- the step of a name that names none
abbrev pub no_step : Step
no_step = record { crashed = false; start = None; kind = Glance; word = ChoosingOf 0 }

-- n numbers from k on
abbrev pub count_from : ℕ → ℕ → List ℕ
count_from k zero = []
count_from k (suc n) = k ∷ count_from (suc k) n

-- what the first seat of a new table knows: it answers for all processes
abbrev pub opening_known : Setup → SeatKnowledge
opening_known s = record { view = record { setup = s; answers = count_from 0 s.layout.procs; seen = [] }; reports = [] }

-- the first process, alone
abbrev pub first_of : List ℕ → List ℕ
first_of [] = []
first_of (p ∷ ps) = p ∷ []

-- the others
abbrev pub rest_of : List ℕ → List ℕ
rest_of [] = []
rest_of (p ∷ ps) = ps

-- what the seat knows that is split off, for the first process
abbrev pub first_alone : SeatKnowledge → SeatKnowledge
first_alone k = record { view = record { setup = k.view.setup; answers = first_of k.view.answers; seen = k.view.seen }; reports = [] }

-- what the other seat keeps
abbrev pub without_first : SeatKnowledge → SeatKnowledge
without_first k = record { view = record { setup = k.view.setup; answers = rest_of k.view.answers; seen = k.view.seen }; reports = [] }

-- the longer of two prefixes of one run
abbrev pub longer : List TakenStep → List TakenStep → List TakenStep
longer xs ys = if ltb (length xs) (length ys) then ys else xs

-- the view of a joined seat
abbrev pub joined_view : View → View → View
joined_view v w = record { setup = v.setup; answers = v.answers ++ w.answers; seen = longer v.seen w.seen }

-- both views stay listed until the next step shows that they are prefixes of one run
abbrev pub joined_knowledge : SeatKnowledge → SeatKnowledge → SeatKnowledge
joined_knowledge k l = record { view = joined_view k.view l.view; reports = (k.view ∷ k.reports) ++ (l.view ∷ l.reports) }

-- what is left of a seat that was joined into another: it answers for no process
abbrev pub spent_known : SeatKnowledge
spent_known = record { view = record { setup = record { layout = record { procs = 0; cap = 0; width = 0 }; limit = 0 }; answers = []; seen = [] }; reports = [] }

-- xs is a prefix of es
abbrev pub IsPrefixOf : List TakenStep → List TakenStep → Type 0
IsPrefixOf xs es = (rest : List TakenStep) × (es ≡ xs ++ rest)

-- what the rule says of a process p and the seat i that answers for it
pub record SeatAnswersFor (s : Setup) (log : List TakenStep) (owner : ℕ → ℕ) (i : ℕ) (v : View) (p : ℕ) : Type 0 where
  pub setup : v.setup ≡ s
  pub within : p < s.layout.procs
  pub seat : owner p ≡ i
  pub own_is : entries_of p log ≡ entries_of p v.seen

-- the view is a prefix of the run, and the rule holds of each process that it answers for
abbrev pub FitsRun : Setup → List TakenStep → (ℕ → ℕ) → ℕ → View → Type 0
FitsRun s log owner i v = IsPrefixOf v.seen log × ((p : ℕ) → has p v.answers ≡ true → SeatAnswersFor s log owner i v p)

-- the same of all views that a seat knows
abbrev pub AllFit : Setup → List TakenStep → (ℕ → ℕ) → ℕ → SeatKnowledge → Type 0
AllFit s log owner i k = FitsRun s log owner i k.view × All (FitsRun s log owner i) k.reports

-- some seat answers for p
abbrev pub IsMember : List SeatKnowledge → (ℕ → ℕ) → ℕ → Type 0
IsMember views owner p = (k : SeatKnowledge) × (get_elem? views (owner p) ≡ some k) × (has p k.view.answers ≡ true)

-- the view o is a prefix of the run so far, and has all entries of its processes
pub record IsViewOf (log : List TakenStep) (o : View) : Type 0 where
  pub begins : IsPrefixOf o.seen log
  pub own_are : (p : ℕ) → has p o.answers ≡ true → entries_of p log ≡ entries_of p o.seen

-- There is one run, whose words are these. Each view is a prefix of it, with all entries of its processes. Each process has
-- a seat.
pub record IsRunOfTable (s : Setup) (log : List TakenStep) (owner : ℕ → ℕ) (words : List ℕ) (views : List SeatKnowledge) : Type 0 where
  pub run : IsRun s log
  pub shows : Shows s (end_of s log) words
  pub fits : (i : ℕ) (k : SeatKnowledge) → get_elem? views i ≡ some k → AllFit s log owner i k
  pub members : (p : ℕ) → p < s.layout.procs → IsMember views owner p

-- the rule: the table keeps it between any two steps
abbrev pub TableRuleHolds : Setup → State (Unit {0}) SeatKnowledge → Type 0
TableRuleHolds s state = (log : List TakenStep) × (owner : ℕ → ℕ) × IsRunOfTable s log owner state.words state.views

-- the process for which a seat steps: the first one that it answers for
abbrev pub stepper : View → ℕ
stepper v = slice_index v.answers 0

-- the entry of a step that a seat takes
abbrev pub entry_of : View → Step → ℕ → TakenStep
entry_of v step value = record { by = stepper v; step = step; value = value }

-- What the caller learns from a step: the run so far begins with all that was seen and ends with this step. No process of
-- this seat stepped in between. The views that were joined into it are prefixes of that run too.
pub record Did (step : Step) (k : SeatKnowledge) (found : ℕ) (l : SeatKnowledge) : Type 0 where
  pub setup : l.view.setup ≡ k.view.setup
  pub answers : l.view.answers ≡ k.view.answers
  pub none_reported : l.reports ≡ []
  pub between : List TakenStep
  pub seen : l.view.seen ≡ (k.view.seen ++ between) ++ entry_of k.view step found ∷ []
  pub apart : (p : ℕ) → has p k.view.answers ≡ true → entries_of p between ≡ []
  pub run : IsRun l.view.setup l.view.seen
  pub reports : All (IsViewOf (k.view.seen ++ between)) k.reports

-- the process may take this step with this value: its own entries alone decide that
abbrev pub MayTake : Step → View → ℕ → Type 0
MayTake step v value = (has (stepper v) v.answers ≡ true) × AllowsEvents v.setup (process_state_of v.setup (stepper v) v.seen) (world_events (entry_of v step value))

-- the process may load this word, whatever value it finds
abbrev pub MayLoad : Step → ℕ → View → Type 0
MayLoad step word v = (word ≡ index v.setup step.word) × InTable v.setup step.word × (is_store step.kind ≡ false) × ((found : ℕ) → found < 18446744073709551616 → MayTake step v found)

-- the process may store this value into the word
abbrev pub MayStore : Step → ℕ → View → ℕ → Type 0
MayStore step word v new = (word ≡ index v.setup step.word) × InTable v.setup step.word × (is_store step.kind ≡ true) × MayTake step v new

-- A step at a data word past the end of the mailbox: no word changes, and a load reads 0. No run has such a step. The lock
-- theorem says so, not this rule.
abbrev pub MayStepPastEnd : Step → View → ℕ → Type 0
MayStepPastEnd step v value = IsBeyond v.setup step.word × (is_store step.kind ≡ false → value ≡ 0) × MayTake step v value
