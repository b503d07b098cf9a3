-- What `gather` promises: one run that has the entries of all members, and the image of the words at its end.
use Rattle.std.specs.Prelude.{◌≡◌, ◌≢◌, ◌⊎◌, ℕ, ◌<◌, ◌==◌, Bool, true, false, List, [], ◌∷◌, ◌++◌, length, map, All}
use Rattle.std.specs.List.{list_any}
use Rattle.atomic_table.specs.Seated.{TableId}
use Rattle.rmecore.specs.declared.word.Word.{Word}
use Rattle.redomail.specs.Layout.{size}
use Rattle.rmeworld.specs.declared.image.Image.{Image}
use Rattle.rmeworld.specs.World.{GlobalState, reading}
use Rattle.table_runs.specs.declared.setup.Setup.{Setup}
use Rattle.table_runs.specs.declared.entry.TakenStep.{TakenStep}
use Rattle.table_runs.specs.declared.entry.View.{View}
use Rattle.table_runs.specs.declared.entry.SeatKnowledge.{SeatKnowledge}
use Rattle.table_runs.specs.Runs.{entries_of, has, IsRun, end_of}
use Rattle.table_runs.specs.Rule.{count_from, joined_knowledge, IsPrefixOf, IsViewOf, Did}
use Rattle.table_runs.specs.SeatView.{SeatView, single_seat, glance_step}
use Rattle.table_runs.specs.WorkingMembers.{Seated}

-- the members are of one arena: their seats belong to one table
abbrev pub OneArena : List Seated → Type 0
OneArena xs = (t : TableId) × All (λ (x : Seated). x.seat_view.table ≡ t) xs

-- process p has a member in the list
abbrev pub has_member : ℕ → List Seated → Bool
has_member p xs = list_any (λ (x : Seated). x.seat_view.by == p) xs

-- the number of processes of their arena
abbrev pub procs_of : List Seated → ℕ
procs_of [] = 0
procs_of (x ∷ xs) = x.seat_view.setup.layout.procs

-- some process of the arena has no member in the list
abbrev pub IsMissing : List Seated → Type 0
IsMissing xs = (xs ≡ []) ⊎ ((p : ℕ) × (p < procs_of xs) × (has_member p xs ≡ false))

-- the image of a global state (Image of docs/dev/texts.md), with the sizes
abbrev pub image_at : Setup → GlobalState → Image
image_at s w =
    record {
      cap = s.layout.cap;
      cells = map w.cells (count_from 0 (size s.layout));
      limit = s.limit;
      lock = map w.words (count_from 0 s.layout.procs);
      version = 2;
      width = s.layout.width;
    }

-- the entry is a glance, without a crash or a start
abbrev pub IsGlance : TakenStep → Type 0
IsGlance e = (word : Word) × (e.step ≡ glance_step word)

-- the view of x is a prefix of the run and has all entries of its process, which isn't the first member's
pub record IsWholeView (first : Seated) (run : List TakenStep) (x : Seated) : Type 0 where
  pub begins : IsPrefixOf x.seat_view.seen run
  pub own_is : x.seat_view.by ≢ first.seat_view.by → entries_of x.seat_view.by run ≡ entries_of x.seat_view.by x.seat_view.seen

-- Each member's view is a prefix of the run. The run has no entry of a process that isn't in its member's view, but for the
-- first member's process, whose seat took `count` more glances.
pub record IsGatheredRun (first : Seated) (others : List Seated) (count : ℕ) (run : List TakenStep) : Type 0 where
  pub glances : List TakenStep
  pub are_glances : All IsGlance glances
  pub count_is : length glances ≡ count
  pub begins : IsPrefixOf first.seat_view.seen run
  pub own_is : entries_of first.seat_view.by run ≡ entries_of first.seat_view.by first.seat_view.seen ++ glances
  pub whole : All (IsWholeView first run) others

-- There is one run. It has each member's view as a prefix, and no further entries but one glance before each joining of two
-- seats. The image has the words at its end.
pub record Gathers (xs : List Seated) (image : Image) : Type 0 where
  pub first : Seated
  pub others : List Seated
  pub are : xs ≡ first ∷ others
  pub all : (p : ℕ) → p < first.seat_view.setup.layout.procs → has_member p xs ≡ true
  pub run : List TakenStep
  pub legal : IsRun first.seat_view.setup run
  pub reports : IsGatheredRun first others (length others) run
  pub words : image ≡ image_at first.seat_view.setup (end_of first.seat_view.setup run)

-- the processes for which the first member's seat answers once these are joined into it, the last one first
abbrev pub answers_of : Seated → List Seated → List ℕ
answers_of first [] = first.seat_view.by ∷ []
answers_of first (x ∷ xs) = answers_of first xs ++ x.seat_view.by ∷ []

-- what the first member's seat knows once these are joined into it, after `count` glances
pub record Knows (first : Seated) (others : List Seated) (count : ℕ) (k : SeatKnowledge) : Type 0 where
  pub setup : k.view.setup ≡ first.seat_view.setup
  pub answers : k.view.answers ≡ answers_of first others
  pub tells : (run : List TakenStep) → IsViewOf run k.view → All (IsViewOf run) k.reports → IsGatheredRun first others count run

-- a glance of the seat, then the joining of another seat
abbrev pub Absorbs : SeatKnowledge → SeatView → SeatKnowledge → Type 0
Absorbs k x l = (word : Word) × (found : ℕ) × (m : SeatKnowledge) × Did (glance_step word) k found m × (l ≡ joined_knowledge m (single_seat x.setup x.by x.seen))

-- the seat answers for all processes
abbrev pub AnswersAll : Setup → View → Type 0
AnswersAll s v = (v.setup ≡ s) × ((p : ℕ) → p < s.layout.procs → has p v.answers ≡ true) × (0 < s.layout.procs)

-- a glance of such a seat: no other step comes in between
pub record Looked (s : Setup) (word : Word) (k : SeatKnowledge) (found : ℕ) (l : SeatKnowledge) : Type 0 where
  pub setup : l.view.setup ≡ k.view.setup
  pub answers : l.view.answers ≡ k.view.answers
  pub run : IsRun s k.view.seen
  pub words : (end_of s l.view.seen).words ≡ (end_of s k.view.seen).words
  pub cells : (end_of s l.view.seen).cells ≡ (end_of s k.view.seen).cells
  pub found_is : found ≡ reading (end_of s k.view.seen) word
  pub reports : All (IsViewOf k.view.seen) k.reports

-- glances of such a seat change nothing that it can read
pub record Stays (s : Setup) (k : SeatKnowledge) (l : SeatKnowledge) : Type 0 where
  pub setup : l.view.setup ≡ k.view.setup
  pub answers : l.view.answers ≡ k.view.answers
  pub words : (end_of s l.view.seen).words ≡ (end_of s k.view.seen).words
  pub cells : (end_of s l.view.seen).cells ≡ (end_of s k.view.seen).cells
