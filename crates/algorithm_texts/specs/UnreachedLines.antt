-- Lines to which no run comes end their calls. The algorithm of a draft.
use Rattle.std.specs.Prelude.{◌≡◌, ℕ, zero, suc, ◌+◌, Bool, true, not, ◌&&◌, List, [], ◌∷◌, map, Option, Some, None, if◌then◌else◌}
use Rattle.std.specs.List.{list_all}
use Rattle.algorithms.specs.declared.algorithm.Algorithm.{Algorithm}
use Rattle.algorithms.specs.declared.algorithm.Entries.{Entries}
use Rattle.algorithms.specs.declared.first_values.FirstValues.{FirstValues}
use Rattle.algorithms.specs.declared.first_values.InitializedAlgorithm.{InitializedAlgorithm}
use Rattle.algorithm_texts.specs.Operands.{names_of, declared_of}
use Rattle.algorithm_texts.specs.Parts.{Term}
use Rattle.algorithm_texts.specs.Drafts.{LineForm, Ending, PlacedLine, head_of, extents_of, answers_of, claims_of, lines_of, start_term, Drafted}
use Rattle.algorithm_texts.specs.FinishedDrafts.{is_in, is_way, ways}
use Rattle.algorithm_texts.specs.NeverClaims.{claimed_places}
use Rattle.algorithm_texts.specs.Runs.{RunsComeTo}

-- just the places to which runs come are marked
pub record MarksRuns (d : Drafted) (marks : List Bool) : Type 0 where
  pub comes : (at : ℕ) → is_in marks at ≡ true → RunsComeTo d at
  pub all : (at : ℕ) → RunsComeTo d at → is_in marks at ≡ true

-- a line at a place that is marked leads to such places alone, and one at another place is a way
abbrev pub line_stays : ℕ → List Bool → ℕ → LineForm → Bool
line_stays least marks place form = if is_in marks place then list_all (is_in marks) (ways least (place + 1) form) else is_way form

-- so do the lines from a place on
abbrev pub lines_stay : ℕ → List Bool → ℕ → List PlacedLine → Bool
lines_stay least marks place [] = true
lines_stay least marks place (line ∷ lines) = line_stays least marks place line.form && lines_stay least marks (place + 1) lines

abbrev pub is_marked_where : List Bool → Option ℕ → Bool
is_marked_where marks None = true
is_marked_where marks (Some place) = is_in marks place

-- where calls begin is marked
abbrev pub entries_marked : List Bool → Entries → Bool
entries_marked marks entries =
    is_in marks entries.lock
    && (is_in marks entries.unlock && (is_marked_where marks entries.recover && is_marked_where marks entries.withdraw))

-- a line as it is, or the end of a call where it is a way and is not marked
abbrev pub ended_line : Bool → PlacedLine → PlacedLine
ended_line mark line = if not mark && is_way line.form then record { number = line.number; form = Ending 0 } else line

-- the lines from a place on, of which the ways that are not marked end a call
abbrev pub ended_from : List Bool → ℕ → List PlacedLine → List PlacedLine
ended_from marks place [] = []
ended_from marks place (line ∷ lines) = ended_line (is_in marks place) line ∷ ended_from marks (place + 1) lines

-- lines of which the one at a place is so
abbrev pub ended_at : Bool → ℕ → List PlacedLine → List PlacedLine
ended_at mark at [] = []
ended_at mark zero (line ∷ lines) = ended_line mark line ∷ lines
ended_at mark (suc at) (line ∷ lines) = line ∷ ended_at mark at lines

-- the ways to which no run comes end a call. Calls begin at places to which runs come, lines at such places lead to such places, and
-- are as they were, and all other lines are ways
pub record EndUnreached (d : Drafted) (lines : List PlacedLine) : Type 0 where
  pub marks : List Bool
  pub exact : MarksRuns d marks
  pub begin : entries_marked marks d.head.entries ≡ true
  pub stay : lines_stay d.head.least marks 0 d.lines ≡ true
  pub ended : lines ≡ ended_from marks 0 d.lines

-- an algorithm is what a draft says
pub record IsDraftOf (d : Drafted) (a : Algorithm) : Type 0 where
  pub head : head_of a ≡ d.head
  pub declared : declared_of a ≡ d.declared
  pub extents : extents_of a ≡ d.extents
  pub lasting : a.lasting ≡ d.lasting
  pub names : names_of a ≡ d.names
  pub answers : answers_of a ≡ d.answers
  pub lines : EndUnreached d (lines_of a)
  pub claims : claims_of a ≡ d.claims
  pub label_places : Some a.label_places.items ≡ claimed_places d

-- the first values of the words of each declaration, where there are some
abbrev pub starts_in : Option FirstValues → Option (List (Option Term))
starts_in None = None
starts_in (Some v) = Some (map start_term v.starts.items)

-- there are some where the draft says one, names a constant, or has an array of a size
abbrev pub said_starts : Drafted → Option (List (Option Term))
said_starts d = if d.says_values then Some d.starts else None

-- an algorithm and its first values are what a draft says
pub record IsInitializedBy (d : Drafted) (a : InitializedAlgorithm) : Type 0 where
  pub algorithm : IsDraftOf d a.algorithm
  pub first_values : starts_in a.first_values ≡ said_starts d
