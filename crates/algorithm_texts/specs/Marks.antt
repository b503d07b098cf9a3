-- Marks of places, as the runs of a call are followed.
use Rattle.std.specs.Prelude.{◌≡◌, ℕ, ◌+◌, ◌<◌, ◌≤◌, nat_lt, Bool, true, false, not, ◌&&◌, List, [], ◌∷◌, length, replicate, slice_set, Option, Some, None, if◌then◌else◌}
use Rattle.std.specs.List.{find}
use Rattle.algorithm_texts.specs.declared.flow.RunKind.{RunKind}
use Rattle.algorithm_texts.specs.declared.flow.Ways.{Ways}
use Rattle.algorithm_texts.specs.declared.lines.CallRead.{CallRead}
use Rattle.algorithm_texts.specs.Drafts.{Drafted}
use Rattle.algorithm_texts.specs.FinishedDrafts.{is_in, is_within}
use Rattle.algorithm_texts.specs.Runs.{ways_from, leads_to, past_from, IsPlaceReached, is_seen}
use Rattle.algorithm_texts.specs.Usage.{reads, uses, passes_at}

abbrev pub and_then : Option ℕ → List ℕ → List ℕ
and_then None rest = rest
and_then (Some place) rest = place ∷ rest

-- the places of ways
abbrev pub places_of_ways : Ways → List ℕ
places_of_ways ways = and_then ways.first (and_then ways.second [])

-- a place that is not marked, and for which there is a mark
abbrev pub is_free : List Bool → ℕ → Bool
is_free marks place = nat_lt place (length marks) && not (is_in marks place)

abbrev pub free_of : List Bool → Option ℕ → Option ℕ
free_of marks None = None
free_of marks (Some place) = if is_free marks place then Some place else None

-- the first place that is not marked, to which this place leads, where its own is marked
abbrev pub free_way : Drafted → CallRead → RunKind → List Bool → ℕ → Option ℕ
free_way d call runs marks at = if is_in marks at then find (is_free marks) (ways_from d call runs at) else None

abbrev pub past_marked : Drafted → CallRead → ℕ → List Bool → ℕ → Option ℕ
past_marked d call name marks at = if is_in marks at then past_from d call name at else None

-- places that are marked lead to such places
abbrev pub IsClosed : Drafted → CallRead → RunKind → List Bool → Type 0
IsClosed d call runs marks =
    (at way : ℕ) → is_in marks at ≡ true → leads_to (ways_from d call runs at) way ≡ true → way < length marks → is_in marks way ≡ true

-- what was marked is marked
abbrev pub KeepsMarks : List Bool → List Bool → Type 0
KeepsMarks old new = (at : ℕ) → is_in old at ≡ true → is_in new at ≡ true

-- that many marks, of which the one at this place is set where the test holds
abbrev pub marks_from : ℕ → ℕ → Bool → List Bool
marks_from count first true = slice_set (replicate count false) first true
marks_from count first false = replicate count false

-- just the places to which runs of a call come are marked, among those of lines and the place after the last
pub record MarksReached (d : Drafted) (call : CallRead) (marks : List Bool) : Type 0 where
  pub size : length marks ≡ length d.lines + 1
  pub comes : (at : ℕ) → is_in marks at ≡ true → IsPlaceReached d call at
  pub all : (at : ℕ) → at ≤ length d.lines → IsPlaceReached d call at → is_in marks at ≡ true

-- at this place, which is marked, a line of the call reads a name
pub record ReadsMarked (d : Drafted) (call : CallRead) (name : ℕ) (marks : List Bool) (at : ℕ) : Type 0 where
  pub within : is_within (call.«from», call.to) at ≡ true
  pub reads_it : passes_at (reads name) (uses d.lines) at ≡ true
  pub marked : is_in marks at ≡ true

-- at this place, which is marked, an end or a deed of the call stands
pub record SeenMarked (d : Drafted) (call : CallRead) (marks : List Bool) (at : ℕ) : Type 0 where
  pub within : is_within (call.«from», call.to) at ≡ true
  pub seen : passes_at is_seen (uses d.lines) at ≡ true
  pub marked : is_in marks at ≡ true
