-- Rounds of local lines: places of the call that are reached, and come back to by gotos without an access.
use Rattle.std.specs.Prelude.{◌≡◌, ℕ, Bool, true, false, not, ◌&&◌, List}
use Rattle.std.specs.List.{count_by, list_any}
use Rattle.algorithm_texts.specs.declared.flow.RunKind.TheVariants.{All}
use Rattle.algorithm_texts.specs.declared.lines.CallRead.{CallRead}
use Rattle.algorithm_texts.specs.Drafts.{Drafted}
use Rattle.algorithm_texts.specs.FinishedDrafts.{is_in, is_within}
use Rattle.algorithm_texts.specs.Runs.{ways_from, leads_to, is_access, IsPlaceReached, ReturnsByGoto}
use Rattle.algorithm_texts.specs.Usage.{uses, passes_at}

-- a run comes to this place, and back to it by gotos without an access
abbrev pub IsOnRound : Drafted → CallRead → ℕ → Type 0
IsOnRound d call at = IsPlaceReached d call at × ReturnsByGoto d call at

-- all such places are marked
abbrev pub RoundsMarked : Drafted → CallRead → List Bool → Type 0
RoundsMarked d call marks = (at : ℕ) → IsOnRound d call at → is_in marks at ≡ true

-- a place of the call that is marked, and of no access
pub record LocalMarked (d : Drafted) (call : CallRead) (marks : List Bool) (at : ℕ) : Type 0 where
  pub within : is_within (call.«from», call.to) at ≡ true
  pub marked : is_in marks at ≡ true
  pub silent : passes_at is_access (uses d.lines) at ≡ false

-- a place of the call that is marked, and to which a run comes back from it by gotos without an access
pub record ReturnsMarked (d : Drafted) (call : CallRead) (marks : List Bool) (at : ℕ) : Type 0 where
  pub within : is_within (call.«from», call.to) at ≡ true
  pub marked : is_in marks at ≡ true
  pub returns : ReturnsByGoto d call at

-- each place of the call that is marked leads to one that is
abbrev pub LeadOn : Drafted → CallRead → List Bool → Type 0
LeadOn d call marks =
    (at : ℕ) → is_within (call.«from», call.to) at ≡ true → is_in marks at ≡ true
    → (way : ℕ) × (leads_to (ways_from d call All at) way ≡ true) × (is_in marks way ≡ true)

-- a place leads to one that is marked
abbrev pub leads_on : Drafted → CallRead → List Bool → ℕ → Bool
leads_on d call marks at = list_any (is_in marks) (ways_from d call All at)

-- a place that is left, and does not lead to one that is, or is not led to
abbrev pub is_loose : Drafted → CallRead → List Bool → List Bool → ℕ → Bool
is_loose d call followed left at = is_in left at && not (is_in followed at && leads_on d call left at)

abbrev pub count_marks : List Bool → ℕ
count_marks marks = count_by (λ mark. mark) marks
